-- The diamond's copies, computed: edges 0→1, 0→2, 1→3, 2→3. And the diamond with one task more, 3→4, where two copies come before a release.
use Prim.Native.Nat.{ℕ, ◌+◌, ◌*◌}
use mathlib.Core.Path.{◌≡◌, refl}
use mathlib.Core.List.{[], ◌∷◌}
use native.Mathlib.Decide.{ℕ_discrete}
use lib.ListN.{length}
use Rattle.lists.specs.Lists.{occ_of, place_of, joined}
use Rattle.lists.specs.Sums.{sum_to, sum_of}
use Rattle.task.specs.Types.{nil}
use Rattle.graph.specs.Graph.{Graph, graph_of, part, edge_count}
use Rattle.graph.specs.Successors.{succs_below, roots}
use Rattle.exchange.specs.Pairs.{differently, pairs_differing}
use Rattle.system.specs.System.{missing}
use Rattle.copies.specs.Copies.{Copy, copy, same_copy, task_copies, next_copies, is_copy, copies_of, root_copies, all_copies}
use Rattle.copies.specs.Weak.{all_recorded, last_due, owed}

abbrev diamond : Graph
diamond = graph_of 4 (0 ∷ 0 ∷ 1 ∷ 2 ∷ 4 ∷ []) (0 ∷ 0 ∷ 1 ∷ 2 ∷ [])

abbrev tailed : Graph
tailed = graph_of 5 (0 ∷ 0 ∷ 1 ∷ 2 ∷ 4 ∷ 5 ∷ []) (0 ∷ 0 ∷ 1 ∷ 2 ∷ 3 ∷ [])

abbrev root : Copy
root = copy 0 nil.0

pub diamond-copies : all_copies diamond ≡ root ∷ copy 1 0 ∷ copy 2 0 ∷ copy 3 1 ∷ copy 3 2 ∷ []
unfolding ℕ_discrete occ_of joined part succs_below roots next_copies root_copies all_copies
diamond-copies = refl

-- each copy of 3 waits for one predecessor's copies, neither for the other; (3, 0) is no copy
pub diamond-preds : ((copies_of diamond).preds root ≡ []) × ((copies_of diamond).preds (copy 1 0) ≡ root ∷ [])
    × ((copies_of diamond).preds (copy 2 0) ≡ root ∷ []) × ((copies_of diamond).preds (copy 3 1) ≡ copy 1 0 ∷ [])
    × ((copies_of diamond).preds (copy 3 2) ≡ copy 2 0 ∷ []) × ((copies_of diamond).preds (copy 3 0) ≡ [])
unfolding ℕ_discrete occ_of joined part roots same_copy task_copies is_copy copies_of
diamond-preds = (refl, refl, refl, refl, refl, refl)

pub diamond-succs : ((copies_of diamond).succs root ≡ copy 1 0 ∷ copy 2 0 ∷ []) × ((copies_of diamond).succs (copy 1 0) ≡ copy 3 1 ∷ [])
    × ((copies_of diamond).succs (copy 2 0) ≡ copy 3 2 ∷ []) × ((copies_of diamond).succs (copy 3 1) ≡ [])
    × ((copies_of diamond).succs (copy 3 2) ≡ []) × ((copies_of diamond).succs (copy 3 0) ≡ [])
unfolding ℕ_discrete occ_of joined part succs_below roots same_copy task_copies next_copies is_copy copies_of
diamond-succs = (refl, refl, refl, refl, refl, refl)

-- a copy of 4 waits for both copies of 3, and each of these has it for a successor
pub tailed-neighbours : ((copies_of tailed).preds (copy 4 3) ≡ copy 3 1 ∷ copy 3 2 ∷ []) × ((copies_of tailed).succs (copy 3 1) ≡ copy 4 3 ∷ [])
    × ((copies_of tailed).succs (copy 3 2) ≡ copy 4 3 ∷ [])
unfolding ℕ_discrete occ_of joined part succs_below roots same_copy task_copies next_copies is_copy copies_of
tailed-neighbours = (refl, refl, refl)

-- two orders: the copies of 1 and 2 the other way round, and the two copies of 3
pub diamond-pairs : ◌≡◌ {A = ℕ} (pairs_differing same_copy (all_copies diamond) (root ∷ copy 1 0 ∷ copy 2 0 ∷ copy 3 1 ∷ copy 3 2 ∷ [])
    (root ∷ copy 2 0 ∷ copy 1 0 ∷ copy 3 2 ∷ copy 3 1 ∷ [])) 2
unfolding ℕ_discrete occ_of place_of sum_of joined part succs_below roots same_copy next_copies root_copies all_copies differently pairs_differing
diamond-pairs = refl

-- E + R = 5 copies, and 3·5 + 4 = 4E + 3R = 19 steps
pub diamond-counts : (◌≡◌ {A = ℕ} (edge_count diamond + length (roots diamond)) 5)
    × (◌≡◌ {A = ℕ} (3 * (edge_count diamond + length (roots diamond)) + edge_count diamond) 19)
    × (◌≡◌ {A = ℕ} (4 * edge_count diamond + 3 * length (roots diamond)) 19)
unfolding ℕ_discrete joined part roots
diamond-counts = (refl, refl, refl)

-- with the first copy of 3 nothing falls due, with the second the copy of 4
pub tailed-due : (last_due tailed (root ∷ copy 1 0 ∷ copy 2 0 ∷ []) (copy 3 2) ≡ [])
    × (last_due tailed (root ∷ copy 1 0 ∷ copy 2 0 ∷ copy 3 2 ∷ []) (copy 3 1) ≡ copy 4 3 ∷ [])
unfolding ℕ_discrete occ_of joined part succs_below roots missing same_copy task_copies next_copies is_copy copies_of all_recorded last_due
tailed-due = (refl, refl)

-- the two releases of 0, then also those of 1 and 2, then also that of 3
pub tailed-owed : (◌≡◌ {A = ℕ} (owed tailed (root ∷ [])) 2) × (◌≡◌ {A = ℕ} (owed tailed (root ∷ copy 2 0 ∷ copy 1 0 ∷ copy 3 1 ∷ [])) 4)
    × (◌≡◌ {A = ℕ} (owed tailed (root ∷ copy 2 0 ∷ copy 1 0 ∷ copy 3 1 ∷ copy 3 2 ∷ [])) 5)
unfolding ℕ_discrete occ_of sum_to joined part succs_below roots missing same_copy task_copies all_recorded owed
tailed-owed = (refl, refl, refl)
