-- The parts of a sound table: where they lie, that they make up the table, and how long one can be.
use Prim.Native.Nat.{ℕ, zero, suc, ◌+◌, ◌-◌, ◌≤◌, ◌<◌}
use mathlib.Core.Path.{◌≡◌, sym, ap, ◌∙◌}
use mathlib.Core.List.{List, [], ◌++◌}
use native.Mathlib.Omega.{arith}
use native.Mathlib.Numerals.{add-one}
use native.Mathlib.Decide.{ℕ_discrete, dec_lt}
use lib.ListN.{length, take, drop, get_or, length-take, length-drop, get_or-eq_default}
use lib.Seq.{take-add, take_all}
use Rattle.lists.specs.Lists.{occ, joined}
use Rattle.lists.specs.Sums.{sum_to}
use Rattle.lists.proofs.Decided.{stable}
use Rattle.lists.proofs.Occurrences.{occ-nil, occ-joined}
use Rattle.lists.proofs.Sums.{sum-find, sum-most, length-occ}
use Rattle.graph.specs.Graph.{Among, part, Graph, preds_of, Edge, Leads, edge, via}
use Rattle.graph.specs.Conditions.{Good, Acceptable, Sound}

pub length_part : {n : ℕ} {starts words : List ℕ} {t : ℕ} → Good n starts words t → length (part starts words t) ≡ get_or starts (t + 1) 0 - get_or starts t 0
unfolding part
length_part {n} {starts} {words} {t} g =
    omega (arith, length-take (get_or starts (t + 1) 0 - get_or starts t 0) (drop (get_or starts t 0) words), length-drop (get_or starts t 0) words, g.rises, g.inside)

module _ {g : Graph} (s : Sound g) where
  -- the parts of the tasks below t are the words up to start t
  parts_below : (t : ℕ) → t ≤ g.tasks → joined t (preds_of g) ≡ take (get_or g.starts t 0) g.preds
  unfolding joined part
  parts_below zero h = rw s.ends.first
  parts_below (suc t) h =
      let q : Good g.tasks g.starts g.preds t = s.good t (omega arith) in
      let e : get_or g.starts (t + 1) 0 ≡ get_or g.starts t 0 + (get_or g.starts (t + 1) 0 - get_or g.starts t 0) = omega (arith, q.rises) in
      ap (λ (l : List ℕ). l ++ part g.starts g.preds t) (parts_below t (omega arith))
      ∙ sym (take-add (get_or g.starts t 0) (get_or g.starts (t + 1) 0 - get_or g.starts t 0) g.preds)
      ∙ ap (λ (k : ℕ). take k g.preds) (sym e) ∙ ap (λ (k : ℕ). take (get_or g.starts k 0) g.preds) (add-one t)

  parts-joined : joined g.tasks (preds_of g) ≡ g.preds
  parts-joined = parts_below g.tasks (omega arith) ∙ rw s.ends.last (take_all (length g.preds) g.preds (omega arith))

  -- how often u is a predecessor, summed over the tasks
  pub occ-preds : (u : ℕ) → occ u g.preds ≡ sum_to g.tasks (λ t. occ u (preds_of g t))
  occ-preds u = ap (occ u) (sym parts-joined) ∙ occ-joined ℕ_discrete u g.tasks (preds_of g)

  -- a predecessor is a task
  pub preds-below : (u : ℕ) → Among u g.preds → u < g.tasks
  preds-below u h = go (sum-find g.tasks (λ t. occ u (preds_of g t)) (omega (arith, occ-preds u)))
    where
      go : (t : ℕ) × (t < g.tasks) × (0 < occ u (preds_of g t)) → u < g.tasks
      go w = (s.good w.0 w.1).below u w.2

  edge-from : (u t : ℕ) → Edge g u t → u < g.tasks
  edge-from u t e = (s.good t e.task).below u e.predecessor

  pub leads-from : {u t : ℕ} → Leads (Edge g) u t → u < g.tasks
  leads-from {u} {t} (edge e) = edge-from u t e
  leads-from {u} {t} (via {v = v} e p) = edge-from u v e

  -- what is no task is no predecessor
  pub preds-beyond : (u : ℕ) → g.tasks ≤ u → occ u g.preds ≡ 0
  preds-beyond u h = stable (ℕ_discrete (occ u g.preds) 0) (λ n. omega (arith, preds-below u (omega arith)))

  -- what a count of the predecessors asks of scratch memory of the engine's size
  pub preds-small : (u : ℕ) → Among u g.preds → u < 1024
  preds-small u h = omega (arith, preds-below u h, s.sized.tasks)

  -- what is no task has no predecessors
  pub preds-none : (t : ℕ) → g.tasks ≤ t → preds_of g t ≡ []
  unfolding part
  preds-none t h = ap (λ (n : ℕ). take n (drop (get_or g.starts t 0) g.preds)) none
    where
      none : get_or g.starts (t + 1) 0 - get_or g.starts t 0 ≡ 0
      none = omega (arith, get_or-eq_default g.starts 0 {n = t + 1} (omega (arith, s.sized.starts, h)))

  -- so what has predecessors is a task
  pub edge_of : (u t : ℕ) → Among u (preds_of g t) → Edge g u t
  edge_of u t h = record { task = stable (dec_lt t g.tasks) (λ n. beyond (omega (arith, n))); predecessor = h }
    where
      beyond : g.tasks ≤ t → ⊥
      beyond l = omega (arith, h, ap (occ u) (preds-none t l), occ-nil ℕ_discrete u)

-- each of a task's predecessors stands there once, so there are at most N
pub few-preds : {g : Graph} → Acceptable g → (t : ℕ) → t < g.tasks → length (preds_of g t) ≤ g.tasks
few-preds {g} a t h =
    omega (
      arith,
      length-occ g.tasks (preds_of g t) (a.good t h).below,
      sum-most g.tasks (λ u. occ u (preds_of g t)) 1 (λ u l. a.once t u h),
    )
