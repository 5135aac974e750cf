-- Laws over plain lists and numbers that the functions' proofs cite.
use Prim.Native.Nat.{ℕ, ◌+◌, ◌≤◌}
use mathlib.Core.Path.{◌≡◌, refl, sym, ap, ◌∙◌}
use mathlib.Core.List.{List}
use native.Mathlib.Omega.{arith}
use native.Mathlib.Decide.{ℕ_discrete}
use native.Mathlib.Numerals.{add-one}
use lib.ListN.{length, get_or}
use Rattle.lists.specs.Decided.{tally}
use Rattle.lists.specs.Sums.{sum_to}
use Rattle.lists.proofs.Decided.{tally-yes, tally-no, tally-same}
use Rattle.lists.proofs.Sums.{sum_same, sum-suc}
use Rattle.graph.specs.Graph.{Graph, preds_of}
use Rattle.graph.specs.Conditions.{Sound}
use Rattle.graph.specs.Successors.{roots}
use Rattle.graph.proofs.Parts.{length_part}
use Rattle.graph.proofs.Reversed.{length-roots}

-- how many of the first t starts are the next one too
unfoldable pub levels : List ℕ → ℕ → ℕ
levels starts t = sum_to t (λ u. tally (ℕ_discrete (get_or starts u 0) (get_or starts (u + 1) 0)))

module _ (starts : List ℕ) where
  pub levels-none : 0 ≡ levels starts 0
  unfolding levels sum_to
  levels-none = refl

  module _ (t found more : ℕ) (e : found ≡ levels starts t) where
    levels-suc : levels starts (t + 1) ≡ levels starts t + tally (ℕ_discrete (get_or starts t 0) (get_or starts (t + 1) 0))
    unfolding levels
    levels-suc = ap (levels starts) (add-one t) ∙ sum-suc t (λ u. tally (ℕ_discrete (get_or starts u 0) (get_or starts (u + 1) 0)))

    pub levels-hit : get_or starts t 0 ≡ get_or starts (t + 1) 0 → more ≡ found + 1 → more ≡ levels starts (t + 1)
    levels-hit h m = omega (arith, levels-suc, tally-yes (ℕ_discrete (get_or starts t 0) (get_or starts (t + 1) 0)) h)

    pub levels-miss : ¬ (get_or starts t 0 ≡ get_or starts (t + 1) 0) → more ≡ found → more ≡ levels starts (t + 1)
    levels-miss n m = omega (arith, levels-suc, tally-no (ℕ_discrete (get_or starts t 0) (get_or starts (t + 1) 0)) n)

-- a task whose start is the next one too is a root
module _ (g : Graph) (s : Sound g) where
  levels-roots : levels g.starts g.tasks ≡ length (roots g)
  unfolding levels
  levels-roots =
      sum_same g.tasks (λ t. tally (ℕ_discrete (length (preds_of g t)) 0)) (λ t. tally (ℕ_discrete (get_or g.starts t 0) (get_or g.starts (t + 1) 0)))
      (λ t h. tally-same (ℕ_discrete (get_or g.starts t 0) (get_or g.starts (t + 1) 0)) (ℕ_discrete (length (preds_of g t)) 0)
      (λ e. omega (arith, length_part (s.good t h)))
      (λ e. omega (arith, length_part (s.good t h), (s.good t h).rises)))
      ∙ sym (length-roots g)

  pub roots-counted : (found t : ℕ) → found ≡ levels g.starts t → t ≤ g.tasks → g.tasks ≤ t → found ≡ length (roots g)
  roots-counted found t e h l = e ∙ ap (levels g.starts) (omega arith) ∙ levels-roots
