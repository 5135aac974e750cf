-- Laws of ranks: a task below the first level one is on no cycle, since around a cycle through it the rank would fall.
use Prim.Native.Nat.{ℕ, suc, ◌+◌, ◌≤◌, ◌<◌}
use mathlib.Core.Path.{◌≡◌}
use mathlib.Core.Logic.{inl, inr, ◌↔◌}
use mathlib.Core.List.{List}
use native.Mathlib.Omega.{arith}
use native.Mathlib.Decide.{ℕ_discrete}
use lib.ListN.{length, get_or, take}
use lib.Seq.{take_all}
use Rattle.std.specs.Prelude.{Option, None, Some}
use Rattle.std.specs.Option.{MatchOption, IfSome, unwrap_or}
use Rattle.lists.proofs.Occurrences.{occ-nil, occ-at}
use Rattle.lists.proofs.Prefixes.{occ-more-miss}
use Rattle.graph.specs.Graph.{Among, Graph, preds_of, Edge, Leads, edge, via}
use Rattle.graph.specs.Conditions.{OnCycle, ToCycle}
use Rattle.cycles.specs.Ranks.{NoneBelow, Lows, LowestBefore, Levels}

-- the words of a part, one after the other
pub lows-none : (words rank : List ℕ) (low : ℕ) → Lows (take 0 words) rank low
lows-none words rank low = record { least = λ u h. absurd (omega (arith, occ-nil ℕ_discrete u)) }

pub lows-more : (words rank : List ℕ) (i low low' : ℕ) → i < length words → (low' ≤ low) × (low' ≤ get_or rank (get_or words i 0) 0) → Lows (take i words) rank low → Lows (take (i + 1) words) rank low'
lows-more words rank i low low' h m f = record { least = λ u k. go u k (ℕ_discrete u (get_or words i 0)) }
  where
    go : (u : ℕ) → Among u (take (i + 1) words) → Dec (u ≡ get_or words i 0) → low' ≤ get_or rank u 0
    go u k (yes e) = rw e m.1
    go u k (no n) = omega (arith, m.0, f.least u (omega (arith, occ-more-miss words i h u n)))

pub lows-all : (words rank : List ℕ) (i low : ℕ) → length words ≤ i → Lows (take i words) rank low → Lows words rank low
lows-all words rank i low h f = rw (take_all i words h) at f

-- the least rank of the words, where there is a word
pub lows-least : (words rank : List ℕ) (least : Option ℕ) → MatchOption least (length words ≡ 0) (λ low. (k : ℕ) → k < length words → low ≤ get_or rank (get_or words k 0) 0)
    → MatchOption least ((low : ℕ) → Lows words rank low) (λ low. Lows words rank low)
lows-least words rank None e = λ low. record { least = λ u h. absurd (omega (arith, (occ-at ℕ_discrete 0 u words h).1)) }
lows-least words rank (Some low) f =
    record {
      least = λ u h.
          let w : (k : ℕ) × (k < length words) × (get_or words k 0 ≡ u) = occ-at ℕ_discrete 0 u words h in
          rw (← w.2) (f w.0 w.1);
    }

-- a task's predecessors are its part of the table
pub lowest-part : {g : Graph} (rank : List ℕ) (t low : ℕ) → Lows (preds_of g t) rank low → LowestBefore g rank t low
lowest-part rank t low f = record { lowest = λ c u e. f.least u e.predecessor }

-- a task that is not left
pub lowest-none : {g : Graph} (left rank : List ℕ) (t low : ℕ) → (0 < get_or left t 0) ↔ ToCycle g t → get_or left t 0 ≡ 0 → LowestBefore g rank t low
lowest-none left rank t low f z = record { lowest = λ c u e. absurd (omega (arith, f.1 c)) }

pub lowest-parts : (g : Graph) (rank : List ℕ) (t : ℕ) (least : Option ℕ) → MatchOption least ((low : ℕ) → Lows (preds_of g t) rank low) (λ low. Lows (preds_of g t) rank low)
    → MatchOption least ((low : ℕ) → LowestBefore g rank t low) (λ low. LowestBefore g rank t low)
lowest-parts g rank t None f = λ low. lowest-part rank t low (f low)
lowest-parts g rank t (Some low) f = lowest-part rank t low f

module _ (g : Graph) (rank : List ℕ) where
  pub levels-none : Levels g rank g.tasks g.tasks
  levels-none = record { rises-none = λ k h c u e. absurd (omega (arith, e.task)); falls = λ k h l c u e. absurd (omega (arith, e.task)) }

  module _ (t k first low : ℕ) (s : k ≡ suc t) (v : Levels g rank k first) (w : LowestBefore g rank t low) (n : get_or rank t 0 ≤ low) where
    not-rising : (j : ℕ) → t ≤ j → ToCycle g j → (u : ℕ) → Edge g u j → get_or rank j 0 ≤ get_or rank u 0
    not-rising j h c u e = go (ℕ_discrete j t)
      where
        go : Dec (j ≡ t) → get_or rank j 0 ≤ get_or rank u 0
        go (yes p) = rw p (omega (arith, n, w.lowest (rw p at c) u (rw p at e)))
        go (no m) = v.rises-none j (omega arith) c u e

    pub levels-at : Levels g rank t t
    levels-at = record { rises-none = not-rising; falls = λ j h l c u e. absurd (omega arith) }

    pub levels-past : ¬ (low ≡ get_or rank t 0) → Levels g rank t first
    levels-past m = record { rises-none = not-rising; falls = λ j h l c u e. go j h l c u e (ℕ_discrete j t) }
      where
        go : (j : ℕ) → t ≤ j → j < first → ToCycle g j → (u : ℕ) → Edge g u j → Dec (j ≡ t) → get_or rank j 0 < get_or rank u 0
        go j h l c u e (yes p) = rw p (omega (arith, n, m, w.lowest (rw p at c) u (rw p at e)))
        go j h l c u e (no q) = v.falls j (omega arith) l c u e

  -- a task before which no rank is looked at
  pub levels-free : (t k first : ℕ) → k ≡ suc t → Levels g rank k first → ((low : ℕ) → LowestBefore g rank t low) → Levels g rank t first
  levels-free t k first s v w =
      levels-past t k first (suc (get_or rank t 0)) s v (w (suc (get_or rank t 0))) (omega arith) (λ e. omega arith)

  -- along a path to a task on a cycle below first the rank falls
  rank_falls : {first u t : ℕ} → Levels g rank 0 first → t < first → OnCycle g t → Leads (Edge g) u t → get_or rank t 0 < get_or rank u 0
  rank_falls {first} {u} {t} v h o (edge e) = v.falls t (omega arith) h (inl o) u e
  rank_falls {first} {u} {t} v h o (via {v = x} e p) = omega (arith, rank_falls v h o p, v.rises-none x (omega arith) (inr (t, (p, o))) u e)

  pub levels-tell : (t first : ℕ) → t ≡ 0 → Levels g rank t first → NoneBelow g first
  levels-tell t first z v k h o = omega (arith, rank_falls (rw z at v) h o o)

  pub levels-answer : (t : ℕ) (first : Option ℕ) → t ≡ 0 → IfSome first (λ k. k < g.tasks) → Levels g rank t (unwrap_or first g.tasks)
      → IfSome first (λ k. (k < g.tasks) × NoneBelow g k)
  levels-answer t None z h v = h
  levels-answer t (Some k) z h v = (h, levels-tell t k z v)
