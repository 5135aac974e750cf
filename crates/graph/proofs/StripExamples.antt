-- Request 7's examples, computed: an order of stripping that no task can prolong, the tasks that it leaves, and 5.
use Prim.Native.Nat.{ℕ}
use mathlib.Core.Path.{◌≡◌, refl, ap}
use mathlib.Core.Bool.{true, false}
use mathlib.Core.List.{List, [], ◌∷◌}
use native.Mathlib.Omega.{arith}
use native.Mathlib.Decide.{ℕ_discrete, dec_le, dec_lt}
use lib.ListN.{get_or}
use Rattle.lists.specs.Decided.{holds, tally, first_below}
use Rattle.lists.specs.Lists.{occ, occ_of, tabulate}
use Rattle.task.specs.Refusals.{Said, answer_says, refused, accepted}
use Rattle.graph.specs.Graph.{Graph, graph_of, part}
use Rattle.graph.specs.Check.{first_bad, first_twice, first_on_cycle, tables_answer}
use Rattle.graph.specs.Decide.{below?, among?, good?, bad?, ends_fit?, twice?, twice_in?, find-twice, edge?, thru?, path?, leads?, on_cycle?}
use Rattle.graph.specs.Stripping.{sink?, sinks_below, sinks_of, Stripped}
use Rattle.graph.proofs.Stripping.{strips?, whole?}

-- 1 for a task that the order leaves
abbrev left_by : Graph → List ℕ → List ℕ
left_by g order = tabulate g.tasks (λ t. tally (ℕ_discrete (occ t order) 0))

-- an order, with what it leaves and what the check says
pub record Shown (g : Graph) (order left : List ℕ) (says : Said) : Type 0 where
  pub strips : holds (strips? g order) ≡ true
  pub whole : holds (whole? g order) ≡ true
  pub lefts : left_by g order ≡ left
  pub answer : answer_says (tables_answer g) ≡ says

-- 0→1, 1→2, 2→1, 2→3
abbrev before : Graph
before = graph_of 4 (0 ∷ 0 ∷ 2 ∷ 3 ∷ 4 ∷ []) (0 ∷ 2 ∷ 1 ∷ 2 ∷ [])

-- a loop on 1, with 0 before it
abbrev looped : Graph
looped = graph_of 2 (0 ∷ 0 ∷ 2 ∷ []) (0 ∷ 1 ∷ [])

-- 3⇄4 → 2 → 5⇄1 → 0
abbrev between : Graph
between = graph_of 6 (0 ∷ 1 ∷ 2 ∷ 3 ∷ 4 ∷ 5 ∷ 7 ∷ []) (1 ∷ 5 ∷ 4 ∷ 4 ∷ 3 ∷ 2 ∷ 1 ∷ [])

-- 3⇄4 → 0 → 5⇄1 → 2: the smallest task left is on no cycle
abbrev smallest : Graph
smallest = graph_of 6 (0 ∷ 1 ∷ 2 ∷ 3 ∷ 4 ∷ 5 ∷ 7 ∷ []) (4 ∷ 5 ∷ 1 ∷ 4 ∷ 3 ∷ 0 ∷ 1 ∷ [])

abbrev nothing : Graph
nothing = graph_of 0 (0 ∷ []) []

abbrev diamond : Graph
diamond = graph_of 4 (0 ∷ 0 ∷ 1 ∷ 2 ∷ 4 ∷ []) (0 ∷ 0 ∷ 1 ∷ 2 ∷ [])

-- 0→1, and task 2 alone
abbrev apart : Graph
apart = graph_of 3 (0 ∷ 0 ∷ 1 ∷ 1 ∷ []) (0 ∷ [])

pub record StripTable : Type 0 where
  pub task_before : Shown before (3 ∷ []) (1 ∷ 1 ∷ 1 ∷ 0 ∷ []) (refused 5 1)
  pub loop : Shown looped [] (1 ∷ 1 ∷ []) (refused 5 1)
  pub task_between : Shown between (0 ∷ []) (0 ∷ 1 ∷ 1 ∷ 1 ∷ 1 ∷ 1 ∷ []) (refused 5 1)
  pub smallest_left : Shown smallest (2 ∷ []) (1 ∷ 1 ∷ 0 ∷ 1 ∷ 1 ∷ 1 ∷ []) (refused 5 1)
  pub no_task : Shown nothing [] [] accepted
  pub one_way : Shown diamond (3 ∷ 1 ∷ 2 ∷ 0 ∷ []) (0 ∷ 0 ∷ 0 ∷ 0 ∷ []) accepted
  pub other_way : Shown diamond (3 ∷ 2 ∷ 1 ∷ 0 ∷ []) (0 ∷ 0 ∷ 0 ∷ 0 ∷ []) accepted
  pub early : holds (strips? diamond (1 ∷ 3 ∷ [])) ≡ false
  pub more : holds (whole? diamond (3 ∷ [])) ≡ false
  pub sinks : sinks_of apart ≡ 2 ∷ 1 ∷ []
  -- an order, but its first tasks rise
  pub rising_strips : Shown apart (1 ∷ 2 ∷ 0 ∷ []) (0 ∷ 0 ∷ 0 ∷ []) accepted
  pub rising : ¬ (Stripped apart (1 ∷ 2 ∷ 0 ∷ []))

pub strip-table : StripTable
unfolding ℕ_discrete dec_le dec_lt first_below occ_of tabulate part first_bad first_twice first_on_cycle tables_answer below? among? good? bad? ends_fit? twice? twice_in? find-twice edge? thru? path? leads? on_cycle? sink? sinks_below strips? whole?
strip-table =
    record {
      task_before = record { strips = refl; whole = refl; lefts = refl; answer = refl };
      loop = record { strips = refl; whole = refl; lefts = refl; answer = refl };
      task_between = record { strips = refl; whole = refl; lefts = refl; answer = refl };
      smallest_left = record { strips = refl; whole = refl; lefts = refl; answer = refl };
      no_task = record { strips = refl; whole = refl; lefts = refl; answer = refl };
      one_way = record { strips = refl; whole = refl; lefts = refl; answer = refl };
      other_way = record { strips = refl; whole = refl; lefts = refl; answer = refl };
      early = refl;
      more = refl;
      sinks = refl;
      rising_strips = record { strips = refl; whole = refl; lefts = refl; answer = refl };
      rising = λ s. let e : ◌≡◌ {A = ℕ} 1 2 = ap (λ (l : List ℕ). get_or l 0 0) s.sinks in omega (arith, e);
    }
