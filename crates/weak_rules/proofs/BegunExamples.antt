-- PROMISE: a weak job begun, every word that it leaves; and refused where its roots have no room.
use Prim.Native.Nat.{ℕ, ◌*◌}
use mathlib.Core.Path.{◌≡◌, refl}
use mathlib.Core.List.{[], ◌∷◌}
use native.Mathlib.Decide.{ℕ_discrete, dec_le, dec_lt}
use lib.ListN.{replicate}
use lib.IntN.{pos}
use Rattle.std.specs.Prelude.{Ok}
use Rattle.lists.specs.Decided.{first_below}
use Rattle.lists.specs.Lists.{occ_of, joined, tabulate, all_of}
use Rattle.lists.specs.Sums.{sum_to}
use Rattle.lists.specs.Circles.{after}
use Rattle.task.specs.Types.{engine, capped}
use Rattle.task.specs.Refusals.{refused, answer_says}
use Rattle.weak_task.specs.Types.{copy, idle, task_copy}
use Rattle.graph.specs.Graph.{part}
use Rattle.graph.specs.Check.{sizes_fit, first_bad, first_twice, first_on_cycle, tables_answer, check_answer}
use Rattle.graph.specs.Decide.{below?, among?, light?, good?, bad?, ends_fit?, twice?, twice_in?, find-twice, edge?, thru?, path?, leads?, on_cycle?}
use Rattle.graph.specs.Successors.{succs_below, succ_start, succ_starts_of, succ_words, roots}
use Rattle.ring.specs.Ring.{capacity, end_words, slot_at, ends_at, store_ends, tail_on}
use Rattle.memory.specs.Shape.{all_fit}
use Rattle.memory.specs.Updates.{updated, written}
use Rattle.plans.specs.Sizes.{numbers_fit, others_fit}
use Rattle.plans.specs.Laying.{roots_laid}
use Rattle.weak_rules.specs.Memory.{Mem, mem_of}
use Rattle.weak_rules.specs.Begin.{weak_degrees, cleared, begun, roots_answer, begin_answer, begin}

-- weights 4 9 2 6 3, edges 0→2, 1→2, 2→4, so roots 0, 1 and 3; the other lists have their lengths for P workers and K slots and other words
abbrev three_roots : ℕ → ℕ → Mem
three_roots p k =
    mem_of (4 ∷ 9 ∷ 2 ∷ 6 ∷ 3 ∷ []) (0 ∷ 0 ∷ 0 ∷ 2 ∷ 2 ∷ 3 ∷ []) (0 ∷ 1 ∷ 2 ∷ [])
    (replicate 6 7) (replicate 3 7) (replicate 5 7) (replicate 5 7)
    (replicate (p * p * k) (copy 7 7)) (replicate (p * p * end_words) 7) (replicate (p * p) (pos 7))
    (replicate (p * 5) 7) (replicate 24 7) (7 ∷ 7 ∷ 7 ∷ [])
    (replicate p (record { phase = 7; held = task_copy (copy 7 7); pointer = record { 0 = 7 }; read = 7; write = 7; cursor = 7 }))

-- "root number m, from 0, goes to the ring of owner and filler m mod P"
pub record BegunExamples : Type 0 where
  pub three_roots_begun : begin engine 2 2 (three_roots 2 2)
      ≡ record {
        answer = Ok tt;
        memory =
            mem_of (4 ∷ 9 ∷ 2 ∷ 6 ∷ 3 ∷ []) (0 ∷ 0 ∷ 0 ∷ 2 ∷ 2 ∷ 3 ∷ []) (0 ∷ 1 ∷ 2 ∷ [])
            (0 ∷ 1 ∷ 2 ∷ 3 ∷ 3 ∷ 3 ∷ []) (2 ∷ 2 ∷ 4 ∷ []) (1 ∷ 1 ∷ 2 ∷ 1 ∷ 1 ∷ []) (0 ∷ 1 ∷ 65535 ∷ 0 ∷ 65535 ∷ [])
            (copy 0 65535 ∷ copy 3 65535 ∷ copy 0 0 ∷ copy 0 0 ∷ copy 0 0 ∷ copy 0 0 ∷ copy 1 65535 ∷ copy 0 0 ∷ [])
            (0 ∷ 0 ∷ 2 ∷ 0 ∷ 0 ∷ 0 ∷ 0 ∷ 0 ∷ 0 ∷ 0 ∷ 1 ∷ 1 ∷ [])
            (pos 10 ∷ pos 0 ∷ pos 0 ∷ pos 9 ∷ [])
            (replicate 10 0) (replicate 24 0) (0 ∷ 0 ∷ 3 ∷ []) (idle ∷ idle ∷ []);
      }
  -- 6: "more than P·K roots", "their number"
  pub three_roots_refused : answer_says (begin engine 1 2 (three_roots 1 2)).answer ≡ refused 6 3

pub begun-examples : BegunExamples
unfolding ℕ_discrete dec_le dec_lt first_below occ_of joined tabulate all_of sum_to after capped part sizes_fit first_bad first_twice first_on_cycle tables_answer check_answer below? among? light? good? bad? ends_fit? twice? twice_in? find-twice edge? thru? path? leads? on_cycle? succs_below succ_start succ_starts_of succ_words roots capacity slot_at ends_at store_ends tail_on numbers_fit all_fit others_fit updated written roots_laid weak_degrees cleared begun roots_answer begin_answer begin
begun-examples = record { three_roots_begun = refl; three_roots_refused = refl }
