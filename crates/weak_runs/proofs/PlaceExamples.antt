-- Where copies stand, computed, and programs that `OnePlace` rules out: each is the rules with one step changed.
use Prim.Native.Nat.{ℕ}
use mathlib.Core.Path.{◌≡◌, refl}
use mathlib.Core.Bool.{Bool, cond}
use mathlib.Core.List.{List, [], ◌∷◌}
use native.Mathlib.Omega.{arith}
use native.Mathlib.Decide.{ℕ_discrete, dec_le, dec_lt}
use Rattle.lists.specs.Decided.{first_below}
use Rattle.lists.specs.Sums.{sum_to, sum_to_z}
use Rattle.lists.specs.Circles.{after, around}
use Rattle.task.specs.Types.{engine, capped}
use Rattle.task.specs.Phases.{next_phase}
use Rattle.graph.specs.Graph.{part}
use Rattle.graph.specs.Check.{sizes_fit, first_bad, first_twice, first_on_cycle, tables_answer, check_answer}
use Rattle.graph.specs.Decide.{below?, among?, light?, good?, bad?, ends_fit?, twice?, twice_in?, find-twice, edge?, thru?, path?, leads?, on_cycle?}
use Rattle.graph.specs.Successors.{succs_below, succ_start, succ_starts_of, succ_words, roots}
use Rattle.choice.specs.Least.{load, least_from, least}
use Rattle.choice.specs.Search.{search}
use Rattle.machine.specs.Machine as machine
use Rattle.memory.specs.Shape.{all_fit}
use Rattle.memory.specs.Updates.{store_words, updated, written}
use Rattle.plans.specs.Sizes.{numbers_fit, others_fit, lengths_fit}
use Rattle.plans.specs.Laying.{roots_laid}
use Rattle.weak_rules.specs.Words.{counters_fit}
use Rattle.weak_rules.specs.Plans.{counted, carried_out}
use Rattle.weak_rules.specs.Steps.{scan, fetch_copy, fetch_from, fetch_rule, start_rule, complete_copy, complete_sink, complete_inner, complete_last, complete_rule, advanced, find_room, release_to, release_first, release_later, release_rule, rule_of, step_plan, step}
use Rattle.weak_rules.specs.Begin.{weak_degrees, cleared, begun, roots_answer, begin_answer, begin}
use Rattle.weak_rules.proofs.Examples.{lent, begin_says}
use Rattle.lists.specs.Lists.{occ_of, joined, tabulate, all_of}
use Rattle.task.specs.Refusals.{accepted}
use Rattle.task.specs.declared.Step.{Step}
use Rattle.task.specs.declared.Step.TheVariants.{Fetch, Start, Complete}
use Rattle.weak_task.specs.Types.{copy}
use Rattle.ring.specs.Ring.{capacity, slot_at, ends_at, store_ends, sound, empty, full, head_on, tail_on, queued, queue}
use Rattle.machine.specs.Jobs as jobs
use Rattle.copies.specs.Copies.{same_copy, task_copies, is_copy}
use Rattle.runs.specs.OnePlace.{stands_in}
use Rattle.weak_rules.specs.Memory.{Mem, graph_in, ends_in, held, entries_in, all_steps, all_entries}
use Rattle.weak_rules.specs.Updates.{Update, put_ends, put_entry}
use Rattle.weak_runs.specs.Calls.{step_call, is_fetch, weak_calls, memory_of, longer}
use Rattle.weak_runs.specs.Demand.{copy_words}
use Rattle.weak_runs.specs.OnePlace.{OnePlace}
use Rattle.weak_runs.proofs.RoomExamples.{filled, fixed_since}

-- both copies of task 6: worker 1 has released its own, and worker 0's isn't made yet
pub stood : (stands_in same_copy copy_words 2 2 (memory_of (longer filled fixed_since)) (copy 6 1) ≡ 1)
    × (stands_in same_copy copy_words 2 2 (memory_of (longer filled fixed_since)) (copy 6 0) ≡ 0)
unfolding ℕ_discrete dec_le dec_lt first_below occ_of joined tabulate all_of sum_to after around capped next_phase part sizes_fit first_bad first_twice first_on_cycle tables_answer check_answer below? among? light? good? bad? ends_fit? twice? twice_in? find-twice edge? thru? path? leads? on_cycle? succs_below succ_start succ_starts_of succ_words roots capacity slot_at ends_at store_ends sound empty full head_on tail_on queued queue sum_to_z load least_from least search all_steps all_entries numbers_fit all_fit others_fit lengths_fit counters_fit store_words updated written counted carried_out scan fetch_copy fetch_from fetch_rule start_rule complete_copy complete_sink complete_inner complete_last complete_rule advanced find_room release_to release_first release_later release_rule rule_of step_plan step weak_degrees roots_laid cleared begun roots_answer begin_answer begin machine.began machine.memory_after stands_in same_copy task_copies is_copy
stood = (refl, refl)

-- A program that also writes these updates, after a step that is such.
abbrev also_writing : (Step → Bool) → (ℕ → Mem → List Update) → jobs.Engine Mem
also_writing such also =
    record {
      step_says = weak_calls.step_says;
      step_leaves = λ limits p k i s m.
          cond (such s) (written (also i m) (weak_calls.step_leaves limits p k i s m)) (weak_calls.step_leaves limits p k i s m);
      begin_says = weak_calls.begin_says;
      begin_leaves = weak_calls.begin_leaves;
      lookup_says = weak_calls.lookup_says;
    }

-- a Fetch that leaves the ring as it was, of one worker
abbrev pub leaves_head : jobs.Engine Mem
leaves_head = also_writing is_fetch (λ i m. put_ends 0 (ends_in m 0) ∷ [])

-- a Complete that records a copy with another predecessor
abbrev pub records_other : jobs.Engine Mem
records_other = also_writing jobs.is_completion (λ i m. put_entry (entries_in m) (copy (held m i).task 0) i ∷ [])

abbrev one : Mem
one = lent 1 2 (1 ∷ []) (0 ∷ 0 ∷ []) []

one-begins : begin_says 1 2 one ≡ accepted
unfolding ℕ_discrete dec_le dec_lt first_below occ_of joined tabulate all_of sum_to after around capped next_phase part sizes_fit first_bad first_twice first_on_cycle tables_answer check_answer below? among? light? good? bad? ends_fit? twice? twice_in? find-twice edge? thru? path? leads? on_cycle? succs_below succ_start succ_starts_of succ_words roots capacity slot_at ends_at store_ends sound empty full head_on tail_on queued queue sum_to_z load least_from least search all_steps all_entries numbers_fit all_fit others_fit lengths_fit counters_fit store_words updated written counted carried_out scan fetch_copy fetch_from fetch_rule start_rule complete_copy complete_sink complete_inner complete_last complete_rule advanced find_room release_to release_first release_later release_rule rule_of step_plan step weak_degrees roots_laid cleared begun roots_answer begin_answer begin machine.began machine.memory_after stands_in same_copy task_copies is_copy
one-begins = refl

abbrev fetches : jobs.Run leaves_head
fetches = record { limits = engine; workers = 1; slots = 2; lent = one; accepts = one-begins; calls = step_call engine 1 2 0 Fetch ∷ [] }

abbrev completes : jobs.Run records_other
completes =
    record {
      limits = engine;
      workers = 1;
      slots = 2;
      lent = one;
      accepts = one-begins;
      calls = step_call engine 1 2 0 Fetch ∷ step_call engine 1 2 0 Start ∷ step_call engine 1 2 0 Complete ∷ [];
    }

-- the root's copy stands in the ring and in the hand
stands-twice : stands_in same_copy copy_words 1 2 (jobs.memory_of leaves_head fetches) (copy 0 65535) ≡ 2
unfolding ℕ_discrete dec_le dec_lt first_below occ_of joined tabulate all_of sum_to after around capped next_phase part sizes_fit first_bad first_twice first_on_cycle tables_answer check_answer below? among? light? good? bad? ends_fit? twice? twice_in? find-twice edge? thru? path? leads? on_cycle? succs_below succ_start succ_starts_of succ_words roots capacity slot_at ends_at store_ends sound empty full head_on tail_on queued queue sum_to_z load least_from least search all_steps all_entries numbers_fit all_fit others_fit lengths_fit counters_fit store_words updated written counted carried_out scan fetch_copy fetch_from fetch_rule start_rule complete_copy complete_sink complete_inner complete_last complete_rule advanced find_room release_to release_first release_later release_rule rule_of step_plan step weak_degrees roots_laid cleared begun roots_answer begin_answer begin machine.began machine.memory_after stands_in same_copy task_copies is_copy
stands-twice = refl

stands-other : (stands_in same_copy copy_words 1 2 (jobs.memory_of records_other completes) (copy 0 0) ≡ 1) × (is_copy (graph_in one) (copy 0 0) ≡ 0)
unfolding ℕ_discrete dec_le dec_lt first_below occ_of joined tabulate all_of sum_to after around capped next_phase part sizes_fit first_bad first_twice first_on_cycle tables_answer check_answer below? among? light? good? bad? ends_fit? twice? twice_in? find-twice edge? thru? path? leads? on_cycle? succs_below succ_start succ_starts_of succ_words roots capacity slot_at ends_at store_ends sound empty full head_on tail_on queued queue sum_to_z load least_from least search all_steps all_entries numbers_fit all_fit others_fit lengths_fit counters_fit store_words updated written counted carried_out scan fetch_copy fetch_from fetch_rule start_rule complete_copy complete_sink complete_inner complete_last complete_rule advanced find_room release_to release_first release_later release_rule rule_of step_plan step weak_degrees roots_laid cleared begun roots_answer begin_answer begin machine.began machine.memory_after stands_in same_copy task_copies is_copy
stands-other = (refl, refl)

pub head-left : ¬ ((r : jobs.Run leaves_head) → OnePlace (jobs.view_of leaves_head r))
head-left promised = omega (arith, (promised fetches).once (copy 0 65535), stands-twice)

pub other-recorded : ¬ ((r : jobs.Run records_other) → OnePlace (jobs.view_of records_other r))
other-recorded promised = omega (arith, (promised completes).only (copy 0 0) (omega (arith, stands-other.0)), stands-other.1)
