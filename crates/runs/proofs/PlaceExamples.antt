-- Where tasks stand, computed, and programs that `OnePlace` and `NoneLost` rule out: each is the rules with one step changed.
use Prim.Native.Nat.{ℕ}
use mathlib.Core.Path.{◌≡◌, refl}
use mathlib.Core.Bool.{Bool, cond}
use mathlib.Core.List.{List, [], ◌∷◌}
use native.Mathlib.Omega.{arith}
use native.Mathlib.Decide.{ℕ_discrete, dec_le, dec_lt}
use Rattle.lists.specs.Decided.{first_below}
use Rattle.lists.specs.Sums.{sum_to, sum_to_z}
use Rattle.lists.specs.Circles.{after, around}
use Rattle.task.specs.Types.{engine, capped}
use Rattle.task.specs.Phases.{next_phase}
use Rattle.graph.specs.Graph.{part}
use Rattle.graph.specs.Check.{sizes_fit, first_bad, first_twice, first_on_cycle, tables_answer, check_answer}
use Rattle.graph.specs.Decide.{below?, among?, light?, good?, bad?, ends_fit?, twice?, twice_in?, find-twice, edge?, thru?, path?, leads?, on_cycle?}
use Rattle.graph.specs.Successors.{succs_below, succ_start, succ_starts_of, succ_words, degree_list, roots}
use Rattle.choice.specs.Least.{load, least_from, least}
use Rattle.choice.specs.Search.{search}
use Rattle.machine.specs.Machine as machine
use Rattle.rules.specs.Sizes.{numbers_fit, others_fit, lengths_fit}
use Rattle.rules.specs.Words.{counters_fit}
use Rattle.memory.specs.Updates.{store_words, updated, written}
use Rattle.memory.specs.Shape.{all_fit}
use Rattle.rules.specs.Plans.{counted, carried_out}
use Rattle.rules.specs.Steps.{scan, fetch_task, fetch_from, fetch_rule, start_rule, complete_sink, complete_inner, complete_rule, advanced, find_room, release_to, release_ready, release_waiting, release_rule, rule_of, step_plan, step}
use Rattle.rules.specs.Begin.{cleared, roots_laid, begun, roots_answer, begin_answer, begin}
use Rattle.rules.proofs.Examples.{lent, begin_says}
use Rattle.lists.specs.Lists.{occ_of, place_of, joined, tabulate, all_of}
use Rattle.task.specs.Refusals.{accepted}
use Rattle.task.specs.declared.Step.{Step}
use Rattle.task.specs.declared.Step.TheVariants.{Fetch, Start, Complete}
use Rattle.ring.specs.Ring.{capacity, slot_at, ends_at, store_ends, sound, empty, full, head_on, tail_on, queued, queue}
use Rattle.machine.specs.Jobs as jobs
use Rattle.rules.specs.Memory.{Mem, ends_in, degree_in, entries_in, all_steps, all_entries}
use Rattle.rules.specs.Updates.{Update, put_ends, put_entry, put_entries}
use Rattle.runs.specs.Calls.{Call, step_call, is_fetch, is_completion, plain_calls, memory_of, longer}
use Rattle.runs.specs.Demand.{task_word}
use Rattle.runs.specs.OnePlace.{stands_in, OnePlace, NoneLost}
use Rattle.runs.proofs.RoomExamples.{by, filled}

-- worker 1 has recorded task 1 and released tasks 2 to 5, and worker 0 has task 0 in hand: tasks 6 and 7 stand nowhere yet
pub stood : tabulate 8 (stands_in ℕ_discrete task_word 2 2 (memory_of (longer filled (by 0 Fetch ∷ [])))) ≡ 1 ∷ 1 ∷ 1 ∷ 1 ∷ 1 ∷ 1 ∷ 0 ∷ 0 ∷ []
unfolding ℕ_discrete dec_le dec_lt first_below occ_of place_of joined tabulate all_of sum_to after around capped next_phase part sizes_fit first_bad first_twice first_on_cycle tables_answer check_answer below? among? light? good? bad? ends_fit? twice? twice_in? find-twice edge? thru? path? leads? on_cycle? succs_below succ_start succ_starts_of succ_words degree_list roots capacity slot_at ends_at store_ends sound empty full head_on tail_on queued queue sum_to_z load least_from least search all_steps all_entries numbers_fit all_fit others_fit lengths_fit counters_fit store_words updated written counted carried_out scan fetch_task fetch_from fetch_rule start_rule complete_sink complete_inner complete_rule advanced find_room release_to release_ready release_waiting release_rule rule_of step_plan step cleared roots_laid begun roots_answer begin_answer begin machine.began machine.memory_after stands_in
stood = refl

-- A program that also writes these updates, after a step that is such.
abbrev also_writing : (Step → Bool) → (ℕ → Mem → List Update) → jobs.Engine Mem
also_writing such also =
    record {
      step_says = plain_calls.step_says;
      step_leaves = λ limits p k i s m.
          cond (such s) (written (also i m) (plain_calls.step_leaves limits p k i s m)) (plain_calls.step_leaves limits p k i s m);
      begin_says = plain_calls.begin_says;
      begin_leaves = plain_calls.begin_leaves;
      lookup_says = plain_calls.lookup_says;
    }

-- a Fetch that leaves the ring as it was, of one worker
abbrev pub leaves_head : jobs.Engine Mem
leaves_head = also_writing is_fetch (λ i m. put_ends 0 (ends_in m 0) ∷ [])

-- a Complete that records NIL
abbrev pub records_nil : jobs.Engine Mem
records_nil = also_writing is_completion (λ i m. put_entry (entries_in m) 65535 i ∷ [])

-- a Complete that records nothing: the entries word stays
abbrev pub records_none : jobs.Engine Mem
records_none = also_writing is_completion (λ i m. put_entries (entries_in m) ∷ [])

abbrev one : Mem
one = lent 1 2 (1 ∷ []) (0 ∷ 0 ∷ []) []

one-begins : begin_says 1 2 one ≡ accepted
unfolding ℕ_discrete dec_le dec_lt first_below occ_of place_of joined tabulate all_of sum_to after around capped next_phase part sizes_fit first_bad first_twice first_on_cycle tables_answer check_answer below? among? light? good? bad? ends_fit? twice? twice_in? find-twice edge? thru? path? leads? on_cycle? succs_below succ_start succ_starts_of succ_words degree_list roots capacity slot_at ends_at store_ends sound empty full head_on tail_on queued queue sum_to_z load least_from least search all_steps all_entries numbers_fit all_fit others_fit lengths_fit counters_fit store_words updated written counted carried_out scan fetch_task fetch_from fetch_rule start_rule complete_sink complete_inner complete_rule advanced find_room release_to release_ready release_waiting release_rule rule_of step_plan step cleared roots_laid begun roots_answer begin_answer begin machine.began machine.memory_after stands_in
one-begins = refl

abbrev fetches : jobs.Run leaves_head
fetches = record { limits = engine; workers = 1; slots = 2; lent = one; accepts = one-begins; calls = step_call engine 1 2 0 Fetch ∷ [] }

abbrev whole : List Call
whole = step_call engine 1 2 0 Fetch ∷ step_call engine 1 2 0 Start ∷ step_call engine 1 2 0 Complete ∷ []

abbrev completes : jobs.Run records_nil
completes = record { limits = engine; workers = 1; slots = 2; lent = one; accepts = one-begins; calls = whole }

abbrev forgets : jobs.Run records_none
forgets = record { limits = engine; workers = 1; slots = 2; lent = one; accepts = one-begins; calls = whole }

-- task 0 stands in the ring and in the hand
stands-twice : stands_in ℕ_discrete task_word 1 2 (jobs.memory_of leaves_head fetches) 0 ≡ 2
unfolding ℕ_discrete dec_le dec_lt first_below occ_of place_of joined tabulate all_of sum_to after around capped next_phase part sizes_fit first_bad first_twice first_on_cycle tables_answer check_answer below? among? light? good? bad? ends_fit? twice? twice_in? find-twice edge? thru? path? leads? on_cycle? succs_below succ_start succ_starts_of succ_words degree_list roots capacity slot_at ends_at store_ends sound empty full head_on tail_on queued queue sum_to_z load least_from least search all_steps all_entries numbers_fit all_fit others_fit lengths_fit counters_fit store_words updated written counted carried_out scan fetch_task fetch_from fetch_rule start_rule complete_sink complete_inner complete_rule advanced find_room release_to release_ready release_waiting release_rule rule_of step_plan step cleared roots_laid begun roots_answer begin_answer begin machine.began machine.memory_after stands_in
stands-twice = refl

stands-nil : stands_in ℕ_discrete task_word 1 2 (jobs.memory_of records_nil completes) 65535 ≡ 1
unfolding ℕ_discrete dec_le dec_lt first_below occ_of place_of joined tabulate all_of sum_to after around capped next_phase part sizes_fit first_bad first_twice first_on_cycle tables_answer check_answer below? among? light? good? bad? ends_fit? twice? twice_in? find-twice edge? thru? path? leads? on_cycle? succs_below succ_start succ_starts_of succ_words degree_list roots capacity slot_at ends_at store_ends sound empty full head_on tail_on queued queue sum_to_z load least_from least search all_steps all_entries numbers_fit all_fit others_fit lengths_fit counters_fit store_words updated written counted carried_out scan fetch_task fetch_from fetch_rule start_rule complete_sink complete_inner complete_rule advanced find_room release_to release_ready release_waiting release_rule rule_of step_plan step cleared roots_laid begun roots_answer begin_answer begin machine.began machine.memory_after stands_in
stands-nil = refl

stands-nowhere : (stands_in ℕ_discrete task_word 1 2 (jobs.memory_of records_none forgets) 0 ≡ 0) × (degree_in (jobs.memory_of records_none forgets) 0 ≡ 0)
unfolding ℕ_discrete dec_le dec_lt first_below occ_of place_of joined tabulate all_of sum_to after around capped next_phase part sizes_fit first_bad first_twice first_on_cycle tables_answer check_answer below? among? light? good? bad? ends_fit? twice? twice_in? find-twice edge? thru? path? leads? on_cycle? succs_below succ_start succ_starts_of succ_words degree_list roots capacity slot_at ends_at store_ends sound empty full head_on tail_on queued queue sum_to_z load least_from least search all_steps all_entries numbers_fit all_fit others_fit lengths_fit counters_fit store_words updated written counted carried_out scan fetch_task fetch_from fetch_rule start_rule complete_sink complete_inner complete_rule advanced find_room release_to release_ready release_waiting release_rule rule_of step_plan step cleared roots_laid begun roots_answer begin_answer begin machine.began machine.memory_after stands_in
stands-nowhere = (refl, refl)

pub head-left : ¬ ((r : jobs.Run leaves_head) → OnePlace (jobs.view_of leaves_head r))
head-left promised = omega (arith, (promised fetches).once 0, stands-twice)

pub nil-recorded : ¬ ((r : jobs.Run records_nil) → OnePlace (jobs.view_of records_nil r))
nil-recorded promised = omega (arith, (promised completes).only 65535 (omega (arith, stands-nil)))

-- `NoneLost` rules this out; each task still stands at most once
pub nothing-recorded : ¬ ((r : jobs.Run records_none) → NoneLost (jobs.view_of records_none r))
nothing-recorded promised = omega (arith, (promised forgets).free 0 (omega arith) stands-nowhere.1, stands-nowhere.0)
