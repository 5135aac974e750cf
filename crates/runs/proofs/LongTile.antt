-- "A lane with a long tile isn't empty" (document 02, No. 3): a run in which a worker has a long task in hand and nothing waits for it, computed. Its
-- counters carry the task's weight from begin until it is completed.
use Prim.Native.Nat.{ℕ, ◌+◌, ◌*◌}
use mathlib.Core.Path.{◌≡◌, refl}
use mathlib.Core.List.{List, [], ◌∷◌, ◌++◌}
use native.Mathlib.Decide.{ℕ_discrete, dec_le, dec_lt}
use lib.ListN.{get_or}
use lib.IntN.{ℤ, pos}
use Rattle.lists.specs.Decided.{first_below}
use Rattle.lists.specs.Lists.{occ_of, place_of, joined, tabulate, all_of}
use Rattle.lists.specs.Sums.{sum_to, sum_to_z}
use Rattle.lists.specs.Circles.{after, around}
use Rattle.task.specs.Types.{engine, capped}
use Rattle.task.specs.Phases.{next_phase}
use Rattle.task.specs.Refusals.{accepted}
use Rattle.task.specs.declared.Step.{Step}
use Rattle.task.specs.declared.Step.TheVariants.{Fetch, Start, Complete, Release}
use Rattle.graph.specs.Graph.{part}
use Rattle.graph.specs.Check.{sizes_fit, first_bad, first_twice, first_on_cycle, tables_answer, check_answer}
use Rattle.graph.specs.Decide.{below?, among?, light?, good?, bad?, ends_fit?, twice?, twice_in?, find-twice, edge?, thru?, path?, leads?, on_cycle?}
use Rattle.graph.specs.Successors.{succs_below, succ_start, succ_starts_of, succ_words, degree_list, roots}
use Rattle.ring.specs.Ring.{capacity, slot_at, ends_at, store_ends, sound, empty, full, head_on, tail_on, queued, queue}
use Rattle.choice.specs.Least.{load, least_from, least}
use Rattle.choice.specs.Search.{search}
use Rattle.machine.specs.Machine as machine
use Rattle.rules.specs.Memory.{Mem, all_steps, all_entries}
use Rattle.rules.specs.Sizes.{numbers_fit, others_fit, lengths_fit}
use Rattle.rules.specs.Words.{counters_fit}
use Rattle.memory.specs.Updates.{store_words, updated, written}
use Rattle.memory.specs.Shape.{all_fit}
use Rattle.rules.specs.Plans.{counted, carried_out}
use Rattle.rules.specs.Steps.{scan, fetch_task, fetch_from, fetch_rule, start_rule, complete_sink, complete_inner, complete_rule, advanced, find_room, release_to, release_ready, release_waiting, release_rule, rule_of, step_plan, step}
use Rattle.rules.specs.Begin.{cleared, roots_laid, begun, roots_answer, begin_answer, begin}
use Rattle.rules.proofs.Examples.{lent, begin_says}
use Rattle.algorithm1.specs.Reading.{queue_in}
use Rattle.runs.specs.Calls.{Call, step_call, Run, memory_of}
use Rattle.runs.specs.Counters.{in_hand_of}

-- weights 60, 1, 1, edge 1→2
abbrev pub tiles : Mem
tiles = lent 2 2 (60 ∷ 1 ∷ 1 ∷ []) (0 ∷ 0 ∷ 0 ∷ 1 ∷ []) (1 ∷ [])

abbrev by : ℕ → Step → Call
by = step_call engine 2 2

abbrev tile_run : begin_says 2 2 tiles ≡ accepted → List Call → Run
tile_run accepts calls = record { limits = engine; workers = 2; slots = 2; lent = tiles; accepts = accepts; calls = calls }

-- what worker i's two counters add up to
abbrev sums : Mem → ℕ → ℤ
sums m i = sum_to_z 2 (λ j. get_or m.counters (i * 2 + j) (pos 0))

-- worker 0 takes task 0; worker 1 takes, runs and completes task 1 and releases task 2
abbrev released : List Call
released = by 0 Fetch ∷ by 1 Fetch ∷ by 1 Start ∷ by 1 Complete ∷ by 1 Release ∷ []

pub record LongTile : Type 0 where
  pub begins : begin_says 2 2 tiles ≡ accepted
  -- task 0 is in worker 0's hand once it is fetched, and its 60 are still carried
  pub fetched : in_hand_of (memory_of (tile_run begins (by 0 Fetch ∷ []))) 0 ≡ 0 ∷ []
  pub carried : sums (memory_of (tile_run begins (by 0 Fetch ∷ []))) 0 ≡ pos 60
  -- so task 2, which joins a list of the worker with the least sum, 60 against 0, joins one of worker 1's
  pub lists : (joined 2 (queue_in 2 2 (memory_of (tile_run begins released)) 0) ≡ []) × (joined 2 (queue_in 2 2 (memory_of (tile_run begins released)) 1) ≡ 2 ∷ [])
  pub loads : (sums (memory_of (tile_run begins released)) 0 ≡ pos 60) × (sums (memory_of (tile_run begins released)) 1 ≡ pos 1)
  -- started, it is still in hand and carried; completed, it is neither
  pub started : in_hand_of (memory_of (tile_run begins (released ++ (by 0 Start ∷ [])))) 0 ≡ 0 ∷ []
  pub still_carried : sums (memory_of (tile_run begins (released ++ (by 0 Start ∷ [])))) 0 ≡ pos 60
  pub completed : in_hand_of (memory_of (tile_run begins (released ++ (by 0 Start ∷ by 0 Complete ∷ [])))) 0 ≡ []
  pub carried_no_more : sums (memory_of (tile_run begins (released ++ (by 0 Start ∷ by 0 Complete ∷ [])))) 0 ≡ pos 0

pub long-tile : LongTile
unfolding ℕ_discrete dec_le dec_lt first_below occ_of place_of joined tabulate all_of sum_to after around capped next_phase part sizes_fit first_bad first_twice first_on_cycle tables_answer check_answer below? among? light? good? bad? ends_fit? twice? twice_in? find-twice edge? thru? path? leads? on_cycle? succs_below succ_start succ_starts_of succ_words degree_list roots capacity slot_at ends_at store_ends sound empty full head_on tail_on queued queue sum_to_z load least_from least search all_steps all_entries numbers_fit all_fit others_fit lengths_fit counters_fit store_words updated written counted carried_out scan fetch_task fetch_from fetch_rule start_rule complete_sink complete_inner complete_rule advanced find_room release_to release_ready release_waiting release_rule rule_of step_plan step cleared roots_laid begun roots_answer begin_answer begin machine.began machine.memory_after in_hand_of
long-tile =
    record {
      begins = refl;
      fetched = refl;
      carried = refl;
      lists = (refl, refl);
      loads = (refl, refl);
      started = refl;
      still_carried = refl;
      completed = refl;
      carried_no_more = refl;
    }
