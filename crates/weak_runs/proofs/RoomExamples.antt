-- How long 11 lasts in a weak job, computed: P 2, K 2, roots 0 and 1, edges 0→2 to 0→6 and 1→6, all weights 0. Worker 0's first four Releases fill
-- both rings that it fills, and its fifth, of the first copy of task 6, is refused with 11. Then worker 1 makes P accepted Fetches, and its Release fixes
-- task 6 to worker 0: worker 0's Release, of a later copy now, is refused with 11 again, since worker 0 hasn't fetched. So for a first copy "P accepted
-- Fetches of any one worker" aren't enough.
use Prim.Native.Nat.{ℕ, ◌<◌}
use mathlib.Core.Path.{◌≡◌, refl, sym, subst, ◌∙◌}
use mathlib.Core.List.{List, [], ◌∷◌}
use native.Mathlib.Omega.{arith}
use native.Mathlib.Decide.{ℕ_discrete, dec_le, dec_lt}
use Rattle.lists.specs.Decided.{first_below}
use Rattle.lists.specs.Lists.{occ_of, joined, tabulate, all_of}
use Rattle.lists.specs.Sums.{sum_to, sum_to_z}
use Rattle.lists.specs.Circles.{after, around}
use Rattle.task.specs.Types.{engine, capped}
use Rattle.task.specs.Phases.{next_phase}
use Rattle.task.specs.Refusals.{Said, refused, accepted, rings_full}
use Rattle.task.specs.Rows.{Acceptance}
use Rattle.task.specs.declared.Limits.{Limits}
use Rattle.task.specs.declared.Step.{Step}
use Rattle.task.specs.declared.Step.TheVariants.{Fetch, Start, Complete, Release}
use Rattle.graph.specs.Graph.{part}
use Rattle.graph.specs.Check.{sizes_fit, first_bad, first_twice, first_on_cycle, tables_answer, check_answer}
use Rattle.graph.specs.Decide.{below?, among?, light?, good?, bad?, ends_fit?, twice?, twice_in?, find-twice, edge?, thru?, path?, leads?, on_cycle?}
use Rattle.graph.specs.Successors.{succs_below, succ_start, succ_starts_of, succ_words, roots}
use Rattle.ring.specs.Ring.{capacity, slot_at, ends_at, store_ends, sound, empty, full, head_on, tail_on}
use Rattle.choice.specs.Least.{load, least_from, least}
use Rattle.choice.specs.Search.{search}
use Rattle.machine.specs.Machine as machine
use Rattle.memory.specs.Shape.{all_fit}
use Rattle.memory.specs.Updates.{store_words, updated, written}
use Rattle.plans.specs.Sizes.{numbers_fit, others_fit, lengths_fit}
use Rattle.plans.specs.Laying.{roots_laid}
use Rattle.weak_rules.specs.Memory.{Mem, fixed_in, row_in, all_steps, all_entries}
use Rattle.weak_rules.specs.Words.{counters_fit}
use Rattle.weak_rules.specs.Plans.{counted, carried_out}
use Rattle.weak_rules.specs.Steps.{scan, fetch_copy, fetch_from, fetch_rule, start_rule, complete_copy, complete_sink, complete_inner, complete_last, complete_rule, advanced, find_room, release_to, release_first, release_later, release_rule, rule_of, step_plan, step}
use Rattle.weak_rules.specs.Begin.{weak_degrees, cleared, begun, roots_answer, begin_answer, begin}
use Rattle.machine.specs.Fetches as jobs
use Rattle.weak_task.specs.Types.{Copy, copy}
use Rattle.weak_task.specs.Says.{copy_placed}
use Rattle.runs.specs.RoomSoon.{releases}
use Rattle.weak_rules.proofs.Examples.{lent, begin_says}
use Rattle.weak_runs.specs.Calls.{Call, step_call, Run, memory_of, longer}
use Rattle.weak_runs.specs.Fairness.{fetches}
use Rattle.weak_runs.specs.RoomSoon.{release_answer, WouldPlace, Waited, Room}
use Rattle.weak_runs.proofs.Calls.{engine-kept}

abbrev pub seams : Mem
seams = lent 2 2 (0 ∷ 0 ∷ 0 ∷ 0 ∷ 0 ∷ 0 ∷ 0 ∷ []) (0 ∷ 0 ∷ 0 ∷ 1 ∷ 2 ∷ 3 ∷ 4 ∷ 6 ∷ []) (0 ∷ 0 ∷ 0 ∷ 0 ∷ 0 ∷ 1 ∷ [])

pub seams-begins : begin_says 2 2 seams ≡ accepted
unfolding ℕ_discrete dec_le dec_lt first_below occ_of joined tabulate all_of sum_to after around capped next_phase part sizes_fit first_bad first_twice first_on_cycle tables_answer check_answer below? among? light? good? bad? ends_fit? twice? twice_in? find-twice edge? thru? path? leads? on_cycle? succs_below succ_start succ_starts_of succ_words roots capacity slot_at ends_at store_ends sound empty full head_on tail_on sum_to_z load least_from least search all_steps all_entries numbers_fit all_fit others_fit lengths_fit counters_fit store_words updated written counted carried_out scan fetch_copy fetch_from fetch_rule start_rule complete_copy complete_sink complete_inner complete_last complete_rule advanced find_room release_to release_first release_later release_rule rule_of step_plan step weak_degrees roots_laid cleared begun roots_answer begin_answer begin
seams-begins = refl

abbrev by : ℕ → Step → Call
by = step_call engine 2 2

-- worker 0 runs task 0 and releases copies of tasks 2 to 5
abbrev pub filled : Run
filled =
    record {
      limits = engine;
      workers = 2;
      slots = 2;
      lent = seams;
      accepts = seams-begins;
      calls = by 0 Fetch ∷ by 0 Start ∷ by 0 Complete ∷ by 0 Release ∷ by 0 Release ∷ by 0 Release ∷ by 0 Release ∷ [];
    }

-- worker 1 takes and runs task 4's copy and root 1
abbrev pub fetched : List Call
fetched = by 1 Fetch ∷ by 1 Start ∷ by 1 Complete ∷ by 1 Fetch ∷ by 1 Start ∷ by 1 Complete ∷ []

-- and releases a copy of task 6
abbrev pub fixed_since : List Call
fixed_since = by 1 Fetch ∷ by 1 Start ∷ by 1 Complete ∷ by 1 Fetch ∷ by 1 Start ∷ by 1 Complete ∷ by 1 Release ∷ []

-- then worker 0 takes and runs that copy, which stands in a ring that worker 1 fills
abbrev once_there : List Call
once_there =
    by 1 Fetch ∷ by 1 Start ∷ by 1 Complete ∷ by 1 Fetch ∷ by 1 Start ∷ by 1 Complete ∷ by 1 Release ∷ by 0 Fetch ∷ by 0 Start ∷ by 0 Complete ∷ []

-- and then task 2's
abbrev pub fetched_there : List Call
fetched_there =
    by 1 Fetch ∷ by 1 Start ∷ by 1 Complete ∷ by 1 Fetch ∷ by 1 Start ∷ by 1 Complete ∷ by 1 Release ∷ by 0 Fetch ∷ by 0 Start ∷ by 0 Complete ∷ by 0 Fetch ∷ by 0 Start
    ∷ by 0 Complete ∷ []

abbrev answer : List Call → Said
answer further = release_answer engine (longer filled further) 0

pub record RoomExamples : Type 0 where
  pub full : release_answer engine filled 0 ≡ refused rings_full 6
  pub unfixed : fixed_in (memory_of filled) 6 ≡ 65535
  -- P accepted Fetches of worker 1: as long as the copy is a first one, there is room
  pub first : Waited filled engine 0 6 fetched 1
  pub still_first : fixed_in (memory_of (longer filled fetched)) 6 ≡ 65535
  pub placed : answer fetched ≡ copy_placed (copy 6 0) 1
  -- the same Fetches, and task 6 fixed to worker 0 since: there is none
  pub waited : Waited filled engine 0 6 fixed_since 1
  pub fixed_to_another : fixed_in (memory_of (longer filled fixed_since)) 6 ≡ 0
  pub idle : (row_in (memory_of (longer filled fixed_since)) 0).phase ≡ 0
  pub full_still : answer fixed_since ≡ refused rings_full 6
  -- P − 1 accepted Fetches of worker 0, and P of them
  pub too_few : (fetches 0 once_there (memory_of filled) ≡ 1) × (fixed_in (memory_of (longer filled once_there)) 6 ≡ 0)
  pub still_full : answer once_there ≡ refused rings_full 6
  pub there : Waited filled engine 0 6 fetched_there 0
  pub placed_there : answer fetched_there ≡ copy_placed (copy 6 0) 0

pub room-examples : RoomExamples
unfolding ℕ_discrete dec_le dec_lt first_below occ_of joined tabulate all_of sum_to after around capped next_phase part sizes_fit first_bad first_twice first_on_cycle tables_answer check_answer below? among? light? good? bad? ends_fit? twice? twice_in? find-twice edge? thru? path? leads? on_cycle? succs_below succ_start succ_starts_of succ_words roots capacity slot_at ends_at store_ends sound empty full head_on tail_on sum_to_z load least_from least search all_steps all_entries numbers_fit all_fit others_fit lengths_fit counters_fit store_words updated written counted carried_out scan fetch_copy fetch_from fetch_rule start_rule complete_copy complete_sink complete_inner complete_last complete_rule advanced find_room release_to release_first release_later release_rule rule_of step_plan step weak_degrees roots_laid cleared begun roots_answer begin_answer begin machine.began machine.memory_after machine.begins jobs.fetches releases
room-examples =
    record {
      full = refl;
      unfixed = refl;
      first = record { full = refl; same_run = refl; not_released = refl; worker = omega arith; fetched = omega arith };
      still_first = refl;
      placed = refl;
      waited = record { full = refl; same_run = refl; not_released = refl; worker = omega arith; fetched = omega arith };
      fixed_to_another = refl;
      idle = refl;
      full_still = refl;
      too_few = (refl, refl);
      still_full = refl;
      there = record { full = refl; same_run = refl; not_released = refl; worker = omega arith; fetched = omega arith };
      placed_there = refl;
    }

-- the plain job's claim, of every copy: "After at most P accepted Fetches of any one worker there is room"
abbrev pub AnyOwner : Type 0
AnyOwner =
    (r : Run) (limits : Limits) (i t : ℕ) (further : List Call) (owner : ℕ) → Waited r limits i t further owner
    → Room r i t further (λ w. w < r.workers)

-- an answer of 11 is none that places a copy, of an idle worker
not-placed : {limits : Limits} {r : Run} {i n d : ℕ} {c : Copy} {With : ℕ → Type 0} → WouldPlace limits r i c With → ◌≡◌ {A = ℕ} (row_in (memory_of r) i).phase 0
    → ¬ (release_answer limits r i ≡ refused n d)
not-placed w free e = let (_, _, placed) = w.idle free in subst Acceptance (sym placed ∙ e) tt

pub not-any-owner : ¬ AnyOwner
not-any-owner claim =
    not-placed (claim filled engine 0 6 fixed_since 1 room-examples.waited engine (engine-kept filled)) room-examples.idle room-examples.full_still
