-- How long 11 lasts, computed: P 2, K 2, roots 0 and 1, edges 1→2 to 1→7, all weights 0. Worker 1's first four Releases fill both rings that it fills, and
-- its fifth is refused with 11 and task 6. One accepted Fetch of worker 0 is not enough, P of them are, and so are P of worker 1 itself. Once a Release by
-- worker 1 is accepted, the rings may be full again.
use Prim.Native.Nat.{ℕ, ◌-◌, ◌≤◌, ◌<◌}
use mathlib.Core.Path.{◌≡◌, refl, sym, subst, ◌∙◌}
use native.Mathlib.Omega.{arith}
use mathlib.Core.List.{List, [], ◌∷◌, ◌++◌}
use native.Mathlib.Decide.{ℕ_discrete, dec_le, dec_lt}
use Rattle.lists.specs.Decided.{first_below}
use Rattle.lists.specs.Lists.{occ_of, place_of, joined, tabulate, all_of}
use Rattle.lists.specs.Sums.{sum_to, sum_to_z}
use Rattle.lists.specs.Circles.{after, around}
use Rattle.task.specs.Types.{engine, capped}
use Rattle.task.specs.Phases.{next_phase}
use Rattle.task.specs.Refusals.{Said, refused, accepted, task_placed, rings_full}
use Rattle.task.specs.Rows.{Acceptance}
use Rattle.task.specs.declared.Limits.{Limits}
use Rattle.task.specs.declared.Step.{Step}
use Rattle.task.specs.declared.Step.TheVariants.{Fetch, Start, Complete, Release}
use Rattle.graph.specs.Graph.{part}
use Rattle.graph.specs.Check.{sizes_fit, first_bad, first_twice, first_on_cycle, tables_answer, check_answer}
use Rattle.graph.specs.Decide.{below?, among?, light?, good?, bad?, ends_fit?, twice?, twice_in?, find-twice, edge?, thru?, path?, leads?, on_cycle?}
use Rattle.graph.specs.Successors.{succs_below, succ_start, succ_starts_of, succ_words, degree_list, roots}
use Rattle.ring.specs.Ring.{capacity, slot_at, ends_at, store_ends, sound, empty, full, head_on, tail_on}
use Rattle.choice.specs.Least.{load, least_from, least}
use Rattle.choice.specs.Search.{search}
use Rattle.machine.specs.Machine as machine
use Rattle.rules.specs.Memory.{Mem, row_in, all_steps, all_entries}
use Rattle.rules.specs.Sizes.{numbers_fit, others_fit, lengths_fit}
use Rattle.rules.specs.Words.{counters_fit}
use Rattle.memory.specs.Updates.{store_words, updated, written}
use Rattle.memory.specs.Shape.{all_fit}
use Rattle.rules.specs.Plans.{counted, carried_out}
use Rattle.rules.specs.Steps.{scan, fetch_task, fetch_from, fetch_rule, start_rule, complete_sink, complete_inner, complete_rule, advanced, find_room, release_to, release_ready, release_waiting, release_rule, rule_of, step_plan, step}
use Rattle.rules.specs.Begin.{cleared, roots_laid, begun, roots_answer, begin_answer, begin}
use Rattle.rules.proofs.Examples.{lent, begin_says}
use Rattle.runs.specs.Calls.{Call, step_call, plain, begins, Run, KeptBy, memory_of, view_of, longer}
use Rattle.machine.specs.Fetches as jobs
use Rattle.runs.specs.Fairness.{fetches}
use Rattle.runs.specs.RoomSoon.{releases, release_answer, WouldPlace}
use Rattle.runs.proofs.Calls.{engine-kept}
use Rattle.runs.proofs.RoomSoon.{room-soon}

abbrev pub wide : Mem
wide = lent 2 2 (0 ∷ 0 ∷ 0 ∷ 0 ∷ 0 ∷ 0 ∷ 0 ∷ 0 ∷ []) (0 ∷ 0 ∷ 0 ∷ 1 ∷ 2 ∷ 3 ∷ 4 ∷ 5 ∷ 6 ∷ []) (1 ∷ 1 ∷ 1 ∷ 1 ∷ 1 ∷ 1 ∷ [])

pub wide-begins : begin_says 2 2 wide ≡ accepted
unfolding ℕ_discrete dec_le dec_lt first_below occ_of place_of joined tabulate all_of sum_to after around capped next_phase part sizes_fit first_bad first_twice first_on_cycle tables_answer check_answer below? among? light? good? bad? ends_fit? twice? twice_in? find-twice edge? thru? path? leads? on_cycle? succs_below succ_start succ_starts_of succ_words degree_list roots capacity slot_at ends_at store_ends sound empty full head_on tail_on sum_to_z load least_from least search all_steps all_entries numbers_fit all_fit others_fit lengths_fit counters_fit store_words updated written counted carried_out scan fetch_task fetch_from fetch_rule start_rule complete_sink complete_inner complete_rule advanced find_room release_to release_ready release_waiting release_rule rule_of step_plan step cleared roots_laid begun roots_answer begin_answer begin
wide-begins = refl

abbrev pub by : ℕ → Step → Call
by = step_call engine 2 2

-- worker 1 runs task 1 and releases tasks 2 to 5
abbrev pub filled : Run
filled =
    record {
      limits = engine;
      workers = 2;
      slots = 2;
      lent = wide;
      accepts = wide-begins;
      calls = by 1 Fetch ∷ by 1 Start ∷ by 1 Complete ∷ by 1 Release ∷ by 1 Release ∷ by 1 Release ∷ by 1 Release ∷ [];
    }

-- worker 0 takes task 0, which stands in a ring that it fills itself
abbrev once_more : List Call
once_more = by 0 Fetch ∷ []

-- and then task 2
abbrev twice_more : List Call
twice_more = by 0 Fetch ∷ by 1 Release ∷ by 0 Start ∷ by 0 Complete ∷ by 0 Fetch ∷ []

-- worker 1 takes tasks 4 and 5, and has the second in hand
abbrev itself : List Call
itself = by 1 Fetch ∷ by 1 Start ∷ by 1 Complete ∷ by 1 Fetch ∷ []

-- worker 1's Release is accepted
abbrev released : List Call
released = by 0 Fetch ∷ by 0 Start ∷ by 0 Complete ∷ by 0 Fetch ∷ by 1 Release ∷ []

abbrev answer : List Call → Said
answer further = release_answer engine (longer filled further) 1

pub record RoomExamples : Type 0 where
  pub full : release_answer engine filled 1 ≡ refused rings_full 6
  -- P − 1 accepted Fetches
  pub too_few : (fetches 0 once_more (memory_of filled) ≡ 1) × (begins once_more (memory_of filled) ≡ 0) × (releases plain 1 once_more (memory_of filled) ≡ 0)
  pub still_full : answer once_more ≡ refused rings_full 6
  -- P of them, a refused Release among them
  pub enough : (fetches 0 twice_more (memory_of filled) ≡ 2) × (begins twice_more (memory_of filled) ≡ 0) × (releases plain 1 twice_more (memory_of filled) ≡ 0)
  pub placed : answer twice_more ≡ task_placed 6 0
  -- P of the refused worker's own: it has to complete first
  pub own : (fetches 1 itself (memory_of filled) ≡ 2) × (begins itself (memory_of filled) ≡ 0) × (releases plain 1 itself (memory_of filled) ≡ 0)
  pub busy : answer itself ≡ refused 9 1
  pub idle : answer (itself ++ (by 1 Start ∷ by 1 Complete ∷ [])) ≡ task_placed 6 1
  -- P of them, and an accepted Release: task 6 has its place, and task 7 finds the rings full
  pub again : (fetches 0 released (memory_of filled) ≡ 2) × (begins released (memory_of filled) ≡ 0) × (releases plain 1 released (memory_of filled) ≡ 1)
  pub full_again : answer released ≡ refused rings_full 7

pub room-examples : RoomExamples
unfolding ℕ_discrete dec_le dec_lt first_below occ_of place_of joined tabulate all_of sum_to after around capped next_phase part sizes_fit first_bad first_twice first_on_cycle tables_answer check_answer below? among? light? good? bad? ends_fit? twice? twice_in? find-twice edge? thru? path? leads? on_cycle? succs_below succ_start succ_starts_of succ_words degree_list roots capacity slot_at ends_at store_ends sound empty full head_on tail_on sum_to_z load least_from least search all_steps all_entries numbers_fit all_fit others_fit lengths_fit counters_fit store_words updated written counted carried_out scan fetch_task fetch_from fetch_rule start_rule complete_sink complete_inner complete_rule advanced find_room release_to release_ready release_waiting release_rule rule_of step_plan step cleared roots_laid begun roots_answer begin_answer begin machine.began machine.memory_after machine.begins jobs.fetches releases
room-examples =
    record {
      full = refl;
      too_few = (refl, refl, refl);
      still_full = refl;
      enough = (refl, refl, refl);
      placed = refl;
      own = (refl, refl, refl);
      busy = refl;
      idle = refl;
      again = (refl, refl, refl);
      full_again = refl;
    }

-- The promise's claim, of any bound on the Fetches and any number of Releases by the refused worker.
abbrev pub Claim : (ℕ → ℕ) → (ℕ → Type 0) → Type 0
Claim bound Released =
    (r : Run) (limits : Limits) (i t : ℕ) → release_answer limits r i ≡ refused rings_full t
    → (further : List Call) → ◌≡◌ {A = ℕ} (begins further (memory_of r)) 0 → Released (releases plain i further (memory_of r))
    → (owner : ℕ) → owner < r.workers → bound r.workers ≤ fetches owner further (memory_of r)
    → (limits' : Limits) → KeptBy limits' (view_of r) → WouldPlace limits' (longer r further) i t

-- it is the promise's for P Fetches and no Release
pub claimed : Claim (λ p. p) (λ n. n ≡ 0)
claimed = room-soon.soon

-- an answer of 11 is none that places a task, of an idle worker
not-placed : {limits : Limits} {r : Run} {i t n d : ℕ} → WouldPlace limits r i t → ◌≡◌ {A = ℕ} (row_in (memory_of r) i).phase 0
    → ¬ (release_answer limits r i ≡ refused n d)
not-placed w free e = let (_, _, placed) = w.idle free in subst Acceptance (sym placed ∙ e) tt

idle-still : (◌≡◌ {A = ℕ} (row_in (memory_of (longer filled once_more)) 1).phase 0) × (◌≡◌ {A = ℕ} (row_in (memory_of (longer filled released)) 1).phase 0)
unfolding ℕ_discrete dec_le dec_lt first_below occ_of place_of joined tabulate all_of sum_to after around capped next_phase part sizes_fit first_bad first_twice first_on_cycle tables_answer check_answer below? among? light? good? bad? ends_fit? twice? twice_in? find-twice edge? thru? path? leads? on_cycle? succs_below succ_start succ_starts_of succ_words degree_list roots capacity slot_at ends_at store_ends sound empty full head_on tail_on sum_to_z load least_from least search all_steps all_entries numbers_fit all_fit others_fit lengths_fit counters_fit store_words updated written counted carried_out scan fetch_task fetch_from fetch_rule start_rule complete_sink complete_inner complete_rule advanced find_room release_to release_ready release_waiting release_rule rule_of step_plan step cleared roots_laid begun roots_answer begin_answer begin machine.began machine.memory_after machine.begins jobs.fetches releases
idle-still = (refl, refl)

-- it fails for P − 1 Fetches
pub one-fetch-too-few : ¬ (Claim (λ p. p - 1) (λ n. n ≡ 0))
one-fetch-too-few claim =
    not-placed
    (claim filled engine 1 6 room-examples.full once_more room-examples.too_few.1 room-examples.too_few.2 0 (omega arith)
    (omega (arith, room-examples.too_few.0)) engine (engine-kept filled))
    idle-still.0 room-examples.still_full

-- and where a Release by the worker may be accepted meanwhile
pub released-meanwhile : ¬ (Claim (λ p. p) (λ n. n ≤ 1))
released-meanwhile claim =
    not-placed
    (claim filled engine 1 6 room-examples.full released room-examples.again.1 (omega (arith, room-examples.again.2)) 0 (omega arith)
    (omega (arith, room-examples.again.0)) engine (engine-kept filled))
    idle-still.1 room-examples.full_again
