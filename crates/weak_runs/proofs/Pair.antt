-- Two finished runs of the weak diamond with other P, K and weights, refused calls among them, computed: what demand 3's `two` says of them. And a run
-- with an accepted begin in the middle.
use Prim.Native.Nat.{ℕ}
use mathlib.Core.Path.{◌≡◌, refl, sym, ap, ◌∙◌}
use mathlib.Core.List.{List, [], ◌∷◌, ◌++◌}
use native.Mathlib.Omega.{arith}
use native.Mathlib.Decide.{ℕ_discrete, dec_le, dec_lt}
use lib.ListN.{replicate}
use Rattle.lists.specs.Decided.{first_below}
use Rattle.lists.specs.Lists.{occ_of, place_of, joined, tabulate, all_of}
use Rattle.lists.specs.Sums.{sum_to, sum_to_z, sum_of}
use Rattle.lists.specs.Circles.{after, around}
use Rattle.task.specs.Types.{engine, preview, capped}
use Rattle.task.specs.Phases.{next_phase}
use Rattle.task.specs.Refusals.{Said, refused, accepted, answer_says}
use Rattle.task.specs.declared.Step.{Step}
use Rattle.task.specs.declared.Step.TheVariants.{Fetch, Start, Complete, Release}
use Rattle.weak_task.specs.Types.{Copy, copy}
use Rattle.weak_task.specs.Says.{copy_fetched, copy_placed}
use Rattle.graph.specs.Graph.{part}
use Rattle.graph.specs.Check.{sizes_fit, first_bad, first_twice, first_on_cycle, tables_answer, check_answer}
use Rattle.graph.specs.Decide.{below?, among?, light?, good?, bad?, ends_fit?, twice?, twice_in?, find-twice, edge?, thru?, path?, leads?, on_cycle?}
use Rattle.graph.specs.Successors.{succs_below, succ_start, succ_starts_of, succ_words, roots}
use Rattle.ring.specs.Ring.{capacity, slot_at, ends_at, store_ends, sound, empty, full, head_on, tail_on}
use Rattle.choice.specs.Least.{load, least_from, least}
use Rattle.choice.specs.Search.{search}
use Rattle.exchange.specs.Exchange.{Chain}
use Rattle.exchange.specs.Pairs.{differently, pairs_differing}
use Rattle.copies.specs.Copies.{same_copy, next_copies, is_copy, Before, root_copies, all_copies}
use Rattle.machine.specs.Machine as machine
use Rattle.machine.specs.Standing.{calls_of, standing, kept_in}
use Rattle.memory.specs.Shape.{all_fit}
use Rattle.memory.specs.Updates.{store_words, updated, written}
use Rattle.plans.specs.Sizes.{numbers_fit, others_fit, lengths_fit}
use Rattle.plans.specs.Laying.{roots_laid}
use Rattle.weak_rules.specs.Memory.{Mem, graph_in, all_steps, all_entries}
use Rattle.weak_rules.specs.Words.{counters_fit}
use Rattle.weak_rules.specs.Plans.{counted, carried_out}
use Rattle.weak_rules.specs.Steps.{scan, fetch_copy, fetch_from, fetch_rule, start_rule, complete_copy, complete_sink, complete_inner, complete_last, complete_rule, advanced, find_room, release_to, release_first, release_later, release_rule, rule_of, step_plan, step}
use Rattle.weak_rules.specs.Begin.{weak_degrees, cleared, begun, roots_answer, begin_answer, begin}
use Rattle.weak_rules.proofs.Examples.{lent, begin_says}
use Rattle.views.proofs.Answers.{answers_in}
use Rattle.weak_runs.specs.Calls.{Call, step_call, begin_call, accepted_steps, weak, says, memory_after, Run, memory_of, events_of, view_of}
use Rattle.weak_runs.specs.Demand.{Finished, order_of, OneGraph}
use Rattle.weak_runs.proofs.Calls.{last_begun, steps-alone}
use Rattle.weak_runs.proofs.Demand.{demand-3}

-- the diamond's edges, 0→1, 0→2, 1→3, 2→3, for P workers and K slots, with these weights
abbrev pub diamond_of : ℕ → ℕ → List ℕ → Mem
diamond_of p k weights = lent p k weights (0 ∷ 0 ∷ 1 ∷ 2 ∷ 4 ∷ []) (0 ∷ 0 ∷ 1 ∷ 2 ∷ [])

abbrev pub wide : Mem
wide = diamond_of 3 2 (5 ∷ 1 ∷ 1 ∷ 1 ∷ [])

abbrev pub narrow : Mem
narrow = diamond_of 1 4 (0 ∷ 9 ∷ 0 ∷ 7 ∷ [])

pub begins : (begin_says 3 2 wide ≡ accepted) × (begin_says 1 4 narrow ≡ accepted) × (answer_says (begin preview 3 2 wide).answer ≡ accepted)
unfolding ℕ_discrete dec_le dec_lt first_below occ_of joined tabulate all_of sum_to after around capped next_phase part sizes_fit first_bad first_twice first_on_cycle tables_answer check_answer below? among? light? good? bad? ends_fit? twice? twice_in? find-twice edge? thru? path? leads? on_cycle? succs_below succ_start succ_starts_of succ_words roots capacity slot_at ends_at store_ends sound empty full head_on tail_on sum_to_z load least_from least search all_steps all_entries numbers_fit all_fit others_fit lengths_fit counters_fit store_words updated written counted carried_out scan fetch_copy fetch_from fetch_rule start_rule complete_copy complete_sink complete_inner complete_last complete_rule advanced find_room release_to release_first release_later release_rule rule_of step_plan step weak_degrees roots_laid cleared begun roots_answer begin_answer begin
begins = (refl, refl, refl)

abbrev pub runs_one : ℕ → ℕ → ℕ → List Call
runs_one p k i = step_call engine p k i Fetch ∷ step_call engine p k i Start ∷ step_call engine p k i Complete ∷ []

abbrev pub releases : ℕ → ℕ → ℕ → Call
releases p k i = step_call engine p k i Release

-- Worker 0 runs task 0 and releases a copy of task 1 to itself and one of task 2 to worker 1. This runs it, releases a copy of task 3 to itself and runs
-- that too, before task 1 is run and the other copy of task 3 after it. A begin and a step with another K and a Fetch with nothing waiting are refused.
abbrev pub three_workers : Run
three_workers =
    record {
      limits = engine;
      workers = 3;
      slots = 2;
      lent = wide;
      accepts = begins.0;
      calls =
          runs_one 3 2 0 ++ (begin_call engine 3 4 ∷ releases 3 2 0 ∷ step_call engine 3 5 1 Fetch ∷ releases 3 2 0 ∷ [])
          ++ runs_one 3 2 1 ++ (releases 3 2 1 ∷ []) ++ runs_one 3 2 1
          ++ runs_one 3 2 0 ++ (releases 3 2 0 ∷ []) ++ runs_one 3 2 1 ++ (step_call engine 3 2 2 Fetch ∷ []);
    }

-- the one worker releases what it can before it fetches
abbrev pub one_worker : Run
one_worker =
    record {
      limits = engine;
      workers = 1;
      slots = 4;
      lent = narrow;
      accepts = begins.1;
      calls =
          runs_one 1 4 0 ++ (releases 1 4 0 ∷ releases 1 4 0 ∷ []) ++ runs_one 1 4 0 ++ (releases 1 4 0 ∷ []) ++ runs_one 1 4 0 ++ (releases 1 4 0 ∷ [])
          ++ runs_one 1 4 0 ++ runs_one 1 4 0;
    }

-- what the first run's calls are answered, the latest first
abbrev pub its_answers : List Said
its_answers =
    refused 10 0 ∷ accepted ∷ accepted ∷ copy_fetched (copy 3 1) ∷ copy_placed (copy 3 1) 1 ∷ accepted ∷ accepted ∷ copy_fetched (copy 1 0)
    ∷ accepted ∷ accepted ∷ copy_fetched (copy 3 2) ∷ copy_placed (copy 3 2) 1 ∷ accepted ∷ accepted ∷ copy_fetched (copy 2 0)
    ∷ copy_placed (copy 2 0) 1 ∷ refused 1 0 ∷ copy_placed (copy 1 0) 0 ∷ refused 1 0 ∷ accepted ∷ accepted ∷ copy_fetched (copy 0 65535) ∷ []

-- "A seam can be corrected with each finished neighbour alone": task 3 with task 2, before task 1 is run
abbrev pub seam_first : List Copy
seam_first = copy 0 65535 ∷ copy 2 0 ∷ copy 3 2 ∷ copy 1 0 ∷ copy 3 1 ∷ []

abbrev pub rising : List Copy
rising = copy 0 65535 ∷ copy 1 0 ∷ copy 2 0 ∷ copy 3 1 ∷ copy 3 2 ∷ []

pub record Pair : Type 0 where
  pub finished : Finished (view_of three_workers) × Finished (view_of one_worker)
  pub agree : OneGraph (view_of three_workers) (view_of one_worker)
  -- 19 accepted steps, and the three calls that were refused
  pub answers : answers_in (events_of three_workers) ≡ its_answers
  pub answers_alone : answers_in (events_of one_worker)
      ≡ accepted ∷ accepted ∷ copy_fetched (copy 3 2) ∷ accepted ∷ accepted ∷ copy_fetched (copy 3 1) ∷ copy_placed (copy 3 2) 0
      ∷ accepted ∷ accepted ∷ copy_fetched (copy 2 0) ∷ copy_placed (copy 3 1) 0 ∷ accepted ∷ accepted ∷ copy_fetched (copy 1 0)
      ∷ copy_placed (copy 2 0) 0 ∷ copy_placed (copy 1 0) 0 ∷ accepted ∷ accepted ∷ copy_fetched (copy 0 65535) ∷ []
  -- "4E + 3R accepted steps", "E + R copies used", and R
  pub steps : (accepted_steps (events_of three_workers) ≡ 19) × (accepted_steps (events_of one_worker) ≡ 19)
  pub counted : ((memory_of three_workers).run ≡ 5 ∷ 19 ∷ 1 ∷ []) × ((memory_of one_worker).run ≡ 5 ∷ 19 ∷ 1 ∷ [])
  pub recorded : (memory_of three_workers).executed ≡ 0 ∷ 65535 ∷ 0 ∷ 2 ∷ 0 ∷ 1 ∷ 3 ∷ 2 ∷ 1 ∷ 1 ∷ 0 ∷ 0 ∷ 3 ∷ 1 ∷ 1 ∷ replicate 9 0
  pub recorded_alone : (memory_of one_worker).executed ≡ 0 ∷ 65535 ∷ 0 ∷ 1 ∷ 0 ∷ 0 ∷ 2 ∷ 0 ∷ 0 ∷ 3 ∷ 1 ∷ 0 ∷ 3 ∷ 2 ∷ 0 ∷ replicate 9 0
  pub orders : (order_of (view_of three_workers) ≡ seam_first) × (order_of (view_of one_worker) ≡ rising)
  -- (1, 0) with (2, 0) and with (3, 2), and the two copies of task 3: "copies of one task may pass each other"
  pub differing : pairs_differing same_copy (all_copies (graph_in wide)) seam_first rising ≡ 3

pub pair : Pair
unfolding ℕ_discrete dec_le dec_lt first_below occ_of joined tabulate all_of sum_to after around capped next_phase part sizes_fit first_bad first_twice first_on_cycle tables_answer check_answer below? among? light? good? bad? ends_fit? twice? twice_in? find-twice edge? thru? path? leads? on_cycle? succs_below succ_start succ_starts_of succ_words roots capacity slot_at ends_at store_ends sound empty full head_on tail_on sum_to_z load least_from least search all_steps all_entries numbers_fit all_fit others_fit lengths_fit counters_fit store_words updated written counted carried_out scan fetch_copy fetch_from fetch_rule start_rule complete_copy complete_sink complete_inner complete_last complete_rule advanced find_room release_to release_first release_later release_rule rule_of step_plan step weak_degrees roots_laid cleared begun roots_answer begin_answer begin machine.began machine.memory_after machine.recalled machine.events_after machine.accepted_of order_of place_of sum_of same_copy next_copies root_copies all_copies differently pairs_differing answers_in
pair =
    record {
      finished = (record { completes = omega arith }, record { completes = omega arith });
      agree = record { same_tasks = refl; same_edges = λ u t. (λ e. e, λ e. e) };
      answers = refl;
      answers_alone = refl;
      steps = (refl, refl);
      counted = (refl, refl);
      recorded = refl;
      recorded_alone = refl;
      orders = (refl, refl);
      differing = refl;
    }

-- three exchanges of neighbours that the graph doesn't order lead from one record's order to the other's, every list on the way being allowed
pub three-exchanges : Chain same_copy (is_copy (graph_in wide)) (Before (graph_in wide)) seam_first rising 3
three-exchanges =
    as-computed pair.orders.0 pair.orders.1 pair.differing
    (demand-3.two three_workers one_worker pair.agree pair.finished.0 pair.finished.1).chain
  where
    as-computed : {a b k l : List Copy} {n : ℕ} → a ≡ k → b ≡ l → pairs_differing same_copy (all_copies (graph_in wide)) k l ≡ n
        → Chain same_copy (is_copy (graph_in wide)) (Before (graph_in wide)) a b (pairs_differing same_copy (all_copies (graph_in wide)) a b)
        → Chain same_copy (is_copy (graph_in wide)) (Before (graph_in wide)) k l n
    as-computed e q d c = rw (← d, ← e, ← q) c

-- A run begun with the preview's limits that has run task 0 and taken on a copy of task 1, begun again with the engine's, and then called as the first
-- one was.
abbrev pub by_preview : ℕ → Step → Call
by_preview = step_call preview 3 2

abbrev pub earlier : List Call
earlier = by_preview 0 Fetch ∷ by_preview 0 Start ∷ by_preview 0 Complete ∷ by_preview 0 Release ∷ by_preview 0 Fetch ∷ []

abbrev pub begun_again : Run
begun_again =
    record {
      limits = preview;
      workers = 3;
      slots = 2;
      lent = wide;
      accepts = begins.2;
      calls = earlier ++ (begin_call engine 3 2 ∷ three_workers.calls);
    }

-- the first run's accepted steps
abbrev pub its_steps : List Call
its_steps =
    runs_one 3 2 0 ++ (releases 3 2 0 ∷ releases 3 2 0 ∷ []) ++ runs_one 3 2 1 ++ (releases 3 2 1 ∷ []) ++ runs_one 3 2 1 ++ runs_one 3 2 0
    ++ (releases 3 2 0 ∷ []) ++ runs_one 3 2 1

pub record Again : Type 0 where
  -- with five accepted steps and one copy recorded, the second begin is accepted
  pub five_steps : (memory_after earlier (begin preview 3 2 wide).memory).run ≡ 1 ∷ 5 ∷ 1 ∷ []
  pub begun_then : says (begin_call engine 3 2) (memory_after earlier (begin preview 3 2 wide).memory) ≡ accepted
  -- it leaves what a begin on the memory first lent leaves, and no refused one changes that
  pub as_lent : (last_begun begun_again ≡ (begin engine 3 2 wide).memory) × (last_begun three_workers ≡ (begin engine 3 2 wide).memory)
  -- the events are the calls since it, answered as in the run that it alone begins
  pub since : calls_of (events_of begun_again) ≡ three_workers.calls
  pub answers : answers_in (events_of begun_again) ≡ its_answers
  -- what stands of them are the 19 accepted steps
  pub kept : (calls_of (kept_in weak (events_of begun_again)) ≡ its_steps) × (calls_of (kept_in weak (events_of three_workers)) ≡ its_steps)
  pub stands : answers_in (standing weak (events_of begun_again))
      ≡ accepted ∷ accepted ∷ copy_fetched (copy 3 1) ∷ copy_placed (copy 3 1) 1 ∷ accepted ∷ accepted ∷ copy_fetched (copy 1 0)
      ∷ accepted ∷ accepted ∷ copy_fetched (copy 3 2) ∷ copy_placed (copy 3 2) 1 ∷ accepted ∷ accepted ∷ copy_fetched (copy 2 0)
      ∷ copy_placed (copy 2 0) 1 ∷ copy_placed (copy 1 0) 0 ∷ accepted ∷ accepted ∷ copy_fetched (copy 0 65535) ∷ []

pub again : Again
unfolding ℕ_discrete dec_le dec_lt first_below occ_of joined tabulate all_of sum_to after around capped next_phase part sizes_fit first_bad first_twice first_on_cycle tables_answer check_answer below? among? light? good? bad? ends_fit? twice? twice_in? find-twice edge? thru? path? leads? on_cycle? succs_below succ_start succ_starts_of succ_words roots capacity slot_at ends_at store_ends sound empty full head_on tail_on sum_to_z load least_from least search all_steps all_entries numbers_fit all_fit others_fit lengths_fit counters_fit store_words updated written counted carried_out scan fetch_copy fetch_from fetch_rule start_rule complete_copy complete_sink complete_inner complete_last complete_rule advanced find_room release_to release_first release_later release_rule rule_of step_plan step weak_degrees roots_laid cleared begun roots_answer begin_answer begin machine.began machine.memory_after machine.recalled machine.events_after machine.accepted_of answers_in machine.begun_in calls_of kept_in standing
again = record { five_steps = refl; begun_then = refl; as_lent = (refl, refl); since = refl; answers = refl; kept = (refl, refl); stands = refl }

-- so its memory is that after the second begin and the 19 steps alone
from-steps : (r : Run) → calls_of (kept_in weak (events_of r)) ≡ its_steps → last_begun r ≡ (begin engine 3 2 wide).memory
    → memory_of r ≡ memory_after its_steps (begin engine 3 2 wide).memory
from-steps r k b = (steps-alone r).0 ∙ ap (λ (cs : List Call). memory_after cs (last_begun r)) k ∙ ap (memory_after its_steps) b

pub begun-alone : memory_of begun_again ≡ memory_after its_steps (begin engine 3 2 wide).memory
begun-alone = from-steps begun_again again.kept.0 again.as_lent.0

-- and so is the first run's: every word is the same
pub same-words : memory_of begun_again ≡ memory_of three_workers
same-words = begun-alone ∙ sym (from-steps three_workers again.kept.1 again.as_lent.1)
