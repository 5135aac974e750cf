-- Two finished runs of one graph with other P, K and weights, refused calls among them, computed: what demand 3's `two` says of them. And two runs
-- with calls of both limits, one that keeps the preview's and one that doesn't.
use Prim.Native.Nat.{ℕ}
use mathlib.Core.Path.{◌≡◌, refl}
use mathlib.Core.List.{List, [], ◌∷◌, ◌++◌}
use native.Mathlib.Omega.{arith}
use native.Mathlib.Decide.{ℕ_discrete, dec_le, dec_lt}
use Rattle.lists.specs.Decided.{first_below}
use Rattle.lists.specs.Lists.{occ_of, place_of, joined, tabulate, all_of}
use Rattle.lists.specs.Sums.{sum_to, sum_to_z, sum_of}
use Rattle.lists.specs.Circles.{after, around}
use Rattle.task.specs.Types.{engine, preview, capped}
use Rattle.task.specs.Phases.{next_phase}
use Rattle.task.specs.Refusals.{refused, accepted, task_fetched, task_placed, answer_says}
use Rattle.task.specs.declared.Step.{Step}
use Rattle.task.specs.declared.Step.TheVariants.{Fetch, Start, Complete, Release}
use Rattle.graph.specs.Graph.{part, Edge}
use Rattle.graph.specs.Check.{sizes_fit, first_bad, first_twice, first_on_cycle, tables_answer, check_answer}
use Rattle.graph.specs.Decide.{below?, among?, light?, good?, bad?, ends_fit?, twice?, twice_in?, find-twice, edge?, thru?, path?, leads?, on_cycle?}
use Rattle.graph.specs.Successors.{succs_below, succ_start, succ_starts_of, succ_words, degree_list, roots}
use Rattle.ring.specs.Ring.{capacity, slot_at, ends_at, store_ends, sound, empty, full, head_on, tail_on}
use Rattle.choice.specs.Least.{load, least_from, least}
use Rattle.choice.specs.Search.{search}
use Rattle.exchange.specs.Exchange.{Chain}
use Rattle.exchange.specs.Pairs.{differently, pairs_differing, each_once}
use Rattle.machine.specs.Machine as machine
use Rattle.machine.specs.Standing.{standing}
use Rattle.rules.specs.Memory.{Mem, graph_in, all_steps, all_entries}
use Rattle.rules.specs.Sizes.{numbers_fit, others_fit, lengths_fit}
use Rattle.rules.specs.Words.{counters_fit}
use Rattle.memory.specs.Updates.{store_words, updated, written}
use Rattle.memory.specs.Shape.{all_fit}
use Rattle.rules.specs.Plans.{counted, carried_out}
use Rattle.rules.specs.Steps.{scan, fetch_task, fetch_from, fetch_rule, start_rule, complete_sink, complete_inner, complete_rule, advanced, find_room, release_to, release_ready, release_waiting, release_rule, rule_of, step_plan, step}
use Rattle.rules.specs.Begin.{cleared, roots_laid, begun, roots_answer, begin_answer, begin}
use Rattle.rules.proofs.Examples.{lent, begin_says}
use Rattle.views.proofs.Answers.{answers_in}
use Rattle.runs.specs.Calls.{Call, step_call, begin_call, says, leaves, plain, begun_memory, Run, memory_of, events_of, view_of}
use Rattle.runs.specs.Demand.{accepted_of, accepted_steps, Finished, order_of, OneGraph}
use Rattle.runs.proofs.Demand.{demand-3}

-- edges 0→1, 0→2, 0→3, for P workers and K slots, with these weights
abbrev pub star : ℕ → ℕ → List ℕ → Mem
star p k weights = lent p k weights (0 ∷ 0 ∷ 1 ∷ 2 ∷ 3 ∷ []) (0 ∷ 0 ∷ 0 ∷ [])

abbrev pub wide : Mem
wide = star 3 2 (5 ∷ 1 ∷ 1 ∷ 1 ∷ [])

abbrev pub five : Mem
five = star 5 2 (5 ∷ 1 ∷ 1 ∷ 1 ∷ [])

abbrev pub narrow : Mem
narrow = star 1 4 (0 ∷ 9 ∷ 0 ∷ 7 ∷ [])

pub begins : (begin_says 3 2 wide ≡ accepted) × (begin_says 1 4 narrow ≡ accepted) × (answer_says (begin preview 3 2 wide).answer ≡ accepted)
    × (begin_says 5 2 five ≡ accepted)
unfolding ℕ_discrete dec_le dec_lt first_below occ_of place_of joined tabulate all_of sum_to after around capped next_phase part sizes_fit first_bad first_twice first_on_cycle tables_answer check_answer below? among? light? good? bad? ends_fit? twice? twice_in? find-twice edge? thru? path? leads? on_cycle? succs_below succ_start succ_starts_of succ_words degree_list roots capacity slot_at ends_at store_ends sound empty full head_on tail_on sum_to_z load least_from least search all_steps all_entries numbers_fit all_fit others_fit lengths_fit counters_fit store_words updated written counted carried_out scan fetch_task fetch_from fetch_rule start_rule complete_sink complete_inner complete_rule advanced find_room release_to release_ready release_waiting release_rule rule_of step_plan step cleared roots_laid begun roots_answer begin_answer begin
begins = (refl, refl, refl, refl)

abbrev pub runs_one : ℕ → ℕ → ℕ → List Call
runs_one p k i = step_call engine p k i Fetch ∷ step_call engine p k i Start ∷ step_call engine p k i Complete ∷ []

-- Worker 0 runs task 0 and releases the others, one to each worker, and these take theirs in falling order. A begin and a step with another K and a
-- Fetch too many are refused.
abbrev pub three_workers : Run
three_workers =
    record {
      limits = engine;
      workers = 3;
      slots = 2;
      lent = wide;
      accepts = begins.0;
      calls =
          runs_one 3 2 0 ++ (begin_call engine 3 4 ∷ step_call engine 3 2 0 Release ∷ step_call engine 3 2 0 Release ∷ step_call engine 3 5 1 Fetch ∷ step_call engine 3 2 0 Release ∷ [])
          ++ runs_one 3 2 2 ++ runs_one 3 2 1 ++ runs_one 3 2 0 ++ (step_call engine 3 2 1 Fetch ∷ []);
    }

-- the one worker releases them all, and takes them in rising order
abbrev pub one_worker : Run
one_worker =
    record {
      limits = engine;
      workers = 1;
      slots = 4;
      lent = narrow;
      accepts = begins.1;
      calls =
          runs_one 1 4 0 ++ (step_call engine 1 4 0 Release ∷ step_call engine 1 4 0 Release ∷ step_call engine 1 4 0 Release ∷ []) ++ runs_one 1 4 0 ++ runs_one 1 4 0
          ++ runs_one 1 4 0;
    }

record Pair : Type 0 where
  finished : Finished (view_of three_workers) × Finished (view_of one_worker)
  agree : OneGraph (view_of three_workers) (view_of one_worker)
  -- 15 accepted steps, and the three calls that were refused
  answers : answers_in (events_of three_workers)
      ≡ refused 10 0 ∷ accepted ∷ accepted ∷ task_fetched 1 ∷ accepted ∷ accepted ∷ task_fetched 2 ∷ accepted ∷ accepted ∷ task_fetched 3
      ∷ task_placed 3 2 ∷ refused 1 0 ∷ task_placed 2 1 ∷ task_placed 1 0 ∷ refused 1 0 ∷ accepted ∷ accepted ∷ task_fetched 0 ∷ []
  steps : (accepted_steps (events_of three_workers) ≡ 15) × (accepted_steps (events_of one_worker) ≡ 15)
  orders : (order_of (view_of three_workers) ≡ 0 ∷ 3 ∷ 2 ∷ 1 ∷ []) × (order_of (view_of one_worker) ≡ 0 ∷ 1 ∷ 2 ∷ 3 ∷ [])
  -- 3 before 2, 3 before 1, 2 before 1
  differing : pairs_differing ℕ_discrete (all_of 4) (0 ∷ 3 ∷ 2 ∷ 1 ∷ []) (0 ∷ 1 ∷ 2 ∷ 3 ∷ []) ≡ 3

pair : Pair
unfolding ℕ_discrete dec_le dec_lt first_below occ_of place_of joined tabulate all_of sum_to sum_of after around capped next_phase part sizes_fit first_bad first_twice first_on_cycle tables_answer check_answer below? among? light? good? bad? ends_fit? twice? twice_in? find-twice edge? thru? path? leads? on_cycle? succs_below succ_start succ_starts_of succ_words degree_list roots capacity slot_at ends_at store_ends sound empty full head_on tail_on sum_to_z load least_from least search all_steps all_entries numbers_fit all_fit others_fit lengths_fit counters_fit store_words updated written counted carried_out scan fetch_task fetch_from fetch_rule start_rule complete_sink complete_inner complete_rule advanced find_room release_to release_ready release_waiting release_rule rule_of step_plan step cleared roots_laid begun roots_answer begin_answer begin machine.began machine.memory_after machine.recalled machine.events_after accepted_of order_of answers_in differently pairs_differing
pair =
    record {
      finished = (record { completes = omega arith }, record { completes = omega arith });
      agree = record { same_tasks = refl; same_edges = λ u t. (λ e. e, λ e. e) };
      answers = refl;
      steps = (refl, refl);
      orders = (refl, refl);
      differing = refl;
    }

-- three exchanges of neighbours that the graph doesn't order lead from one record's order to the other's, every list on the way being allowed
pub three-exchanges : Chain ℕ_discrete (each_once 4) (Edge (graph_in wide)) (0 ∷ 3 ∷ 2 ∷ 1 ∷ []) (0 ∷ 1 ∷ 2 ∷ 3 ∷ []) 3
three-exchanges =
    as-computed pair.orders.0 pair.orders.1 pair.differing
    (demand-3.two three_workers one_worker pair.agree pair.finished.0 pair.finished.1).chain
  where
    as-computed : {a b k l : List ℕ} {n : ℕ} → a ≡ k → b ≡ l → pairs_differing ℕ_discrete (all_of 4) k l ≡ n
        → Chain ℕ_discrete (each_once 4) (Edge (graph_in wide)) a b (pairs_differing ℕ_discrete (all_of 4) a b)
        → Chain ℕ_discrete (each_once 4) (Edge (graph_in wide)) k l n
    as-computed e q d c = rw (← d, ← e, ← q) c

-- A run begun by the preview, begun again by the engine, and stepped by the engine and the preview in turn, else as the first one is.
abbrev by_engine : ℕ → Step → Call
by_engine = step_call engine 3 2

abbrev pub by_preview : ℕ → Step → Call
by_preview = step_call preview 3 2

abbrev pub mixed : Run
mixed =
    record {
      limits = preview;
      workers = 3;
      slots = 2;
      lent = wide;
      accepts = begins.2;
      calls =
          by_preview 0 Fetch ∷ begin_call engine 3 2
          ∷ by_engine 0 Fetch ∷ by_preview 0 Start ∷ by_engine 0 Complete
          -- K 9 and P 5 are beyond the preview's limits, and within the engine's they don't fit the lists
          ∷ step_call preview 3 9 0 Release ∷ step_call engine 3 9 0 Release ∷ step_call preview 5 2 0 Release ∷ step_call engine 5 2 0 Release
          ∷ begin_call preview 3 9 ∷ begin_call engine 5 2
          ∷ by_preview 0 Release ∷ by_engine 0 Release ∷ by_preview 0 Release
          ∷ by_engine 2 Fetch ∷ by_preview 2 Start ∷ by_engine 2 Complete
          ∷ by_preview 1 Fetch ∷ by_engine 1 Start ∷ by_preview 1 Complete
          ∷ by_engine 0 Fetch ∷ by_preview 0 Start ∷ by_engine 0 Complete
          ∷ by_preview 1 Fetch ∷ by_engine 1 Start ∷ [];
    }

pub record Mixed : Type 0 where
  pub finished : Finished (view_of mixed)
  -- the second begin is accepted, and the events are those since it
  pub begun_again : says (begin_call engine 3 2) (leaves (by_preview 0 Fetch) (begun_memory preview 3 2 wide)) ≡ accepted
  -- 15 accepted steps, six calls with other numbers, and on the finished run a Fetch by the preview, 10, and a Start by the engine, 9
  pub answers : answers_in (events_of mixed)
      ≡ refused 9 0 ∷ refused 10 0 ∷ accepted ∷ accepted ∷ task_fetched 1 ∷ accepted ∷ accepted ∷ task_fetched 2 ∷ accepted ∷ accepted ∷ task_fetched 3
      ∷ task_placed 3 2 ∷ task_placed 2 1 ∷ task_placed 1 0 ∷ refused 1 0 ∷ refused 2 0 ∷ refused 1 0 ∷ refused 2 0 ∷ refused 1 0 ∷ refused 2 0
      ∷ accepted ∷ accepted ∷ task_fetched 0 ∷ []
  pub order : order_of (view_of mixed) ≡ 0 ∷ 3 ∷ 2 ∷ 1 ∷ []
  pub recorded : (memory_of mixed).executed ≡ 0 ∷ 0 ∷ 3 ∷ 2 ∷ 2 ∷ 1 ∷ 1 ∷ 0 ∷ []
  pub counted : (memory_of mixed).run ≡ 4 ∷ 15 ∷ []

pub mixed-run : Mixed
unfolding ℕ_discrete dec_le dec_lt first_below occ_of place_of joined tabulate all_of sum_to after around capped next_phase part sizes_fit first_bad first_twice first_on_cycle tables_answer check_answer below? among? light? good? bad? ends_fit? twice? twice_in? find-twice edge? thru? path? leads? on_cycle? succs_below succ_start succ_starts_of succ_words degree_list roots capacity slot_at ends_at store_ends sound empty full head_on tail_on sum_to_z load least_from least search all_steps all_entries numbers_fit all_fit others_fit lengths_fit counters_fit store_words updated written counted carried_out scan fetch_task fetch_from fetch_rule start_rule complete_sink complete_inner complete_rule advanced find_room release_to release_ready release_waiting release_rule rule_of step_plan step cleared roots_laid begun roots_answer begin_answer begin machine.began machine.memory_after machine.recalled machine.events_after accepted_of order_of answers_in
mixed-run = record { finished = record { completes = omega arith }; begun_again = refl; answers = refl; order = refl; recorded = refl; counted = refl }

-- What stands of its calls are the 15 accepted steps since the second begin.
pub mixed-stands : answers_in (standing plain (events_of mixed))
    ≡ accepted ∷ accepted ∷ task_fetched 1 ∷ accepted ∷ accepted ∷ task_fetched 2 ∷ accepted ∷ accepted ∷ task_fetched 3
    ∷ task_placed 3 2 ∷ task_placed 2 1 ∷ task_placed 1 0 ∷ accepted ∷ accepted ∷ task_fetched 0 ∷ []
unfolding ℕ_discrete dec_le dec_lt first_below occ_of place_of joined tabulate all_of sum_to after around capped next_phase part sizes_fit first_bad first_twice first_on_cycle tables_answer check_answer below? among? light? good? bad? ends_fit? twice? twice_in? find-twice edge? thru? path? leads? on_cycle? succs_below succ_start succ_starts_of succ_words degree_list roots capacity slot_at ends_at store_ends sound empty full head_on tail_on sum_to_z load least_from least search all_steps all_entries numbers_fit all_fit others_fit lengths_fit counters_fit store_words updated written counted carried_out scan fetch_task fetch_from fetch_rule start_rule complete_sink complete_inner complete_rule advanced find_room release_to release_ready release_waiting release_rule rule_of step_plan step cleared roots_laid begun roots_answer begin_answer begin machine.began machine.memory_after machine.recalled machine.events_after accepted_of order_of answers_in standing
mixed-stands = refl

-- A run begun by the engine with P 5, which the preview doesn't take: with begin's own P and K the preview's calls are refused with 2, and the engine's
-- go on to the end.
abbrev of_five : ℕ → Step → Call
of_five = step_call engine 5 2

abbrev preview_of_five : ℕ → Step → Call
preview_of_five = step_call preview 5 2

abbrev pub beyond : Run
beyond =
    record {
      limits = engine;
      workers = 5;
      slots = 2;
      lent = five;
      accepts = begins.3;
      calls =
          preview_of_five 0 Fetch ∷ of_five 0 Fetch ∷ preview_of_five 0 Start ∷ of_five 0 Start ∷ preview_of_five 0 Complete ∷ of_five 0 Complete
          ∷ preview_of_five 0 Release ∷ of_five 0 Release ∷ of_five 0 Release ∷ begin_call preview 5 2 ∷ of_five 0 Release
          ∷ of_five 2 Fetch ∷ of_five 2 Start ∷ of_five 2 Complete
          ∷ of_five 1 Fetch ∷ of_five 1 Start ∷ of_five 1 Complete
          ∷ of_five 0 Fetch ∷ preview_of_five 0 Start ∷ of_five 0 Start ∷ of_five 0 Complete
          ∷ preview_of_five 1 Fetch ∷ of_five 1 Fetch ∷ [];
    }

pub record BeyondRun : Type 0 where
  pub finished : Finished (view_of beyond)
  -- 15 accepted steps, seven calls by the preview, and at the end, when it is finished, the engine's own Fetch
  pub answers : answers_in (events_of beyond)
      ≡ refused 10 0 ∷ refused 2 0 ∷ accepted ∷ accepted ∷ refused 2 0 ∷ task_fetched 1 ∷ accepted ∷ accepted ∷ task_fetched 2 ∷ accepted ∷ accepted ∷ task_fetched 3
      ∷ task_placed 3 2 ∷ refused 2 0 ∷ task_placed 2 1 ∷ task_placed 1 0 ∷ refused 2 0 ∷ accepted ∷ refused 2 0 ∷ accepted ∷ refused 2 0 ∷ task_fetched 0
      ∷ refused 2 0 ∷ []
  pub order : order_of (view_of beyond) ≡ 0 ∷ 3 ∷ 2 ∷ 1 ∷ []
  pub recorded : (memory_of beyond).executed ≡ 0 ∷ 0 ∷ 3 ∷ 2 ∷ 2 ∷ 1 ∷ 1 ∷ 0 ∷ []
  pub counted : (memory_of beyond).run ≡ 4 ∷ 15 ∷ []

pub beyond-run : BeyondRun
unfolding ℕ_discrete dec_le dec_lt first_below occ_of place_of joined tabulate all_of sum_to after around capped next_phase part sizes_fit first_bad first_twice first_on_cycle tables_answer check_answer below? among? light? good? bad? ends_fit? twice? twice_in? find-twice edge? thru? path? leads? on_cycle? succs_below succ_start succ_starts_of succ_words degree_list roots capacity slot_at ends_at store_ends sound empty full head_on tail_on sum_to_z load least_from least search all_steps all_entries numbers_fit all_fit others_fit lengths_fit counters_fit store_words updated written counted carried_out scan fetch_task fetch_from fetch_rule start_rule complete_sink complete_inner complete_rule advanced find_room release_to release_ready release_waiting release_rule rule_of step_plan step cleared roots_laid begun roots_answer begin_answer begin machine.began machine.memory_after machine.recalled machine.events_after accepted_of order_of answers_in
beyond-run = record { finished = record { completes = omega arith }; answers = refl; order = refl; recorded = refl; counted = refl }
