-- Weak runs, computed: the weak diamond by the desk's turns, and an unfinished run in which a Release is refused with 11 while another worker may go on.
use Prim.Native.Nat.{ℕ}
use mathlib.Core.Path.{◌≡◌, refl}
use mathlib.Core.List.{[], ◌∷◌}
use native.Mathlib.Omega.{arith}
use native.Mathlib.Decide.{ℕ_discrete, dec_le, dec_lt}
use lib.ListN.{replicate}
use Rattle.lists.specs.Decided.{first_below}
use Rattle.lists.specs.Lists.{occ_of, joined, tabulate, all_of}
use Rattle.lists.specs.Sums.{sum_to, sum_to_z}
use Rattle.lists.specs.Circles.{after, around}
use Rattle.task.specs.Types.{engine, capped}
use Rattle.task.specs.Phases.{next_phase}
use Rattle.task.specs.Refusals.{refused, accepted}
use Rattle.task.specs.declared.Step.{Step}
use Rattle.task.specs.declared.Step.TheVariants.{Fetch, Start, Complete, Release}
use Rattle.weak_task.specs.Types.{copy}
use Rattle.weak_task.specs.Says.{copy_fetched}
use Rattle.graph.specs.Graph.{part}
use Rattle.graph.specs.Check.{sizes_fit, first_bad, first_twice, first_on_cycle, tables_answer, check_answer}
use Rattle.graph.specs.Decide.{below?, among?, light?, good?, bad?, ends_fit?, twice?, twice_in?, find-twice, edge?, thru?, path?, leads?, on_cycle?}
use Rattle.graph.specs.Successors.{succs_below, succ_start, succ_starts_of, succ_words, roots}
use Rattle.ring.specs.Ring.{capacity, slot_at, ends_at, store_ends, sound, empty, full, head_on, tail_on}
use Rattle.choice.specs.Least.{load, least_from, least}
use Rattle.choice.specs.Search.{search}
use Rattle.machine.specs.Machine as machine
use Rattle.memory.specs.Shape.{all_fit}
use Rattle.memory.specs.Updates.{store_words, updated, written}
use Rattle.plans.specs.Sizes.{numbers_fit, others_fit, lengths_fit}
use Rattle.plans.specs.Laying.{roots_laid}
use Rattle.weak_rules.specs.Memory.{all_steps, all_entries}
use Rattle.weak_rules.specs.Words.{counters_fit}
use Rattle.weak_rules.specs.Plans.{counted, carried_out}
use Rattle.weak_rules.specs.Steps.{scan, fetch_copy, fetch_from, fetch_rule, start_rule, complete_copy, complete_sink, complete_inner, complete_last, complete_rule, advanced, find_room, release_to, release_first, release_later, release_rule, rule_of, step_plan, step}
use Rattle.weak_rules.specs.Begin.{weak_degrees, cleared, begun, roots_answer, begin_answer, begin}
use Rattle.weak_rules.proofs.Examples.{begin_says, diamond, crowded}
use Rattle.weak_runs.specs.Calls.{Call, step_call, accepted_steps, Run, memory_of, events_of, view_of}
use Rattle.weak_runs.specs.Demand.{Finished, order_of, next_says}

pub begins : (begin_says 2 4 diamond ≡ accepted) × (begin_says 2 2 crowded ≡ accepted)
unfolding ℕ_discrete dec_le dec_lt first_below occ_of joined tabulate all_of sum_to after around capped next_phase part sizes_fit first_bad first_twice first_on_cycle tables_answer check_answer below? among? light? good? bad? ends_fit? twice? twice_in? find-twice edge? thru? path? leads? on_cycle? succs_below succ_start succ_starts_of succ_words roots capacity slot_at ends_at store_ends sound empty full head_on tail_on sum_to_z load least_from least search all_steps all_entries numbers_fit all_fit others_fit lengths_fit counters_fit store_words updated written counted carried_out scan fetch_copy fetch_from fetch_rule start_rule complete_copy complete_sink complete_inner complete_last complete_rule advanced find_room release_to release_first release_later release_rule rule_of step_plan step weak_degrees roots_laid cleared begun roots_answer begin_answer begin
begins = (refl, refl)

-- the desk's turns: the steps that were accepted in them, and worker 1's first Fetch, when its rings are empty
abbrev by : ℕ → Step → Call
by = step_call engine 2 4

abbrev pub desk_turns : Run
desk_turns =
    record {
      limits = engine;
      workers = 2;
      slots = 4;
      lent = diamond;
      accepts = begins.0;
      calls =
          by 0 Fetch ∷ by 1 Fetch ∷ by 0 Start ∷ by 0 Complete ∷ by 0 Release ∷ by 0 Release ∷ by 1 Fetch ∷ by 0 Fetch ∷ by 1 Start ∷ by 0 Start
          ∷ by 1 Complete ∷ by 0 Complete ∷ by 1 Release ∷ by 0 Release ∷ by 0 Fetch ∷ by 0 Start ∷ by 0 Complete ∷ by 0 Fetch ∷ by 0 Start
          ∷ by 0 Complete ∷ [];
    }

-- the second copy of task 4 finds the ring of its worker full
abbrev crowd : ℕ → Step → Call
crowd = step_call engine 2 2

abbrev pub crowded_run : Run
crowded_run =
    record {
      limits = engine;
      workers = 2;
      slots = 2;
      lent = crowded;
      accepts = begins.1;
      calls =
          crowd 0 Fetch ∷ crowd 0 Start ∷ crowd 0 Complete ∷ crowd 0 Release ∷ crowd 1 Fetch ∷ crowd 1 Start ∷ crowd 1 Complete ∷ crowd 1 Release
          ∷ crowd 1 Release ∷ [];
    }

pub record Examples : Type 0 where
  pub finished : Finished (view_of desk_turns)
  -- "4E + 3R accepted steps", "E + R copies used", nine words of the record unused
  pub steps : accepted_steps (events_of desk_turns) ≡ 19
  pub counted : (memory_of desk_turns).run ≡ 5 ∷ 19 ∷ 1 ∷ []
  pub recorded : (memory_of desk_turns).executed ≡ 0 ∷ 65535 ∷ 0 ∷ 2 ∷ 0 ∷ 1 ∷ 1 ∷ 0 ∷ 0 ∷ 3 ∷ 2 ∷ 0 ∷ 3 ∷ 1 ∷ 0 ∷ replicate 9 0
  pub order : order_of (view_of desk_turns) ≡ copy 0 65535 ∷ copy 2 0 ∷ copy 1 0 ∷ copy 3 2 ∷ copy 3 1 ∷ []
  -- an unfinished run: worker 1's Release is refused with 11, and worker 0 may fetch
  pub unfinished : ¬ (Finished (view_of crowded_run))
  pub full : next_says engine (view_of crowded_run) 1 Release ≡ refused 11 4
  pub goes_on : next_says engine (view_of crowded_run) 0 Fetch ≡ copy_fetched (copy 2 1)

pub examples : Examples
unfolding ℕ_discrete dec_le dec_lt first_below occ_of joined tabulate all_of sum_to after around capped next_phase part sizes_fit first_bad first_twice first_on_cycle tables_answer check_answer below? among? light? good? bad? ends_fit? twice? twice_in? find-twice edge? thru? path? leads? on_cycle? succs_below succ_start succ_starts_of succ_words roots capacity slot_at ends_at store_ends sound empty full head_on tail_on sum_to_z load least_from least search all_steps all_entries numbers_fit all_fit others_fit lengths_fit counters_fit store_words updated written counted carried_out scan fetch_copy fetch_from fetch_rule start_rule complete_copy complete_sink complete_inner complete_last complete_rule advanced find_room release_to release_first release_later release_rule rule_of step_plan step weak_degrees roots_laid cleared begun roots_answer begin_answer begin machine.began machine.memory_after machine.recalled machine.events_after machine.accepted_of order_of
examples =
    record {
      finished = record { completes = omega arith };
      steps = refl;
      counted = refl;
      recorded = refl;
      order = refl;
      unfinished = λ f. omega (arith, f.completes);
      full = refl;
      goes_on = refl;
    }
