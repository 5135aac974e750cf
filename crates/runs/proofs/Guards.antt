-- What no run shows: forged views, each refused by the predicate of `specs/Corollaries.antt` that it is against. Of `OtherNumbers`, `BeyondLimits`,
-- `AcceptedKept` and `FinishedSays` a view is against several parts at once: there each refutation goes by another part.
use Prim.Native.Nat.{ℕ, zero, suc, ◌*◌, ◌≤◌, ◌<◌}
use mathlib.Core.Path.{◌≡◌, refl, ap}
use mathlib.Core.List.{List, [], ◌∷◌}
use native.Mathlib.Omega.{arith}
use native.Mathlib.Decide.{ℕ_discrete, dec_le, dec_lt}
use lib.ListN.{get_or, replicate}
use lib.IntN.{ℤ, pos}
use lib.Signed.{◌≤ℤ◌, ◌<ℤ◌}
use Rattle.lists.specs.Decided.{first_below}
use Rattle.lists.specs.Lists.{occ_of, joined, tabulate, all_of}
use Rattle.lists.specs.Sums.{sum_to, sum_to_z, sum_of}
use Rattle.lists.specs.Circles.{after, around}
use Rattle.lists.proofs.Apart.{unequal}
use Rattle.task.specs.Types.{engine, preview, capped}
use Rattle.task.specs.Phases.{next_phase}
use Rattle.task.specs.Refusals.{accepted}
use Rattle.task.specs.declared.Limits.{Limits}
use Rattle.task.specs.declared.StepOutcome.{StepOutcome}
use Rattle.task.specs.declared.Step.TheVariants.{Fetch, Start, Complete, Release}
use Rattle.graph.specs.Graph.{part, Edge}
use Rattle.graph.specs.Check.{sizes_fit, first_bad, first_twice, first_on_cycle, tables_answer, check_answer}
use Rattle.graph.specs.Decide.{below?, among?, light?, good?, bad?, ends_fit?, twice?, twice_in?, find-twice, edge?, thru?, path?, leads?, on_cycle?}
use Rattle.graph.specs.Successors.{succs_below, succ_start, succ_starts_of, succ_words, degree_list, roots}
use Rattle.ring.specs.Ring.{capacity, slot_at, ends_at, store_ends, sound, empty, full, head_on, tail_on, queued, queue}
use Rattle.choice.specs.Least.{load, Least, least_from, least}
use Rattle.choice.specs.Search.{search}
use Rattle.machine.specs.Machine.{accepted_of}
use Rattle.memory.specs.Shape.{all_fit}
use Rattle.memory.specs.Updates.{store_words, updated, written}
use Rattle.plans.specs.Forms.{own}
use Rattle.rules.specs.Memory.{Mem, graph_in, accepted_in, all_steps, all_entries}
use Rattle.rules.specs.Sizes.{KeepsLimits, numbers_fit, others_fit, lengths_fit}
use Rattle.rules.specs.Words.{counters_fit}
use Rattle.rules.specs.Updates.{Update, put_slot, put_ends, put_counter, put_entry, put_entries, put_hand}
use Rattle.rules.specs.Plans.{counted, carried_out}
use Rattle.rules.specs.Moves.{Releases, waiting, placed}
use Rattle.rules.specs.Steps.{scan, fetch_task, fetch_from, fetch_rule, start_rule, complete_sink, complete_inner, complete_rule, advanced, find_room, release_to, release_ready, release_waiting, release_rule, rule_of, step_plan, step}
use Rattle.rules.specs.Begin.{cleared, roots_laid, begun, roots_answer, begin_answer, begin}
use Rattle.rules.proofs.Examples as examples
use Rattle.rules.proofs.Examples.{fresh, memory_after, by, diamond, two_roots}
use Rattle.rules.proofs.Moves.{accepted-step}
use Rattle.views.proofs.Numbers.{accepted-fits}
use Rattle.runs.specs.Calls.{Call, step_call, Event, View}
use Rattle.runs.specs.Counters.{in_hand_of}
use Rattle.runs.specs.Corollaries.{OneHolder, WaitingBehind, HeldBehind, NeverEarly, HoldingOpen, NeverFull, Lightest, OtherNumbers, BeyondLimits, AcceptedKept, NoMore, FinishedSays}
use Rattle.runs.proofs.LongTile.{tiles}

-- so many accepted Completes
abbrev pub completes : ℕ → List Event
completes n = replicate n (record { call = step_call engine 2 2 0 Complete; said = accepted })

-- limits of so many tasks
abbrev pub few : ℕ → Limits
few n = record { tasks = n; edges = 0; workers = 2; slots = 2 }

-- a run of P workers and K slots, begun on `lent`, with so many accepted Completes, and what memory it shows; begin's limits are of no step below
abbrev pub shown : (p k : ℕ) (lent memory : Mem) → ℕ → View Mem Call
shown p k lent memory n = record { limits = few 1; workers = p; slots = k; lent = lent; memory = memory; events = completes n }

-- the memory that begin and these calls leave, with words forged
abbrev pub forged : (p k : ℕ) → Mem → List examples.Call → List Update → ℕ → View Mem Call
forged p k m calls us = shown p k m (written us (memory_after p k calls (fresh p k m)))

-- weights 60, 1, 1, edge 1→2: roots 0 and 1
abbrev pub tiled : List examples.Call → List Update → ℕ → View Mem Call
tiled = forged 2 2 tiles

-- the diamond with a record of 0, 2, 3, 1: task 3 before its predecessor 1
abbrev pub early : List Update → ℕ → View Mem Call
early us = forged 2 4 diamond [] (put_entry 0 0 0 ∷ put_entry 1 2 0 ∷ put_entry 2 3 0 ∷ put_entry 3 1 0 ∷ us)

-- a memory of two tasks, shown by a run on three
abbrev pub mistaken : View Mem Call
mistaken = shown 2 2 tiles (fresh 2 2 two_roots) 0

-- worker 1's steps on the tiles
abbrev pub fetched : List examples.Call
fetched = by 1 Fetch ∷ []

abbrev pub started : List examples.Call
started = by 1 Fetch ∷ by 1 Start ∷ []

abbrev pub completed : List examples.Call
completed = by 1 Fetch ∷ by 1 Start ∷ by 1 Complete ∷ []

-- worker 0 has the long tile in hand, and its counter says 0
abbrev pub lying : View Mem Call
lying = tiled (by 0 Fetch ∷ completed) (put_counter 0 (pos 0) ∷ []) 1

pub record Guards : Type 0 where
  -- two workers hold task 0, one has it started
  pub two_hold_one : ¬ (OneHolder (tiled [] (put_hand 0 1 0 ∷ put_hand 1 2 0 ∷ []) 0))
  -- of task 3's predecessors 2 is recorded and 1 isn't, its entry being beyond the two accepted Completes; task 3 waits in the ring of owner 1 filled by
  -- worker 0, or worker 1 holds it
  pub waits_early : ¬ (WaitingBehind (early (put_slot 8 3 ∷ put_ends 2 (record { head = 0; tail = 1; count = 1 }) ∷ []) 2))
  pub held_early : ¬ (HeldBehind (early (put_hand 1 1 3 ∷ []) 2))
  -- and with four accepted Completes, 3 before 1
  pub recorded_early : ¬ (NeverEarly (early [] 4))
  -- N entries, and worker 1 with a task in hand; its Complete meets 12, with other limits, P and K than begin's
  pub held_in_vain : ¬ (HoldingOpen (tiled [] (put_entries 3 ∷ put_hand 1 1 1 ∷ []) 0))
  pub twelve : ¬ (NeverFull (shown 1 3 tiles (written (put_entries 3 ∷ put_hand 1 2 1 ∷ []) (fresh 2 2 tiles)) 0))
  -- worker 1's Release goes to worker 0
  pub long_tile_for_empty : ¬ (Lightest lying)
  -- a step with another P is accepted, and a begin with another K
  pub other_workers : ¬ (OtherNumbers (shown 3 2 tiles (fresh 2 2 tiles) 0))
  pub other_slots : ¬ (OtherNumbers (shown 2 3 tiles (fresh 2 2 tiles) 0))
  -- a step and a begin with limits of two tasks are accepted in a run on three: against what the step answers, what the begin answers, what the step leaves
  pub step_beyond : ¬ (BeyondLimits mistaken)
  pub begin_beyond : ¬ (BeyondLimits mistaken)
  pub written_beyond : ¬ (BeyondLimits mistaken)
  pub step_not_kept : ¬ (AcceptedKept mistaken)
  pub begin_not_kept : ¬ (AcceptedKept mistaken)
  -- a root waits, for a worker, P, K and limits other than begin's
  pub one_more : ¬ (NoMore (shown 1 3 tiles (fresh 2 2 tiles) 0))
  -- each step of worker 1 that would still be accepted
  pub still_fetches : ¬ (FinishedSays (tiled [] [] 0))
  pub still_starts : ¬ (FinishedSays (tiled fetched [] 0))
  pub still_completes : ¬ (FinishedSays (tiled started [] 0))
  pub still_releases : ¬ (FinishedSays (tiled completed [] 1))

-- task 1 isn't among the first two entries
absent : ¬ ((y : ℕ) × (y < 2) × (◌≡◌ {A = ℕ} (get_or (0 ∷ 0 ∷ 2 ∷ 0 ∷ 3 ∷ 0 ∷ 1 ∷ 0 ∷ []) (2 * y) 65535) 1))
absent (zero, h, e) = omega (arith, e)
absent (suc zero, h, e) = omega (arith, e)
absent (suc (suc y), h, e) = omega (arith, h)

-- of two workers with equal sums the first is the target, and isn't by weights of which the first's is greater
pub misled : (sums weights : ℕ → ℤ) → ¬ (sums 1 <ℤ sums 0) → ¬ (weights 0 ≤ℤ weights 1) → (target : ℕ) → Least (λ h. h < 2) sums target
    → ¬ (Least (λ h. h < 2) weights target)
misled sums weights same more zero by_sums by_weights = more (by_weights.at_most 1 (omega arith))
misled sums weights same more (suc zero) by_sums by_weights = same (by_sums.lowest 0 (omega arith) (omega arith))
misled sums weights same more (suc (suc t)) by_sums by_weights = omega (arith, by_sums.candidate)

-- P 2, K 2 and a few tasks and edges keep the preview's limits
pub small-kept : (n e : ℕ) → n ≤ 128 → e ≤ 512 → KeepsLimits preview 2 2 n e
unfolding capped
small-kept n e tasks edges =
    record {
      one_worker = omega arith;
      few_workers = omega arith;
      two_slots = omega arith;
      few_slots = omega arith;
      few_tasks = omega (arith, tasks);
      few_edges = omega (arith, edges);
    }

pub guards : Guards
unfolding ℕ_discrete dec_le dec_lt first_below occ_of joined tabulate all_of sum_to after around capped next_phase part sizes_fit first_bad first_twice first_on_cycle tables_answer check_answer below? among? light? good? bad? ends_fit? twice? twice_in? find-twice edge? thru? path? leads? on_cycle? succs_below succ_start succ_starts_of succ_words degree_list roots capacity slot_at ends_at store_ends sound empty full head_on tail_on queued queue sum_to_z load least_from least search all_steps all_entries numbers_fit all_fit others_fit lengths_fit counters_fit store_words updated written counted carried_out scan fetch_task fetch_from fetch_rule start_rule complete_sink complete_inner complete_rule advanced find_room release_to release_ready release_waiting release_rule rule_of step_plan step cleared roots_laid begun roots_answer begin_answer begin memory_after accepted_of in_hand_of sum_of
guards =
    record {
      two_hold_one = λ promised. omega (arith, promised 0 1 (omega arith) (omega arith) (λ e. omega (arith, e)) (λ e. omega (arith, e)) refl);
      waits_early = λ promised. absent (promised 1 0 3 1 (omega arith) (omega arith) (omega arith) one-before-three);
      held_early = λ promised. absent (promised 1 1 (omega arith) (λ e. omega (arith, e)) one-before-three);
      recorded_early = λ promised. absent (promised 2 1 (omega arith) one-before-three);
      held_in_vain = λ promised. omega (arith, promised 1 (omega arith) (λ e. omega (arith, e)));
      twelve = λ promised. promised preview 2 2 1 0 refl;
      long_tile_for_empty = λ promised. heavier promised (accepted-step engine 2 2 1 Release lying.memory tt).allowed.made;
      other_workers = λ promised. accepted-fits _ tt ((promised engine 2 2 (λ e. omega (arith, e.0))).0 1 Fetch);
      other_slots = λ promised. accepted-fits _ tt (promised engine 2 2 (λ e. omega (arith, e.1))).1;
      step_beyond = λ promised. unequal (cc ((promised (few 2) 2 2 (λ w. omega (arith, w.few_tasks))).0 1 Fetch).0);
      begin_beyond = λ promised. unequal (cc (promised (few 2) 2 2 (λ w. omega (arith, w.few_tasks))).1.0);
      written_beyond = λ promised. omega (arith, ap accepted_in ((promised (few 2) 2 2 (λ w. omega (arith, w.few_tasks))).0 1 Fetch).1);
      step_not_kept = λ promised. omega (arith, ((promised (few 2) 2 2).0 1 Fetch tt).few_tasks);
      begin_not_kept = λ promised. omega (arith, ((promised (few 2) 2 2).1 tt).few_tasks);
      one_more = λ promised. promised preview 2 2 1 Fetch tt;
      still_fetches = λ promised. unequal (cc (promised 1 (omega arith) preview kept).0);
      still_starts = λ promised. unequal (cc (promised 1 (omega arith) preview kept).1);
      still_completes = λ promised. unequal (cc (promised 1 (omega arith) preview kept).2);
      still_releases = λ promised. unequal (cc (promised 1 (omega arith) preview kept).3);
    }
  where
    kept : KeepsLimits preview 2 2 3 1
    kept = small-kept 3 1 (omega arith) (omega arith)

    one-before-three : Edge (graph_in diamond) 1 3
    one-before-three = record { task = omega arith; predecessor = omega arith }

    heavier : {o : StepOutcome} {us : List Update} → Lightest lying → ¬ (Releases (own 2 lying.memory) 2 2 1 lying.memory o us)
    heavier promised (waiting w) = w.not_ready refl
    heavier promised (placed f) = misled _ _ (λ l. l.lt) (λ l. l.le) f.target f.least (promised 1 _ _ f)
