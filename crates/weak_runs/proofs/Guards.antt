-- What no weak run shows: forged views, each refused by the predicate of `specs/Corollaries.antt` that it is against, as those of plain runs are
-- (`crates/runs/proofs/Guards.antt`).
use Prim.Native.Nat.{ℕ, zero, suc, ◌+◌, ◌*◌, ◌<◌}
use mathlib.Core.Path.{◌≡◌, refl, sym, ap}
use mathlib.Core.List.{List, [], ◌∷◌}
use native.Mathlib.Omega.{arith}
use native.Mathlib.Decide.{ℕ_discrete, dec_le, dec_lt}
use lib.ListN.{get_or, replicate}
use lib.IntN.{pos}
use Rattle.lists.specs.Decided.{first_below}
use Rattle.lists.specs.Lists.{occ_of, joined, tabulate, all_of}
use Rattle.lists.specs.Sums.{sum_to, sum_to_z, sum_of}
use Rattle.lists.specs.Circles.{after, around}
use Rattle.lists.proofs.Apart.{unequal}
use Rattle.task.specs.Types.{engine, preview, capped}
use Rattle.task.specs.Phases.{next_phase}
use Rattle.task.specs.declared.Step.TheVariants.{Fetch, Start, Complete, Release}
use Rattle.graph.specs.Graph.{part}
use Rattle.graph.specs.Check.{sizes_fit, first_bad, first_twice, first_on_cycle, tables_answer, check_answer}
use Rattle.graph.specs.Decide.{below?, among?, light?, good?, bad?, ends_fit?, twice?, twice_in?, find-twice, edge?, thru?, path?, leads?, on_cycle?}
use Rattle.graph.specs.Successors.{succs_below, succ_start, succ_starts_of, succ_words, roots}
use Rattle.ring.specs.Ring.{capacity, slot_at, ends_at, store_ends, sound, empty, full, head_on, tail_on, queued, queue}
use Rattle.choice.specs.Least.{load, least_from, least}
use Rattle.choice.specs.Search.{search}
use Rattle.machine.specs.Machine.{accepted_of}
use Rattle.memory.specs.Shape.{all_fit}
use Rattle.memory.specs.Updates.{store_words, updated, written}
use Rattle.plans.specs.Sizes.{KeepsLimits, numbers_fit, others_fit, lengths_fit}
use Rattle.plans.specs.Laying.{roots_laid}
use Rattle.plans.specs.Forms.{own}
use Rattle.weak_task.specs.declared.WeakOutcome.{WeakOutcome}
use Rattle.copies.specs.Copies.{Copy, copy, same_copy, task_copies, is_copy, Before}
use Rattle.weak_rules.specs.Memory.{Mem, graph_in, accepted_in, all_steps, all_entries}
use Rattle.weak_rules.specs.Words.{counters_fit}
use Rattle.weak_rules.specs.Updates.{Update, put_slot, put_ends, put_counter, put_entry, put_entries, put_hand}
use Rattle.weak_rules.specs.Plans.{counted, carried_out}
use Rattle.weak_rules.specs.Moves.{Releases, first, later}
use Rattle.weak_rules.specs.Steps.{scan, fetch_copy, fetch_from, fetch_rule, start_rule, complete_copy, complete_sink, complete_inner, complete_last, complete_rule, advanced, find_room, release_to, release_first, release_later, release_rule, rule_of, step_plan, step}
use Rattle.weak_rules.specs.Begin.{weak_degrees, cleared, begun, roots_answer, begin_answer, begin}
use Rattle.weak_rules.proofs.Examples as examples
use Rattle.weak_rules.proofs.Examples.{lent, fresh, memory_after, by, two_roots}
use Rattle.weak_rules.proofs.Moves.{accepted-step}
use Rattle.views.proofs.Numbers.{accepted-fits}
use Rattle.runs.proofs.Guards.{completes, few, misled, small-kept}
use Rattle.weak_runs.specs.Calls.{Call, View}
use Rattle.weak_runs.specs.Counters.{open_of}
use Rattle.weak_runs.specs.Corollaries.{OneHolder, WaitingBehind, HeldBehind, NeverEarly, HoldingOpen, NeverFull, Lightest, OtherNumbers, BeyondLimits, AcceptedKept, NoMore, FinishedSays}

-- P 2, K 2, weights 60, 1, 1, 1, edges 0→2, 1→2, 2→3: task 3's copy stays behind both copies of task 2
abbrev pub tiles : Mem
tiles = lent 2 2 (60 ∷ 1 ∷ 1 ∷ 1 ∷ []) (0 ∷ 0 ∷ 0 ∷ 2 ∷ 3 ∷ []) (0 ∷ 1 ∷ 2 ∷ [])

-- a run of P workers and K slots, begun on the tiles, with so many accepted Completes, and what memory it shows; begin's limits are of no step below
abbrev pub shown : (p k : ℕ) (memory : Mem) → ℕ → View Mem Call
shown p k memory n = record { limits = few 1; workers = p; slots = k; lent = tiles; memory = memory; events = completes n }

-- the memory that begin and these calls leave, with words forged
abbrev pub forged : List examples.Call → List Update → ℕ → View Mem Call
forged calls us = shown 2 2 (written us (memory_after 2 2 calls (fresh 2 2 tiles)))

-- a record in which task 3's copy is before a copy of task 2
abbrev pub early : List Update → ℕ → View Mem Call
early us =
    forged []
    (put_entry 0 (copy 0 65535) 0 ∷ put_entry 1 (copy 1 65535) 0 ∷ put_entry 2 (copy 2 0) 0 ∷ put_entry 3 (copy 3 2) 0 ∷ put_entry 4 (copy 2 1) 0 ∷ us)

-- a memory of two tasks, shown by a run on four
abbrev pub mistaken : View Mem Call
mistaken = shown 2 2 (fresh 2 2 two_roots) 0

-- worker 1's steps
abbrev pub fetched : List examples.Call
fetched = by 1 Fetch ∷ []

abbrev pub started : List examples.Call
started = by 1 Fetch ∷ by 1 Start ∷ []

abbrev pub completed : List examples.Call
completed = by 1 Fetch ∷ by 1 Start ∷ by 1 Complete ∷ []

-- worker 0 has the long tile in hand, and its counter says 0
abbrev pub lying : View Mem Call
lying = forged (by 0 Fetch ∷ completed) (put_counter 0 (pos 0) ∷ []) 1

pub record Guards : Type 0 where
  -- two workers hold copies of task 2, one has it started
  pub two_hold_one : ¬ (OneHolder (forged [] (put_hand 0 1 (copy 2 0) ∷ put_hand 1 2 (copy 2 1) ∷ []) 0))
  -- of task 2's copies the first is recorded and the second isn't, its entry being beyond the three accepted Completes; task 3's copy waits in the ring of
  -- owner 1 filled by worker 0, or worker 1 holds it
  pub waits_early : ¬ (WaitingBehind (early (put_slot 4 (copy 3 2) ∷ put_ends 2 (record { head = 0; tail = 1; count = 1 }) ∷ []) 3))
  pub held_early : ¬ (HeldBehind (early (put_hand 1 1 (copy 3 2) ∷ []) 3))
  -- and with five accepted Completes, task 3's copy before it
  pub recorded_early : ¬ (NeverEarly (early [] 5))
  -- E + R entries, and worker 1 with a copy in hand; its Complete meets 12, with other limits, P and K than begin's
  pub held_in_vain : ¬ (HoldingOpen (forged [] (put_entries 5 ∷ put_hand 1 1 (copy 1 65535) ∷ []) 0))
  pub twelve : ¬ (NeverFull (shown 1 3 (written (put_entries 5 ∷ put_hand 1 2 (copy 1 65535) ∷ []) (fresh 2 2 tiles)) 0))
  -- worker 1's Release goes to worker 0
  pub long_tile_for_empty : ¬ (Lightest lying)
  -- a step with another P is accepted, and a begin with another K
  pub other_workers : ¬ (OtherNumbers (shown 3 2 (fresh 2 2 tiles) 0))
  pub other_slots : ¬ (OtherNumbers (shown 2 3 (fresh 2 2 tiles) 0))
  -- a step and a begin with limits of two tasks are accepted in a run on four: against what the step answers, what the begin answers, what the step leaves
  pub step_beyond : ¬ (BeyondLimits mistaken)
  pub begin_beyond : ¬ (BeyondLimits mistaken)
  pub written_beyond : ¬ (BeyondLimits mistaken)
  pub step_not_kept : ¬ (AcceptedKept mistaken)
  pub begin_not_kept : ¬ (AcceptedKept mistaken)
  -- a root waits, for a worker, P, K and limits other than begin's
  pub one_more : ¬ (NoMore (shown 1 3 (fresh 2 2 tiles) 0))
  -- each step of worker 1 that would still be accepted
  pub still_fetches : ¬ (FinishedSays (forged [] [] 0))
  pub still_starts : ¬ (FinishedSays (forged fetched [] 0))
  pub still_completes : ¬ (FinishedSays (forged started [] 0))
  pub still_releases : ¬ (FinishedSays (forged completed [] 1))

-- the second copy of task 2 isn't among the first three entries
abbrev entry_in : List ℕ → ℕ → Copy
entry_in l y = copy (get_or l (3 * y) 65535) (get_or l (3 * y + 1) 65535)

absent : ¬ ((y : ℕ) × (y < 3) × (entry_in (0 ∷ 65535 ∷ 0 ∷ 1 ∷ 65535 ∷ 0 ∷ 2 ∷ 0 ∷ 0 ∷ 3 ∷ 2 ∷ 0 ∷ 2 ∷ 1 ∷ 0 ∷ replicate 6 0) y ≡ copy 2 1))
absent (zero, h, e) = omega (arith, ap (λ (c : Copy). c.task) e)
absent (suc zero, h, e) = omega (arith, ap (λ (c : Copy). c.task) e)
absent (suc (suc zero), h, e) = omega (arith, ap (λ (c : Copy). c.predecessor) e)
absent (suc (suc (suc y)), h, e) = omega (arith, h)

pub guards : Guards
unfolding ℕ_discrete dec_le dec_lt first_below occ_of joined tabulate all_of sum_to after around capped next_phase part sizes_fit first_bad first_twice first_on_cycle tables_answer check_answer below? among? light? good? bad? ends_fit? twice? twice_in? find-twice edge? thru? path? leads? on_cycle? succs_below succ_start succ_starts_of succ_words roots capacity slot_at ends_at store_ends sound empty full head_on tail_on queued queue sum_to_z load least_from least search all_steps all_entries numbers_fit all_fit others_fit lengths_fit counters_fit store_words updated written counted carried_out scan fetch_copy fetch_from fetch_rule start_rule complete_copy complete_sink complete_inner complete_last complete_rule advanced find_room release_to release_first release_later release_rule rule_of step_plan step weak_degrees roots_laid cleared begun roots_answer begin_answer begin memory_after accepted_of same_copy task_copies is_copy open_of sum_of
guards =
    record {
      two_hold_one = λ promised. omega (arith, promised 0 1 (omega arith) (omega arith) (λ e. omega (arith, e)) (λ e. omega (arith, e)) refl);
      waits_early = λ promised. absent (promised 1 0 (copy 3 2) (copy 2 1) (omega arith) (omega arith) (omega arith) two-before-three);
      held_early = λ promised. absent (promised 1 (copy 2 1) (omega arith) (λ e. omega (arith, e)) two-before-three);
      recorded_early = λ promised. absent (promised 3 (copy 2 1) (omega arith) two-before-three);
      held_in_vain = λ promised. omega (arith, promised 1 (omega arith) (λ e. omega (arith, e)));
      twelve = λ promised. promised preview 2 2 1 0 refl;
      long_tile_for_empty = λ promised. heavier promised (accepted-step engine 2 2 1 Release lying.memory tt).allowed.made;
      other_workers = λ promised. accepted-fits _ tt ((promised engine 2 2 (λ e. omega (arith, e.0))).0 1 Fetch);
      other_slots = λ promised. accepted-fits _ tt (promised engine 2 2 (λ e. omega (arith, e.1))).1;
      step_beyond = λ promised. unequal (cc ((promised (few 2) 2 2 (λ w. omega (arith, w.few_tasks))).0 1 Fetch).0);
      begin_beyond = λ promised. unequal (cc (promised (few 2) 2 2 (λ w. omega (arith, w.few_tasks))).1.0);
      written_beyond = λ promised. omega (arith, ap accepted_in ((promised (few 2) 2 2 (λ w. omega (arith, w.few_tasks))).0 1 Fetch).1);
      step_not_kept = λ promised. omega (arith, ((promised (few 2) 2 2).0 1 Fetch tt).few_tasks);
      begin_not_kept = λ promised. omega (arith, ((promised (few 2) 2 2).1 tt).few_tasks);
      one_more = λ promised. promised preview 2 2 1 Fetch tt;
      still_fetches = λ promised. unequal (cc (promised 1 (omega arith) preview kept).0);
      still_starts = λ promised. unequal (cc (promised 1 (omega arith) preview kept).1);
      still_completes = λ promised. unequal (cc (promised 1 (omega arith) preview kept).2);
      still_releases = λ promised. unequal (cc (promised 1 (omega arith) preview kept).3);
    }
  where
    kept : KeepsLimits preview 2 2 4 3
    kept = small-kept 4 3 (omega arith) (omega arith)

    two-before-three : Before (graph_in tiles) (copy 2 1) (copy 3 2)
    two-before-three = record { earlier = omega arith; later = omega arith; predecessor = refl }

    heavier : {o : WeakOutcome} {us : List Update} → Lightest lying → ¬ (Releases (own 2 lying.memory) 2 2 1 lying.memory o us)
    heavier promised (later l) = l.later (sym l.fixed)
    heavier promised (first f) = misled _ _ (λ l. l.lt) (λ l. l.le) f.target f.least (promised 1 _ _ f)
