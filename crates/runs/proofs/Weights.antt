-- PROMISE: the split counters, after every list of a run's calls: they add up to the weight of what waits and of what is in hand, and each is within
-- its range.
use Prim.Native.Nat.{ℕ, ◌≤◌, ◌<◌}
use mathlib.Core.Path.{◌≡◌, refl, sym, ap, ◌∙◌}
use mathlib.Core.Bool.{Bool, cond}
use mathlib.Core.List.{[], ◌∷◌, ◌++◌}
use native.Mathlib.Omega.{arith}
use native.Mathlib.Decide.{ℕ_discrete}
use borrow.Author.Tests.{eq-eqb, ne_eqb}
use lib.Dec.{eqb}
use lib.IntN.{pos}
use Rattle.lists.specs.Lists.{joined, all_of}
use Rattle.lists.specs.Sums.{sum_to_z, sum_of}
use Rattle.lists.proofs.Blocks.{joined_same}
use Rattle.lists.proofs.Sums.{sum-most, sum_of-all}
use Rattle.lists.proofs.SumsZ.{sum_z-same}
use Rattle.task.specs.Types.{nil, capped}
use Rattle.task.specs.declared.Limits.{Limits}
use Rattle.rules.specs.Memory.{Mem, tasks, graph_in, ring_number, counter_in, weight_in, row_in, held}
use Rattle.algorithm1.specs.State.{Thread, State, weight_of, queue_of, counter_of, waiting_for, thread_of}
use Rattle.algorithm1.specs.Reading.{queue_in, thread_in, state_of}
use Rattle.algorithm1.proofs.Readings.{queue-at, counter_at, thread-at, phase-at}
use Rattle.system.specs.Stages.{Hand, in_hand}
use Rattle.runs.specs.Calls.{Run, view_of}
use Rattle.runs.specs.Items.{hand_of}
use Rattle.runs.specs.Counters.{Within, in_hand_of, CountersAddUp}
use Rattle.runs.proofs.Invariant.{items_of, meaning}
use Rattle.runs.proofs.Begun.{all_listed}
use Rattle.runs.proofs.Calls.{weights-reached}
use Rattle.runs.proofs.Hands.{hand-idle, hand-holds}
use Rattle.runs.proofs.ItemCounters.{charged-items}
use Rattle.runs.proofs.ItemBounds.{placed, placed-all, bounded-within}
use Rattle.runs.proofs.Honest.{system_in, Honest, honest-invariant, ends-sound, honest-run}

-- of what is known of a memory
module _ {limits : Limits} {p k : ℕ} {m : Mem} (h : Honest limits p k m) where
  abbrev state : State
  state = state_of p k m

  -- no more has been placed than all 1,024 tasks at most weigh
  placed-few : placed nil.0 (weight_of state) p state ≤ 67107840
  unfolding meaning capped state_of
  placed-few =
      omega (
        arith,
        placed-all nil.0 (weight_of state) p ℕ_discrete (items_of (graph_in m)) (all_of (tasks m)) (all_listed (graph_in m)) state
            {v = system_in p k m} refl (honest-invariant h),
        sum_of-all (weight_of state) (tasks m) (all_of (tasks m)) (all_listed (graph_in m)),
        sum-most (tasks m) (weight_of state) 65535 h.graph.light,
        h.graph.tasks,
      )

  pub honest-within : (i j : ℕ) → i < p → j < p → Within (counter_in m (ring_number p i j))
  honest-within i j hi hj = rw (counter_at p k m i j hi hj) at (bounded-within nil.0 (weight_of state) p state h.bounded placed-few i j hi hj)

  -- the task in hand is the held one where the phase isn't 0
  hand-words : (i : ℕ) → i < p → in_hand (hand_of (thread_of state i)) ≡ in_hand_of m i
  unfolding in_hand_of thread_in
  hand-words i l = go (ℕ_discrete (row_in m i).phase 0)
    where
      told : {b : Bool} → eqb (row_in m i).phase 0 ≡ b → in_hand_of m i ≡ cond b [] (held m i ∷ [])
      told e = ap (λ (b : Bool). cond b [] (held m i ∷ [])) e

      go : Dec ((row_in m i).phase ≡ 0) → in_hand (hand_of (thread_of state i)) ≡ in_hand_of m i
      go (yes e) = ap (λ (x : Hand ℕ). in_hand x) (hand-idle (thread_of state i) (phase-at p k m i l ∙ e)) ∙ sym (told (eq-eqb (row_in m i).phase 0 e))
      go (no n) =
          hand-holds (thread_of state i) (λ e. n (sym (phase-at p k m i l) ∙ e))
          ∙ ap (λ (r : Thread). r.held ∷ []) (thread-at p k m i l) ∙ sym (told (ne_eqb (row_in m i).phase 0 n))

  -- the counters, the lists and the hands are the lent words
  honest-words : (i : ℕ) → i < p
      → sum_to_z p (λ j. counter_in m (ring_number p i j)) ≡ pos (sum_of (weight_in m) (joined p (queue_in p k m i) ++ in_hand_of m i))
  unfolding waiting_for state_of
  honest-words i l =
      sym (sum_z-same p (λ j. counter_in m (ring_number p i j)) (counter_of state i) (λ j lj. counter_at p k m i j l lj))
      ∙ h.adds_up.worker i l
      ∙ ap (λ l. pos (sum_of (weight_in m) l))
      (charged-items nil.0 p state i
      ∙ rw (joined_same p (queue_in p k m i) (queue_of state i) (λ j lj. queue-at p k m i j l lj), hand-words i l) refl)

pub counters-add-up : (r : Run) → CountersAddUp (view_of r)
counters-add-up r =
    record {
      ends = λ i j hi. ends-sound (honest-run r) i hi j;
      adds_up = (honest-run r).adds_up;
      words = λ i h. honest-words (honest-run r) i h ∙ rw (weights-reached r);
      within = honest-within (honest-run r);
    }
