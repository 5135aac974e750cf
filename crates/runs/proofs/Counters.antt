-- The split counters of a worker add up to the weight of the tasks waiting for it and of the one in its hand: after an accepted begin, and after
-- each step of Algorithm 1 if they did before.
use Prim.Native.Nat.{ℕ, ◌<◌}
use mathlib.Core.Path.{◌≡◌, refl, sym, ap, subst, ◌∙◌}
use mathlib.Core.List.{List}
use native.Mathlib.Omega.{arith}
use native.Mathlib.Decide.{ℕ_discrete}
use lib.IntN.{ℤ}
use lib.ListN.{get_or}
use lib.IntN.{pos}
use Rattle.lists.specs.Sums.{sum_of}
use Rattle.task.specs.Types.{nil}
use Rattle.task.specs.Refusals.{answer_says, accepted}
use Rattle.task.specs.declared.Limits.{Limits}
use Rattle.task.specs.declared.Row.{Row}
use Rattle.task.specs.declared.Step.{Step}
use Rattle.task.specs.declared.Step.TheVariants.{Fetch, Start, Complete, Release}
use Rattle.task.specs.declared.StepOutcome.{StepOutcome}
use Rattle.rules.specs.Memory.{Mem, ring_number, counter_in, weight_in}
use Rattle.rules.specs.Begin.{begin}
use Rattle.rules.specs.Begun.{LaidDown}
use Rattle.rules.proofs.Begun.{laid-row, laid-down}
use Rattle.algorithm1.specs.State.{State, weight_of, queue_of, counter_of, thread_of}
use Rattle.algorithm1.specs.Algorithm.{executing, Fetches, Starts, Completes, Lowers, Allocates, lowers, allocates, Lines, Does}
use Rattle.algorithm1.specs.Reading.{state_of}
use Rattle.algorithm1.proofs.Readings.{queue-at, counter_at, phase-at}
use Rattle.algorithm1.proofs.Memories.{first-lt}
use Rattle.system.specs.Stages.{Hand, in_hand}
use Rattle.runs.specs.Items as items
use Rattle.runs.specs.Counters.{AddsUp}
use Rattle.runs.proofs.Invariant.{Shaped}
use Rattle.runs.proofs.Hands.{busy-weight}
use Rattle.runs.proofs.Meaning.{passes-goes, fetch-acts, start-acts, complete-acts, lower-acts, allocate-acts}
use Rattle.runs.proofs.ItemCounters.{Changes, changes-adds-up, kept-changes, taken-changes, completed-changes, joined-changes, OwnWeights, own-adds-up}

-- of states with the same weights
pub same-weights : (s s' : State) → s'.weights ≡ s.weights → (Q : (ℕ → ℕ) → Type 0) → Q (weight_of s) → Q (weight_of s')
same-weights s s' e Q = subst (λ (ws : List ℕ). Q (λ t. get_or ws t 0)) (sym e)

module _ {p i : ℕ} {s s' : State} {o : StepOutcome} (worker : i < p) (shaped : Shaped p s) where
  -- the task goes from a list into the hand; "the weight leaves counter (i, i) at Complete"
  fetch-changes : Fetches p i s s' o → Changes nil.0 (weight_of s) p s s'
  fetch-changes f =
      taken-changes (weight_of s) shaped (fetch-acts worker shaped f) f.list (first-lt f.first) f.rest f.phase (λ z. omega arith) f.head
      (rw f.after) (rw f.after) (rw f.after)

  -- the phase alone moves: what is in hand stays there
  start-changes : Starts i s s' o → Changes nil.0 (weight_of s) p s s'
  start-changes f =
      kept-changes (weight_of s) shaped (start-acts worker shaped f)
      (busy-weight (weight_of s) (executing (thread_of s i)) (λ z. omega arith)
      ∙ sym (busy-weight (weight_of s) (thread_of s i) (λ z. omega (arith, f.phase))))
      (rw f.after) (rw f.after) (rw f.after)

  -- the task in hand joins the record, and its weight leaves the worker's own counter
  complete-changes : Completes i s s' o → Changes nil.0 (weight_of s) p s s'
  complete-changes f =
      completed-changes (weight_of s) shaped (complete-acts worker shaped f) i worker (λ z. omega (arith, f.phase)) refl (rw f.after) (rw f.after)
      (rw f.after)

  lower-changes : Lowers i s s' o → Changes nil.0 (weight_of s) p s s'
  lower-changes f =
      kept-changes (weight_of s) shaped (lower-acts worker shaped f)
      (ap (λ (h : Hand ℕ). sum_of (weight_of s) (in_hand h)) (passes-goes f.pass).hand) (rw f.after) (rw f.after) (rw f.after)

  -- the task joins a list, and its weight the counter
  allocate-changes : {C : ℕ → Type 0} {W : ℕ → ℤ} {capacity : ℕ} → Allocates C W p capacity i s s' o → Changes nil.0 (weight_of s) p s s'
  allocate-changes f =
      joined-changes (weight_of s) shaped (allocate-acts worker shaped f) f.owner i (first-lt f.room) worker f.task (passes-goes f.pass).hand
      (rw f.after) (rw f.after) (rw f.after)

module _ (p capacity i : ℕ) (s s' : State) (o : StepOutcome) (shaped : Shaped p s) (step : Step) (d : Does p capacity i step s s' o) where
  pub does-changes : Changes nil.0 (weight_of s) p s s'
  does-changes = go step d.lines
    where
      go : (step : Step) → Lines p capacity i step s s' o → Changes nil.0 (weight_of s) p s s'
      go Fetch f = fetch-changes d.thread shaped f
      go Start f = start-changes d.thread shaped f
      go Complete f = complete-changes d.thread shaped f
      go Release (lowers f) = lower-changes d.thread shaped f
      go Release (allocates f) = allocate-changes d.thread shaped f

  -- every step leaves the weights
  pub does-weighs : s'.weights ≡ s.weights
  does-weighs = go step d.lines
    where
      go : (step : Step) → Lines p capacity i step s s' o → s'.weights ≡ s.weights
      go Fetch f = rw f.after
      go Start f = rw f.after
      go Complete f = rw f.after
      go Release (lowers f) = rw f.after
      go Release (allocates f) = rw f.after

  -- "After each step": "A worker's counters then add up to the weight waiting for it plus that in its hand"
  pub does-adds-up : AddsUp p s → AddsUp p s'
  does-adds-up sums = same-weights s s' does-weighs (λ w. items.AddsUp nil.0 w p s') (changes-adds-up does-changes sums)

module _ (limits : Limits) (p k : ℕ) (m : Mem) (e : answer_says (begin limits p k m).answer ≡ accepted) where
  -- begin appends each root to a ring "and its weight to that counter"; the other rings are empty, their counters zeroed
  begun-counter : (i j : ℕ) → i < p → j < p
      → counter_of (state_of p k (begin limits p k m).memory) i j
      ≡ pos (sum_of (weight_of (state_of p k (begin limits p k m).memory)) (queue_of (state_of p k (begin limits p k m).memory) i j))
  unfolding state_of sum_of
  begun-counter i j hi hj = counter_at p k b i j hi hj ∙ go (ℕ_discrete i j) ∙ same-weights
    where
      b : Mem
      b = (begin limits p k m).memory

      laid : LaidDown p k m b
      laid = laid-down limits p k m e

      list : List ℕ
      list = queue_of (state_of p k b) i j

      same-weights : pos (sum_of (weight_in m) list) ≡ pos (sum_of (weight_in b) list)
      same-weights = ap (λ (w : List ℕ). pos (sum_of (λ t. get_or w t 0) list)) (sym laid.weights)

      go : Dec (i ≡ j) → counter_in b (ring_number p i j) ≡ pos (sum_of (weight_in m) list)
      go (yes q) = rw (queue-at p k b i j hi hj, sym q, laid.own i hi) (laid.own_counter i hi)
      go (no n) = rw (queue-at p k b i j hi hj, laid.empty i j hi hj n) (laid.other_counter i j hi hj n)

  -- and no hand holds a task
  pub begun-own-weights : OwnWeights nil.0 (weight_of (state_of p k (begin limits p k m).memory)) p (state_of p k (begin limits p k m).memory)
  begun-own-weights =
      record {
        counter = begun-counter;
        idle = λ i hi.
            phase-at p k (begin limits p k m).memory i hi ∙ ap (λ (r : Row). r.phase) (laid-row (laid-down limits p k m e) i);
      }

  pub begun-adds-up : AddsUp p (state_of p k (begin limits p k m).memory)
  begun-adds-up = own-adds-up nil.0 _ p (state_of p k (begin limits p k m).memory) begun-own-weights
