-- What the lent words say of a run's events so far: the accepted word, the entries word and the record recount them, and the task that a worker has
-- in hand is the one its last accepted Fetch answered. So it is in every family (`crates/views/proofs/Recounts.antt`) that shows what begin and an
-- accepted step leave.
use Prim.Native.Nat.{ℕ, suc, ◌+◌, ◌*◌, ◌≤◌, ◌<◌}
use mathlib.Core.Path.{◌≡◌, refl, sym, ap, ◌∙◌}
use mathlib.Core.List.{List, [], ◌++◌, append-nil}
use native.Mathlib.Omega.{arith}
use lib.ListN.{length, get_or, set}
use lib.Seq.{get_or-set_same, get_or-set_other}
use lib.Dec.{leb}
use Rattle.lists.specs.Lists.{tabulate}
use Rattle.lists.proofs.Prefixes.{zeros}
use Rattle.lists.proofs.Told.{cond_either}
use Rattle.task.specs.Types.{idle, nil}
use Rattle.task.specs.Entries.{Entry, entry_of, entries_next}
use Rattle.task.specs.Refusals.{Said, accepted, answer_says, step_says}
use Rattle.task.specs.Rows.{Acceptance}
use Rattle.task.specs.declared.Limits.{Limits}
use Rattle.task.specs.declared.Row.{Row}
use Rattle.task.specs.declared.Step.{Step}
use Rattle.task.specs.declared.Step.TheVariants.{Fetch, Start, Complete, Release}
use Rattle.task.specs.declared.StepOutcome.{StepOutcome}
use Rattle.ring.specs.Ring.{capacity}
use Rattle.memory.specs.Field as list
use Rattle.memory.specs.Updates.{store_words, updated, written}
use Rattle.rules.specs.Memory.{Mem, tasks, held, entries_in}
use Rattle.rules.specs.Updates.{Update}
use Rattle.rules.specs.Plans.{with_count}
use Rattle.rules.specs.Steps.{step}
use Rattle.rules.specs.Begin.{begin}
use Rattle.rules.specs.Begun.{LaidDown}
use Rattle.rules.specs.Moves.{Fetches, sink, inner, waiting, placed, Made, AcceptedStep}
use Rattle.rules.proofs.Moves.{accepted-step}
use Rattle.rules.proofs.RowsMade.{row_made, rows_made}
use Rattle.rules.proofs.Begun.{laid-row, laid-run, laid-down}
use Rattle.rules.proofs.Moved.{rows_other, counts, entries-after, phase-after}
use Rattle.algorithm1.specs.State.{State}
use Rattle.algorithm1.specs.Algorithm.{Lines, lowers, allocates}
use Rattle.algorithm1.specs.Reading.{record_in, state_of, thread_in}
use Rattle.algorithm1.proofs.Readings.{thread-at}
use Rattle.algorithm1.proofs.Accepted.{step-does}
use Rattle.views.proofs.Recounts as recounts
use Rattle.views.proofs.Recounts.{entry_next}
use Rattle.runs.specs.Calls.{Event, begun_memory, Run, memory_of, events_of}
use Rattle.runs.specs.RunWords.{task_in}
use Rattle.runs.proofs.Calls.{plain-laws}

-- where there is no entry
abbrev pub none : Entry ℕ
none = entry_of 0 0

abbrev pub Recounts : ℕ → Mem → List Event → Type 0
Recounts = recounts.Recounts record_in task_in nil.0

begun-blank : (limits : Limits) (p k : ℕ) (m : Mem) → answer_says (begin limits p k m).answer ≡ accepted
    → recounts.Blank record_in task_in nil.0 (begun_memory limits p k m)
unfolding record_in tabulate
begun-blank limits p k m e =
    record {
      accepted = laid-run laid 1;
      entries = laid-run laid 0;
      executed = rw (laid-run laid 0) (cond_either (leb 0 (tasks (begun_memory limits p k m))) []);
      unused = λ x. ap (λ (l : List ℕ). get_or l x 0) laid.executed ∙ zeros (length m.executed) x;
      phases = λ j. ap (λ (r : Row). r.phase) (laid-row laid j);
    }
  where
    laid : LaidDown p k m (begun_memory limits p k m)
    laid = laid-down limits p k m e

module _ (p k i : ℕ) (m : Mem) (o : StepOutcome) (us : List Update) where
  -- the task that a worker has in hand after a step
  held-made : i < p → length m.rows ≡ p → (s : Step) (f : Made s p k i m o us)
      → held (written (with_count m us) m) i ≡ (row_made p k i m o us s f).held.0
  held-made worker rows s f =
      ap (λ (l : List Row). (get_or l i idle).held.0) (rows_made p k i m o us s f)
      ∙ ap (λ (r : Row). r.held.0) (get_or-set_same m.rows i (row_made p k i m o us s f) idle (omega (arith, worker, rows)))

  -- Complete writes its own two words, every other step none
  unused-entry : (l : List ℕ) (e a b x : ℕ) → 2 * suc e ≤ x → get_or (set (set l (2 * e) a) (2 * e + 1) b) x 0 ≡ get_or l x 0
  unused-entry l e a b x h =
      get_or-set_other (set l (2 * e) a) (2 * e + 1) x b 0 (λ q. omega (arith, q, h)) ∙ get_or-set_other l (2 * e) x a 0 (λ q. omega (arith, q, h))

  unused-made : (s : Step) → Made s p k i m o us → (x : ℕ) → 2 * entries_next s (entries_in m) ≤ x
      → get_or (written (with_count m us) m).executed x 0 ≡ get_or m.executed x 0
  unfolding written updated store_words
  unused-made Fetch f x h = rw f.updates refl
  unused-made Start f x h = rw f.updates refl
  unused-made Complete (sink f) x h = rw f.updates (unused-entry m.executed (entries_in m) _ _ x h)
  unused-made Complete (inner f) x h = rw f.updates (unused-entry m.executed (entries_in m) _ _ x h)
  unused-made Release (waiting f) x h = rw f.updates refl
  unused-made Release (placed f) x h = rw f.updates refl

-- After an accepted step.
module _ (limits : Limits) (p k i : ℕ) (m : Mem) where
  abbrev after : Step → Mem
  after s = (step limits p k i s m).memory

  abbrev said : Step → Said
  said s = step_says (step limits p k i s m).answer

  executed-next : (s : Step) (o : StepOutcome) → i < p → Lines p (capacity k) i s (state_of p k m) (state_of p k (after s)) o
      → record_in (after s) ≡ record_in m ++ entry_next s (entry_of (held m i) i)
  unfolding state_of thread_in
  executed-next Fetch o w d = ap (λ (s : State). s.executed) d.after ∙ sym (append-nil (record_in m))
  executed-next Start o w d = ap (λ (s : State). s.executed) d.after ∙ sym (append-nil (record_in m))
  executed-next Complete o w d = ap (λ (s : State). s.executed) d.after ∙ rw (thread-at p k m i w) refl
  executed-next Release o w (lowers d) = ap (λ (s : State). s.executed) d.after ∙ sym (append-nil (record_in m))
  executed-next Release o w (allocates d) = ap (λ (s : State). s.executed) d.after ∙ sym (append-nil (record_in m))

  hand-left : (s : Step) → AcceptedStep limits p k i s m → recounts.HandLeft record_in task_in nil.0 i s (said s) m (after s)
  hand-left Fetch r =
      let f : Fetches p k i m r.outcome r.updates = r.allowed.made in
      λ t. rw (r.answered, f.outcome, r.left)
      (held-made p k i m r.outcome r.updates r.allowed.worker (r.allowed.fits.lengths.list list.rows) Fetch f)
  hand-left Start r =
      rw r.left (held-made p k i m r.outcome r.updates r.allowed.worker (r.allowed.fits.lengths.list list.rows) Start r.allowed.made)
  hand-left Complete r = tt
  hand-left Release r = tt

  step-leaves : (s : Step) → Acceptance (said s) → recounts.Stepped record_in task_in nil.0 p i s (said s) m (after s)
  step-leaves s a =
      record {
        worker = r.allowed.worker;
        accepted = counts limits p k i s m a;
        entries = entries-after limits p k i s m a;
        executed = executed-next s r.outcome r.allowed.worker (step-does limits p k i s m r).lines;
        unused = unused;
        phase = r.allowed.phase;
        leads = phase-after limits p k i s m a;
        hand = hand-left s r;
        others = rows_other limits p k i s m;
      }
    where
      r : AcceptedStep limits p k i s m
      r = accepted-step limits p k i s m a

      unused : (x : ℕ) → 2 * entries_in (after s) ≤ x → get_or (after s).executed x 0 ≡ get_or m.executed x 0
      unused x l =
          ap (λ (m' : Mem). get_or m'.executed x 0) r.left
          ∙ unused-made p k i m r.outcome r.updates s r.allowed.made x (omega (arith, l, entries-after limits p k i s m a))

-- after every list of a run's calls
pub recounted : (r : Run) → Recounts r.workers (memory_of r) (events_of r)
recounted =
    recounts.recounted plain-laws (record { names = λ n d t. refl; begun = begun-blank; stepped = λ limits p k i s m. step-leaves limits p k i m s })
