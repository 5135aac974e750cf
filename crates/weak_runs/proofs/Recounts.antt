-- What the lent words say of a weak run's events so far: the accepted word, the entries word and the record recount them, and the copy that a worker has
-- in hand is the one its last accepted Fetch answered. So it is in every family (`crates/views/proofs/Recounts.antt`) that shows what begin and an
-- accepted step leave.
use Prim.Native.Nat.{ℕ, suc, ◌+◌, ◌*◌, ◌≤◌, ◌<◌}
use mathlib.Core.Path.{◌≡◌, refl, sym, ap, ◌∙◌}
use mathlib.Core.List.{List, [], ◌++◌, append-nil}
use native.Mathlib.Omega.{arith}
use lib.ListN.{length, get_or, set}
use lib.Seq.{get_or-set_same, get_or-set_other}
use lib.Dec.{leb}
use Rattle.lists.specs.Lists.{tabulate}
use Rattle.lists.proofs.Prefixes.{zeros}
use Rattle.lists.proofs.Told.{cond_either}
use Rattle.task.specs.Types.{nil}
use Rattle.task.specs.Entries.{entry_of, entries_next}
use Rattle.task.specs.Refusals.{Said, accepted, answer_says}
use Rattle.task.specs.Rows.{Acceptance}
use Rattle.task.specs.declared.Limits.{Limits}
use Rattle.task.specs.declared.Step.{Step}
use Rattle.task.specs.declared.Step.TheVariants.{Fetch, Start, Complete, Release}
use Rattle.ring.specs.Ring.{capacity}
use Rattle.memory.specs.Field as list
use Rattle.memory.specs.Updates.{store_words, updated, written}
use Rattle.split_lists.specs.Reading.{thread_in}
use Rattle.weak_task.specs.Types.{copy, copy_of, idle}
use Rattle.weak_task.specs.Says.{step_says}
use Rattle.weak_task.specs.declared.WeakRow.{WeakRow}
use Rattle.weak_task.specs.declared.WeakOutcome.{WeakOutcome}
use Rattle.weak_rules.specs.Memory.{Mem, edges, held, entries_in, roots_word}
use Rattle.weak_rules.specs.Updates.{Update}
use Rattle.weak_rules.specs.Plans.{with_count}
use Rattle.weak_rules.specs.Steps.{step}
use Rattle.weak_rules.specs.Begin.{begin}
use Rattle.weak_rules.specs.Begun.{LaidDown}
use Rattle.weak_rules.specs.Moves.{Fetches, copies, sink, inner, first, later, Made, AcceptedStep}
use Rattle.weak_rules.proofs.Moves.{accepted-step}
use Rattle.weak_rules.proofs.RowsMade.{row_made, rows_made}
use Rattle.weak_rules.proofs.Begun.{laid-row, laid-run, laid-down}
use Rattle.weak_rules.proofs.Moved.{rows_other, counts, entries-after, phase-after}
use Rattle.weak_algorithm.specs.State.{State}
use Rattle.weak_algorithm.specs.Algorithm.{copies, completes, first, later, Lines}
use Rattle.weak_algorithm.specs.Reading.{record_in, state_of}
use Rattle.weak_algorithm.proofs.Readings.{thread-at}
use Rattle.weak_algorithm.proofs.Accepted.{step-does}
use Rattle.views.proofs.Recounts as recounts
use Rattle.views.proofs.Recounts.{entry_next}
use Rattle.weak_runs.specs.Calls.{Event, Run, memory_of, events_of}
use Rattle.weak_runs.specs.RunWords.{copy_in}
use Rattle.weak_runs.proofs.Calls.{weak-laws}

abbrev pub Recounts : ℕ → Mem → List Event → Type 0
Recounts = recounts.Recounts record_in copy_in (copy nil.0 nil.0)

begun-blank : (limits : Limits) (p k : ℕ) (m : Mem) → answer_says (begin limits p k m).answer ≡ accepted
    → recounts.Blank record_in copy_in (copy nil.0 nil.0) (begin limits p k m).memory
unfolding record_in tabulate
begun-blank limits p k m e =
    record {
      accepted = laid-run laid 1 (omega arith);
      entries = none_yet;
      executed = rw none_yet (cond_either (leb 0 (edges b + roots_word b)) []);
      unused = λ x. ap (λ (l : List ℕ). get_or l x 0) laid.executed ∙ zeros (length m.executed) x;
      phases = λ j. ap (λ (r : WeakRow). r.phase) (laid-row laid j);
    }
  where
    b : Mem
    b = (begin limits p k m).memory

    laid : LaidDown p k m (begin limits p k m).memory
    laid = laid-down limits p k m e

    none_yet : ◌≡◌ {A = ℕ} (entries_in (begin limits p k m).memory) 0
    none_yet = laid-run laid 0 (omega arith)

module _ (p k i : ℕ) (m : Mem) (o : WeakOutcome) (us : List Update) where
  -- the copy that a worker has in hand after a step
  held-made : i < p → length m.rows ≡ p → (s : Step) (f : Made s p k i m o us)
      → held (written (with_count m us) m) i ≡ copy_of (row_made p k i m o us s f).held
  held-made worker rows s f =
      ap (λ (l : List WeakRow). copy_of (get_or l i idle).held) (rows_made p k i m o us s f)
      ∙ ap (λ (r : WeakRow). copy_of r.held) (get_or-set_same m.rows i (row_made p k i m o us s f) idle (omega (arith, worker, rows)))

  -- Complete writes its own three words, every other step none
  unused-entry : (l : List ℕ) (e a b c x : ℕ) → 3 * suc e ≤ x → get_or (set (set (set l (3 * e) a) (3 * e + 1) b) (3 * e + 1 + 1) c) x 0 ≡ get_or l x 0
  unused-entry l e a b c x h =
      get_or-set_other (set (set l (3 * e) a) (3 * e + 1) b) (3 * e + 1 + 1) x c 0 (λ q. omega (arith, q, h))
      ∙ get_or-set_other (set l (3 * e) a) (3 * e + 1) x b 0 (λ q. omega (arith, q, h))
      ∙ get_or-set_other l (3 * e) x a 0 (λ q. omega (arith, q, h))

  unused-made : (s : Step) → Made s p k i m o us → (x : ℕ) → 3 * entries_next s (entries_in m) ≤ x
      → get_or (written (with_count m us) m).executed x 0 ≡ get_or m.executed x 0
  unfolding written updated store_words
  unused-made Fetch f x h = rw f.updates refl
  unused-made Start f x h = rw f.updates refl
  unused-made Complete (copies f) x h = rw f.updates (unused-entry m.executed (entries_in m) _ _ _ x h)
  unused-made Complete (sink f) x h = rw f.updates (unused-entry m.executed (entries_in m) _ _ _ x h)
  unused-made Complete (inner f) x h = rw f.updates (unused-entry m.executed (entries_in m) _ _ _ x h)
  unused-made Release (first f) x h = rw f.updates refl
  unused-made Release (later f) x h = rw f.updates refl

-- After an accepted step.
module _ (limits : Limits) (p k i : ℕ) (m : Mem) where
  abbrev after : Step → Mem
  after s = (step limits p k i s m).memory

  abbrev said : Step → Said
  said s = step_says (step limits p k i s m).answer

  executed-next : (s : Step) (o : WeakOutcome) → i < p → Lines p (capacity k) i s (state_of p k m) (state_of p k (after s)) o
      → record_in (after s) ≡ record_in m ++ entry_next s (entry_of (held m i) i)
  unfolding state_of thread_in
  executed-next Fetch o w d = ap (λ (s : State). s.lists.executed) d.after ∙ sym (append-nil (record_in m))
  executed-next Start o w d = ap (λ (s : State). s.lists.executed) d.after ∙ sym (append-nil (record_in m))
  executed-next Complete o w (copies d) = ap (λ (s : State). s.lists.executed) d.after ∙ rw (thread-at p k m i w) refl
  executed-next Complete o w (completes d) = ap (λ (s : State). s.lists.executed) d.after ∙ rw (thread-at p k m i w) refl
  executed-next Release o w (first d) = ap (λ (s : State). s.lists.executed) d.after ∙ sym (append-nil (record_in m))
  executed-next Release o w (later d) = ap (λ (s : State). s.lists.executed) d.after ∙ sym (append-nil (record_in m))

  hand-left : (s : Step) → AcceptedStep limits p k i s m → recounts.HandLeft record_in copy_in (copy nil.0 nil.0) i s (said s) m (after s)
  hand-left Fetch r =
      let f : Fetches p k i m r.outcome r.updates = r.allowed.made in
      λ c. rw (r.answered, f.outcome, r.left)
      (held-made p k i m r.outcome r.updates r.allowed.worker (r.allowed.fits.lengths.list list.rows) Fetch f)
  hand-left Start r =
      rw r.left (held-made p k i m r.outcome r.updates r.allowed.worker (r.allowed.fits.lengths.list list.rows) Start r.allowed.made)
  hand-left Complete r = tt
  hand-left Release r = tt

  step-leaves : (s : Step) → Acceptance (said s) → recounts.Stepped record_in copy_in (copy nil.0 nil.0) p i s (said s) m (after s)
  step-leaves s a =
      record {
        worker = r.allowed.worker;
        accepted = counts limits p k i s m a;
        entries = entries-after limits p k i s m a;
        executed = executed-next s r.outcome r.allowed.worker (step-does limits p k i s m r).lines;
        unused = unused;
        phase = r.allowed.phase;
        leads = phase-after limits p k i s m a;
        hand = hand-left s r;
        others = rows_other limits p k i s m;
      }
    where
      r : AcceptedStep limits p k i s m
      r = accepted-step limits p k i s m a

      unused : (x : ℕ) → 3 * entries_in (after s) ≤ x → get_or (after s).executed x 0 ≡ get_or m.executed x 0
      unused x l =
          ap (λ (m' : Mem). get_or m'.executed x 0) r.left
          ∙ unused-made p k i m r.outcome r.updates s r.allowed.made x (omega (arith, l, entries-after limits p k i s m a))

-- after every list of a run's calls
pub recounted : (r : Run) → Recounts r.workers (memory_of r) (events_of r)
recounted =
    recounts.recounted weak-laws (record { names = λ n d c. refl; begun = begun-blank; stepped = λ limits p k i s m. step-leaves limits p k i m s })
