-- PROMISE: an accepted step adds 1 to the accepted word and rewrites its worker's row, so it moves something; it leaves the phase of the
-- fixed table, and Complete alone adds an entry. No step writes another worker's row.
use Prim.Native.Nat.{ℕ, suc, ◌+◌}
use mathlib.Core.Path.{◌≡◌, refl, sym, ap, ◌∙◌}
use mathlib.Core.Logic.{◌⊎◌, inl, inr}
use mathlib.Core.List.{List}
use native.Mathlib.Omega.{arith}
use lib.ListN.{length, get_or, set, length-set}
use lib.Seq.{get_or-set_same, get_or-set_other}
use Rattle.task.specs.Entries.{entries_next}
use Rattle.task.specs.Types.{idle}
use Rattle.task.specs.Phases.{suits, leads_to}
use Rattle.task.specs.Refusals.{step_says}
use Rattle.task.specs.Rows.{Acceptance}
use Rattle.task.specs.declared.Limits.{Limits}
use Rattle.task.specs.declared.Row.{Row}
use Rattle.task.specs.declared.Step.{Step}
use Rattle.task.specs.declared.Step.TheVariants.{Fetch, Start, Complete, Release}
use Rattle.task.specs.declared.StepOutcome.{StepOutcome}
use Rattle.memory.specs.Family.{Places}
use Rattle.memory.specs.Field as list
use Rattle.memory.specs.Updates.{updated, written}
use Rattle.rules.specs.Memory.{Mem, row_in, moved_to, entries_in, accepted_in}
use Rattle.rules.specs.Updates.{Update}
use Rattle.rules.specs.Steps.{step}
use Rattle.rules.specs.Plans.{with_count}
use Rattle.rules.specs.Moves.{sink, inner, next, last, Advances, waiting, placed, Made, AcceptedStep}
use Rattle.rules.proofs.Moves.{accepted-step, accepted-or-same}
use Rattle.rules.proofs.RowsMade.{row_made, rows_made}

-- what an accepted step of worker i leaves of the rows and the run words
record Writes (i : ℕ) (s : Step) (m m' : Mem) : Type 0 where
  row : Row
  rows : m'.rows ≡ set m.rows i row
  phase : row.phase ≡ leads_to s
  other : ¬ (row ≡ row_in m i)
  accepted : accepted_in m' ≡ suc (accepted_in m)
  entries : entries_in m' ≡ entries_next s (entries_in m)

-- Release advances the read place or the cursor
advanced-row : {count : ℕ} {r : Row} {to : Places} → Advances count r to → ¬ (moved_to to r ≡ r)
advanced-row (next h) e = omega (arith, ap (λ (x : Row). x.cursor) e)
advanced-row (last h) e = omega (arith, ap (λ (x : Row). x.read) e)

same-phase : {r r' : Row} → r ≡ r' → r.phase ≡ r'.phase
same-phase e = ap (λ (r : Row). r.phase) e

module _ (p k i : ℕ) (m : Mem) (two : ◌≡◌ {A = ℕ} (length m.run) 2) where
  -- the run words once the step is counted
  abbrev run : List ℕ
  run = set m.run 1 (accepted_in m + 1)

  run-accepted : get_or run 1 0 ≡ suc (accepted_in m)
  run-accepted = get_or-set_same m.run 1 (accepted_in m + 1) 0 (omega (arith, two)) ∙ omega arith

  run-entries : get_or run 0 0 ≡ entries_in m
  run-entries = get_or-set_other m.run 1 0 (accepted_in m + 1) 0 (λ e. omega arith)

  -- and once Complete has added its entry
  full-accepted : get_or (set run 0 (entries_in m + 1)) 1 0 ≡ suc (accepted_in m)
  full-accepted = get_or-set_other run 0 1 (entries_in m + 1) 0 (λ e. omega arith) ∙ run-accepted

  full-entries : get_or (set run 0 (entries_in m + 1)) 0 0 ≡ suc (entries_in m)
  full-entries = get_or-set_same run 0 (entries_in m + 1) 0 (omega (arith, two, length-set m.run 1 (accepted_in m + 1))) ∙ omega arith

  -- the row that the step leaves is another one, in the phase that the step leads to
  row_other : (s : Step) (o : StepOutcome) (us : List Update) → (row_in m i).phase ≡ suits s → (f : Made s p k i m o us)
      → ((row_made p k i m o us s f).phase ≡ leads_to s) × ¬ (row_made p k i m o us s f ≡ row_in m i)
  row_other Fetch o us h f = (refl, λ e. omega (arith, h, same-phase e))
  row_other Start o us h f = (refl, λ e. omega (arith, h, same-phase e))
  row_other Complete o us h (sink f) = (refl, λ e. omega (arith, h, same-phase e))
  row_other Complete o us h (inner f) = (refl, λ e. omega (arith, h, same-phase e))
  row_other Release o us h (waiting f) = (h, advanced-row f.common.advances)
  row_other Release o us h (placed f) = (h, advanced-row f.common.advances)

  -- the run words
  words-made : (s : Step) (o : StepOutcome) (us : List Update) → Made s p k i m o us
      → (accepted_in (written (with_count m us) m) ≡ suc (accepted_in m)) × (entries_in (written (with_count m us) m) ≡ entries_next s (entries_in m))
  unfolding written updated
  words-made Fetch o us f = rw f.updates (run-accepted, run-entries)
  words-made Start o us f = rw f.updates (run-accepted, run-entries)
  words-made Complete o us (sink f) = rw f.updates (full-accepted, full-entries)
  words-made Complete o us (inner f) = rw f.updates (full-accepted, full-entries)
  words-made Release o us (waiting f) = rw f.updates (run-accepted, run-entries)
  words-made Release o us (placed f) = rw f.updates (run-accepted, run-entries)

  made-writes : (s : Step) (o : StepOutcome) (us : List Update) → (row_in m i).phase ≡ suits s → Made s p k i m o us
      → Writes i s m (written (with_count m us) m)
  made-writes s o us h f =
      let (phase, other) = row_other s o us h f in
      let (accepted, entries) = words-made s o us f in
      record { row = row_made p k i m o us s f; rows = rows_made p k i m o us s f; phase = phase; other = other; accepted = accepted; entries = entries }

module _ (limits : Limits) (p k i : ℕ) (s : Step) (m : Mem) where
  accepted-writes : AcceptedStep limits p k i s m → Writes i s m (step limits p k i s m).memory
  accepted-writes r = rw r.left (made-writes p k i m (r.allowed.fits.lengths.list list.run) s r.outcome r.updates r.allowed.phase r.allowed.made)

  -- no step writes another worker's row
  pub rows_other : (j : ℕ) → ¬ (j ≡ i) → row_in (step limits p k i s m).memory j ≡ row_in m j
  rows_other j n = go (accepted-or-same limits p k i s m)
    where
      go : AcceptedStep limits p k i s m ⊎ ((step limits p k i s m).memory ≡ m) → row_in (step limits p k i s m).memory j ≡ row_in m j
      go (inl r) =
          let w : Writes i s m (step limits p k i s m).memory = accepted-writes r in
          ap (λ (rows : List Row). get_or rows j idle) w.rows ∙ get_or-set_other m.rows i j w.row idle n
      go (inr e) = ap (λ (m' : Mem). row_in m' j) e

  module _ (a : Acceptance (step_says (step limits p k i s m).answer)) where
    accepted : AcceptedStep limits p k i s m
    accepted = accepted-step limits p k i s m a

    writes : Writes i s m (step limits p k i s m).memory
    writes = accepted-writes accepted

    row_written : row_in (step limits p k i s m).memory i ≡ writes.row
    row_written =
        ap (λ (rows : List Row). get_or rows i idle) writes.rows
        ∙ get_or-set_same m.rows i writes.row idle (omega (arith, accepted.allowed.worker, accepted.allowed.fits.lengths.list list.rows))

    -- "Each accepted step adds 1 to the accepted word"
    pub counts : accepted_in (step limits p k i s m).memory ≡ suc (accepted_in m)
    counts = writes.accepted

    -- "Release 0→0, Fetch 0→1, Start 1→2, Complete 2→0"
    pub phase-after : (row_in (step limits p k i s m).memory i).phase ≡ leads_to s
    phase-after = same-phase row_written ∙ writes.phase

    -- the worker's row is another one: Release moves the cursor or the read place, the other steps the phase
    pub row_moved : ¬ (row_in (step limits p k i s m).memory i ≡ row_in m i)
    row_moved e = writes.other (sym row_written ∙ e)

    -- so an accepted step moves something
    pub moved : ¬ ((step limits p k i s m).memory ≡ m)
    moved e = row_moved (ap (λ (m' : Mem). row_in m' i) e)

    -- Complete adds 1 to the entries word, the other steps leave it
    pub entries-after : entries_in (step limits p k i s m).memory ≡ entries_next s (entries_in m)
    entries-after = writes.entries
