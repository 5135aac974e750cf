-- The words that are no part of Algorithm 1's state: an accepted begin leaves them as `Words` says, and every accepted step keeps them so.
use Prim.Native.Nat.{ℕ, ◌+◌, ◌*◌, ◌%◌, ◌≤◌, ◌<◌}
use mathlib.Core.Path.{◌≡◌, refl, sym, ap, ◌∙◌}
use mathlib.Core.Bool.{cond}
use mathlib.Core.List.{List}
use native.Mathlib.Omega.{arith}
use native.Mathlib.Nat.{mod-eq_of_lt}
use native.Mathlib.Decide.{ℕ_discrete}
use lib.ListN.{length, get_or, set}
use lib.Seq.{get_or-set_same}
use lib.Dec.{eqb}
use Rattle.lists.specs.Circles.{after}
use Rattle.lists.specs.Sums.{sum_to}
use Rattle.lists.proofs.Told.{Told, told-true, told-false, same-told}
use Rattle.lists.proofs.Sums.{sum-zero, sum-at}
use Rattle.lists.proofs.Places.{place-parts}
use Rattle.task.specs.Entries.{entries_next}
use Rattle.task.specs.Types.{idle}
use Rattle.task.specs.Refusals.{accepted, answer_says}
use Rattle.task.specs.declared.Ends.{Ends}
use Rattle.task.specs.declared.Limits.{Limits}
use Rattle.task.specs.declared.Row.{Row}
use Rattle.task.specs.declared.Step.{Step}
use Rattle.task.specs.declared.Step.TheVariants.{Fetch, Start, Complete, Release}
use Rattle.task.specs.declared.StepOutcome.{StepOutcome}
use Rattle.ring.specs.Ring.{ends_at, store_ends, Sound, head_on, tail_on, queue, filled_ends}
use Rattle.ring.proofs.Ends.{ends_same, stored-sound, sound-append, sound-take, filled-queued}
use Rattle.ring.proofs.Queues.{length-queue}
use Rattle.memory.specs.Family.{Places}
use Rattle.memory.specs.Field as list
use Rattle.memory.specs.Updates.{updated, written}
use Rattle.rules.specs.Memory.{Mem, tasks, ring_number, rings_in, ends_in, row_in, entries_in}
use Rattle.rules.specs.Updates.{Update}
use Rattle.rules.specs.Plans.{with_count}
use Rattle.rules.specs.Steps.{step}
use Rattle.rules.specs.Begin.{begin}
use Rattle.rules.specs.Begun.{LaidDown, roots_of}
use Rattle.rules.specs.Moves.{Allowed, AcceptedStep, Made, Advances, next, last, sink, inner, waiting, placed}
use Rattle.rules.proofs.RowsMade.{row_made, rows_made}
use Rattle.rules.proofs.Moves.{step-accepts}
use Rattle.rules.proofs.Moved.{rows_other, entries-after}
use Rattle.rules.proofs.Kept.{step_keeps}
use Rattle.rules.proofs.Begin.{begin-accepted}
use Rattle.rules.proofs.Begun.{laid-row, laid-run, laid-down}
use Rattle.runs.proofs.Invariant.{Words}

-- After an accepted begin.
module _ (limits : Limits) (p k : ℕ) (m : Mem) (e : answer_says (begin limits p k m).answer ≡ accepted) where
  abbrev b : Mem
  b = (begin limits p k m).memory

  laid : LaidDown p k m b
  laid = laid-down limits p k m e

  slots : 0 < k
  slots = omega (arith, ((begin-accepted limits p k m).0 e).0.limits.two_slots)

  -- each ring is filled from its first slot on with what it holds
  begun-ends : (i j : ℕ) → i < p → j < p → ends_in b (ring_number p i j) ≡ filled_ends k (length (queue 0 k (rings_in b) (ring_number p i j)))
  begun-ends i j hi hj =
      let (tail, count) = go (same-told i j) in
      ends_same _ _ (laid.head (ring_number p i j)) (laid.tail i j hi hj ∙ tail) (laid.count i j hi hj ∙ count)
    where
      queued : ℕ
      queued = length (queue 0 k (rings_in b) (ring_number p i j))

      go : Told (eqb i j) (i ≡ j) (¬ (i ≡ j))
          → (cond (eqb i j) (length (roots_of p i m) % k) 0 ≡ queued % k) × (cond (eqb i j) (length (roots_of p i m)) 0 ≡ queued)
      go (told-true t s) = rw (t, sym s) (sym (ap (λ (l : List ℕ). length l % k) (laid.own i hi)), sym (ap length (laid.own i hi)))
      go (told-false f n) =
          rw f (
            sym (ap (λ (l : List ℕ). length l % k) (laid.empty i j hi hj n) ∙ mod-eq_of_lt slots),
            sym (ap length (laid.empty i j hi hj n)),
          )

  pub begun-words : Words p k b
  begun-words =
      record {
        ends = ends;
        places = λ i h. rw (laid-row laid i) (omega arith);
        filled = omega (arith, sum-zero p (λ i. (row_in b i).write) (λ i h. ap (λ (r : Row). r.write) (laid-row laid i)));
        entries = omega (arith, laid-run laid 0);
      }
    where
      ends : (q : ℕ) → q < p * p → Sound k (ends_in b q)
      ends q h =
          let (i, j, hi, hj, s) = place-parts p p q h in
          let q' : ℕ = ring_number p i j in
          rw (sym s, begun-ends i j hi hj)
          (filled-queued k (length (queue 0 k (rings_in b) q')) slots (rw (begun-ends i j hi hj) at (sym (length-queue 0 k (rings_in b) q'))))

-- what Release does to the places
advanced-places : {count : ℕ} {r : Row} {to : Places} → r.read < r.write → Advances count r to → (to.read ≤ to.write) × (to.write ≡ r.write)
advanced-places h (next c) = (omega (arith, h), refl)
advanced-places h (last c) = (omega (arith, h), refl)

-- what an accepted step of worker i leaves of the ends and of its row; at most the one task that Complete records joins a buffer
record Leaves (p k i : ℕ) (s : Step) (m m' : Mem) : Type 0 where
  ends : (q : ℕ) → q < p * p → Sound k (ends_in m' q)
  row : Row
  rows : m'.rows ≡ set m.rows i row
  places : row.read ≤ row.write
  joins : row.write ≤ entries_next s (row_in m i).write

module _ (limits : Limits) (p k i : ℕ) (m : Mem) (w : Words p k m) where
  stored : {s : Step} {o : StepOutcome} {us : List Update} → Allowed limits p k i s m o us
      → (q : ℕ) (e : Ends) → Sound k e → (r : ℕ) → r < p * p → Sound k (ends_at (store_ends m.ends q e) r)
  stored a q e = stored-sound k (p * p) m.ends q e (a.fits.lengths.list list.ends) w.ends

  made_ends : (s : Step) (o : StepOutcome) (us : List Update) → Allowed limits p k i s m o us → (f : Made s p k i m o us)
      → (q : ℕ) → q < p * p → Sound k (ends_in (written (with_count m us) m) q)
  unfolding written updated head_on tail_on after
  made_ends Fetch o us a f = rw f.updates (stored a f.ring _ (sound-take k (ends_in m f.ring) (rw f.ring_is f.stop.sound) (rw f.ring_is f.stop.stops)))
  made_ends Start o us a f = rw f.updates w.ends
  made_ends Complete o us a (sink f) = rw f.updates w.ends
  made_ends Complete o us a (inner f) = rw f.updates w.ends
  made_ends Release o us a (waiting f) = rw f.updates w.ends
  made_ends Release o us a (placed f) =
      rw f.updates (stored a f.ring _ (sound-append k (ends_in m f.ring) (rw (f.ring_is, f.owner_is) f.stop.sound)
      (rw (f.ring_is, f.owner_is) f.stop.stops)))

  abbrev Ordered : Step → Row → Type 0
  Ordered s row = (row.read ≤ row.write) × (row.write ≤ entries_next s (row_in m i).write)

  made-places : (s : Step) (o : StepOutcome) (us : List Update) → i < p → (f : Made s p k i m o us) → Ordered s (row_made p k i m o us s f)
  made-places Fetch o us h f = (w.places i h, omega arith)
  made-places Start o us h f = (w.places i h, omega arith)
  made-places Complete o us h (sink f) = (w.places i h, omega arith)
  made-places Complete o us h (inner f) = (omega (arith, f.places), omega arith)
  made-places Release o us h (waiting f) = let (c, d) = advanced-places f.common.not_empty f.common.advances in (c, omega (arith, d))
  made-places Release o us h (placed f) = let (c, d) = advanced-places f.common.not_empty f.common.advances in (c, omega (arith, d))

  made-leaves : (s : Step) (o : StepOutcome) (us : List Update) → Allowed limits p k i s m o us → Leaves p k i s m (written (with_count m us) m)
  made-leaves s o us a =
      let (places, joins) = made-places s o us a.worker a.made in
      record {
        ends = made_ends s o us a a.made;
        row = row_made p k i m o us s a.made;
        rows = rows_made p k i m o us s a.made;
        places = places;
        joins = joins;
      }

-- the sum of all writes grows by no more than the entries
within : (s : Step) (old new write write' entries entries' : ℕ) → new + write ≡ old + write' → write' ≤ entries_next s write → old ≤ entries
    → entries' ≡ entries_next s entries → new ≤ entries'
within Fetch old new write write' entries entries' e j h n = omega (arith, e, j, h, n)
within Start old new write write' entries entries' e j h n = omega (arith, e, j, h, n)
within Complete old new write write' entries entries' e j h n = omega (arith, e, j, h, n)
within Release old new write write' entries entries' e j h n = omega (arith, e, j, h, n)

module _ (limits : Limits) (p k i : ℕ) (s : Step) (m : Mem) (r : AcceptedStep limits p k i s m) where
  abbrev m' : Mem
  m' = (step limits p k i s m).memory

  abbrev writes : Mem → ℕ → ℕ
  writes m j = (row_in m j).write

  pub step_words : Words p k m → Words p k m'
  step_words w = record { ends = l.ends; places = places; filled = filled; entries = entries s r.allowed.made more }
    where
      l : Leaves p k i s m m'
      l = rw r.left (made-leaves limits p k i m w s r.outcome r.updates r.allowed)

      row : row_in m' i ≡ l.row
      row =
          ap (λ (rows : List Row). get_or rows i idle) l.rows
          ∙ get_or-set_same m.rows i l.row idle (omega (arith, r.allowed.worker, r.allowed.fits.lengths.list list.rows))

      more : entries_in m' ≡ entries_next s (entries_in m)
      more = entries-after limits p k i s m (step-accepts limits p k i s m r)

      places : (j : ℕ) → j < p → (row_in m' j).read ≤ (row_in m' j).write
      places j h = go (ℕ_discrete j i)
        where
          go : Dec (j ≡ i) → (row_in m' j).read ≤ (row_in m' j).write
          go (yes e) = rw (e, row) l.places
          go (no n) = rw (rows_other limits p k i s m j n) (w.places j h)

      sums : sum_to p (writes m') + writes m i ≡ sum_to p (writes m) + l.row.write
      sums =
          sum-at p (writes m) (writes m') i r.allowed.worker (λ j n. ap (λ (r : Row). r.write) (rows_other limits p k i s m j n))
          ∙ ap (λ (r : Row). sum_to p (writes m) + r.write) row

      filled : sum_to p (writes m') ≤ entries_in m'
      filled = within s _ _ (writes m i) l.row.write (entries_in m) (entries_in m') sums l.joins w.filled more

      same : tasks m' ≡ tasks m
      same = ap length (step_keeps limits p k i s m).graph.weights

      entries : (s : Step) → Made s p k i m r.outcome r.updates → entries_in m' ≡ entries_next s (entries_in m) → entries_in m' ≤ tasks m'
      entries Fetch f e = omega (arith, e, w.entries, same)
      entries Start f e = omega (arith, e, w.entries, same)
      entries Complete (sink f) e = omega (arith, e, f.common.entries, same)
      entries Complete (inner f) e = omega (arith, e, f.common.entries, same)
      entries Release f e = omega (arith, e, w.entries, same)
