use native.Mathlib.Omega.{arith}
use mir.Facts.{Fits-32_64}
use Rattle.weak_complete.proofs.Laws.{last-heavy, last-counter, last-beyond, last-back, sink-counted, last-sink, last-full, last-places, inner-counted, last_inner}
use Rattle.weak_complete.proofs.plan_last.Goals as goal

pub returns-then-weight-gt65535 : goal.returns-then-weight-gt65535
returns-then-weight-gt65535 c = last-heavy _ _ _ _ _ _ _ _ _ c.requires.1.1.1.1.1 c.if-weight-gt65535.true

pub returns-then-not-counter_fits : goal.returns-then-not-counter_fits
returns-then-not-counter_fits c = last-counter _ _ _ _ _ _ _ _ _ c.requires.1.1.1.1.1 c.if-weight-gt65535.false _ c.counter_fits.ensures c.if-not-counter_fits.true-raw

pub overflow_cast-past : goal.overflow_cast-past
overflow_cast-past c = Fits-32_64 (c.type_inv.succ_starts _)

pub returns-then-e-past : goal.returns-then-e-past
returns-then-e-past c = last-beyond _ _ _ _ _ _ _ _ _ c.requires.1.1.1.1.1 c.if-weight-gt65535.false _ c.counter_fits.ensures c.if-not-counter_fits.false-raw c.if-e-past.true

pub returns-then-past-first-2 : goal.returns-then-past-first-2
returns-then-past-first-2 c = last-back _ _ _ _ _ _ _ _ _ c.requires.1.1.1.1.1 c.if-weight-gt65535.false _ c.counter_fits.ensures c.if-not-counter_fits.false-raw c.if-e-past.false c.if-past-first-2.true

pub overflow_cast-accepted : goal.overflow_cast-accepted
overflow_cast-accepted c = Fits-32_64 (c.type_inv.run _)

pub returns-then-e-roots : goal.returns-then-e-roots
returns-then-e-roots c = sink-counted _ _ _ _ _ _ _ _ _ c.requires.1.1.1.1.1 c.if-weight-gt65535.false _ c.counter_fits.ensures c.if-not-counter_fits.false-raw c.if-e-past.false c.if-past-first.true c.if-past-first-2.false c.if-e-roots.true

pub returns-then-past-first : goal.returns-then-past-first
returns-then-past-first c = last-sink _ _ _ _ _ _ _ _ _ c.requires.1.1.1.1.1 c.if-weight-gt65535.false _ c.counter_fits.ensures c.if-not-counter_fits.false-raw c.if-e-past.false c.if-past-first.true c.if-past-first-2.false c.if-e-roots.false

pub returns-then-n-row : goal.returns-then-n-row
returns-then-n-row c = last-full _ _ _ _ _ _ _ _ _ c.requires.1.1.1.1.1 c.if-weight-gt65535.false _ c.counter_fits.ensures c.if-not-counter_fits.false-raw c.if-e-past.false c.if-past-first.false c.if-n-row.true

pub returns-then-row : goal.returns-then-row
returns-then-row c = last-places _ _ _ _ _ _ _ _ _ c.requires.1.1.1.1.1 c.if-weight-gt65535.false _ c.counter_fits.ensures c.if-not-counter_fits.false-raw c.if-e-past.false c.if-past-first.false c.if-n-row.false c.if-row.true

pub bounds-run-1-2 : goal.bounds-run-1-2
bounds-run-1-2 c = omega (arith, c.requires.1.1.1.1.0)

pub overflow_cast-accepted-2 : goal.overflow_cast-accepted-2
overflow_cast-accepted-2 c = Fits-32_64 (c.type_inv.run _)

pub returns-then-e-roots-2 : goal.returns-then-e-roots-2
returns-then-e-roots-2 c = inner-counted _ _ _ _ _ _ _ _ _ c.requires.1.1.1.1.1 c.if-weight-gt65535.false _ c.counter_fits.ensures c.if-not-counter_fits.false-raw c.if-e-past.false c.if-past-first.false c.if-n-row.false c.if-row.false c.if-e-roots-2.true

pub returns : goal.returns
returns c = last_inner _ _ _ _ _ _ _ _ _ c.requires.1.1.1.1.1 c.if-weight-gt65535.false _ c.counter_fits.ensures c.if-not-counter_fits.false-raw c.if-e-past.false c.if-past-first.false c.if-n-row.false c.if-row.false c.if-e-roots-2.false
