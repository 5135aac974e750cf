use Rattle.complete.proofs.Laws.{plan-over, plan-full, plan-held, plan-heavy, plan-counter, plan-past, plan-first, plan-alone, plan-sink, plan-write, plan-places, plan-counted, plan-inner}
use native.Mathlib.Omega.{arith}
use Prim.Native.Nat.{◌+◌}
use Rattle.complete.proofs.plan_complete.Goals as goal

pub overflow_cast-entries : goal.overflow_cast-entries
overflow_cast-entries c = omega (arith, c.type_inv.run 0)

pub overflow_cast-entries-then-n-entries : goal.overflow_cast-entries-then-n-entries
overflow_cast-entries-then-n-entries c = omega (arith, c.type_inv.run 0)

pub returns-then-entries-n : goal.returns-then-entries-n
returns-then-entries-n c = (plan-full _ _ _ _ _ _ _ c.if-entries-n.true, tt)

pub returns-then-n-entries : goal.returns-then-n-entries
returns-then-n-entries c = (plan-over _ _ _ _ _ _ _ (omega (arith, c.if-n-entries.true, c.if-entries-n.false)), tt)

pub returns-then-n-held : goal.returns-then-n-held
returns-then-n-held c = (plan-held _ _ _ _ _ _ _ c.if-n-entries.false c.if-n-held.true, tt)

pub returns-then-weight-gt65535 : goal.returns-then-weight-gt65535
returns-then-weight-gt65535 c = (plan-heavy _ _ _ _ _ _ _ c.if-n-entries.false c.if-n-held.false c.if-weight-gt65535.true, tt)

pub returns-then-not-counter_fits : goal.returns-then-not-counter_fits
returns-then-not-counter_fits c = (plan-counter _ _ _ _ _ _ _ c.if-n-entries.false c.if-n-held.false c.if-weight-gt65535.false _ c.counter_fits.ensures c.if-not-counter_fits.true-raw, tt)

pub overflow_cast-past : goal.overflow_cast-past
overflow_cast-past c = omega (arith, c.type_inv.succ_starts (c.args.row.held.0 + 1))

pub returns-then-e-past : goal.returns-then-e-past
returns-then-e-past c = (plan-past _ _ _ _ _ _ _ c.if-n-entries.false c.if-n-held.false c.if-weight-gt65535.false _ c.counter_fits.ensures c.if-not-counter_fits.false-raw c.if-e-past.true, tt)

pub returns-then-past-first-2 : goal.returns-then-past-first-2
returns-then-past-first-2 c = (plan-first _ _ _ _ _ _ _ c.if-n-entries.false c.if-n-held.false c.if-weight-gt65535.false _ c.counter_fits.ensures c.if-not-counter_fits.false-raw c.if-past-first-2.true, tt)

pub overflow_cast-accepted : goal.overflow_cast-accepted
overflow_cast-accepted c = omega (arith, c.type_inv.run 1)

pub returns-then-n-e : goal.returns-then-n-e
returns-then-n-e c = (plan-alone _ _ _ _ _ _ _ c.if-n-entries.false c.if-n-held.false c.if-weight-gt65535.false _ c.counter_fits.ensures c.if-not-counter_fits.false-raw c.if-e-past.false c.if-past-first.true c.if-past-first-2.false c.if-n-e.true, tt)

pub returns-then-past-first : goal.returns-then-past-first
returns-then-past-first c = plan-sink _ _ _ _ _ _ _ c.if-n-entries.false c.if-n-held.false c.if-weight-gt65535.false _ c.counter_fits.ensures c.if-not-counter_fits.false-raw c.if-e-past.false c.if-past-first.true c.if-past-first-2.false c.if-n-e.false

pub returns-then-n-row : goal.returns-then-n-row
returns-then-n-row c = (plan-write _ _ _ _ _ _ _ c.if-n-entries.false c.if-n-held.false c.if-weight-gt65535.false _ c.counter_fits.ensures c.if-not-counter_fits.false-raw c.if-e-past.false c.if-past-first.false c.if-n-row.true, tt)

pub returns-then-row : goal.returns-then-row
returns-then-row c = (plan-places _ _ _ _ _ _ _ c.if-n-entries.false c.if-n-held.false c.if-weight-gt65535.false _ c.counter_fits.ensures c.if-not-counter_fits.false-raw c.if-e-past.false c.if-past-first.false c.if-row.true, tt)

pub overflow_cast-accepted-2 : goal.overflow_cast-accepted-2
overflow_cast-accepted-2 c = omega (arith, c.type_inv.run 1)

pub returns-then-n-e-2 : goal.returns-then-n-e-2
returns-then-n-e-2 c = (plan-counted _ _ _ _ _ _ _ c.if-n-entries.false c.if-n-held.false c.if-weight-gt65535.false _ c.counter_fits.ensures c.if-not-counter_fits.false-raw c.if-e-past.false c.if-past-first.false c.if-n-row.false c.if-row.false c.if-n-e-2.true, tt)

pub returns : goal.returns
returns c = plan-inner _ _ _ _ _ _ _ c.if-n-entries.false c.if-n-held.false c.if-weight-gt65535.false _ c.counter_fits.ensures c.if-not-counter_fits.false-raw c.if-e-past.false c.if-past-first.false c.if-n-row.false c.if-row.false c.if-n-e-2.false
