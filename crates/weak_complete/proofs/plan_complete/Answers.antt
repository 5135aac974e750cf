use native.Mathlib.Omega.{arith}
use mir.Facts.{Fits-32_64}
use Rattle.weak_complete.proofs.Laws.{plan-roots, plan-full, plan-over, plan-held, plan-none, plan-beyond, plan-last, plan-copy, held-within, opens}
use Rattle.weak_complete.proofs.plan_complete.Goals as goal

pub overflow_cast-roots : goal.overflow_cast-roots
overflow_cast-roots c = Fits-32_64 (c.type_inv.run _)

pub returns-then-n-roots : goal.returns-then-n-roots
returns-then-n-roots c = plan-roots _ _ _ _ _ _ _ _ c.if-n-roots.true

pub overflow_cast-entries : goal.overflow_cast-entries
overflow_cast-entries c = Fits-32_64 (c.type_inv.run _)

pub overflow_cast-entries-then-copies-entries : goal.overflow_cast-entries-then-copies-entries
overflow_cast-entries-then-copies-entries c = Fits-32_64 (c.type_inv.run _)

pub returns-then-entries-copies : goal.returns-then-entries-copies
returns-then-entries-copies c = plan-full _ _ _ _ _ _ _ _ c.if-n-roots.false c.if-entries-copies.true

pub returns-then-copies-entries : goal.returns-then-copies-entries
returns-then-copies-entries c = plan-over _ _ _ _ _ _ _ _ c.if-n-roots.false c.if-copies-entries.true c.if-entries-copies.false

pub returns-then-not-copy_fits : goal.returns-then-not-copy_fits
returns-then-not-copy_fits c = plan-held _ _ _ _ _ _ _ _ c.if-n-roots.false c.if-copies-entries.false _ c.copy_fits.ensures c.if-not-copy_fits.true-raw

pub bounds-degrees-task : goal.bounds-degrees-task
bounds-degrees-task c = omega (arith, held-within c.args.row.held _ _ c.copy_fits.ensures c.if-not-copy_fits.false-raw, c.requires.1.1.1.0)

pub returns-then-degree-eq0 : goal.returns-then-degree-eq0
returns-then-degree-eq0 c = plan-none _ _ _ _ _ _ _ _ c.if-n-roots.false c.if-copies-entries.false _ c.copy_fits.ensures c.if-not-copy_fits.false-raw c.if-degree-eq0.true

pub plan_last-requires : goal.plan_last-requires
plan_last-requires c = (c.requires.0, (c.requires.1.0, (c.requires.1.1.0, (c.requires.1.1.1.1.0, (c.requires.1.1.1.1.1, opens _ _ _ c.args.row.held 1 c.if-n-roots.false c.if-copies-entries.false _ c.copy_fits.ensures c.if-not-copy_fits.false-raw (omega arith))))))

pub returns-then-degree-lt2 : goal.returns-then-degree-lt2
returns-then-degree-lt2 c = plan-last _ _ _ _ _ _ _ _ c.if-n-roots.false c.if-copies-entries.false _ c.copy_fits.ensures c.if-not-copy_fits.false-raw (omega (arith, c.if-degree-lt2.true, c.if-degree-eq0.false)) c.plan_last.result c.plan_last.ensures

pub overflow_cast-degree-2 : goal.overflow_cast-degree-2
overflow_cast-degree-2 c = Fits-32_64 (c.type_inv.degrees _)

pub returns-then-n-degree : goal.returns-then-n-degree
returns-then-n-degree c = plan-beyond _ _ _ _ _ _ _ _ c.if-n-roots.false c.if-copies-entries.false _ c.copy_fits.ensures c.if-not-copy_fits.false-raw c.if-n-degree.true

pub plan_copy-requires : goal.plan_copy-requires
plan_copy-requires c = (c.requires.1.1.1.1.1, (c.requires.0, (c.requires.1.0, opens _ _ _ c.args.row.held _ c.if-n-roots.false c.if-copies-entries.false _ c.copy_fits.ensures c.if-not-copy_fits.false-raw (omega (arith, c.if-degree-lt2.false)))))

pub returns : goal.returns
returns c = plan-copy _ _ _ _ _ _ _ _ c.if-n-roots.false c.if-copies-entries.false _ c.copy_fits.ensures c.if-not-copy_fits.false-raw c.if-degree-lt2.false c.if-n-degree.false c.plan_copy.result c.plan_copy.ensures
