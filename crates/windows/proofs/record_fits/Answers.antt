use native.Mathlib.Omega.{arith}
use Rattle.windows.proofs.Judging.{none-unfit, next_fits, all_fit, unfit}
use Rattle.windows.proofs.record_fits.Goals as goal

pub loop-x-init : goal.loop-x-init
loop-x-init c = none-unfit _ _ _

pub returns-then-not-entry_fits : goal.returns-then-not-entry_fits
returns-then-not-entry_fits c = unfit _ _ _ _ _ (omega arith) c.entry_fits.ensures c.if-not-entry_fits.true-raw

pub loop-x-preserved : goal.loop-x-preserved
loop-x-preserved c = next_fits _ _ _ _ c.loop-x.invariant c.entry_fits.ensures c.if-not-entry_fits.false-raw

pub returns : goal.returns
returns c = all_fit _ _ _ c.loop-x.invariant (omega arith)
