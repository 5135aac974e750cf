use native.Mathlib.Omega.{arith}
use Rattle.text_write.proofs.Laws.{few-tasks, dummies-tested}
use Rattle.text_write.proofs.dummies_fit.Goals as goal

pub returns-then-n-lt2 : goal.returns-then-n-lt2
returns-then-n-lt2 c = few-tasks _ _ (omega arith)

pub returns : goal.returns
returns c = dummies-tested _ _ (omega arith)
