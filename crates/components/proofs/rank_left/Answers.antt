use native.Mathlib.Omega.{arith}
use Rattle.components.proofs.Laws.{zeros-below}
use Rattle.components.proofs.rank_left.Goals as goal

pub loop-t-init : goal.loop-t-init
loop-t-init c = (λ h. zeros-below _ 1024 h, omega arith)
