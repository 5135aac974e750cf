use mathlib.Core.Path.{◌∙◌}
use Rattle.std.proofs.lemmas.Result.{err_from_is_err_and}
use Rattle.admission.proofs.Phase.{row-refused, row-admitted}
use Rattle.admission.proofs.admit.Goals as goal

pub returns-in_err-phase : goal.returns-in_err-phase
returns-in_err-phase c =
    let p = err_from_is_err_and c.from_residual-in_err-phase.result c.from_residual-in_err-phase.ensures.1 in
    rw (p.1, p.2, c.branch-judged.ensures, c.in_ok-judged.is) (row-refused c.args.row _ _ c.phase_after.ensures _ (rw (c.branch-phase.ensures, c.in_err-phase.is)))

pub returns : goal.returns
returns c = rw (c.branch-judged.ensures, c.in_ok-judged.is) (row-admitted c.args.row _ _ c.phase_after.ensures _ (rw (c.branch-phase.ensures, c.in_ok-phase.is)))
