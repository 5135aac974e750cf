use Rattle.std.proofs.lemmas.Result.{err_from_is_err_and}
use Rattle.weak_fetch.proofs.Laws.{pointer-damaged, scan-unsound, scan-none, scan-asks, scan-takes}
use Rattle.weak_rows.specs.Copies.{copies_of}
use Rattle.weak_fetch.proofs.plan_fetch.Goals as goal

pub returns-then-p-pointer : goal.returns-then-p-pointer
returns-then-p-pointer c = pointer-damaged _ _ _ _ _ _ _ _ _ c.if-p-pointer.true

pub returns-in_err-filler : goal.returns-in_err-filler
returns-in_err-filler c =
    let p = err_from_is_err_and c.from_residual.result c.from_residual.ensures.1 in
    rw (p.1, p.2) (scan-unsound _ _ _ _ _ _ _ _ _ c.if-p-pointer.false _ c.find_task.ensures.result_value _ (rw (c.branch-filler.ensures, c.in_err-filler.is)))

pub returns-in_default : goal.returns-in_default
returns-in_default c = scan-none _ _ _ _ _ _ _ _ _ c.if-p-pointer.false _ c.find_task.ensures.result_value (rw (c.branch-filler.ensures, c.in_ok-filler.is, c.in_default.is))

pub plan_found-requires : goal.plan_found-requires
plan_found-requires c =
    scan-asks _ _ _ _ _ _ (copies_of c.args.rings.now) _ _ c.if-p-pointer.false _ c.find_task.ensures.result_value c.find_task.ensures.reads
    c.in-Some.filler c.in-Some.both (rw (c.branch-filler.ensures, c.in_ok-filler.is, c.in-Some.is)) _ c.requires

pub returns : goal.returns
returns c =
    scan-takes _ _ _ _ _ _ _ _ _ c.if-p-pointer.false _ c.find_task.ensures.result_value c.find_task.ensures.reads
    c.in-Some.filler c.in-Some.both (rw (c.branch-filler.ensures, c.in_ok-filler.is, c.in-Some.is)) _ c.plan_found.ensures
