-- A refused graph leaves the lists; an accepted one lets them be filled.
use Rattle.std.proofs.lemmas.Result.{err_from_is_err_and}
use Rattle.graph.specs.Successors.{lent_fit}
use Rattle.link.proofs.Laws.{link-refused, link-fillable, link-filled}
use Rattle.link.proofs.link_graph.Goals as goal

pub returns-in_err-check : goal.returns-in_err-check
unfolding lent_fit
returns-in_err-check c =
    let p = err_from_is_err_and c.from_residual.result c.from_residual.ensures.1 in
    rw (p.1, p.2) (link-refused c.args.limits c.args.weights.now c.args.starts.now c.args.preds.now c.args.succ_starts.now c.args.succs.now c.args.degrees.now _ c.check_graph-check.ensures.0 _ (rw (c.branch-check.ensures, c.in_err-check.is)))

pub fill-requires : goal.fill-requires
unfolding lent_fit
fill-requires c = link-fillable c.args.limits c.args.weights.now c.args.starts.now c.args.preds.now c.args.succ_starts.now c.args.succs.now c.args.degrees.now _ c.check_graph-check.ensures.0 (rw (c.branch-check.ensures, c.in_ok-check.is))

pub returns : goal.returns
unfolding lent_fit
returns c = link-filled c.args.limits c.args.weights.now c.args.starts.now c.args.preds.now c.args.succ_starts.now c.args.succs.now c.args.degrees.now _ c.check_graph-check.ensures.0 (rw (c.branch-check.ensures, c.in_ok-check.is)) _ _ _ c.fill.ensures.0 c.fill.ensures.1.0 c.fill.ensures.1.1
