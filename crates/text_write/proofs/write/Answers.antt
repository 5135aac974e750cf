-- A refused graph leaves the buffer, as do the refusals after the check; an accepted one has a text that fits.
use Prim.Native.Nat.{◌≤◌}
use native.Mathlib.Omega.{arith}
use lib.ListN.{length}
use Rattle.std.proofs.lemmas.Result.{err_from_is_err_and}
use Rattle.graph.specs.Graph.{graph_of}
use Rattle.graph.specs.Conditions.{Sound}
use Rattle.text_write.proofs.Laws.{two-tasks, write-refused, write-sound, write_word, write-dummies, write-small, write-whole}
use Rattle.text_write.proofs.write.Goals as goal
use Rattle.text_write.proofs.write.Goals.{Else-not-dummies_fit}

-- what measuring and writing ask
fitting : (c : Else-not-dummies_fit) → let s = c.args in Sound (graph_of (length s.weights.now) s.starts.now s.preds.now) × (2 ≤ length s.weights.now)
fitting c = (write-sound _ _ _ _ c.check_graph-check.ensures.0 (rw (c.branch-check.ensures, c.in_ok-check.is)), two-tasks _ _ c.dummies_fit.ensures c.if-not-dummies_fit.false-raw)

pub returns-in_err-check : goal.returns-in_err-check
returns-in_err-check c =
    let p = err_from_is_err_and c.from_residual.result c.from_residual.ensures.1 in
    rw (p.1, p.2) (write-refused _ _ _ _ c.check_graph-check.ensures.0 _ _ (rw (c.branch-check.ensures, c.in_err-check.is)))

pub dummies_fit-requires : goal.dummies_fit-requires
dummies_fit-requires c = (write-sound _ _ _ _ c.check_graph-check.ensures.0 (rw (c.branch-check.ensures, c.in_ok-check.is))).sized.starts

pub returns-then-not-dummies_fit : goal.returns-then-not-dummies_fit
returns-then-not-dummies_fit c =
    write-dummies _ _ _ _ c.check_graph-check.ensures.0 (rw (c.branch-check.ensures, c.in_ok-check.is)) _ c.dummies_fit.ensures _ c.if-not-dummies_fit.true-raw

pub text_size-requires : goal.text_size-requires
text_size-requires c = fitting (goal.at.text_size-requires c).Else-not-dummies_fit

pub returns-then-text-text_size : goal.returns-then-text-text_size
returns-then-text-text_size c =
    write-small _ _ _ _ c.check_graph-check.ensures.0 (rw (c.branch-check.ensures, c.in_ok-check.is)) _ c.dummies_fit.ensures c.if-not-dummies_fit.false-raw _ (omega arith)

pub put_text-used-requires : goal.put_text-used-requires
put_text-used-requires c = let f = fitting (goal.at.put_text-used-requires c).Else-not-dummies_fit in (f.0, f.1, omega arith)

pub overflow_cast-result : goal.overflow_cast-result
overflow_cast-result c =
    omega (arith, write_word _ _ _ _ c.check_graph-check.ensures.0 (rw (c.branch-check.ensures, c.in_ok-check.is)) c.put_text-used.ensures)

pub returns : goal.returns
returns c =
    write-whole _ _ _ _ c.check_graph-check.ensures.0 (rw (c.branch-check.ensures, c.in_ok-check.is)) _ c.dummies_fit.ensures c.if-not-dummies_fit.false-raw _ _ _ (omega arith) c.put_text-used.ensures
