-- Refused before the text is read; else judged, and as many words copied as the answer has.
use mathlib.Core.Path.{refl}
use Rattle.layout.proofs.TableLaws.{sizes-refused, sizes-accepted, read-unfit, read-over, read-laid}
use Rattle.stg.proofs.read.Goals as goal

pub returns-then-not-fit : goal.returns-then-not-fit
returns-then-not-fit c =
    let a = c.args in
    read-unfit a.text.now a.weights.now a.starts.now a.preds.now c.if-not-fit.true

pub returns-then-text-gt65536 : goal.returns-then-text-gt65536
returns-then-text-gt65536 c =
    let a = c.args in
    rw c.over.ensures (read-over a.text.now a.weights.now a.starts.now a.preds.now c.if-not-fit.false c.if-text-gt65536.true)

pub returns-in_default : goal.returns-in_default
returns-in_default c =
    let a = c.args in
    read-laid a.text.now a.weights.now a.starts.now a.preds.now c.if-not-fit.false c.if-text-gt65536.false c.judge-answer.ensures
    (sizes-refused _ _ c.in_default.is) a.weights.now a.starts.now a.preds.now refl refl refl

pub returns : goal.returns
returns c =
    let a = c.args in
    read-laid a.text.now a.weights.now a.starts.now a.preds.now c.if-not-fit.false c.if-text-gt65536.false c.judge-answer.ensures
    (sizes-accepted _ _ _ c.in-Ok.is) _ _ _ (rw c.copy_from_slice.ensures.after refl) (rw c.copy_from_slice-2.ensures.after refl)
    (rw c.copy_from_slice-3.ensures.after refl)
