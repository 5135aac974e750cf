use Prim.Native.Nat.{ℕ, ◌+◌, ◌≤◌, ◌<◌}
use mathlib.Core.Path.{◌≡◌, refl}
use mathlib.Core.Bool.{true, false}
use mathlib.Core.List.{List}
use native.Mathlib.Omega.{arith}
use lib.ListN.{length}
use lib.Dec.{eqb}
use Rattle.std.proofs.Common.{Option, Some, None, Ok, Err, is_some}
use Rattle.task.specs.Refusals.{ReadAnswer}
use Rattle.layout.specs.Reader.{Verdict, broken}
use Rattle.layout.specs.Scan.{NextContent, Outcome, line-broken, limit-passed}
use Rattle.layout.proofs.TableLaws.{SoFar, so-far-none, early, late, all_done, no-task, too_many, one-done}
use Rattle.text_lines.specs.declared.TaskError.{TaskError}
use Rattle.text_lines.specs.declared.TaskError.TheVariants.{Broken, Over}
use Rattle.text_lines.specs.declared.TaskLine.{TaskLine}
use Rattle.text_lines.specs.TaskLines.{ContentFound, TaskFound}
use Rattle.stg.specs.Reading.{refused_line}
use Rattle.stg.proofs.read_tasks.Goals as goal

module _ {v : Verdict} {text : List ℕ} {n : ℕ} {w s p : List ℕ} {at line t e : ℕ} (number : ℕ) (f : SoFar v text n w s p at line t e) where
  -- after the last task
  follows : (o : Option ℕ) → ContentFound text at line o number → true ≡ is_some o → n ≤ t → v ≡ broken number
  follows None k i h = cc
  follows (Some place) (m, k) i h = late f k m h

  ends : (o : Option ℕ) → ContentFound text at line o number → false ≡ is_some o → n ≤ t → Outcome v (Ok (n, e)) w s p
  ends None k i h = all_done f k (omega arith) h
  ends (Some place) k i h = cc

  module _ {place : ℕ} (k : (place < length text) × NextContent text at line place number) (due : t < n) (w' s' p' : List ℕ) where
    apart : ¬ (place ≡ length text)
    apart h = omega (arith, k.0)

    -- a line that gave no task
    not-read : (error : TaskError) {q : ReadAnswer} → TaskFound text place t (eqb (t + 1) n) e (Err error) w s p w' s' p'
        → q ≡ refused_line error number → Outcome v q w' s' p'
    not-read Broken x q = line-broken number (no-task f k.1 apart due x) q
    not-read Over (x, y, m) q = limit-passed (too_many f k.1 apart due x y m) q

    -- a line that gave a task
    read-on : (l : TaskLine) → TaskFound text place t (eqb (t + 1) n) e (Ok l) w s p w' s' p' → SoFar v text n w' s' p' l.next (number + 1) (t + 1) l.edges
    read-on l (x, y, m) = one-done f k.1 apart due x y m.after m.counted m.limit m.weights m.starts m.preds m.room

pub loop-t-init : goal.loop-t-init
loop-t-init c =
    let a = c.args in
    let r = c.requires in
    so-far-none a.text.now a.at_first a.line_first a.n a.weights.now a.starts.now a.preds.now r.few r.inside r.short
    r.counted r.room.weights r.room.starts r.room.first r.room.preds

pub returns-in_default : goal.returns-in_default
returns-in_default c =
    let k = rw c.in_default.is at c.next_content-content.ensures in
    line-broken _ (early c.loop-t.invariant k refl c.loop-t-test.true) c.broken.ensures

pub returns-in-Err : goal.returns-in-Err
returns-in-Err c =
    not-read _ c.loop-t.invariant (rw c.in-Some.is at c.next_content-content.ensures) c.loop-t-test.true _ _ _ c.in-Err.error
    c.in-Err.ensures c.refused_line.ensures

pub loop-t-preserved : goal.loop-t-preserved
loop-t-preserved c =
    read-on _ c.loop-t.invariant (rw c.in-Some.is at c.next_content-content.ensures) c.loop-t-test.true _ _ _ c.in-Ok.read c.in-Ok.ensures

pub returns-then-is_some : goal.returns-then-is_some
returns-then-is_some c =
    line-broken _ (follows _ c.loop-t.invariant _ c.next_content-content-2.ensures c.if-is_some.ensures c.loop-t-test.false)
    c.broken-then-is_some.ensures

pub returns : goal.returns
returns c = ends _ c.loop-t.invariant _ c.next_content-content-2.ensures c.if-is_some.ensures c.loop-t-test.false
