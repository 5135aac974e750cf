use Prim.Native.Nat.{ℕ, ◌<◌}
use mathlib.Core.Path.{◌≡◌, sym, ◌∙◌}
use mathlib.Core.Bool.{false}
use mathlib.Core.List.{List}
use native.Mathlib.Omega.{arith}
use native.Mathlib.Decide.{dec_lt}
use lib.ListN.{length}
use Rattle.layout.specs.Reader.{skippable}
use Rattle.layout.specs.Scan.{line_at}
use Rattle.layout.proofs.Places.{end_line}
use Rattle.layout.proofs.TaskLaws.{skim-content, skim-on, skim-more, skim-end}
use Rattle.text_lines.proofs.next_content.Goals as goal

-- past the text's end nothing is left of a line
mark-inside : (text : List ℕ) (m : ℕ) → skippable (line_at text m) ≡ false → m < length text
mark-inside text m e = go (dec_lt m (length text))
  where
    go : Dec (m < length text) → m < length text
    go (yes h) = h
    go (no h) = let q = rw (end_line text m (omega arith)) at e in cc

pub returns-then-not-skippable : goal.returns-then-not-skippable
returns-then-not-skippable c =
    let e : skippable (line_at c.args.text.now c.past_blanks-mark.result) ≡ false = sym c.skippable.ensures ∙ c.if-not-skippable.true in
    (mark-inside _ _ e, skim-content c.loop-p.invariant (omega arith) c.past_blanks-mark.ensures e)

pub loop-p-smaller : goal.loop-p-smaller
loop-p-smaller c =
    omega (arith, skim-on c.loop-p.invariant (omega arith) c.past_blanks-mark.ensures c.past_line-p.ensures)

pub loop-p-preserved : goal.loop-p-preserved
loop-p-preserved c =
    skim-more c.loop-p.invariant (omega arith) c.past_blanks-mark.ensures c.past_line-p.ensures (sym c.skippable.ensures ∙ c.if-not-skippable.false)

pub returns : goal.returns
returns c =
    let all : c.loop-p.p ≡ length c.args.text.now = omega (arith, c.loop-p.invariant.inside) in
    rw all at (skim-end c.loop-p.invariant (omega arith))
