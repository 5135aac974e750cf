-- The cases of the first line.
use Prim.Native.Nat.{ℕ, ◌+◌, ◌≤◌, ◌<◌}
use mathlib.Core.Path.{◌≡◌, refl}
use mathlib.Core.List.{List, []}
use native.Mathlib.Omega.{arith}
use lib.ListN.{length, drop}
use Rattle.std.proofs.Common.{Some, None}
use Rattle.layout.specs.Reader.{verdict, broken, over}
use Rattle.layout.specs.Scan.{NextContent, FirstFound, first, not_first, due_from, line-broken, limit-passed}
use Rattle.layout.proofs.TableLaws.{no-first, bad-first, over_first, after_first, line-counted}
use Rattle.text_lines.specs.declared.First.{First}
use Rattle.text_lines.specs.TaskLines as lines
use Rattle.stg.specs.Reading.{Room, Reading}
use Rattle.stg.proofs.judge.Goals as goal

module _ {text : List ℕ} {place number : ℕ} (k : (place < length text) × NextContent text 0 1 place number) where
  apart : ¬ (place ≡ length text)
  apart h = omega (arith, k.0)

  wrong : lines.FirstFound text place None → verdict text ≡ broken number
  wrong m =
      let f : FirstFound text place 0 0 = not_first refl m in
      bad-first k.1 apart f refl

  -- the lines of the tasks follow the first one
  module _ (l : First) (h : lines.FirstFound text place (Some l)) where
    found : FirstFound text place l.tasks l.next
    found = first h.0 h.1 h.2 h.3 h.4

    large : 1024 < l.tasks → verdict text ≡ over
    large = over_first k.1 apart found

    module _ (few : l.tasks ≤ 1024) where
      some : ¬ (l.tasks ≡ 0)
      some e = omega (arith, h.1)

      -- what reading them asks
      reading : {w s p : List ℕ} → (length text ≤ 65536) × Room w s p → Reading text l.next (number + 1) l.tasks w s p
      reading (short, room) =
          let m = (after_first k.1 apart found some few).0 in
          record { inside = m.inside; short = short; counted = line-counted k.1 apart m; few = few; room = room }

      whole : verdict text ≡ due_from (drop l.next text) (number + 1) l.tasks []
      whole = (after_first k.1 apart found some few).1

pub returns-in_default : goal.returns-in_default
returns-in_default c = line-broken _ (no-first (rw c.in_default.is at c.next_content-content.ensures) refl) c.broken.ensures

pub returns-in_default-first_line : goal.returns-in_default-first_line
returns-in_default-first_line c =
    line-broken _ (wrong (rw c.in-Some.is at c.next_content-content.ensures) c.in_default-first_line.ensures)
    c.broken-in_default-first_line.ensures

pub returns-then-first-gt1024 : goal.returns-then-first-gt1024
returns-then-first-gt1024 c =
    limit-passed
    (large (rw c.in-Some.is at c.next_content-content.ensures) c.in-Some-first_line.first c.in-Some-first_line.ensures c.if-first-gt1024.true)
    c.over.ensures

pub read_tasks-requires : goal.read_tasks-requires
read_tasks-requires c =
    reading (rw c.in-Some.is at c.next_content-content.ensures) c.in-Some-first_line.first c.in-Some-first_line.ensures
    c.if-first-gt1024.false c.requires

pub returns : goal.returns
returns c =
    rw
    (whole (rw c.in-Some.is at c.next_content-content.ensures) c.in-Some-first_line.first c.in-Some-first_line.ensures c.if-first-gt1024.false)
    c.read_tasks.ensures
