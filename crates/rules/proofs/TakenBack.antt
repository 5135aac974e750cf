-- PROMISE: whatever updates a plain memory is written with, their inverses take back. A step's updates are such a list.
use mathlib.Core.Path.{◌≡◌, refl}
use mathlib.Core.List.{List}
use Rattle.task.specs.declared.Row.{Row}
use Rattle.memory.specs.Updates.{Part, hand, pointer, places, with_part, own_part, part_number, RowLaws, written, inverses}
use Rattle.memory.proofs.Fields.{taken_back}
use Rattle.rules.specs.Memory.{plain, Mem}
use Rattle.rules.specs.Updates.{Update}

plain_rows : RowLaws plain
plain_rows = record { found = found; other = other; back = back }
  where
    found : (v : Part plain) (r : Row) → own_part v (with_part v r) ≡ v
    found (hand h) r = refl
    found (pointer x) r = refl
    found (places x) r = refl

    other : (v w : Part plain) (r : Row) → ¬ (part_number v ≡ part_number w) → own_part w (with_part v r) ≡ own_part w r
    other (hand h) (hand g) r n = absurd (n refl)
    other (hand h) (pointer x) r n = refl
    other (hand h) (places x) r n = refl
    other (pointer x) (hand h) r n = refl
    other (pointer x) (pointer y) r n = absurd (n refl)
    other (pointer x) (places y) r n = refl
    other (places x) (hand h) r n = refl
    other (places x) (pointer y) r n = refl
    other (places x) (places y) r n = absurd (n refl)

    back : (v : Part plain) (r : Row) → with_part (own_part v r) (with_part v r) ≡ r
    back (hand h) r = refl
    back (pointer x) r = refl
    back (places x) r = refl

pub plain-taken-back : (us : List Update) (m : Mem) → written (inverses us m) (written us m) ≡ m
plain-taken-back = taken_back plain_rows
