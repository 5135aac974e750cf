use Rattle.weak_rows.proofs.Copies.{slot-inside, appended}
use native.Mathlib.Omega.{arith}
use Rattle.weak_rows.proofs.append_copy.Goals as goal

pub overflow_mul-place : goal.overflow_mul-place
overflow_mul-place c = omega (arith, slot-inside _ _ _ _ _ _ c.requires.1.0 c.append_at-slot.ensures.0 c.requires.0 c.requires.1.1.tail)

pub overflow_add-place : goal.overflow_add-place
overflow_add-place c = omega (arith, slot-inside _ _ _ _ _ _ c.requires.1.0 c.append_at-slot.ensures.0 c.requires.0 c.requires.1.1.tail)

pub store_copy-requires : goal.store_copy-requires
store_copy-requires c = slot-inside _ _ _ _ _ _ c.requires.1.0 c.append_at-slot.ensures.0 c.requires.0 c.requires.1.1.tail

pub returns : goal.returns
returns c = appended _ _ _ _ _ _ c.requires.1.0 c.append_at-slot.ensures.0 _ _ _ c.append_at-slot.ensures.1 c.store_copy.ensures
