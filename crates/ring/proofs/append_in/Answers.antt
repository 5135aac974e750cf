use Rattle.ring.proofs.Laws.{slot-inside, append-in-made}
use native.Mathlib.Omega.{arith}
use Rattle.ring.proofs.append_in.Goals as goal

pub overflow_mul-place : goal.overflow_mul-place
overflow_mul-place c = omega (arith, slot-inside _ _ _ _ _ _ c.requires.1.0 c.append_at-slot.ensures.0 c.requires.0 c.requires.1.1.tail)

pub overflow_add-place : goal.overflow_add-place
overflow_add-place c = omega (arith, slot-inside _ _ _ _ _ _ c.requires.1.0 c.append_at-slot.ensures.0 c.requires.0 c.requires.1.1.tail)

pub offset_bounds-rings-place : goal.offset_bounds-rings-place
offset_bounds-rings-place c = omega (arith, slot-inside _ _ _ _ _ _ c.requires.1.0 c.append_at-slot.ensures.0 c.requires.0 c.requires.1.1.tail)

pub bounds-rings-place : goal.bounds-rings-place
bounds-rings-place c = slot-inside _ _ _ _ _ _ c.requires.1.0 c.append_at-slot.ensures.0 c.requires.0 c.requires.1.1.tail

pub returns : goal.returns
returns c = append-in-made _ _ _ _ _ _ c.requires.1.0 c.append_at-slot.ensures.0 _ _ c.append_at-slot.ensures.1
