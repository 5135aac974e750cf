use native.Mathlib.Omega.{arith}
use Rattle.weak_complete.proofs.Laws.{inner-written}
use Rattle.weak_complete.proofs.write_inner.Goals as goal

pub lower-requires : goal.lower-requires
lower-requires c = c.requires.1.0

pub join_record-requires : goal.join_record-requires
join_record-requires c = c.requires.0.recordable

pub join_buffer-requires : goal.join_buffer-requires
join_buffer-requires c = c.requires.1.1

pub overflow_add-row : goal.overflow_add-row
overflow_add-row c = omega (arith, c.requires.1.1.place)

pub returns : goal.returns
returns c = record { writes_inner = inner-written _ _ _ _ _ _ _ _ _ _ _ c.requires.0 c.join_record.ensures _ _ _ _ c.lower.ensures _ _ _ c.join_buffer.ensures _ c.let_go.ensures; value = c.let_go.ensures }
