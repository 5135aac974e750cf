use Rattle.weak_complete.proofs.Laws.{sink-written}
use Rattle.weak_complete.proofs.write_sink.Goals as goal

pub lower-requires : goal.lower-requires
lower-requires c = c.requires.1

pub join_record-requires : goal.join_record-requires
join_record-requires c = c.requires.0.recordable

pub returns : goal.returns
returns c = record { writes_sink = sink-written _ _ _ _ _ _ _ _ _ _ _ c.requires.0 c.join_record.ensures _ _ _ _ c.lower.ensures _ c.let_go.ensures; value = c.let_go.ensures }
