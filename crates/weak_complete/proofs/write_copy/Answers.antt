use Rattle.weak_complete.proofs.Laws.{copy_written}
use Rattle.weak_complete.proofs.write_copy.Goals as goal

pub join_record-requires : goal.join_record-requires
join_record-requires c = c.requires.recordable

pub returns : goal.returns
returns c = record { writes_copy = copy_written _ _ _ _ _ _ _ _ _ _ _ c.requires c.join_record.ensures _ c.let_go.ensures; value = c.let_go.ensures }
