use Rattle.complete.proofs.write_inner.Goals as goal

pub returns : goal.returns
returns c = record { leaves = (c.lower.ensures, (c.join_record.ensures, c.let_go.ensures)); buffers_after = c.join_buffer.ensures }
