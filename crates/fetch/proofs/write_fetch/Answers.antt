use Rattle.fetch.proofs.Laws.{row-taken}
use Rattle.fetch.proofs.write_fetch.Goals as goal

pub returns : goal.returns
returns c = record { ends_after = (c.take_head.ensures.ends_after, c.take_head.ensures.run_after); value = row-taken _ _ _ c.args.row _ c.after_worker-pointer.ensures }
