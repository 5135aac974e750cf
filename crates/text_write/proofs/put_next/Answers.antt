use Rattle.text_put.proofs.Laws.{appends-then}
use Rattle.text_write.proofs.put_next.Goals as goal

pub returns : goal.returns
returns c =
    appends-then c.put_byte-next.ensures c.put_number.ensures
