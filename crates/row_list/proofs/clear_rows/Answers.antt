use lib.Seq.{length-take-le}
use Rattle.rows.specs.Rows.{cleared_rows}
use Rattle.row_list.proofs.clear_rows.Goals as goal

pub returns : goal.returns
unfolding cleared_rows
returns c = rw (c.fill.ensures.after (λ y e. e), length-take-le c.args.n c.args.rows.now c.requires, c.idle.ensures)
