-- Each part of the text has room, since the text has.
use native.Mathlib.Omega.{arith}
use lib.ListN.{length}
use Rattle.text_write.proofs.Laws.{TextRoom, text-room, text-put}
use Rattle.text_write.proofs.put_text.Goals as goal
use Rattle.text_write.proofs.put_text.Goals.{Start}

room : (c : Start) → TextRoom c.args.weights.now c.args.starts.now c.args.preds.now (length c.args.out.now)
room c = text-room c.args.weights.now c.args.starts.now c.args.preds.now c.requires.2

pub put_number-numbered-requires : goal.put_number-numbered-requires
put_number-numbered-requires c = omega (arith, (room (goal.at.put_number-numbered-requires c).Start).first)

pub put_byte-next-requires : goal.put_byte-next-requires
put_byte-next-requires c =
    omega (
      arith,
      (room (goal.at.put_byte-next-requires c).Start).first,
      c.put_number-numbered.ensures.size,
      c.put_number-numbered.ensures.end,
    )

pub put_tasks-requires : goal.put_tasks-requires
put_tasks-requires c = (
  c.requires.0,
  omega (
    arith,
    (room (goal.at.put_tasks-requires c).Start).lines,
    c.put_number-numbered.ensures.size,
    c.put_number-numbered.ensures.end,
    c.put_byte-next.ensures.size,
    c.put_byte-next.ensures.end,
  ),
)

pub returns : goal.returns
returns c =
    text-put c.args.weights.now c.args.starts.now c.args.preds.now
    c.put_number-numbered.ensures
    c.put_byte-next.ensures
    c.put_tasks.ensures
