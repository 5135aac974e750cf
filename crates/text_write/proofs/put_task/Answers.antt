-- Each part of the line has room, since the line has.
use native.Mathlib.Omega.{arith}
use lib.ListN.{length}
use Rattle.text_write.proofs.Laws.{LineRoom, line-room, line-put}
use Rattle.text_write.proofs.put_task.Goals as goal
use Rattle.text_write.proofs.put_task.Goals.{Start}

room : (c : Start) → LineRoom c.args.t c.args.time c.args.preds.now c.args.at (length c.args.out.now)
room c = line-room c.args.t c.args.time c.args.preds.now c.requires.0

pub put_number-numbered-requires : goal.put_number-numbered-requires
put_number-numbered-requires c = (room (goal.at.put_number-numbered-requires c).Start).first

pub put_next-timed-requires : goal.put_next-timed-requires
put_next-timed-requires c =
    omega (
      arith,
      (room (goal.at.put_next-timed-requires c).Start).second,
      c.put_number-numbered.ensures.size,
      c.put_number-numbered.ensures.end,
    )

pub put_next-counted-requires : goal.put_next-counted-requires
put_next-counted-requires c =
    omega (
      arith,
      (room (goal.at.put_next-counted-requires c).Start).third,
      c.put_number-numbered.ensures.size,
      c.put_number-numbered.ensures.end,
      c.put_next-timed.ensures.size,
      c.put_next-timed.ensures.end,
    )

pub put_spaced-ended-requires : goal.put_spaced-ended-requires
put_spaced-ended-requires c =
    omega (
      arith,
      (room (goal.at.put_spaced-ended-requires c).Start).behind,
      c.put_number-numbered.ensures.size,
      c.put_number-numbered.ensures.end,
      c.put_next-timed.ensures.size,
      c.put_next-timed.ensures.end,
      c.put_next-counted.ensures.size,
      c.put_next-counted.ensures.end,
    )

pub put_byte-requires : goal.put_byte-requires
put_byte-requires c =
    omega (
      arith,
      (room (goal.at.put_byte-requires c).Start).behind,
      c.put_number-numbered.ensures.size,
      c.put_number-numbered.ensures.end,
      c.put_next-timed.ensures.size,
      c.put_next-timed.ensures.end,
      c.put_next-counted.ensures.size,
      c.put_next-counted.ensures.end,
      c.put_spaced-ended.ensures.size,
      c.put_spaced-ended.ensures.end,
    )

pub returns : goal.returns
returns c =
    line-put c.args.t c.args.time c.args.preds.now
    c.put_number-numbered.ensures
    c.put_next-timed.ensures
    c.put_next-counted.ensures
    c.put_spaced-ended.ensures
    c.put_byte.ensures
