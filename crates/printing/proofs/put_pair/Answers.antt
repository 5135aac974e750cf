use native.Mathlib.Omega.{arith}
use Rattle.printing.proofs.Laws.{ten-digits, pair_put}
use Rattle.printing.proofs.put_pair.Goals as goal

pub put_number-spaced-requires : goal.put_number-spaced-requires
put_number-spaced-requires c = omega (arith, ten-digits c.args.first (omega arith))

pub put_byte-next-requires : goal.put_byte-next-requires
put_byte-next-requires c =
    let p = c.put_number-spaced.ensures in
    omega (arith, p.size, p.end, ten-digits c.args.first (omega arith))

pub put_number-ended-requires : goal.put_number-ended-requires
put_number-ended-requires c =
    let a = c.args in
    let p = c.put_number-spaced.ensures in
    let s = c.put_byte-next.ensures in
    omega (arith, p.size, p.end, s.size, s.end, ten-digits a.first (omega arith), ten-digits a.second (omega arith))

pub put_byte-requires : goal.put_byte-requires
put_byte-requires c =
    let a = c.args in
    let p = c.put_number-spaced.ensures in
    let s = c.put_byte-next.ensures in
    let q = c.put_number-ended.ensures in
    omega (arith, p.size, p.end, s.size, s.end, q.size, q.end, ten-digits a.first (omega arith), ten-digits a.second (omega arith))

pub returns : goal.returns
returns c =
    pair_put _ _ (omega arith) (omega arith)
    c.put_number-spaced.ensures
    c.put_byte-next.ensures
    c.put_number-ended.ensures
    c.put_byte.ensures
