use native.Mathlib.Omega.{arith}
use Rattle.text_put.proofs.Laws.{bytes_put}
use Rattle.text_put.proofs.put.Goals as goal

pub returns : goal.returns
returns c = bytes_put _ _ _ _ _ c.copy_from_slice.ensures.after (omega arith) c.requires
