use Prim.Native.Nat.{◌+◌}
use Rattle.weak_complete.proofs.Laws.{run_inside}
use mathlib.Core.Path.{refl}
use Rattle.weak_complete.proofs.join_record.Goals as goal

pub bounds-run-0 : goal.bounds-run-0
bounds-run-0 c = run_inside c.args.run.now (c.args.accepted + 1) c.requires.three_words

pub returns : goal.returns
returns c = record { lowered = refl; entry = c.put_copy.ensures; counted = refl }
