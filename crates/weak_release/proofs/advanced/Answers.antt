use Rattle.weak_release.proofs.Written.{advance-last, advance-on}
use mathlib.Core.Path.{refl}
use Rattle.weak_release.proofs.advanced.Goals as goal
use Rattle.weak_release.proofs.advanced.Goals.{then-cursor-count, else-cursor-count}

pub returns : goal.returns
returns c = record {
  value = elim c.if-cursor-count.branch [
    | then-cursor-count w ↦ advance-last _ _ _ _ w.if-cursor-count.true w.read-is w.cursor-is
    | else-cursor-count w ↦ advance-on _ _ _ _ w.if-cursor-count.false w.read-is w.cursor-is
  ];
  value_2 = refl;
}
