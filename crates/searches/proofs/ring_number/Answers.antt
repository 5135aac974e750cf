use Rattle.lists.proofs.Places.{place-small}
use Rattle.lists.proofs.Places.{place-lt}
use mathlib.Core.Path.{refl}
use native.Mathlib.Omega.{arith}
use Rattle.searches.proofs.ring_number.Goals as goal

pub overflow_mul-result : goal.overflow_mul-result
overflow_mul-result c = omega (arith, place-small 16 c.args.p c.args.owner.0 (omega arith) (omega arith))

pub overflow_add-result : goal.overflow_add-result
overflow_add-result c = omega (arith, place-small 16 c.args.p c.args.owner.0 (omega arith) (omega arith))

pub returns : goal.returns
returns c = (refl, place-lt _ _ _ _ (omega arith) (omega arith))
