-- The range is the part, by definition; it begins at the table's word of that number.
use Prim.Native.Nat.{ℕ}
use mathlib.Core.Path.{refl, ap}
use native.Mathlib.Omega.{arith}
use Rattle.graph.specs.Graph.{part}
use Rattle.lookup.proofs.part_at.Goals as goal

pub returns : goal.returns
unfolding part
returns c = (refl, ap (λ (o : ℕ). (c.args.words.ref_ptr.0, o)) (omega arith))
