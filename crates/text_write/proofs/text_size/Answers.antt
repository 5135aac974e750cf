-- The sum fits its type: a time has at most ten digits.
use native.Mathlib.Omega.{arith}
use Rattle.layout.proofs.Sizes.{text-size, lines-most, preds-most}
use Rattle.text_write.proofs.text_size.Goals as goal

pub overflow_add-result-2 : goal.overflow_add-result-2
overflow_add-result-2 c = omega (arith, c.requires.0.sized.tasks, lines-most c.args.weights.now _ _ c.requires.0 9 (λ t h. omega (arith, c.type_inv.weights t)))

pub overflow_add-result-3 : goal.overflow_add-result-3
overflow_add-result-3 c =
    omega (arith, c.requires.0.sized.tasks, lines-most c.args.weights.now _ _ c.requires.0 9 (λ t h. omega (arith, c.type_inv.weights t)), preds-most c.args.weights.now _ _ c.requires.0, c.requires.0.sized.edges)

pub returns : goal.returns
returns c =
    omega (
      arith,
      text-size c.args.weights.now c.args.starts.now c.args.preds.now c.requires.0,
    )
