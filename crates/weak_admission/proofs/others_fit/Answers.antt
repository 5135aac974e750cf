use Rattle.admission.proofs.Laws.{few-squares, few_words, few-places}
use Rattle.weak_admission.proofs.Laws.{others-are}
use native.Mathlib.Omega.{arith}
use Rattle.weak_admission.proofs.others_fit.Goals as goal

pub overflow_mul-squares : goal.overflow_mul-squares
overflow_mul-squares c = omega (arith, few-squares _ _ _ c.requires.0)

pub overflow_mul-result : goal.overflow_mul-result
overflow_mul-result c = omega (arith, few_words _ _ _ c.requires.0)

pub overflow_mul-result-2 : goal.overflow_mul-result-2
overflow_mul-result-2 c = omega (arith, few-squares _ _ _ c.requires.0)

pub overflow_mul-result-3 : goal.overflow_mul-result-3
overflow_mul-result-3 c = omega (arith, few-places _ _ _ c.requires.0)

pub overflow_add-result-2 : goal.overflow_add-result-2
overflow_add-result-2 c = omega (arith, c.requires.0.1.1, c.requires.1)

pub overflow_mul-result-4 : goal.overflow_mul-result-4
overflow_mul-result-4 c = omega (arith, c.requires.0.1.1, c.requires.1)

pub returns : goal.returns
returns c = others-are _ _ _
