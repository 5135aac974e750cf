-- Each test answers for its number, and what it has passed lets the next one run.
use native.Mathlib.Omega.{arith}
use Rattle.std.proofs.lemmas.Result.{err_from_is_err_and}
use Rattle.admission.proofs.Laws.{within-engine}
use Rattle.begin_check.proofs.Laws.{judge-beyond, product-fits, judge-refused, starts_fit, few-tasks, judge-roots, judge-accepted}
use Rattle.begin_check.proofs.judge.Goals as goal

pub returns-then-not-numbers_fit-sizes_fit : goal.returns-then-not-numbers_fit-sizes_fit
returns-then-not-numbers_fit-sizes_fit c = judge-beyond _ _ _ _ _ _ _ _ _ c.numbers_fit.ensures c.sizes_fit.ensures c.if-not-numbers_fit-sizes_fit.true-raw

pub others_fit-others-requires : goal.others_fit-others-requires
others_fit-others-requires c =
    within-engine _ _ _
    c.args.sizes
    _ _
    c.numbers_fit.ensures
    c.sizes_fit.ensures
    c.if-not-numbers_fit-sizes_fit.false-raw

pub returns-in_err-check : goal.returns-in_err-check
returns-in_err-check c =
    let p = err_from_is_err_and c.from_residual.result c.from_residual.ensures.1 in
    rw (p.1, p.2) (judge-refused _ _ _ _ _ _ _ _ _
    c.numbers_fit.ensures
    c.sizes_fit.ensures
    c.if-not-numbers_fit-sizes_fit.false-raw
    _
    c.others_fit-others.ensures
    _
    c.check_graph-check.ensures.0
    _
    (rw (c.branch-check.ensures, c.in_err-check.is)))

pub count_roots-found-requires : goal.count_roots-found-requires
count_roots-found-requires c =
    starts_fit _ _ _ _ _ _ _ _ _
    c.numbers_fit.ensures
    c.sizes_fit.ensures
    c.if-not-numbers_fit-sizes_fit.false-raw
    _
    c.others_fit-others.ensures
    _
    c.check_graph-check.ensures.0
    (rw (c.branch-check.ensures, c.in_ok-check.is))

pub overflow_mul-p : goal.overflow_mul-p
overflow_mul-p c =
    product-fits _ _ _ _ _
    c.numbers_fit.ensures
    c.if-not-numbers_fit-sizes_fit.false-raw
    _
    (omega arith)

pub overflow_cast-result : goal.overflow_cast-result
overflow_cast-result c =
    omega (
      arith,
      few-tasks _ _ _ _ _ _ _ _ _
          c.numbers_fit.ensures
          c.sizes_fit.ensures
          c.if-not-numbers_fit-sizes_fit.false-raw
          _
          c.others_fit-others.ensures
          _
          c.check_graph-check.ensures.0
          (rw (c.branch-check.ensures, c.in_ok-check.is)),
    )

pub returns-then-p-k : goal.returns-then-p-k
returns-then-p-k c =
    judge-roots _ _ _ _ _ _ _ _ _
    c.numbers_fit.ensures
    c.sizes_fit.ensures
    c.if-not-numbers_fit-sizes_fit.false-raw
    _
    c.others_fit-others.ensures
    _
    c.check_graph-check.ensures.0
    (rw (c.branch-check.ensures, c.in_ok-check.is))
    _
    c.count_roots-found.ensures.1
    c.if-p-k.true

pub returns : goal.returns
returns c =
    judge-accepted _ _ _ _ _ _ _ _ _
    c.numbers_fit.ensures
    c.sizes_fit.ensures
    c.if-not-numbers_fit-sizes_fit.false-raw
    _
    c.others_fit-others.ensures
    _
    c.check_graph-check.ensures.0
    (rw (c.branch-check.ensures, c.in_ok-check.is))
    _
    c.count_roots-found.ensures.1
    c.if-p-k.false
