use Rattle.admission.proofs.Laws.{within-engine, judged-beyond, judged-lengths, judged-worker, judged-fit, judged-knows, refused-known}
use Rattle.lists.proofs.Told.{with_both}
use Rattle.admission.proofs.judge.Goals as goal

pub returns-then-not-numbers_fit-sizes_fit : goal.returns-then-not-numbers_fit-sizes_fit
returns-then-not-numbers_fit-sizes_fit c = with_both (λ a b. record { judges = a; knows = b }) (refused-known _ _ _ _ _ _ (judged-beyond _ _ _ _ _ _ c.numbers_fit.ensures c.sizes_fit.ensures c.if-not-numbers_fit-sizes_fit.true-raw _))

pub lengths_fit-requires : goal.lengths_fit-requires
lengths_fit-requires c = within-engine _ _ _ c.args.sizes _ _
    c.numbers_fit.ensures
    c.sizes_fit.ensures
    c.if-not-numbers_fit-sizes_fit.false-raw

pub returns-then-not-lengths_fit : goal.returns-then-not-lengths_fit
returns-then-not-lengths_fit c = with_both (λ a b. record { judges = a; knows = b }) (refused-known _ _ _ _ _ _ (judged-lengths _ _ _ _ _ _ c.numbers_fit.ensures c.sizes_fit.ensures c.if-not-numbers_fit-sizes_fit.false-raw _ c.lengths_fit.ensures c.if-not-lengths_fit.true-raw _))

pub returns-then-p-worker : goal.returns-then-p-worker
returns-then-p-worker c = with_both (λ a b. record { judges = a; knows = b }) (refused-known _ _ _ _ _ _ (judged-worker _ _ _ _ _ _ c.numbers_fit.ensures c.sizes_fit.ensures c.if-not-numbers_fit-sizes_fit.false-raw _ c.lengths_fit.ensures c.if-not-lengths_fit.false-raw _ c.if-p-worker.true))

pub returns : goal.returns
returns c = record {
  judges = judged-fit _ _ _ _ _ _
      c.numbers_fit.ensures
      c.sizes_fit.ensures
      c.if-not-numbers_fit-sizes_fit.false-raw _
      c.lengths_fit.ensures
      c.if-not-lengths_fit.false-raw _
      c.if-p-worker.false;
  knows = judged-knows _ _ _ _ _ _
      c.numbers_fit.ensures
      c.sizes_fit.ensures
      c.if-not-numbers_fit-sizes_fit.false-raw _
      c.lengths_fit.ensures
      c.if-not-lengths_fit.false-raw _
      c.if-p-worker.false;
}
