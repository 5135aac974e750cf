use Rattle.std.proofs.lemmas.Result.{err_from_is_err_and}
use Rattle.fetch.proofs.Laws.{fetch-refused, fetch-ready, fetch-taken}
use Rattle.lists.proofs.Told.{with_both}
use Rattle.fetch.proofs.fetch_admitted.Goals as goal

pub returns-in_err-head : goal.returns-in_err-head
returns-in_err-head c =
    let p = err_from_is_err_and c.from_residual.result c.from_residual.ensures.1 in
    rw (p.1, p.2) (record {
      fetches_admitted = fetch-refused _ _ _ _ _ _ _ _ _ _ c.plan_fetch.ensures _ (rw (c.branch-head.ensures, c.in_err-head.is));
      hand_and_pointer = tt;
    })

pub write_fetch-requires : goal.write_fetch-requires
write_fetch-requires c = fetch-ready _ _ _ _ _ _ _ _ _ _ c.plan_fetch.ensures c.in_ok-head.head (rw (c.branch-head.ensures, c.in_ok-head.is)) c.requires.0 c.requires.1

pub returns : goal.returns
returns c =
    with_both (λ a b. record { fetches_admitted = a; hand_and_pointer = b })
    (fetch-taken _ _ _ _ _ _ _ _ _ _ c.plan_fetch.ensures c.in_ok-head.head (rw (c.branch-head.ensures, c.in_ok-head.is)) _ _ _ c.write_fetch.ensures.ends_after c.write_fetch.ensures.value)
