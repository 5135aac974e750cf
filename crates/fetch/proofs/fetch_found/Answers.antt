use Rattle.std.proofs.lemmas.Result.{err_from_is_err_and}
use Rattle.fetch.proofs.Laws.{sized-readable, scanned-reachable, found-refused, found-ready, found-taken}
use Rattle.lists.proofs.Told.{with_both}
use Rattle.fetch.proofs.fetch_found.Goals as goal

pub plan_found-requires : goal.plan_found-requires
plan_found-requires c = (sized-readable _ _ _ _ _ _ c.requires.0, scanned-reachable _ _ _ c.args.tasks c.args.steps c.args.row c.args.rings.now _ c.args.run.now c.args.found c.requires.1.1)

pub returns-in_err-head : goal.returns-in_err-head
returns-in_err-head c =
    let p = err_from_is_err_and c.from_residual.result c.from_residual.ensures.1 in
    rw (p.1, p.2) (record {
      fetches_found = found-refused _ _ _ _ _ _ _ _ _ c.args.found c.requires.1.1 _ c.plan_found.ensures _ (rw (c.branch-head.ensures, c.in_err-head.is));
      hand_and_pointer = tt;
    })

pub write_fetch-requires : goal.write_fetch-requires
write_fetch-requires c = found-ready _ _ _ _ _ c.args.row _ _ _ c.args.found c.requires.1.1 _ c.plan_found.ensures c.in_ok-head.head (rw (c.branch-head.ensures, c.in_ok-head.is)) c.requires.0 c.requires.1.0

pub returns : goal.returns
returns c =
    with_both (λ a b. record { fetches_found = a; hand_and_pointer = b })
    (found-taken _ _ _ _ _ _ _ _ _ c.args.found c.requires.1.1 _ c.plan_found.ensures c.in_ok-head.head (rw (c.branch-head.ensures, c.in_ok-head.is)) _ _ _ c.write_fetch.ensures.ends_after c.write_fetch.ensures.value)
