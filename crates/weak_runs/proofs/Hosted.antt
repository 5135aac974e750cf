-- PROMISE: what a host sees of a weak job's calls is a run, after each of them; so fair fetching holds of it.
use lib.ListN.{drop}
use Rattle.weak_task.specs.Says.{copy_fetched}
use Rattle.machine.proofs.Hosted as jobs
use Rattle.weak_runs.specs.Calls.{begin_call, weak}
use Rattle.weak_runs.specs.Fairness.{queue_in}
use Rattle.weak_runs.specs.Hosted.{Hosting, calls_made, run_after, Hosted}
use Rattle.weak_runs.specs.HostedFair.{HostedFair}
use Rattle.weak_runs.proofs.Fair.{fair-fetching}

module _ (h : Hosting) where
  pub hosted : Hosted h
  hosted = jobs.hosted weak begin_call h

  pub hosted-fair : HostedFair h
  hosted-fair =
      record {
        soon = λ n owner filler owns fills ahead c behind stands many.
            jobs.hosted-taken weak begin_call h queue_in copy_fetched n h.workers h.slots owner filler c behind _
            (fair-fetching.soon (run_after h n) owner filler owns fills ahead c behind (rw (hosted.words n) stands) (calls_made (drop n h.seen))
            (rw (jobs.hosted-fetches weak begin_call h n owner) many));
      }
