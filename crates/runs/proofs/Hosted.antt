-- PROMISE: what a host sees of its calls is a run, after each of them; so fair fetching holds of it.
use lib.ListN.{drop}
use Rattle.task.specs.Refusals.{task_fetched}
use Rattle.machine.proofs.Hosted as jobs
use Rattle.algorithm1.specs.Reading.{queue_in}
use Rattle.runs.specs.Calls.{begin_call, plain}
use Rattle.runs.specs.Hosted.{Hosting, calls_made, run_after, Hosted}
use Rattle.runs.specs.HostedFair.{HostedFair}
use Rattle.runs.proofs.Fair.{fair-fetching}

module _ (h : Hosting) where
  pub hosted : Hosted h
  hosted = jobs.hosted plain begin_call h

  pub hosted-fair : HostedFair h
  hosted-fair =
      record {
        soon = λ n owner filler owns fills ahead t behind stands many.
            jobs.hosted-taken plain begin_call h queue_in task_fetched n h.workers h.slots owner filler t behind _
            (fair-fetching.soon (run_after h n) owner filler owns fills ahead t behind (rw (hosted.words n) stands) (calls_made (drop n h.seen))
            (rw (jobs.hosted-fetches plain begin_call h n owner) many));
      }
