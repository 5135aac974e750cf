-- PROMISE: the exported calls, one after the other from an accepted begin on, are a run: what is promised of every run, of a host's run and of any
-- two runs of one graph holds of the words that they leave and of their replies, after each of them and in the end.
use Prim.Native.Nat.{ℕ}
use mathlib.Core.Path.{◌≡◌}
use mathlib.Core.List.{[]}
use lib.ListN.{take}
use Rattle.runs.specs.Calls.{plain, Run, memory_of, events_of, view_of}
use Rattle.runs.specs.Demand.{Finished, OneRun, OneGraph, Exchanges}
use Rattle.runs.specs.Hosted.{Hosting, events_seen, Hosted}
use Rattle.runs.specs.HostedFair.{HostedFair}
use Rattle.runs.proofs.Demand.{demand-3}
use Rattle.runs.proofs.Hosted.{hosted, hosted-fair}
use Rattle.hosts.specs.Heard.{step_heard}
use Rattle.hosts.specs.Made.{words_made, heard_all}
use Rattle.hosts.specs.Exports.{Contract, Exporting}
use Rattle.hosts.proofs.Made.{Linked}
use Rattle.hosts.proofs.Made as made
use Rattle.hosts.proofs.Exported.{exported-step, exported-begin, exported-lookup}

pub linked : Linked plain step_heard Contract
linked =
    record {
      step = λ limits p k i s r m m' contract. exported-step m limits p k i s r m' contract;
      begin = λ limits p k r m m' contract. exported-begin m limits p k r m' contract;
      lookup = λ side t r m m' contract. rw contract.1 (exported-lookup m side t r contract.0);
      reading = λ m m' contract. contract;
    }

abbrev pub hosting_of : Exporting → Hosting
hosting_of = made.hosting_of plain step_heard Contract linked

-- the run of this begin and the first n calls (all of them, from their number on)
abbrev pub run_made : Exporting → ℕ → Run
run_made = made.run_made plain step_heard Contract linked

pub record ExportsRun (e : Exporting) : Type 0 where
  -- the run's words are those that the calls left, and its events the calls with their replies
  pub words : (n : ℕ) → memory_of (run_made e n) ≡ words_made e.begun (take n e.made)
  pub events : (n : ℕ) → events_of (run_made e n) ≡ events_seen (heard_all step_heard (take n e.made)) []
  -- so it is a run as a host sees it, with fair fetching in what it sees
  pub hosted : Hosted (hosting_of e)
  pub fair : HostedFair (hosting_of e)
  -- demand 3
  pub one : (n : ℕ) → OneRun (view_of (run_made e n))
  pub two : (e' : Exporting) (n n' : ℕ) → OneGraph (view_of (run_made e n)) (view_of (run_made e' n')) → Finished (view_of (run_made e n)) → Finished (view_of (run_made e' n'))
      → Exchanges (view_of (run_made e n)) (view_of (run_made e' n'))

pub exports-run : (e : Exporting) → ExportsRun e
exports-run e =
    record {
      words = made.words-made plain step_heard Contract linked e;
      events = made.events-made plain step_heard Contract linked e;
      hosted = hosted (hosting_of e);
      fair = hosted-fair (hosting_of e);
      one = λ n. demand-3.one (run_made e n);
      two = λ e' n n'. demand-3.two (run_made e n) (run_made e' n');
    }
