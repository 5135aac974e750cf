-- PROMISE: the exported weak calls, one after the other from an accepted `yolluvek_weak_begin` on, are a weak run: what is promised of every such run, of a
-- host's run and of any two runs of one graph holds of the words that they leave and of their replies, after each of them and in the end.
use Prim.Native.Nat.{ℕ, ◌*◌, ◌+◌, ◌<◌}
use mathlib.Core.Path.{◌≡◌}
use mathlib.Core.List.{[]}
use lib.IntN.{pos}
use lib.ListN.{get_or, take}
use Rattle.lists.specs.Sums.{sum_of, sum_to_z}
use Rattle.weak_rules.specs.Memory.{Mem, weight_in}
use Rattle.weak_runs.specs.Calls.{weak, Run, memory_of, events_of, view_of}
use Rattle.weak_runs.specs.Counters.{open_of}
use Rattle.weak_runs.specs.Demand.{Finished, OneRun, OneGraph, Exchanges}
use Rattle.weak_runs.specs.Hosted.{Hosting, events_seen, Hosted}
use Rattle.weak_runs.specs.HostedFair.{HostedFair}
use Rattle.weak_runs.specs.RunWords.{RunWords}
use Rattle.weak_runs.proofs.Demand.{demand-3}
use Rattle.weak_runs.proofs.Events.{run-words}
use Rattle.weak_runs.proofs.Hosted.{hosted, hosted-fair}
use Rattle.weak_runs.proofs.Sums.{counters-add-up}
use Rattle.hosts.specs.Made.{words_made, heard_all}
use Rattle.hosts.proofs.Made.{Linked}
use Rattle.hosts.proofs.Made as made
use Rattle.weak_hosts.specs.Heard.{step_heard}
use Rattle.weak_hosts.specs.Exports.{Contract, Exporting}
use Rattle.weak_hosts.proofs.Exported.{exported-step, exported-begin, exported-lookup}

pub linked : Linked weak step_heard Contract
linked =
    record {
      step = λ limits p k i s r m m' contract. exported-step m limits p k i s r m' contract;
      begin = λ limits p k r m m' contract. exported-begin m limits p k r m' contract;
      lookup = λ side t r m m' contract. rw contract.1 (exported-lookup m side t r contract.0);
      reading = λ m m' contract. contract;
    }

abbrev pub hosting_of : Exporting → Hosting
hosting_of = made.hosting_of weak step_heard Contract linked

-- the run of this begin and the first n calls (all of them, from their number on)
abbrev pub run_made : Exporting → ℕ → Run
run_made = made.run_made weak step_heard Contract linked

-- the words that the first n calls left
abbrev pub left_by : Exporting → ℕ → Mem
left_by e n = words_made e.begun (take n e.made)

pub record ExportsRun (e : Exporting) : Type 0 where
  -- the run's words are those that the calls left, and its events the calls with their replies
  pub words : (n : ℕ) → memory_of (run_made e n) ≡ left_by e n
  pub events : (n : ℕ) → events_of (run_made e n) ≡ events_seen (heard_all step_heard (take n e.made)) []
  -- so it is a run as a host sees it, with fair fetching in what it sees
  pub hosted : Hosted (hosting_of e)
  pub fair : HostedFair (hosting_of e)
  -- "the weight of the tasks fixed to it and not complete", in the words left
  pub counters : (n i : ℕ) → i < e.workers
      → sum_to_z e.workers (λ j. get_or (left_by e n).counters (i * e.workers + j) (pos 0)) ≡ pos (sum_of (weight_in e.lent) (open_of (left_by e n) i))
  -- the run words and the record
  pub record-words : (n : ℕ) → RunWords (view_of (run_made e n))
  -- demand 3
  pub one : (n : ℕ) → OneRun (view_of (run_made e n))
  pub two : (e' : Exporting) (n n' : ℕ) → OneGraph (view_of (run_made e n)) (view_of (run_made e' n')) → Finished (view_of (run_made e n)) → Finished (view_of (run_made e' n'))
      → Exchanges (view_of (run_made e n)) (view_of (run_made e' n'))

module _ (e : Exporting) where
  words_left : (n : ℕ) → memory_of (run_made e n) ≡ left_by e n
  words_left = made.words-made weak step_heard Contract linked e

  counters-left : (n i : ℕ) → i < e.workers
      → sum_to_z e.workers (λ j. get_or (left_by e n).counters (i * e.workers + j) (pos 0)) ≡ pos (sum_of (weight_in e.lent) (open_of (left_by e n) i))
  counters-left n i h = rw (words_left n) at ((counters-add-up (run_made e n)).words i h)

  pub exports-run : ExportsRun e
  exports-run =
      record {
        words = words_left;
        events = made.events-made weak step_heard Contract linked e;
        hosted = hosted (hosting_of e);
        fair = hosted-fair (hosting_of e);
        counters = counters-left;
        record-words = λ n. run-words (run_made e n);
        one = λ n. demand-3.one (run_made e n);
        two = λ e' n n'. demand-3.two (run_made e n) (run_made e' n');
      }
