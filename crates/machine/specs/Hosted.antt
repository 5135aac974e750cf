-- What a host sees of a machine's calls from an accepted begin on, one after the other on the lent lists, is a run.
use Rattle.std.specs.Prelude.{ℕ, ◌≡◌, List, [], take}
use Rattle.std.proofs.Common.{sym}
use Rattle.task.specs.Refusals.{accepted}
use Rattle.task.specs.declared.Limits.{Limits}
use Rattle.machine.specs.Machine.{Machine}
use Rattle.machine.specs.Seen.{Seen, seen_as, calls_made, last_left, Link, Chained, events_seen}
use Rattle.machine.specs.Runs.{Run, memory_of, events_of}

module _ {M C : Type 0} (on : Machine M C) (begin_by : Limits → (p k : ℕ) → C) where
  -- what a host sees from an accepted begin on
  pub record Hosting : Type 0 where
    -- begin's own
    pub limits : Limits
    pub workers : ℕ
    pub slots : ℕ
    -- the words before begin, and after it
    pub lent : M
    pub begun : M
    pub begins : Link on lent (seen_as (begin_by limits workers slots) accepted begun)
    pub seen : List (Seen M C)
    pub chained : Chained on begun seen

  pub begin-accepts : (limits : Limits) (p k : ℕ) (m b : M) → Link on m (seen_as (begin_by limits p k) accepted b)
      → on.says (begin_by limits p k) m ≡ accepted
  begin-accepts limits p k m b l = sym l.answered

  -- the run of this begin and the first n calls (all of them, from their number on), and the words that the host saw then
  abbrev pub run_after : Hosting → ℕ → Run on begin_by
  run_after h n =
      record {
        limits = h.limits;
        workers = h.workers;
        slots = h.slots;
        lent = h.lent;
        accepts = begin-accepts h.limits h.workers h.slots h.lent h.begun h.begins;
        calls = calls_made (take n h.seen);
      }

  abbrev pub words_after : Hosting → ℕ → M
  words_after h n = last_left h.begun (take n h.seen)

  -- PROMISE: an accepted begin and the calls after it, as a host sees them, are a run, and so they were after each of the calls: what is promised of
  -- every run is true of the words and answers seen, on the way and in the end
  pub record Hosted (h : Hosting) : Type 0 where
    pub words : (n : ℕ) → memory_of on begin_by (run_after h n) ≡ words_after h n
    pub events : (n : ℕ) → events_of on begin_by (run_after h n) ≡ events_seen on (take n h.seen) []
