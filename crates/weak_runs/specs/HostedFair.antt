-- Fair fetching in what a host sees: words, calls and answers as they were seen, and no other.
use Rattle.std.specs.Prelude.{ℕ, ◌+◌, ◌*◌, ◌≤◌, ◌<◌, ◌≡◌, List, ◌∷◌, ◌++◌, length, drop}
use Rattle.machine.specs.Fetches as jobs
use Rattle.weak_task.specs.Types.{Copy}
use Rattle.weak_task.specs.Says.{copy_fetched}
use Rattle.weak_rules.specs.Memory.{Mem}
use Rattle.weak_runs.specs.Calls.{weak}
use Rattle.weak_runs.specs.Fairness.{queue_in}
use Rattle.weak_runs.specs.Hosted.{Seen, Hosting, words_after}

-- how many of the calls seen are accepted Fetches by worker i, as long as the run lasts: an accepted begin ends it
abbrev pub fetches_seen : ℕ → List Seen → ℕ
fetches_seen = jobs.fetches_seen weak

-- Of the calls seen from the words m on, one of the first `bound` accepted Fetches by the owner is answered c and takes it, the c that has `behind`
-- behind it, from the owner's ring that the filler fills.
abbrev pub SeenTaken : (workers slots owner filler : ℕ) (c : Copy) (behind : List Copy) (bound : ℕ) → List Seen → Mem → Type 0
SeenTaken = jobs.SeenTaken weak queue_in copy_fetched

-- PROMISE: "A task with p tasks ahead of it in its ring is therefore taken within (p+1)·P accepted fetches of its owner.", of copies: after the first n calls
-- that a host made, and in those that it made then
pub record HostedFair (h : Hosting) : Type 0 where
  pub soon : (n owner filler : ℕ) → owner < h.workers → filler < h.workers
      → (ahead : List Copy) (c : Copy) (behind : List Copy) → queue_in h.workers h.slots (words_after h n) owner filler ≡ ahead ++ (c ∷ behind)
      → (length ahead + 1) * h.workers ≤ fetches_seen owner (drop n h.seen)
      → SeenTaken h.workers h.slots owner filler c behind ((length ahead + 1) * h.workers) (drop n h.seen) (words_after h n)
