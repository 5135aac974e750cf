-- Fair fetching in what a host sees: words, calls and answers as they were seen, and no other.
use Rattle.std.specs.Prelude.{ℕ, ◌+◌, ◌*◌, ◌≤◌, ◌<◌, ◌≡◌, List, ◌∷◌, ◌++◌, length, drop}
use Rattle.task.specs.Refusals.{task_fetched}
use Rattle.machine.specs.Fetches as jobs
use Rattle.rules.specs.Memory.{Mem}
use Rattle.algorithm1.specs.Reading.{queue_in}
use Rattle.runs.specs.Calls.{plain}
use Rattle.runs.specs.Hosted.{Seen, Hosting, words_after}

-- how many of the calls seen are accepted Fetches by worker i, as long as the run lasts: an accepted begin ends it
abbrev pub fetches_seen : ℕ → List Seen → ℕ
fetches_seen = jobs.fetches_seen plain

-- Of the calls seen from the words m on, one of the first `bound` accepted Fetches by the owner is answered t and takes it, the t that has `behind`
-- behind it, from the owner's ring that the filler fills.
abbrev pub SeenTaken : (workers slots owner filler t : ℕ) (behind : List ℕ) (bound : ℕ) → List Seen → Mem → Type 0
SeenTaken = jobs.SeenTaken plain queue_in task_fetched

-- PROMISE: "A task with p tasks ahead of it in its ring is therefore taken within (p+1)·P accepted fetches of its owner.": after the first n calls
-- that a host made, and in those that it made then
pub record HostedFair (h : Hosting) : Type 0 where
  pub soon : (n owner filler : ℕ) → owner < h.workers → filler < h.workers
      → (ahead : List ℕ) (t : ℕ) (behind : List ℕ) → queue_in h.workers h.slots (words_after h n) owner filler ≡ ahead ++ (t ∷ behind)
      → (length ahead + 1) * h.workers ≤ fetches_seen owner (drop n h.seen)
      → SeenTaken h.workers h.slots owner filler t behind ((length ahead + 1) * h.workers) (drop n h.seen) (words_after h n)
