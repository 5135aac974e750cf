-- PROMISE: the split counters, after every list of a weak run's calls: they add up to the weight of the tasks fixed to their worker and not complete, and
-- each is within its range.
use Prim.Native.Nat.{ℕ, ◌<◌}
use mathlib.Core.Path.{◌≡◌, refl, sym, ◌∙◌}
use lib.IntN.{pos}
use Rattle.lists.specs.Sums.{sum_to_z, sum_of}
use Rattle.lists.proofs.SumsZ.{sum_z-same}
use Rattle.task.specs.declared.Limits.{Limits}
use Rattle.split_lists.specs.Items.{counter_of}
use Rattle.weak_rules.specs.Memory.{Mem, graph_in, ring_number, counter_in, weight_in}
use Rattle.weak_algorithm.specs.Reading.{state_of}
use Rattle.weak_algorithm.proofs.Readings.{counter_at}
use Rattle.weak_runs.specs.Calls.{Run, view_of}
use Rattle.weak_runs.specs.Counters.{open_of, CountersAddUp}
use Rattle.weak_runs.proofs.Invariant.{open_in, Honest}
use Rattle.weak_runs.proofs.Calls.{weights-reached}
use Rattle.weak_runs.proofs.Bounds.{memory-within}
use Rattle.weak_runs.proofs.Honest.{ends-sound, kept_run, honest-run}

-- the open tasks are read from the lent words
open-words : (p k : ℕ) (m : Mem) (i : ℕ) → open_in (graph_in m) (state_of p k m) i ≡ open_of m i
unfolding open_in open_of state_of
open-words p k m i = refl

module _ {limits : Limits} {p k : ℕ} {m : Mem} (h : Honest limits p k m) where
  honest-words : (i : ℕ) → i < p → sum_to_z p (λ j. counter_in m (ring_number p i j)) ≡ pos (sum_of (weight_in m) (open_of m i))
  unfolding state_of
  honest-words i l =
      sym (sum_z-same p (λ j. counter_in m (ring_number p i j)) (counter_of (state_of p k m).lists i) (λ j lj. counter_at p k m i j l lj))
      ∙ h.adds_up.worker i l
      ∙ rw (open-words p k m i) refl

pub counters-add-up : (r : Run) → CountersAddUp (view_of r)
counters-add-up r =
    record {
      ends = λ i j hi. ends-sound (honest-run r) i hi j;
      words = λ i h. honest-words (honest-run r) i h ∙ rw (weights-reached r);
      within = memory-within r.workers r.slots _ (honest-run r).graph (kept_run r).bounded;
    }
