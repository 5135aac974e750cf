-- E + R copies are recorded: 4E + 3R steps are accepted, the order is one that the graph allows, and every ring and every buffer is empty, every worker
-- idle and every degree 0.
use Prim.Native.Nat.{ℕ, ◌+◌, ◌*◌, ◌%◌, ◌<◌}
use mathlib.Core.Path.{◌≡◌, sym, ◌∙◌}
use mathlib.Core.List.{[]}
use native.Mathlib.Omega.{arith}
use native.Mathlib.Decide.{dec_lt}
use native.Mathlib.Nat.{mod-lt}
use lib.ListN.{length, get_or-eq_default}
use Rattle.task.specs.declared.Limits.{Limits}
use Rattle.weak_task.specs.Types.{copy}
use Rattle.ring.specs.Ring.{Sound, Empty}
use Rattle.ring.proofs.Queues.{queue-empty}
use Rattle.memory.specs.Field as list
use Rattle.graph.specs.Graph.{edge_count}
use Rattle.graph.specs.Successors.{roots}
use Rattle.exchange.specs.Exchange.{Allows}
use Rattle.weak_rules.specs.Memory.{Mem, tasks, edges, graph_in, ring_number, ends_in, rings_in, degree_in, row_in, pointer_in, roots_word, entries_in, accepted_in}
use Rattle.weak_rules.specs.Tables.{GoesOn, scanned_ends}
use Rattle.system.specs.Stages.{idle}
use Rattle.system.proofs.Finished.{finished-waiting, finished-hand, finished-pending}
use Rattle.copies.specs.Copies.{same_copy, is_copy, copies_of, all_copies, Before}
use Rattle.copies.proofs.Weak.{none-missing}
use Rattle.copies.proofs.Runs.{weak-steps, finished-copies, finished-order}
use Rattle.runs.proofs.Waiting.{waiting_none}
use Rattle.weak_algorithm.specs.Reading.{state_of}
use Rattle.weak_algorithm.proofs.Readings.{queue-at, degree-at}
use Rattle.weak_runs.specs.Calls.{Run, memory_of, view_of}
use Rattle.weak_runs.specs.AtRest.{AtRest}
use Rattle.weak_runs.specs.Fairness.{queue_in}
use Rattle.weak_runs.proofs.Invariant.{meaning, system_in, Honest, done_of}
use Rattle.weak_runs.proofs.Live.{Ranges, honest-sound, honest-once, honest-invariant, want-copy, recorded-length, all-length, ends-sound, row-phase}
use Rattle.weak_runs.proofs.LiveRelease.{pending-none}

module _ {limits : Limits} {p k : ℕ} {m : Mem} (h : Honest limits p k m) (full : entries_in m ≡ edges m + roots_word m) where
  all-recorded : length (system_in p k m).stages.done ≡ length (all_copies (graph_in m))
  all-recorded = omega (arith, full, recorded-length h, all-length h)

  recorded-all : length (system_in p k m).stages.done ≡ edge_count (graph_in m) + length (roots (graph_in m))
  recorded-all = omega (arith, full, recorded-length h, h.words.roots)

  -- "With R roots a run has 4E + 3R accepted steps."
  pub finished-count : accepted_in m ≡ 4 * edges m + 3 * roots_word m
  unfolding meaning
  finished-count = omega (arith, weak-steps (graph_in m) (honest-sound h) (honest-once h) p h.weak recorded-all, h.words.roots)

  -- "copies, each recorded once: a copy stays behind all copies of its predecessor"
  pub finished-allowed : Allows same_copy (is_copy (graph_in m)) (Before (graph_in m)) (done_of (state_of p k m))
  unfolding meaning
  finished-allowed =
      record {
        once = finished-copies (graph_in m) (honest-sound h) (honest-once h) p h.weak recorded-all;
        after = finished-order (graph_in m) (honest-sound h) (honest-once h) p h.weak recorded-all;
      }

  -- all copies of each task are recorded
  pub rest-degree : (t : ℕ) → ◌≡◌ {A = ℕ} (degree_in m t) 0
  rest-degree t = go (dec_lt t (tasks m))
    where
      go : Dec (t < tasks m) → degree_in m t ≡ 0
      go (yes l) =
          sym (degree-at p k m t) ∙ h.sane.left t l ∙ none-missing (graph_in m) (done_of (state_of p k m)) finished-allowed.once t
      go (no n) = get_or-eq_default m.degrees 0 {n = t} (omega (arith, n, h.fits.lengths.list list.degrees))

  module _ (i : ℕ) (worker : i < p) where
    pub rest-phase : ◌≡◌ {A = ℕ} (row_in m i).phase 0
    unfolding meaning
    rest-phase =
        row-phase h i worker idle
        (finished-hand same_copy (copies_of (graph_in m)) p (all_copies (graph_in m)) (want-copy h) {s = system_in p k m} (honest-invariant h) all-recorded i worker)

    pub rest-buffer : Ranges p m → (row_in m i).read ≡ (row_in m i).write
    unfolding meaning
    rest-buffer w =
        pending-none h w i worker
        (finished-pending same_copy (copies_of (graph_in m)) p (all_copies (graph_in m)) (want-copy h) {s = system_in p k m} (honest-invariant h) all-recorded i
        worker)

    -- no copy waits
    pub rest-queue : (j : ℕ) → j < p → queue_in p k m i j ≡ []
    unfolding meaning
    rest-queue j l =
        sym (queue-at p k m i j worker l)
        ∙ waiting_none p (state_of p k m).lists i
        (finished-waiting same_copy (copies_of (graph_in m)) p (all_copies (graph_in m)) (want-copy h) {s = system_in p k m} (honest-invariant h) all-recorded i
        worker)
        j l

    pub rest-ring : (j : ℕ) → j < p → Sound k (ends_in m (ring_number p i j)) × Empty (ends_in m (ring_number p i j))
    rest-ring j l = (
      ends-sound h i worker j l,
      (queue-empty (copy 0 0) k (rings_in m) (ring_number p i j) (ends-sound h i worker j l)).1 (rest-queue j l),
    )

    -- the scan finds all P rings empty
    pub rest-scan : GoesOn k Empty (scanned_ends p i m) p
    rest-scan d l = rest-ring ((pointer_in m i + d) % p) (mod-lt (pointer_in m i + d) h.fits.limits.one_worker)

-- of a run whose record is full
pub rests-from : (r : Run) → Honest r.limits r.workers r.slots (memory_of r) → Ranges r.workers (memory_of r)
    → entries_in (memory_of r) ≡ edges (memory_of r) + roots_word (memory_of r) → AtRest (view_of r)
rests-from r h w full =
    record {
      queues = λ i j hi hj. rest-queue h full i hi j hj;
      rings = λ i j hi hj. rest-ring h full i hi j hj;
      phases = rest-phase h full;
      buffers = λ i hi. rest-buffer h full i hi w;
      degrees = rest-degree h full;
    }
