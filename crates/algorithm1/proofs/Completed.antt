-- An accepted Complete of document 01 is Algorithm 1's, whatever the lent memory holds.
use Prim.Native.Nat.{ℕ, suc, ◌+◌, ◌*◌, ◌<◌}
use mathlib.Core.Path.{◌≡◌, refl, sym, ◌∙◌}
use mathlib.Core.List.{List, [], ◌∷◌, ◌++◌}
use native.Mathlib.Omega.{arith}
use borrow.Author.Tests.{le-leb}
use lib.ListN.{length, get_or, set, length-set}
use lib.Seq.{get_or-set_same, get_or-set_other}
use lib.IntN.{ℤ, pos, ◌-ℤ◌}
use Rattle.lists.proofs.Blocks.{tabulate-same, tabulate-snoc}
use Rattle.task.specs.Types.{nil, idle}
use Rattle.task.specs.Entries.{entry_of}
use Rattle.task.specs.Phases.{suits}
use Rattle.task.specs.declared.Limits.{Limits}
use Rattle.task.specs.declared.Step.TheVariants.{Complete}
use Rattle.task.specs.declared.StepOutcome.{StepOutcome}
use Rattle.ring.specs.Ring.{capacity}
use Rattle.memory.specs.Field as list
use Rattle.memory.specs.Updates.{store_words, updated, written}
use Rattle.memory.proofs.Fields.{set-again}
use Rattle.rules.specs.Memory.{Mem, tasks, ring_number, counter_in, weight_in, succ_count, buffer_at, row_in, with_hand, with_places, held, entries_in}
use Rattle.rules.specs.Sizes.{Fits}
use Rattle.rules.specs.Updates.{Update, put_accepted}
use Rattle.rules.specs.Moves as moves
use Rattle.rules.specs.Moves.{sink, inner, Completing}
use Rattle.split_lists.proofs.Memories.{buffer_from, SameBuffer, lists-after, counters-put}
use Rattle.split_lists.proofs.Buffers.{buffered-none, buffered-some, buffer-joins, buffers-kept}
use Rattle.algorithm1.specs.State.{successors_of, thread_of}
use Rattle.algorithm1.specs.Algorithm.{with_thread, take_weight, with_entry, buffered, completed, Lines}
use Rattle.algorithm1.specs.Reading.{buffer_in, thread_in, entry_in, record_in, successors_in, state_of}
use Rattle.algorithm1.proofs.Readings.{state-same, successors-at, thread-at, length-successors, phase-at}
use Rattle.algorithm1.proofs.Memories.{mem_after}

module _ (limits : Limits) (p k i : ℕ) (m : Mem) (fits : Fits limits p k m) (worker : i < p) (n : ℕ) where
  abbrev task : ℕ
  task = held m i

  abbrev read : ℕ
  read = (row_in m i).read

  abbrev write : ℕ
  write = (row_in m i).write

  -- the counters once the weight has left
  abbrev lowered : List ℤ
  lowered = set m.counters (ring_number p i i) (counter_in m (ring_number p i i) -ℤ pos (weight_in m task))

  -- the memory after a Complete, with these buffers and this write place of the worker, whose hand is empty
  abbrev next : List ℕ → ℕ → Mem
  next buffers end =
      mem_after m i (with_hand 0 nil (with_places read end (row_in m i).cursor (row_in m i))) m.degrees m.rings m.ends lowered buffers
      (set (set m.executed (2 * entries_in m) task) (2 * entries_in m + 1) i)
      (set (set m.run 1 n) 0 (entries_in m + 1))

  module _ (common : Completing p i m) where
    successor-count : length (successors_in m task) ≡ succ_count m task
    successor-count = length-successors m task (fits.lengths.list list.succs) common.task

    module _ (buffers : List ℕ) (end : ℕ) where
      abbrev m' : Mem
      m' = next buffers end

      -- "(task, i) joins the record"
      record-joins : record_in m' ≡ record_in m ++ (entry_of task i ∷ [])
      unfolding record_in
      record-joins =
          rw (more, le-leb (e + 1) (tasks m) (omega (arith, common.entries)), le-leb e (tasks m) (omega (arith, common.entries)), count)
          (tabulate-snoc e (entry_in m') ∙ rw (new, tabulate-same e (entry_in m') (entry_in m) old))
        where
          e : ℕ
          e = entries_in m

          more : entries_in m' ≡ entries_in m + 1
          more = get_or-set_same (set m.run 1 n) 0 (e + 1) 0 (omega (arith, fits.lengths.list list.run, length-set m.run 1 n))

          count : entries_in m + 1 ≡ suc (entries_in m)
          count = omega arith

          first : List ℕ
          first = set m.executed (2 * e) task

          room : 2 * e + 1 < length m.executed
          room = omega (arith, common.entries, fits.lengths.list list.executed)

          new : entry_in m' e ≡ entry_of task i
          new =
              rw (
                get_or-set_other first (2 * e + 1) (2 * e) i 0 (λ q. omega (arith, q)),
                get_or-set_same m.executed (2 * e) task 0 (omega (arith, room)),
                get_or-set_same first (2 * e + 1) i 0 (omega (arith, room, length-set m.executed (2 * e) task)),
              )

          word : (y : ℕ) → y < 2 * e → get_or m'.executed y 0 ≡ get_or m.executed y 0
          word y l = get_or-set_other first (2 * e + 1) y i 0 (λ q. omega (arith, q, l)) ∙ get_or-set_other m.executed (2 * e) y task 0 (λ q. omega (arith, q, l))

          old : (x : ℕ) → x < e → entry_in m' x ≡ entry_in m x
          old x l = rw (word (2 * x) (omega (arith, l)), word (2 * x + 1) (omega (arith, l)))

      -- Complete is Algorithm 1's where the task joins the worker's own buffer if it has successors, and no other worker's buffer changes
      state-completes : buffer_from m' i read end ≡ buffered (successors_in m task) task (buffer_in m i)
          → ((h : ℕ) → ¬ (h ≡ i) → SameBuffer m buffers h)
          → state_of p k m'
          ≡ with_thread i (completed (successors_of (state_of p k m) (thread_of (state_of p k m) i).held) (thread_of (state_of p k m) i))
          (take_weight i i (thread_of (state_of p k m) i).held (with_entry (thread_of (state_of p k m) i).held i (state_of p k m)))
      unfolding state_of thread_in
      state-completes joins kept =
          rw (thread-at p k m i worker, successors-at p k m task common.task.below)
          (lists-after p k i m worker fits.lengths _ _ _ _ _ _ _ _ _ kept (record_in m')
          ∙ state-same refl refl refl refl
          -- line 16: "W_i = W_i − w_T′"
          (counters-put p i i worker worker k m fits.lengths (record_in m) (λ c. c -ℤ pos (weight_in m task)))
          (rw joins)
          record-joins)

  pub complete-does : (o : StepOutcome) (us : List Update) → (row_in m i).phase ≡ suits Complete → moves.Completes p i m o us
      → Lines p (capacity k) i Complete (state_of p k m) (state_of p k (written (put_accepted n ∷ us) m)) o
  unfolding written updated store_words buffer_in
  -- the row keeps its places, whatever they are
  complete-does o us phase (sink f) =
      rw f.updates
      (record {
        phase = phase-at p k m i worker ∙ phase;
        after =
            state-completes f.common m.buffers write
            (sym (buffered-none (successors_in m task) task (buffer_in m i) (successor-count f.common ∙ f.none)))
            (λ h e x l. refl);
        outcome = f.outcome;
      })
  complete-does o us phase (inner f) =
      rw (f.updates, set-again m.rows i (with_hand 0 nil (row_in m i)) idle (with_places read (write + 1) (row_in m i).cursor))
      (record { phase = phase-at p k m i worker ∙ phase; after = state-completes f.common buffers (write + 1) joins kept; outcome = f.outcome })
    where
      buffers : List ℕ
      buffers = set m.buffers (buffer_at m i write) task

      -- one more word, at the write place
      joins : buffer_from (next buffers (write + 1)) i read (write + 1) ≡ buffered (successors_in m task) task (buffer_in m i)
      joins =
          buffer-joins p k i m worker fits.lengths task read write f.places f.room
          ∙ sym (buffered-some (successors_in m task) task (buffer_in m i) (rw (successor-count f.common) f.successors))

      kept : (h : ℕ) → ¬ (h ≡ i) → SameBuffer m buffers h
      kept = buffers-kept p k i m worker fits.lengths task read write f.places f.room
