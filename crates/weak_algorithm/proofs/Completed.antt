-- An accepted Complete of a weak job is Algorithm 1's, whatever the lent memory holds.
use Prim.Native.Nat.{ℕ, suc, ◌+◌, ◌-◌, ◌*◌, ◌≤◌, ◌<◌}
use mathlib.Core.Path.{◌≡◌, refl, sym, ap, ◌∙◌}
use mathlib.Core.List.{List, [], ◌∷◌, ◌++◌}
use native.Mathlib.Omega.{arith}
use borrow.Author.Tests.{le-leb}
use lib.ListN.{length, get_or, set, length-set}
use lib.Seq.{get_or-set_same, get_or-set_other}
use lib.IntN.{ℤ, pos, ◌-ℤ◌}
use Rattle.lists.specs.Squares.{square}
use Rattle.lists.proofs.Blocks.{tabulate-same, tabulate-snoc}
use Rattle.task.specs.Entries.{entry_of}
use Rattle.task.specs.Phases.{suits}
use Rattle.task.specs.declared.Limits.{Limits}
use Rattle.task.specs.declared.Step.TheVariants.{Complete}
use Rattle.weak_task.specs.Types.{idle}
use Rattle.weak_task.specs.declared.WeakOutcome.{WeakOutcome}
use Rattle.weak_task.specs.declared.WeakOutcome.TheVariants.{Moved}
use Rattle.weak_task.specs.declared.WeakRow.{WeakRow}
use Rattle.ring.specs.Ring.{capacity}
use Rattle.memory.specs.Field as list
use Rattle.memory.specs.Updates.{store_words, updated, written}
use Rattle.memory.proofs.Fields.{set-again}
use Rattle.plans.specs.Sizes.{Fits}
use Rattle.weak_rules.specs.Memory.{weak, Mem, edges, tasks, ring_number, counter_in, weight_in, degree_in, roots_word, succ_count, buffer_at, row_in, pointer_in, held, entries_in}
use Rattle.weak_rules.specs.Updates.{Update, put_accepted}
use Rattle.weak_rules.specs.Moves as moves
use Rattle.weak_rules.specs.Moves.{Completing, CompletingLast}
use Rattle.split_lists.specs.Items.{thread_with, state_with}
use Rattle.split_lists.specs.Moves.{buffered}
use Rattle.split_lists.specs.Reading.{buffer_in, thread_in, successors_in}
use Rattle.split_lists.proofs.Readings.{state-same, length-successors}
use Rattle.split_lists.proofs.Memories.{buffer_from, mem_after, SameBuffer, lists-after, counters-put}
use Rattle.split_lists.proofs.Buffers.{buffered-none, buffered-some, buffer-joins, buffers-kept}
use Rattle.weak_algorithm.specs.State as state
use Rattle.weak_algorithm.specs.State.{no_item}
use Rattle.weak_algorithm.specs.Algorithm.{copies, completes, Lines}
use Rattle.weak_algorithm.specs.Reading.{entry_in, record_in, state_of}
use Rattle.weak_algorithm.proofs.Readings.{successors-at, thread-at, phase-at}
use Rattle.weak_algorithm.proofs.Memories.{states-same}

module _ (limits : Limits) (p k i : ℕ) (m : Mem) (fits : Fits limits p k m) (worker : i < p) (roots : roots_word m ≤ tasks m) (n : ℕ) where
  abbrev task : ℕ
  task = (held m i).task

  abbrev read : ℕ
  read = (row_in m i).read

  abbrev write : ℕ
  write = (row_in m i).write

  -- the degrees once line 7 is done, and the counters once the weight has left
  abbrev fewer : List ℕ
  fewer = set m.degrees task (degree_in m task - 1)

  abbrev lighter : List ℤ
  lighter = set m.counters (ring_number p i i) (counter_in m (ring_number p i i) -ℤ pos (weight_in m task))

  -- the worker's row, with this write place and an empty hand
  abbrev idle_row : ℕ → WeakRow
  idle_row end =
      weak.with_hand (record { phase = 0; held = no_item })
      (weak.with_places (record { read = read; write = end; cursor = (row_in m i).cursor }) (row_in m i))

  -- the memory after a Complete, with these degrees, counters, buffers and this write place
  abbrev next : List ℕ → List ℤ → List ℕ → ℕ → Mem
  next d c buffers end =
      mem_after m i (idle_row end) d m.fixed m.rings m.ends c buffers
      (set (set (set m.executed (3 * entries_in m) task) (3 * entries_in m + 1) (held m i).predecessor) (3 * entries_in m + 1 + 1) i)
      (set (set m.run 1 n) 0 (entries_in m + 1))

  module _ (common : Completing i m) (d : List ℕ) (c : List ℤ) (buffers : List ℕ) (end : ℕ) where
    abbrev m' : Mem
    m' = next d c buffers end

    -- the copy and i join the record
    record-joins : record_in m' ≡ record_in m ++ (entry_of (held m i) i ∷ [])
    unfolding record_in
    record-joins =
        rw (
          more,
          kept,
          le-leb (e + 1) (edges m + roots_word m) (omega (arith, common.entries)),
          le-leb e (edges m + roots_word m) (omega (arith, common.entries)),
          count,
        )
        (tabulate-snoc e (entry_in m') ∙ rw (new, tabulate-same e (entry_in m') (entry_in m) old))
      where
        e : ℕ
        e = entries_in m

        more : entries_in m' ≡ entries_in m + 1
        more = get_or-set_same (set m.run 1 n) 0 (e + 1) 0 (omega (arith, fits.lengths.list list.run, length-set m.run 1 n))

        kept : roots_word m' ≡ roots_word m
        kept = get_or-set_other (set m.run 1 n) 0 2 (e + 1) 0 (λ q. omega arith) ∙ get_or-set_other m.run 1 2 n 0 (λ q. omega arith)

        count : entries_in m + 1 ≡ suc (entries_in m)
        count = omega arith

        first : List ℕ
        first = set m.executed (3 * e) task

        second : List ℕ
        second = set first (3 * e + 1) (held m i).predecessor

        room : 3 * e + 2 < length m.executed
        room = omega (arith, common.entries, roots, fits.lengths.list list.executed)

        last : get_or m'.executed (3 * e + 2) 0 ≡ i
        last =
            ap (λ (x : ℕ). get_or m'.executed x 0) (omega arith)
            ∙ get_or-set_same second (3 * e + 1 + 1) i 0
            (omega (arith, room, length-set first (3 * e + 1) (held m i).predecessor, length-set m.executed (3 * e) task))

        new : entry_in m' e ≡ entry_of (held m i) i
        new =
            rw (
              get_or-set_other second (3 * e + 1 + 1) (3 * e) i 0 (λ q. omega (arith, q)),
              get_or-set_other first (3 * e + 1) (3 * e) (held m i).predecessor 0 (λ q. omega (arith, q)),
              get_or-set_same m.executed (3 * e) task 0 (omega (arith, room)),
              get_or-set_other second (3 * e + 1 + 1) (3 * e + 1) i 0 (λ q. omega (arith, q)),
              get_or-set_same first (3 * e + 1) (held m i).predecessor 0 (omega (arith, room, length-set m.executed (3 * e) task)),
              last,
            )

        word : (y : ℕ) → y < 3 * e → get_or m'.executed y 0 ≡ get_or m.executed y 0
        word y l =
            get_or-set_other second (3 * e + 1 + 1) y i 0 (λ q. omega (arith, q, l))
            ∙ get_or-set_other first (3 * e + 1) y (held m i).predecessor 0 (λ q. omega (arith, q, l))
            ∙ get_or-set_other m.executed (3 * e) y task 0 (λ q. omega (arith, q, l))

        old : (x : ℕ) → x < e → entry_in m' x ≡ entry_in m x
        old x l = rw (word (3 * x) (omega (arith, l)), word (3 * x + 1) (omega (arith, l)), word (3 * x + 2) (omega (arith, l)))

    -- what is read after it, where no other worker's buffer changes
    state-completed : ((h : ℕ) → ¬ (h ≡ i) → SameBuffer m buffers h)
        → state_of p k m'
        ≡ state.state_of
        (state_with m.weights (state_of p k m).lists.successors d (state_of p k m).lists.queues
        (square p (λ o j. get_or c (ring_number p o j) (pos 0)))
        (set (state_of p k m).lists.threads i (thread_with (buffer_from m' i read end) (row_in m i).cursor 0 no_item (pointer_in m i)))
        ((state_of p k m).lists.executed ++ (entry_of (held m i) i ∷ [])))
        m.fixed
    unfolding state_of
    state-completed kept =
        states-same
        (lists-after p k i m worker fits.lengths (idle_row end) d m.fixed m.rings m.ends c buffers _ _ kept (record_in m')
        ∙ state-same refl refl refl refl refl refl record-joins)
        refl

  -- a copy that isn't the last: the row keeps its places, whatever they are
  copy_does : (o : WeakOutcome) (us : List Update) → (row_in m i).phase ≡ suits Complete → moves.CompletesCopy i m o us
      → Lines p (capacity k) i Complete (state_of p k m) (state_of p k (written (put_accepted n ∷ us) m)) o
  unfolding written updated store_words state_of thread_in buffer_in
  copy_does o us phase f =
      rw f.updates
      (copies (record {
        phase = phase-at p k m i worker ∙ phase;
        waits = rw (thread-at p k m i worker) f.common.positive;
        some = rw (thread-at p k m i worker) (λ z. f.not_last (omega (arith, z, f.common.positive)));
        after = rw (thread-at p k m i worker) (state-completed f.common fewer m.counters m.buffers write (λ h e x l. refl));
        outcome = f.outcome;
      }))

  module _ (common : CompletingLast p i m) where
    successor-count : length (successors_in m task) ≡ succ_count m task
    successor-count = length-successors m task (fits.lengths.list list.succs) common.task

    none_left : ◌≡◌ {A = ℕ} 0 (degree_in m task - 1)
    none_left = omega (arith, common.last)

    -- the last copy, where the task joins the worker's own buffer if it has successors, and no other worker's buffer changes
    last-does : (o : WeakOutcome) (buffers : List ℕ) (end : ℕ) → (row_in m i).phase ≡ suits Complete
        → buffer_from (next (set m.degrees task 0) lighter buffers end) i read end ≡ buffered (successors_in m task) task (buffer_in m i)
        → ((h : ℕ) → ¬ (h ≡ i) → SameBuffer m buffers h) → o ≡ Moved
        → Lines p (capacity k) i Complete (state_of p k m) (state_of p k (next (set m.degrees task 0) lighter buffers end)) o
    unfolding state_of thread_in
    last-does o buffers end phase joins kept outcome =
        completes (record {
          phase = phase-at p k m i worker ∙ phase;
          waits = rw (thread-at p k m i worker) common.common.positive;
          zero = rw (thread-at p k m i worker) (sym none_left);
          after =
              rw (thread-at p k m i worker, successors-at p k m task common.task.below)
              (state-completed common.common (set m.degrees task 0) lighter buffers end kept
              ∙ states-same
              (state-same refl refl
              (ap (λ (x : ℕ). set m.degrees task x) none_left)
              refl
              -- line 11: "W_t = W_t − w_{T_i}"
              (counters-put p i i worker worker k m fits.lengths (record_in m) (λ x. x -ℤ pos (weight_in m task)))
              (rw joins)
              refl)
              refl);
          outcome = outcome;
        })

  -- an accepted Complete is Algorithm 1's; the phase is the one that suits it
  pub complete-does : (o : WeakOutcome) (us : List Update) → (row_in m i).phase ≡ suits Complete → moves.Completes p i m o us
      → Lines p (capacity k) i Complete (state_of p k m) (state_of p k (written (put_accepted n ∷ us) m)) o
  unfolding written updated store_words buffer_in
  complete-does o us phase (moves.copies f) = copy_does o us phase f
  complete-does o us phase (moves.sink f) =
      rw f.updates
      (last-does f.common o m.buffers write phase
      (sym (buffered-none (successors_in m task) task (buffer_in m i) (successor-count f.common ∙ f.none)))
      (λ h e x l. refl)
      f.outcome)
  complete-does o us phase (moves.inner f) =
      rw (
        f.updates,
        set-again m.rows i (weak.with_hand (record { phase = 0; held = no_item }) (row_in m i)) idle
            (weak.with_places (record { read = read; write = write + 1; cursor = (row_in m i).cursor })),
      )
      (last-does f.common o buffers (write + 1) phase joins
      (buffers-kept p k i m worker fits.lengths task read write f.places f.room)
      f.outcome)
    where
      buffers : List ℕ
      buffers = set m.buffers (buffer_at m i write) task

      -- one more word, at the write place
      joins : buffer_from (next (set m.degrees task 0) lighter buffers (write + 1)) i read (write + 1) ≡ buffered (successors_in m task) task (buffer_in m i)
      joins =
          buffer-joins p k i m worker fits.lengths task read write f.places f.room
          ∙ sym (buffered-some (successors_in m task) task (buffer_in m i) (rw (successor-count f.common) f.successors))
