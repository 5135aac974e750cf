-- Where a weak run isn't finished and an idle worker has a copy to make, its Release is accepted if no copy waits for any worker: then every ring has
-- room, the target's for a first copy and that of the task's worker for a later one. So some step of an unfinished run is accepted.
use Prim.Native.Nat.{ℕ, suc, ◌+◌, ◌-◌, ◌*◌, ◌≤◌, ◌<◌}
use mathlib.Core.Path.{◌≡◌, refl, sym, ap, ◌∙◌}
use mathlib.Core.Logic.{◌⊎◌, inl, inr}
use mathlib.Core.List.{List, [], ◌∷◌, map}
use native.Mathlib.Omega.{arith}
use native.Mathlib.Decide.{ℕ_discrete, dec_lt}
use lib.ListN.{length, get_or, length-append, length-drop, length-map}
use lib.Seq.{drop-nil}
use Rattle.lists.proofs.Apart.{cons-not-nil}
use Rattle.lists.proofs.Blocks.{length-tabulate}
use Rattle.lists.proofs.Decided.{stable}
use Rattle.lists.proofs.Occurrences.{at-occ}
use Rattle.task.specs.Types.{nil}
use Rattle.task.specs.Rows.{Acceptance}
use Rattle.task.specs.declared.Limits.{Limits}
use Rattle.task.specs.declared.Step.{Step}
use Rattle.task.specs.declared.Step.TheVariants.{Fetch, Start, Complete, Release}
use Rattle.weak_task.specs.Types.{Copy, copy}
use Rattle.weak_task.specs.Says.{step_says}
use Rattle.weak_task.specs.declared.WeakRow.{WeakRow}
use Rattle.weak_task.specs.declared.WeakOutcome.{WeakOutcome}
use Rattle.ring.specs.Ring.{Full}
use Rattle.choice.specs.Least.{Least}
use Rattle.choice.specs.Form.{Form}
use Rattle.choice.proofs.Form.{Chooses, target_is}
use Rattle.plans.specs.Forms.{target_by, own}
use Rattle.plans.proofs.Forms.{own-chooses}
use Rattle.memory.specs.Family.{Places}
use Rattle.memory.specs.Field as list
use Rattle.weak_rules.specs.Memory.{Mem, tasks, edges, graph_in, ring_number, ends_in, counter_in, fixed_in, row_in, succ_count, roots_word, entries_in, oldest, successor}
use Rattle.weak_rules.specs.Updates.{Update}
use Rattle.weak_rules.specs.Steps.{step}
use Rattle.weak_rules.specs.Tables.{BadCounter, BadPlaces, BadEnds, StopsAt, offered_ends, FirstCopy}
use Rattle.weak_rules.specs.Moves.{Ranged, Advances, next, last, Releasing, first, later, Releases}
use Rattle.weak_rules.proofs.Follows.{few-workers}
use Rattle.weak_rules.proofs.Makes.{allowed-accepted}
use Rattle.split_lists.specs.Items as items
use Rattle.split_lists.specs.Items.{successors_of, waiting_for}
use Rattle.split_lists.specs.Reading.{thread_in, successors_in}
use Rattle.split_lists.proofs.Readings.{length-successors, successor-at}
use Rattle.split_lists.proofs.Memories.{between, thread-from, places-fit, between_first}
use Rattle.system.specs.Stages.{idle}
use Rattle.system.specs.System.{Ready, to_start, to_complete, to_fetch, to_release}
use Rattle.copies.proofs.Runs.{weak-progress}
use Rattle.runs.specs.Items.{hand_of}
use Rattle.runs.proofs.Invariant.{Buffered}
use Rattle.runs.proofs.LiveRelease.{successors-task, counters-within}
use Rattle.runs.proofs.Rings as rings
use Rattle.weak_algorithm.specs.State.{Thread, thread_of}
use Rattle.weak_algorithm.specs.Reading.{record_in, state_of}
use Rattle.weak_algorithm.proofs.Readings.{tid-at, successors-at, thread-at}
use Rattle.weak_runs.proofs.Invariant.{copies_from, pending_of, pending_in, meaning, system_in, Honest}
use Rattle.weak_runs.proofs.Live.{Ranges, within-range, honest-sound, honest-once, recorded-length, few-roots, low, ends-sound, task-ranged, row-phase, few-places, start-live, complete-live, fetch-live}

-- an empty buffer leaves nothing to make, and with a task in its buffer a thread has a copy to make
module _ (s : items.State Copy) (r : Thread) where
  nothing-due : r.buffer ≡ [] → pending_of s r ≡ []
  unfolding pending_of copies_from
  nothing-due e = rw e (drop-nil r.cursor)

  none-pending : Buffered s r → pending_of s r ≡ [] → r.buffer ≡ []
  unfolding pending_of copies_from
  none-pending b e = go r.buffer refl
    where
      go : (l : List ℕ) → r.buffer ≡ l → r.buffer ≡ []
      go [] q = q
      go (t ∷ ts) q =
          absurd (omega (
            arith,
            b.cursor t ts q,
            ap (λ (l : List ℕ). length (copies_from s l)) q ∙ length-append (map (λ x. copy x t) (successors_of s t)) (copies_from s ts),
            length-map (successors_of s t) (λ x. copy x t),
            sym (length-drop r.cursor (copies_from s r.buffer)) ∙ ap length e,
          ))

-- the places after a Release
advanced : (count : ℕ) (r : WeakRow) → r.cursor < count → (to : Places) × Advances count r to
advanced count r h = go (ℕ_discrete (suc r.cursor) count)
  where
    go : Dec (suc r.cursor ≡ count) → (to : Places) × Advances count r to
    go (yes e) = (_, last e)
    go (no n) = (_, next (omega (arith, h, n)))

-- all P·P counters are in their range
pub counters-good : {p : ℕ} {m : Mem} → Ranges p m → ¬ (BadCounter (p * p) m.counters)
counters-good {p} {m} w = counters-within p m.counters (λ i j hi hj. within-range (counter_in m (ring_number p i j)) (w.within i j hi hj))

module _ {limits : Limits} {p k : ℕ} {m : Mem} (h : Honest limits p k m) (w : Ranges p m) (i : ℕ) (worker : i < p) where
  pub places-good : ¬ (BadPlaces m i)
  places-good (inl l) = omega (arith, l, h.words.places i worker)
  places-good (inr l) = omega (arith, l, few-places w i worker)

  buffer-is : (thread_in m i).buffer ≡ between m i (row_in m i).read (row_in m i).write
  buffer-is =
      ap (λ (r : Thread). r.buffer) (thread-from m i)
      ∙ places-fit m i (row_in m i).read (row_in m i).write (h.words.places i worker) (few-places w i worker)

  buffer-length : length (thread_of (state_of p k m) i).buffer ≡ (row_in m i).write - (row_in m i).read
  buffer-length =
      ap (λ (r : Thread). length r.buffer) (thread-at p k m i worker) ∙ ap length buffer-is ∙ length-tabulate ((row_in m i).write - (row_in m i).read) _

  -- the buffer is empty exactly where no copy is to be made
  pub pending-none : pending_in (state_of p k m) i ≡ [] → (row_in m i).read ≡ (row_in m i).write
  pending-none e =
      omega (
        arith,
        h.words.places i worker,
        buffer-length,
        ap length (none-pending (state_of p k m).lists (thread_of (state_of p k m) i) (h.sane.buffers i) e),
      )

  pending-some : (c : Copy) (rest : List Copy) → pending_in (state_of p k m) i ≡ c ∷ rest → (row_in m i).read < (row_in m i).write
  pending-some c rest e =
      stable (dec_lt (row_in m i).read (row_in m i).write)
      (λ n. cons-not-nil c rest (sym e ∙ nothing-due (state_of p k m).lists (thread_of (state_of p k m) i) (empty (omega (arith, n)))))
    where
      empty : (row_in m i).write ≤ (row_in m i).read → (thread_of (state_of p k m) i).buffer ≡ []
      empty l = go (thread_of (state_of p k m) i).buffer refl
        where
          go : (b : List ℕ) → (thread_of (state_of p k m) i).buffer ≡ b → (thread_of (state_of p k m) i).buffer ≡ []
          go [] q = q
          go (t ∷ ts) q = absurd (omega (arith, l, buffer-length, ap length q))

  task-due : (t : ℕ) → 0 < length (successors_of (state_of p k m).lists t) → t < tasks m
  unfolding state_of
  task-due = successors-task p k m (record_in m)

  -- a buffer that isn't empty has the oldest task first, and the words that the rules read of it are in their ranges
  pub releasing : (row_in m i).read < (row_in m i).write → (to : Places) × Releasing i m to
  unfolding thread_in
  releasing some =
      let (to, advances) = advanced (succ_count m (oldest m i)) (row_in m i) cursor in (
        to,
        record {
          not_empty = some;
          places = few-places w i worker;
          task = ranged;
          cursor = cursor;
          below = below;
          advances = advances;
        },
      )
    where
      others : List ℕ
      others = between m i ((row_in m i).read + 1) (row_in m i).write

      first-is : (thread_of (state_of p k m) i).buffer ≡ oldest m i ∷ others
      first-is =
          ap (λ (r : Thread). r.buffer) (thread-at p k m i worker) ∙ buffer-is ∙ between_first m i (row_in m i).read (row_in m i).write some

      inside : (row_in m i).cursor < length (successors_of (state_of p k m).lists (oldest m i))
      inside =
          rw (ap (λ (r : Thread). r.cursor) (thread-at p k m i worker)) at ((h.sane.buffers i).cursor (oldest m i) others first-is)

      task : oldest m i < tasks m
      task = task-due (oldest m i) (omega (arith, inside))

      ranged : Ranged m (oldest m i)
      ranged = task-ranged h (oldest m i) task

      count : length (successors_in m (oldest m i)) ≡ succ_count m (oldest m i)
      count = length-successors m (oldest m i) (h.fits.lengths.list list.succs) ranged

      cursor : (row_in m i).cursor < succ_count m (oldest m i)
      cursor = omega (arith, inside, ap length (successors-at p k m (oldest m i) task), count)

      below : successor m i < tasks m
      below =
          (h.good (oldest m i) task).below (successor m i)
          (rw (successor-at m (oldest m i) (row_in m i).cursor cursor) at
          (at-occ ℕ_discrete 0 (successors_in m (oldest m i)) (row_in m i).cursor (omega (arith, cursor, count))))

  -- A Release by form f: the owners offered are workers
  module _ (f : Form) (chooses : Chooses p f) where
    offered-workers : (j : ℕ) → f.Candidate j → (e : ℕ) → e < length (f.offered j) → get_or (f.offered j) e 0 < p
    offered-workers j c e l = chooses.below (get_or (f.offered j) e 0) ((chooses.offers j c).taken e l).candidate

    -- no search for room comes to damaged ends
    pub room-sound : (j : ℕ) → f.Candidate j → ¬ (BadEnds (length (f.offered j)) k (Full k) (offered_ends p i m (f.offered j)))
    room-sound j c = rings.room-sound h.fits h.words.ends i worker (f.offered j) (offered-workers j c)

  pub chooses-own : Chooses p (own p m)
  chooses-own = own-chooses p m h.fits.limits.one_worker (h.fits.lengths.list list.counters)

  -- a task is fixed to none of the workers, or to one of the P
  pub fixed-range : (t : ℕ) → t < tasks m → (fixed_in m t ≡ nil.0) ⊎ (fixed_in m t < p)
  fixed-range t l = rw (tid-at p k m t) at (h.fixed.range t l)

  -- nothing waits for anyone
  module _ (none : (o : ℕ) → o < p → waiting_for p (state_of p k m).lists o ≡ []) where
    -- so every ring has room
    room_at : (o : ℕ) → o < p → ¬ (Full k (ends_in m (ring_number p o i)))
    unfolding state_of
    room_at o owner = rings.empty-room h.fits h.words.ends i worker (record_in m) o owner (none o owner)

    -- a Release by form f finds what it asks for, where the words that it reads are good
    module _ (f : Form) (chooses : Chooses p f) where
      room-first : (j : ℕ) → f.Candidate j → StopsAt (length (f.offered j)) k (Full k) (offered_ends p i m (f.offered j)) 0
      unfolding state_of
      room-first j c =
          let (e, l, _) = (chooses.offers j c).every j c in
          rings.room-first h.fits h.words.ends i worker (record_in m) none (f.offered j) (offered-workers f chooses j c) (omega (arith, l))

      pub release-made : (to : Places) → Releasing i m to → ¬ f.Damaged → ((o : ℕ) → f.Candidate o → ¬ (f.DamagedAt (ring_number p o i)))
          → (o : WeakOutcome) × (us : List Update) × Releases f p k i m o us
      release-made to common good used = go (fixed-range (successor m i) common.below)
        where
          j : ℕ
          j = target_by f

          least-j : Least f.Candidate f.sum j
          least-j = (target_is chooses good).0

          front : f.Candidate (get_or (f.offered j) 0 0)
          front = ((chooses.offers j least-j.candidate).taken 0 (room-first j least-j.candidate).inside).candidate

          go : (FirstCopy m i) ⊎ (fixed_in m (successor m i) < p) → (o : WeakOutcome) × (us : List Update) × Releases f p k i m o us
          go (inl e) = (
            _,
            _,
            first (record {
              to = to;
              common = common;
              first = e;
              undamaged = good;
              target = j;
              least = least-j;
              place = 0;
              stop = room-first j least-j.candidate;
              owner = get_or (f.offered j) 0 0;
              owner_is = refl;
              ring = ring_number p (get_or (f.offered j) 0 0) i;
              ring_is = refl;
              counter = used (get_or (f.offered j) 0 0) front;
              light = h.graph.light (successor m i) common.below;
              outcome = refl;
              updates = refl;
            }),
          )
          go (inr l) = (
            _,
            _,
            later (record {
              to = to;
              common = common;
              owner = fixed_in m (successor m i);
              fixed = refl;
              worker = l;
              later = λ e. omega (arith, e, l, few-workers h.fits);
              ring = ring_number p (fixed_in m (successor m i)) i;
              ring_is = refl;
              sound = ends-sound h (fixed_in m (successor m i)) l i worker;
              room = room_at (fixed_in m (successor m i)) l;
              outcome = refl;
              updates = refl;
            }),
          )

    -- and the run isn't finished
    pub release_live : entries_in m < edges m + roots_word m → (c : Copy) (rest : List Copy) → hand_of (thread_of (state_of p k m) i) ≡ idle
        → pending_in (state_of p k m) i ≡ c ∷ rest → Acceptance (step_says (step limits p k i Release m).answer)
    release_live free c rest hand pending =
        let (to, common) = releasing (pending-some c rest pending) in
        let (o, us, r) = release-made (own p m) chooses-own to common (counters-good w) (λ _ _ b. b) in
        allowed-accepted limits p k i Release m o us
        (record { fits = h.fits; worker = worker; phase = row-phase h i worker idle hand; roots = few-roots h; low = low h free; made = r })

-- "and in an unfinished one some worker has a step that would be accepted next"
pub some-step : {limits : Limits} {p k : ℕ} {m : Mem} → Honest limits p k m → Ranges p m → entries_in m < edges m + roots_word m
    → (i : ℕ) × (s : Step) × (i < p) × Acceptance (step_says (step limits p k i s m).answer)
unfolding meaning
some-step {limits} {p} {k} {m} h w free = go ready
  where
    ready : Ready p (system_in p k m)
    ready =
        weak-progress (graph_in m) (honest-sound h) (honest-once h) p h.weak (omega (arith, free, recorded-length h, h.words.roots))
        h.graph.graph

    go : Ready p (system_in p k m) → (i : ℕ) × (s : Step) × (i < p) × Acceptance (step_says (step limits p k i s m).answer)
    go (to_start i a worker hand) = (i, Start, worker, start-live h w i worker free a hand)
    go (to_complete i a worker hand) = (i, Complete, worker, complete-live h w i worker free a hand)
    go (to_fetch i worker hands some) = (i, Fetch, worker, fetch-live h w i worker free (hands i worker) some)
    go (to_release i c rest worker pending hands none) = (i, Release, worker, release_live h w i worker none free c rest (hands i worker) pending)
