-- Where a run isn't finished and an idle worker has a successor to release, its Release is accepted if no task waits for any worker: then every
-- ring has room.
use Prim.Native.Nat.{ℕ, suc, ◌+◌, ◌-◌, ◌*◌, ◌≤◌, ◌<◌}
use mathlib.Core.Path.{◌≡◌, refl, sym, ap, ◌∙◌}
use mathlib.Core.Logic.{inl, inr}
use mathlib.Core.List.{List, [], ◌∷◌, ◌++◌}
use native.Mathlib.Omega.{arith}
use native.Mathlib.Decide.{ℕ_discrete, dec_lt}
use native.Mathlib.Nat.{add-zero}
use lib.IntN.{ℤ, pos}
use lib.ListN.{length, get_or, length-append, length-drop, get_or-eq_default, get_or-append}
use lib.Seq.{drop-nil, get_or-drop}
use Rattle.lists.specs.Lists.{tabulate}
use Rattle.lists.proofs.Apart.{cons-not-nil}
use Rattle.lists.proofs.Appends.{head-same}
use Rattle.lists.proofs.Blocks.{length-tabulate}
use Rattle.lists.proofs.Decided.{stable}
use Rattle.lists.proofs.Places.{place-parts}
use Rattle.task.specs.Entries.{Entry}
use Rattle.task.specs.Refusals.{step_says}
use Rattle.task.specs.Rows.{Acceptance}
use Rattle.task.specs.declared.Limits.{Limits}
use Rattle.task.specs.declared.Row.{Row}
use Rattle.task.specs.declared.Step.TheVariants.{Release}
use Rattle.task.specs.declared.StepOutcome.{StepOutcome}
use Rattle.ring.specs.Ring.{Full}
use Rattle.choice.specs.Least.{Least}
use Rattle.choice.specs.Form.{Form}
use Rattle.choice.proofs.Form.{Chooses, target_is}
use Rattle.plans.specs.Forms.{target_by, own}
use Rattle.plans.proofs.Forms.{own-chooses}
use Rattle.memory.specs.Family.{Family, Places}
use Rattle.memory.specs.Memory as memory
use Rattle.memory.specs.Field as list
use Rattle.plans.specs.Memory as words
use Rattle.rules.specs.Memory.{Mem, tasks, edges, ring_number, counter_in, degree_in, row_in, succ_count, accepted_in, oldest, successor}
use Rattle.rules.specs.Updates.{Update}
use Rattle.rules.specs.Steps.{step}
use Rattle.rules.specs.Tables.{Beyond2^30, BadCounter, BadPlaces, BadEnds, StopsAt, offered_ends}
use Rattle.rules.specs.Moves.{Ranged, Advances, next, last, Releasing, waiting, placed, Releases}
use Rattle.rules.proofs.Makes.{allowed-accepted}
use Rattle.split_lists.specs.Reading as reading
use Rattle.split_lists.specs.Reading.{state_from}
use Rattle.algorithm1.specs.State.{Thread, State, successors_of, thread_of, waiting_for}
use Rattle.algorithm1.specs.Reading.{record_in, thread_in, successors_in, state_of}
use Rattle.algorithm1.proofs.Readings.{successors-at, thread-at, length-successors, successor-at}
use Rattle.algorithm1.proofs.Memories.{between, thread-from, places-fit, between_first}
use Rattle.system.specs.Stages.{idle}
use Rattle.runs.specs.Items.{hand_of}
use Rattle.runs.proofs.Invariant.{followers, pending_of, Buffered}
use Rattle.runs.proofs.Rings as rings
use Rattle.runs.proofs.Honest.{Honest}
use Rattle.runs.proofs.Weights.{honest-within}
use Rattle.runs.proofs.Live.{within-range, row-phase, joined-recorded, task-ranged}

-- what a thread has to release first is the successor at the cursor of the oldest task in its buffer
record FirstDue (s : State) (r : Thread) (x : ℕ) : Type 0 where
  task : ℕ
  others : List ℕ
  buffer : r.buffer ≡ task ∷ others
  inside : r.cursor < length (successors_of s task)
  there : x ≡ get_or (successors_of s task) r.cursor 0

first-due : (s : State) (r : Thread) (x : ℕ) (rest : List ℕ) → Buffered s r → pending_of s r ≡ x ∷ rest → FirstDue s r x
unfolding pending_of followers
first-due s r x rest b e = go r.buffer refl
  where
    go : (l : List ℕ) → r.buffer ≡ l → FirstDue s r x
    go [] q = absurd (cons-not-nil x rest (sym (rw q at e) ∙ drop-nil r.cursor))
    go (t ∷ ts) q =
        record {
          task = t;
          others = ts;
          buffer = q;
          inside = b.cursor t ts q;
          there =
              ap (λ (l : List ℕ). get_or l 0 0) (sym (rw q at e))
              ∙ get_or-drop r.cursor (successors_of s t ++ followers s ts) 0 0
              ∙ ap (λ (n : ℕ). get_or (successors_of s t ++ followers s ts) n 0) (add-zero r.cursor)
              ∙ get_or-append (successors_of s t) (followers s ts) 0 r.cursor (b.cursor t ts q);
        }

-- with a task in its buffer a thread has a successor to release
none-pending : (s : State) (r : Thread) → Buffered s r → pending_of s r ≡ [] → r.buffer ≡ []
unfolding pending_of followers
none-pending s r b e = go r.buffer refl
  where
    go : (l : List ℕ) → r.buffer ≡ l → r.buffer ≡ []
    go [] q = q
    go (t ∷ ts) q =
        absurd (omega (
          arith,
          b.cursor t ts q,
          ap (λ (l : List ℕ). length (followers s l)) q ∙ length-append (successors_of s t) (followers s ts),
          sym (length-drop r.cursor (followers s r.buffer)) ∙ ap length e,
        ))

-- a number that isn't a task's has no successors, in a memory of any family
pub successors-task : {F : Family} (p k : ℕ) (m : memory.Mem F) (entries : List (Entry F.Item)) (t : ℕ)
    → 0 < length (successors_of (state_from p k m entries) t) → t < words.tasks m
successors-task p k m entries t h =
    stable (dec_lt t (words.tasks m))
    (λ n. omega (
      arith,
      h,
      ap length
          (get_or-eq_default (tabulate (words.tasks m) (reading.successors_in m)) [] {n = t}
          (omega (arith, n, length-tabulate (words.tasks m) (reading.successors_in m)))),
    ))

-- the places after a Release
advanced : (count : ℕ) (r : Row) → r.cursor < count → (to : Places) × Advances count r to
advanced count r h = go (ℕ_discrete (suc r.cursor) count)
  where
    go : Dec (suc r.cursor ≡ count) → (to : Places) × Advances count r to
    go (yes e) = (_, last e)
    go (no n) = (_, next (omega (arith, h, n)))

-- all P·P counters are in their range
pub counters-within : (p : ℕ) (counters : List ℤ) → ((i j : ℕ) → i < p → j < p → ¬ (Beyond2^30 (get_or counters (ring_number p i j) (pos 0))))
    → ¬ (BadCounter (p * p) counters)
counters-within p counters within (q, l, beyond) =
    let (i, j, hi, hj, e) = place-parts p p q l in
    rw e at (within i j hi hj) beyond

module _ {limits : Limits} {p k : ℕ} {m : Mem} (h : Honest limits p k m) (i : ℕ) (worker : i < p) where
  pub counters-good : ¬ (BadCounter (p * p) m.counters)
  counters-good = counters-within p m.counters (λ o j ho hj. within-range (counter_in m (ring_number p o j)) (honest-within h o j ho hj))

  -- the buffer places end within N
  pub few-places : (row_in m i).write ≤ tasks m
  few-places = omega (arith, joined-recorded h i worker, h.words.entries)

  pub places-good : ¬ (BadPlaces m i)
  places-good (inl l) = omega (arith, l, h.words.places i worker)
  places-good (inr l) = omega (arith, l, few-places)

  buffer-is : (thread_in m i).buffer ≡ between m i (row_in m i).read (row_in m i).write
  buffer-is =
      ap (λ (r : Thread). r.buffer) (thread-from m i) ∙ places-fit m i (row_in m i).read (row_in m i).write (h.words.places i worker) few-places

  -- a buffer that isn't empty has the oldest task first
  buffer-some : (t : ℕ) (ts : List ℕ) → (thread_in m i).buffer ≡ t ∷ ts → (row_in m i).read < (row_in m i).write
  buffer-some t ts e = omega (arith, sym (length-tabulate ((row_in m i).write - (row_in m i).read) _) ∙ ap length (sym buffer-is ∙ e))

  buffer-oldest : (t : ℕ) (ts : List ℕ) → (thread_in m i).buffer ≡ t ∷ ts → t ≡ oldest m i
  buffer-oldest t ts e = head-same (sym e ∙ buffer-is ∙ between_first m i (row_in m i).read (row_in m i).write (buffer-some t ts e))

  -- and one whose tasks have nothing left to release is empty
  pub pending-none : pending_of (state_of p k m) (thread_of (state_of p k m) i) ≡ [] → (row_in m i).read ≡ (row_in m i).write
  pending-none e =
      omega (
        arith,
        h.words.places i worker,
        sym (length-tabulate ((row_in m i).write - (row_in m i).read) _)
            ∙ ap length (sym buffer-is ∙ sym (ap (λ (r : Thread). r.buffer) (thread-at p k m i worker)) ∙ none),
      )
    where
      none : (thread_of (state_of p k m) i).buffer ≡ []
      none = none-pending (state_of p k m) (thread_of (state_of p k m) i) (h.sane.buffers i) e

  task-due : (t : ℕ) → 0 < length (successors_of (state_of p k m) t) → t < tasks m
  unfolding state_of
  task-due = successors-task p k m (record_in m)

  -- the first that is due is the successor that the rules release, and their words are in their ranges
  pub releasing : (x : ℕ) (rest : List ℕ) → pending_of (state_of p k m) (thread_of (state_of p k m) i) ≡ x ∷ rest
      → x < tasks m → 1 ≤ degree_in m x → degree_in m x ≤ tasks m → (to : Places) × Releasing i m to
  unfolding thread_in
  releasing x rest pending below positive few =
      let (to, advances) = advanced (succ_count m (oldest m i)) (row_in m i) cursor in (
        to,
        record {
          not_empty = buffer-some due.task due.others due.buffer;
          places = few-places;
          task = ranged;
          cursor = cursor;
          below = rw x-is at below;
          positive = rw x-is at positive;
          few = rw x-is at few;
          advances = advances;
        },
      )
    where
      due : FirstDue (state_of p k m) (thread_in m i) x
      due = rw (thread-at p k m i worker) at (first-due (state_of p k m) (thread_of (state_of p k m) i) x rest (h.sane.buffers i) pending)

      is-oldest : due.task ≡ oldest m i
      is-oldest = buffer-oldest due.task due.others due.buffer

      task : oldest m i < tasks m
      task = rw is-oldest at (task-due due.task (omega (arith, due.inside)))

      ranged : Ranged m (oldest m i)
      ranged = task-ranged h i worker (oldest m i) task

      successors-are : successors_of (state_of p k m) due.task ≡ successors_in m (oldest m i)
      successors-are = ap (successors_of (state_of p k m)) is-oldest ∙ successors-at p k m (oldest m i) task

      cursor : (row_in m i).cursor < succ_count m (oldest m i)
      cursor =
          omega (arith, due.inside, ap length successors-are, length-successors m (oldest m i) (h.fits.lengths.list list.succs) ranged)

      x-is : x ≡ successor m i
      x-is = due.there ∙ ap (λ (l : List ℕ). get_or l (row_in m i).cursor 0) successors-are ∙ successor-at m (oldest m i) (row_in m i).cursor cursor

  -- A Release by form f.
  module _ (f : Form) (chooses : Chooses p f) where
    -- the owners offered are workers
    offered-workers : (j : ℕ) → f.Candidate j → (e : ℕ) → e < length (f.offered j) → get_or (f.offered j) e 0 < p
    offered-workers j c e l = chooses.below (get_or (f.offered j) e 0) ((chooses.offers j c).taken e l).candidate

    -- no search for room comes to damaged ends
    pub room-sound : (j : ℕ) → f.Candidate j → ¬ (BadEnds (length (f.offered j)) k (Full k) (offered_ends p i m (f.offered j)))
    room-sound j c = rings.room-sound h.fits h.words.ends i worker (f.offered j) (offered-workers j c)

    -- where nothing waits, the search stops at its first ring
    room-first : ((o : ℕ) → o < p → waiting_for p (state_of p k m) o ≡ []) → (j : ℕ) → f.Candidate j
        → StopsAt (length (f.offered j)) k (Full k) (offered_ends p i m (f.offered j)) 0
    unfolding state_of
    room-first nothing j c =
        let (e, l, _) = (chooses.offers j c).every j c in
        rings.room-first h.fits h.words.ends i worker (record_in m) nothing (f.offered j) (offered-workers j c) (omega (arith, l))

    -- so a Release finds what it asks for, where the words that its form reads are good
    pub release-made : (to : Places) → Releasing i m to → ¬ f.Damaged → ((o : ℕ) → f.Candidate o → ¬ (f.DamagedAt (ring_number p o i)))
        → ((o : ℕ) → o < p → waiting_for p (state_of p k m) o ≡ []) → (o : StepOutcome) × (us : List Update) × Releases f p k i m o us
    release-made to common good used none = go (ℕ_discrete (degree_in m (successor m i)) 1)
      where
        j : ℕ
        j = target_by f

        least-j : Least f.Candidate f.sum j
        least-j = (target_is chooses good).0

        first : f.Candidate (get_or (f.offered j) 0 0)
        first =
            let stop = room-first none j least-j.candidate in
            ((chooses.offers j least-j.candidate).taken 0 stop.inside).candidate

        go : Dec (degree_in m (successor m i) ≡ 1) → (o : StepOutcome) × (us : List Update) × Releases f p k i m o us
        go (yes e) = (
          _,
          _,
          placed (record {
            to = to;
            common = common;
            ready = e;
            undamaged = good;
            target = j;
            least = least-j;
            place = 0;
            stop = room-first none j least-j.candidate;
            owner = get_or (f.offered j) 0 0;
            owner_is = refl;
            ring = ring_number p (get_or (f.offered j) 0 0) i;
            ring_is = refl;
            counter = used (get_or (f.offered j) 0 0) first;
            light = h.graph.light (successor m i) common.below;
            outcome = refl;
            updates = refl;
          }),
        )
        go (no n) = (_, _, waiting (record { to = to; common = common; not_ready = n; outcome = refl; updates = refl }))

  pub chooses-own : Chooses p (own p m)
  chooses-own = own-chooses p m h.fits.limits.one_worker (h.fits.lengths.list list.counters)

  -- the run isn't finished
  module _ (low : accepted_in m < 3 * tasks m + edges m) where
    pub release_live : (x : ℕ) (rest : List ℕ) → hand_of (thread_of (state_of p k m) i) ≡ idle
        → pending_of (state_of p k m) (thread_of (state_of p k m) i) ≡ x ∷ rest
        → x < tasks m → 1 ≤ degree_in m x → degree_in m x ≤ tasks m → ((o : ℕ) → o < p → waiting_for p (state_of p k m) o ≡ [])
        → Acceptance (step_says (step limits p k i Release m).answer)
    release_live x rest hand pending below positive few none =
        let (to, common) = releasing x rest pending below positive few in
        let (o, us, r) = release-made (own p m) chooses-own to common counters-good (λ _ _ b. b) none in
        allowed-accepted limits p k i Release m o us
        (record { fits = h.fits; worker = worker; phase = row-phase h i worker idle hand; low = low; made = r })
