-- What an accepted step of a weak job has found and what it writes: P workers, K slots, worker i. `o` is the outcome that the step answers; `us` lists
-- what it writes, apart from the accepted word, to which every accepted step adds 1. No plan, no checked read and no search is mentioned: a target
-- and a ring are stated by their properties.
use Rattle.std.specs.Prelude.{ℕ, suc, ◌+◌, ◌-◌, ◌*◌, ◌%◌, ◌≤◌, ◌<◌, ◌≡◌, List, [], ◌∷◌, length, get_or, pos, ◌+ℤ◌, ◌-ℤ◌}
use Rattle.task.specs.Types.{nil}
use Rattle.task.specs.Phases.{suits}
use Rattle.task.specs.declared.Limits.{Limits}
use Rattle.task.specs.declared.Step.{Step}
use Rattle.task.specs.declared.Step.TheVariants.{Fetch, Start, Complete, Release}
use Rattle.weak_task.specs.Types.{Copy, copy, task_copy, unfixed}
use Rattle.weak_task.specs.Says.{outcome_says, step_says}
use Rattle.weak_task.specs.declared.WeakRow.{WeakRow}
use Rattle.weak_task.specs.declared.WeakOutcome.{WeakOutcome}
use Rattle.weak_task.specs.declared.WeakOutcome.TheVariants.{Moved, Fetched, Placed}
use Rattle.ring.specs.Ring.{slot_at, Sound, Empty, Full}
use Rattle.choice.specs.Least.{Least}
use Rattle.choice.specs.Form.{Form}
use Rattle.plans.specs.Forms.{own}
use Rattle.memory.specs.Family.{Places}
use Rattle.memory.specs.Updates.{written}
use Rattle.plans.specs.Sizes.{Fits}
pub use Rattle.plans.specs.Moves.{Ranged}
use Rattle.weak_rules.specs.Memory.{Mem, tasks, edges, ring_number, ends_in, head_item, counter_in, weight_in, degree_in, fixed_in, roots_word, succ_count, buffer_at, row_in, held, pointer_in, entries_in, accepted_in, oldest, successor}
use Rattle.weak_rules.specs.Updates.{Update, put_degree, put_fixed, put_slot, put_ends, put_counter, put_buffer, put_entry, put_entries, put_accepted, put_hand, put_pointer, put_places}
use Rattle.weak_rules.specs.Steps.{step}
use Rattle.weak_rules.specs.Tables.{Beyond2^30, BadCopy, StopsAt, scanned, scanned_ends, offered_ends, LastCopy, FirstCopy}

-- "Fetch by i: scan the rings of owner i from the ring pointer upward, modulo P"
pub record Fetches (p k i : ℕ) (m : Mem) (o : WeakOutcome) (us : List Update) : Type 0 where
  pub pointer : pointer_in m i < p
  -- "the scan stops at the first ring that isn't empty", at this distance, with this number and this filler
  pub distance : ℕ
  pub stop : StopsAt p k Empty (scanned_ends p i m) distance
  pub ring : ℕ
  pub ring_is : ring ≡ scanned p i m distance
  pub filler : ℕ
  pub filler_is : filler ≡ (pointer_in m i + distance) % p
  -- "Take its head, which becomes the held" copy
  pub item : Copy
  pub item_is : item ≡ head_item k m ring
  pub good : ¬ (BadCopy m item)
  -- "Fetch answers the copy"
  pub outcome : o ≡ Fetched (task_copy item)
  -- "the slot's word stays. .. The pointer becomes the ring after, modulo P."
  pub updates : us
      ≡ put_ends ring (record { head = ((ends_in m ring).head + 1) % k; tail = (ends_in m ring).tail; count = (ends_in m ring).count - 1 })
      ∷ put_hand i 1 item
      ∷ put_pointer i ((filler + 1) % p)
      ∷ []

-- "Start: the phase alone."
pub record Starts (i : ℕ) (m : Mem) (o : WeakOutcome) (us : List Update) : Type 0 where
  pub outcome : o ≡ Moved
  pub updates : us ≡ put_hand i 2 (held m i) ∷ []

-- what every Complete finds: an entry is free for the held copy, whose task's degree can be lowered
pub record Completing (i : ℕ) (m : Mem) : Type 0 where
  pub entries : entries_in m < edges m + roots_word m
  pub good : ¬ (BadCopy m (held m i))
  pub positive : 1 ≤ degree_in m (held m i).task
  pub few : degree_in m (held m i).task ≤ tasks m

-- a copy that isn't its task's last: "A copy's Complete alone lowers the degree"
pub record CompletesCopy (i : ℕ) (m : Mem) (o : WeakOutcome) (us : List Update) : Type 0 where
  pub common : Completing i m
  pub not_last : ¬ (LastCopy m i)
  pub outcome : o ≡ Moved
  pub updates : us
      ≡ put_degree (held m i).task (degree_in m (held m i).task - 1)
      ∷ put_hand i 0 (copy nil.0 nil.0)
      ∷ put_entry (entries_in m) (held m i) i
      ∷ put_entries (entries_in m + 1)
      ∷ []

-- the last copy, with which the task is complete: its weight can leave counter (i, i)
pub record CompletingLast (p i : ℕ) (m : Mem) : Type 0 where
  pub common : Completing i m
  pub last : LastCopy m i
  pub light : weight_in m (held m i).task ≤ 65535
  pub counter : ¬ (Beyond2^30 (counter_in m (ring_number p i i)))
  pub task : Ranged m (held m i).task

-- of a task without successors: "Weight .. leaves when the last copy completes"
pub record CompletesSink (p i : ℕ) (m : Mem) (o : WeakOutcome) (us : List Update) : Type 0 where
  pub common : CompletingLast p i m
  pub none : ◌≡◌ {A = ℕ} (succ_count m (held m i).task) 0
  pub outcome : o ≡ Moved
  pub updates : us
      ≡ put_degree (held m i).task 0
      ∷ put_counter (ring_number p i i) (counter_in m (ring_number p i i) -ℤ pos (weight_in m (held m i).task))
      ∷ put_hand i 0 (copy nil.0 nil.0)
      ∷ put_entry (entries_in m) (held m i) i
      ∷ put_entries (entries_in m + 1)
      ∷ []

-- of a task with successors, which also "joins i's completed buffer"
pub record CompletesInner (p i : ℕ) (m : Mem) (o : WeakOutcome) (us : List Update) : Type 0 where
  pub common : CompletingLast p i m
  pub successors : 0 < succ_count m (held m i).task
  pub places : (row_in m i).read ≤ (row_in m i).write
  pub room : (row_in m i).write < tasks m
  pub outcome : o ≡ Moved
  pub updates : us
      ≡ put_buffer (buffer_at m i (row_in m i).write) (held m i).task
      ∷ put_degree (held m i).task 0
      ∷ put_counter (ring_number p i i) (counter_in m (ring_number p i i) -ℤ pos (weight_in m (held m i).task))
      ∷ put_hand i 0 (copy nil.0 nil.0)
      ∷ put_places i (record { read = (row_in m i).read; write = (row_in m i).write + 1; cursor = (row_in m i).cursor })
      ∷ put_entry (entries_in m) (held m i) i
      ∷ put_entries (entries_in m + 1)
      ∷ []

-- "A copy's Complete alone lowers the degree .., and the last one completes the task."
pub data Completes (p i : ℕ) (m : Mem) (o : WeakOutcome) (us : List Update) : Type 0 where
  copies : CompletesCopy i m o us → Completes p i m o us
  sink : CompletesSink p i m o us → Completes p i m o us
  inner : CompletesInner p i m o us → Completes p i m o us

-- "The cursor advances; after the last successor it returns to 0 and the read place advances."
pub data Advances (count : ℕ) (r : WeakRow) : Places → Type 0 where
  next : suc r.cursor < count → Advances count r (record { read = r.read; write = r.write; cursor = r.cursor + 1 })
  last : suc r.cursor ≡ count → Advances count r (record { read = r.read + 1; write = r.write; cursor = 0 })

-- what every Release finds: "the oldest task in i's buffer, its successor s at the cursor"; and what becomes of its places
pub record Releasing (i : ℕ) (m : Mem) (to : Places) : Type 0 where
  pub not_empty : (row_in m i).read < (row_in m i).write
  pub places : (row_in m i).write ≤ tasks m
  pub task : Ranged m (oldest m i)
  pub cursor : (row_in m i).cursor < succ_count m (oldest m i)
  pub below : successor m i < tasks m
  pub advances : Advances (succ_count m (oldest m i)) (row_in m i) to

-- "The first copy of a task picks its ring as in document 01 and fixes the task's worker", the owner of the ring really used; by form f
pub record ReleasesFirst (f : Form) (p k i : ℕ) (m : Mem) (o : WeakOutcome) (us : List Update) : Type 0 where
  pub to : Places
  pub common : Releasing i m to
  pub first : FirstCopy m i
  pub undamaged : ¬ f.Damaged
  pub target : ℕ
  pub least : Least f.Candidate f.sum target
  -- the owner at this place of those offered
  pub place : ℕ
  pub stop : StopsAt (length (f.offered target)) k (Full k) (offered_ends p i m (f.offered target)) place
  pub owner : ℕ
  pub owner_is : owner ≡ get_or (f.offered target) place 0
  pub ring : ℕ
  pub ring_is : ring ≡ ring_number p owner i
  pub counter : ¬ (f.DamagedAt ring)
  pub light : weight_in m (successor m i) ≤ 65535
  -- "Release always makes one copy and answers it with its owner"
  pub outcome : o ≡ Placed (task_copy (copy (successor m i) (oldest m i))) (record { 0 = owner })
  -- "Weight joins with the first copy"
  pub updates : us
      ≡ put_fixed (successor m i) owner
      ∷ put_places i to
      ∷ put_slot (slot_at k ring (ends_in m ring).tail) (copy (successor m i) (oldest m i))
      ∷ put_ends ring (record { head = (ends_in m ring).head; tail = ((ends_in m ring).tail + 1) % k; count = (ends_in m ring).count + 1 })
      ∷ put_counter ring (counter_in m ring +ℤ pos (weight_in m (successor m i)))
      ∷ []

-- "later copies go only to that worker's ring": no counter, no weight, no other ring
pub record ReleasesLater (p k i : ℕ) (m : Mem) (o : WeakOutcome) (us : List Update) : Type 0 where
  pub to : Places
  pub common : Releasing i m to
  pub owner : ℕ
  pub fixed : fixed_in m (successor m i) ≡ owner
  pub worker : owner < p
  pub later : ¬ (owner ≡ unfixed.0)
  pub ring : ℕ
  pub ring_is : ring ≡ ring_number p owner i
  pub sound : Sound k (ends_in m ring)
  pub room : ¬ (Full k (ends_in m ring))
  pub outcome : o ≡ Placed (task_copy (copy (successor m i) (oldest m i))) (record { 0 = owner })
  pub updates : us
      ≡ put_places i to
      ∷ put_slot (slot_at k ring (ends_in m ring).tail) (copy (successor m i) (oldest m i))
      ∷ put_ends ring (record { head = (ends_in m ring).head; tail = ((ends_in m ring).tail + 1) % k; count = (ends_in m ring).count + 1 })
      ∷ []

pub data Releases (f : Form) (p k i : ℕ) (m : Mem) (o : WeakOutcome) (us : List Update) : Type 0 where
  first : ReleasesFirst f p k i m o us → Releases f p k i m o us
  later : ReleasesLater p k i m o us → Releases f p k i m o us

-- the step's own rule lets it be made, with this outcome and these updates
abbrev pub Made : Step → ℕ → ℕ → ℕ → Mem → WeakOutcome → List Update → Type 0
Made Fetch p k i m o us = Fetches p k i m o us
Made Start p k i m o us = Starts i m o us
Made Complete p k i m o us = Completes p i m o us
Made Release p k i m o us = Releases (own p m) p k i m o us

-- when a step is accepted with this outcome and these updates: numbers and lists fit, the worker is there, the phase suits, R and the accepted word
-- are in their ranges, and the step's own rule lets it be made
pub record Allowed (limits : Limits) (p k i : ℕ) (s : Step) (m : Mem) (o : WeakOutcome) (us : List Update) : Type 0 where
  pub fits : Fits limits p k m
  pub worker : i < p
  pub phase : (row_in m i).phase ≡ suits s
  pub roots : roots_word m ≤ tasks m
  pub low : accepted_in m < 4 * edges m + 3 * roots_word m
  pub made : Made s p k i m o us

-- an accepted step: what it answers, and the memory that it leaves
pub record AcceptedStep (limits : Limits) (p k i : ℕ) (s : Step) (m : Mem) : Type 0 where
  pub outcome : WeakOutcome
  pub updates : List Update
  pub allowed : Allowed limits p k i s m outcome updates
  pub answered : step_says (step limits p k i s m).answer ≡ outcome_says outcome
  -- "Each accepted step adds 1 to the accepted word."
  pub left : (step limits p k i s m).memory ≡ written (put_accepted (accepted_in m + 1) ∷ updates) m
