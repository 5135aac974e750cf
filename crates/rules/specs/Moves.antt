-- What an accepted step has found and what it writes, beside document 01's "Steps": P workers, K slots, worker i. `o` is the outcome that
-- the step answers; `us` lists what it writes, apart from the accepted word, to which every accepted step adds 1. No plan, no checked
-- read and no search is mentioned: a target and a ring are stated by their properties.
use Rattle.std.specs.Prelude.{ℕ, suc, ◌+◌, ◌-◌, ◌*◌, ◌%◌, ◌≤◌, ◌<◌, ◌≡◌, List, [], ◌∷◌, length, get_or, pos, ◌+ℤ◌, ◌-ℤ◌}
use Rattle.task.specs.Types.{nil}
use Rattle.task.specs.Phases.{suits}
use Rattle.task.specs.Refusals.{outcome_says, step_says}
use Rattle.task.specs.declared.Limits.{Limits}
use Rattle.task.specs.declared.Row.{Row}
use Rattle.task.specs.declared.Step.{Step}
use Rattle.task.specs.declared.Step.TheVariants.{Fetch, Start, Complete, Release}
use Rattle.task.specs.declared.StepOutcome.{StepOutcome}
use Rattle.task.specs.declared.StepOutcome.TheVariants.{Moved, Fetched, Released}
use Rattle.task.specs.declared.ReleaseOutcome.TheVariants.{DegreeLeft, Placed}
use Rattle.ring.specs.Ring.{slot_at, Empty, Full}
use Rattle.choice.specs.Least.{Least}
use Rattle.choice.specs.Form.{Form}
use Rattle.memory.specs.Family.{Places}
use Rattle.memory.specs.Updates.{written}
use Rattle.plans.specs.Forms.{own}
pub use Rattle.plans.specs.Moves.{Ranged}
use Rattle.rules.specs.Memory.{Mem, tasks, edges, ring_number, ends_in, head_word, counter_in, weight_in, degree_in, succ_count, buffer_at, row_in, held, pointer_in, entries_in, accepted_in, oldest, successor}
use Rattle.rules.specs.Sizes.{Fits}
use Rattle.rules.specs.Updates.{Update, put_degree, put_slot, put_ends, put_counter, put_buffer, put_entry, put_entries, put_accepted, put_hand, put_pointer, put_places}
use Rattle.rules.specs.Steps.{step}
use Rattle.rules.specs.Tables.{Beyond2^30, StopsAt, scanned, scanned_ends, offered_ends, HasSuccessors, Ready}

-- "Fetch by i: scan the rings of owner i from the ring pointer upward, modulo P"
pub record Fetches (p k i : ℕ) (m : Mem) (o : StepOutcome) (us : List Update) : Type 0 where
  pub pointer : pointer_in m i < p
  -- "the scan stops at the first ring that isn't empty", at this distance, with this number and this filler
  pub distance : ℕ
  pub stop : StopsAt p k Empty (scanned_ends p i m) distance
  pub ring : ℕ
  pub ring_is : ring ≡ scanned p i m distance
  pub filler : ℕ
  pub filler_is : filler ≡ (pointer_in m i + distance) % p
  -- "Take its head, which becomes the held task"
  pub task : ℕ
  pub task_is : task ≡ head_word k m ring
  pub below : task < tasks m
  -- "An accepted Fetch answers the task"
  pub outcome : o ≡ Fetched (record { 0 = task })
  -- "the slot's word stays. .. The pointer becomes the ring after, modulo P."
  pub updates : us
      ≡ put_ends ring (record { head = ((ends_in m ring).head + 1) % k; tail = (ends_in m ring).tail; count = (ends_in m ring).count - 1 })
      ∷ put_hand i 1 task
      ∷ put_pointer i ((filler + 1) % p)
      ∷ []

-- "Start: the phase alone."
pub record Starts (i : ℕ) (m : Mem) (o : StepOutcome) (us : List Update) : Type 0 where
  pub outcome : o ≡ Moved
  pub updates : us ≡ put_hand i 2 (held m i) ∷ []

-- what every Complete finds: an entry is free for the held task, whose weight can leave counter (i, i)
pub record Completing (p i : ℕ) (m : Mem) : Type 0 where
  pub entries : entries_in m < tasks m
  pub task : Ranged m (held m i)
  pub light : weight_in m (held m i) ≤ 65535
  pub counter : ¬ (Beyond2^30 (counter_in m (ring_number p i i)))

-- a task without successors: "the weight leaves counter (i, i) at Complete", which may go below zero; "(task, i) joins the record; .. held becomes NIL"
pub record CompletesSink (p i : ℕ) (m : Mem) (o : StepOutcome) (us : List Update) : Type 0 where
  pub common : Completing p i m
  pub none : ◌≡◌ {A = ℕ} (succ_count m (held m i)) 0
  pub outcome : o ≡ Moved
  pub updates : us
      ≡ put_counter (ring_number p i i) (counter_in m (ring_number p i i) -ℤ pos (weight_in m (held m i)))
      ∷ put_hand i 0 nil.0
      ∷ put_entry (entries_in m) (held m i) i
      ∷ put_entries (entries_in m + 1)
      ∷ []

-- a task with successors, which also "joins i's completed buffer"
pub record CompletesInner (p i : ℕ) (m : Mem) (o : StepOutcome) (us : List Update) : Type 0 where
  pub common : Completing p i m
  pub successors : HasSuccessors m i
  pub places : (row_in m i).read ≤ (row_in m i).write
  pub room : (row_in m i).write < tasks m
  pub outcome : o ≡ Moved
  pub updates : us
      ≡ put_buffer (buffer_at m i (row_in m i).write) (held m i)
      ∷ put_counter (ring_number p i i) (counter_in m (ring_number p i i) -ℤ pos (weight_in m (held m i)))
      ∷ put_hand i 0 nil.0
      ∷ put_places i (record { read = (row_in m i).read; write = (row_in m i).write + 1; cursor = (row_in m i).cursor })
      ∷ put_entry (entries_in m) (held m i) i
      ∷ put_entries (entries_in m + 1)
      ∷ []

-- "Complete: (task, i) joins the record; the task joins i's completed buffer if it has successors; held becomes NIL.", and "the weight leaves counter
-- (i, i) at Complete"
pub data Completes (p i : ℕ) (m : Mem) (o : StepOutcome) (us : List Update) : Type 0 where
  sink : CompletesSink p i m o us → Completes p i m o us
  inner : CompletesInner p i m o us → Completes p i m o us

-- "The cursor advances; after the last successor it returns to 0 and the read place advances."
pub data Advances (count : ℕ) (r : Row) : Places → Type 0 where
  next : suc r.cursor < count → Advances count r (record { read = r.read; write = r.write; cursor = r.cursor + 1 })
  last : suc r.cursor ≡ count → Advances count r (record { read = r.read + 1; write = r.write; cursor = 0 })

-- what every Release finds: "the oldest task in i's buffer, its successor s at the cursor"; and what becomes of its places
pub record Releasing (i : ℕ) (m : Mem) (to : Places) : Type 0 where
  pub not_empty : (row_in m i).read < (row_in m i).write
  pub places : (row_in m i).write ≤ tasks m
  pub task : Ranged m (oldest m i)
  pub cursor : (row_in m i).cursor < succ_count m (oldest m i)
  pub below : successor m i < tasks m
  pub positive : 1 ≤ degree_in m (successor m i)
  pub few : degree_in m (successor m i) ≤ tasks m
  pub advances : Advances (succ_count m (oldest m i)) (row_in m i) to

-- "The degree of s falls by one", not to zero
pub record ReleasesWaiting (i : ℕ) (m : Mem) (o : StepOutcome) (us : List Update) : Type 0 where
  pub to : Places
  pub common : Releasing i m to
  pub not_ready : ¬ (Ready m i)
  -- "a Release answers either the degree left .."
  pub outcome : o ≡ Released (DegreeLeft (degree_in m (successor m i) - 1))
  pub updates : us ≡ put_degree (successor m i) (degree_in m (successor m i) - 1) ∷ put_places i to ∷ []

-- "At zero, target j is the worker with the least sum of its P counters, ..; s is appended to the first ring filled by i that isn't
-- full, owners taken j, j+1, … modulo P.": by form f, whose candidates, sums and owners these are
pub record ReleasesPlaced (f : Form) (p k i : ℕ) (m : Mem) (o : StepOutcome) (us : List Update) : Type 0 where
  pub to : Places
  pub common : Releasing i m to
  pub ready : Ready m i
  pub undamaged : ¬ f.Damaged
  pub target : ℕ
  pub least : Least f.Candidate f.sum target
  -- the owner at this place of those offered
  pub place : ℕ
  pub stop : StopsAt (length (f.offered target)) k (Full k) (offered_ends p i m (f.offered target)) place
  pub owner : ℕ
  pub owner_is : owner ≡ get_or (f.offered target) place 0
  pub ring : ℕ
  pub ring_is : ring ≡ ring_number p owner i
  pub counter : ¬ (f.DamagedAt ring)
  pub light : weight_in m (successor m i) ≤ 65535
  -- ".. or the task with its new owner"
  pub outcome : o ≡ Released (Placed (record { 0 = successor m i }) (record { 0 = owner }))
  -- "The weight joins the counter of the ring really used."
  pub updates : us
      ≡ put_degree (successor m i) 0
      ∷ put_places i to
      ∷ put_slot (slot_at k ring (ends_in m ring).tail) (successor m i)
      ∷ put_ends ring (record { head = (ends_in m ring).head; tail = ((ends_in m ring).tail + 1) % k; count = (ends_in m ring).count + 1 })
      ∷ put_counter ring (counter_in m ring +ℤ pos (weight_in m (successor m i)))
      ∷ []

pub data Releases (f : Form) (p k i : ℕ) (m : Mem) (o : StepOutcome) (us : List Update) : Type 0 where
  waiting : ReleasesWaiting i m o us → Releases f p k i m o us
  placed : ReleasesPlaced f p k i m o us → Releases f p k i m o us

-- the step's own rule lets it be made, with this outcome and these updates
abbrev pub Made : Step → ℕ → ℕ → ℕ → Mem → StepOutcome → List Update → Type 0
Made Fetch p k i m o us = Fetches p k i m o us
Made Start p k i m o us = Starts i m o us
Made Complete p k i m o us = Completes p i m o us
Made Release p k i m o us = Releases (own p m) p k i m o us

-- when a step is accepted with this outcome and these updates: numbers and lists fit, the worker is there, the phase suits, the accepted
-- word is in its range, and the step's own rule lets it be made
pub record Allowed (limits : Limits) (p k i : ℕ) (s : Step) (m : Mem) (o : StepOutcome) (us : List Update) : Type 0 where
  pub fits : Fits limits p k m
  pub worker : i < p
  pub phase : (row_in m i).phase ≡ suits s
  pub low : accepted_in m < 3 * tasks m + edges m
  pub made : Made s p k i m o us

-- an accepted step: what it answers, and the memory that it leaves
pub record AcceptedStep (limits : Limits) (p k i : ℕ) (s : Step) (m : Mem) : Type 0 where
  pub outcome : StepOutcome
  pub updates : List Update
  pub allowed : Allowed limits p k i s m outcome updates
  pub answered : step_says (step limits p k i s m).answer ≡ outcome_says outcome
  -- "Each accepted step adds 1 to the accepted word."
  pub left : (step limits p k i s m).memory ≡ written (put_accepted (accepted_in m + 1) ∷ updates) m
