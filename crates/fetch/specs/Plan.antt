-- What is read and checked before a Fetch writes: the lists as the rule finds them, in its stages.
use Rattle.std.specs.Prelude.{ℕ, ◌≤◌, ◌<◌, ◌≡◌, not, List, length, get_or, Some, None, Result, Ok, Err}
use Rattle.lists.specs.Circles.{after, around}
use Rattle.task.specs.Types.{engine}
use Rattle.task.specs.declared.refusal.Refusal.{Refusal}
use Rattle.task.specs.declared.StepOutcome.TheVariants.{Fetched}
use Rattle.task.specs.declared.Ends.{Ends}
use Rattle.task.specs.declared.Row.{Row}
use Rattle.task.specs.declared.TaskId.{TaskId}
use Rattle.ring.specs.Ring.{Sound, Empty, sound, empty, slot_at, ends_at}
use Rattle.choice.specs.Search.{Found, at, search}
use Rattle.memory.specs.Field as list
use Rattle.memory.specs.Shape.{fixed_length}
use Rattle.rules.specs.Memory.{plain, Mem, ring_number, pointer_in, with_hand, with_pointer}
use Rattle.rules.specs.Plans.{refuse}
use Rattle.rules.specs.Steps.{fetch_task, fetch_from, fetch_rule}
use Rattle.searches.specs.Searches.{found_of, Reads}
use Rattle.searches.specs.Searches as searches
use Rattle.admission.specs.Admission.{Stepped}
use Rattle.fetch.specs.Fetch.{lent, Extent}
use Rattle.fetch.specs.declared.Head.{Head}

-- the lengths of the lists that are written, and the numbers within the engine's limits
pub record Ready (p k i : ℕ) (ends run : List ℕ) : Type 0 where
  pub few_workers : p ≤ engine.workers
  pub few_slots : k ≤ engine.slots
  pub worker : i < p
  pub all_ends : length ends ≡ fixed_length plain p k list.ends
  pub both_words : length run ≡ fixed_length plain p k list.run

-- of those that are read once a ring is found
pub record Readable (p k i : ℕ) (rings run : List ℕ) : Type 0 where
  pub few_workers : p ≤ engine.workers
  pub worker : i < p
  pub all_rings : length rings ≡ fixed_length plain p k list.rings
  pub both_words : length run ≡ fixed_length plain p k list.run

-- of all
pub record Sized (p k i : ℕ) (rings ends run : List ℕ) : Type 0 where
  pub ready : Ready p k i ends run
  pub all_rings : length rings ≡ fixed_length plain p k list.rings

-- the head that is fetched, or why none is
abbrev pub FetchPlan : Type 0
FetchPlan = Result Head Refusal

-- what a scan of owner i's rings finds
abbrev pub scan_of : ℕ → ℕ → ℕ → ℕ → List ℕ → Found
scan_of p k i pointer ends =
    search (λ j. sound k (ends_at ends (ring_number p i j))) (λ j. not (empty (ends_at ends (ring_number p i j)))) (around p pointer)

-- the task is one of n, the accepted word, which is read once the task is known, is in its range, and the head has it as read
pub record Fetchable (n steps : ℕ) (run : List ℕ) (head : Head) : Type 0 where
  pub known : head.task.0 < n
  pub counts : head.accepted ≡ get_or run 1 0
  pub accepted : head.accepted < steps

-- the plan once the ring's filler j, its ends and its task t are known
unfoldable pub PlansTask : ℕ → ℕ → List ℕ → ℕ → Ends → ℕ → FetchPlan → Type 0
PlansTask n steps run j both t (Err why) =
    (p k i : ℕ) (rings ends : List ℕ) (m : Mem) → Extent n steps m
    → fetch_task p k i (lent m rings ends run m.rows) j t ≡ refuse why
PlansTask n steps run j both t (Ok head) =
    (head.filler.0 ≡ j) × ((head.ends ≡ both) × ((head.task.0 ≡ t) × Fetchable n steps run head))

-- a ring found is one of p, and sound
abbrev pub Reachable : ℕ → ℕ → searches.Found → Type 0
Reachable p k (Err d) = Unit {0}
Reachable p k (Ok None) = Unit {0}
Reachable p k (Ok (Some (j, both))) = (j.0 < p) × Sound k both

-- it isn't empty, and these are its ends
abbrev pub Scanned : (p k i : ℕ) → List ℕ → searches.Found → Type 0
Scanned p k i ends (Err d) = Unit {0}
Scanned p k i ends (Ok None) = Unit {0}
Scanned p k i ends (Ok (Some (j, both))) =
    (j.0 < p) × ((both ≡ ends_at ends (ring_number p i j.0)) × (Sound k both × ¬ (Empty both)))

-- the head of the ring found may be fetched
pub record Finds (p k i n steps : ℕ) (rings run : List ℕ) (x : searches.Found) (head : Head) : Type 0 where
  pub is : x ≡ Ok (Some (head.filler, head.ends))
  pub first : head.task.0 ≡ get_or rings (slot_at k (ring_number p i head.filler.0) head.ends.head) 0
  pub task : Fetchable n steps run head

-- the plan once the rings were scanned, whatever the rings that were: the ends of a ring found are those that stand there
unfoldable pub PlansFound : ℕ → ℕ → ℕ → ℕ → ℕ → List ℕ → List ℕ → searches.Found → FetchPlan → Type 0
PlansFound p k i n steps rings run x (Err why) =
    (ends : List ℕ) (m : Mem) → Extent n steps m → Reads (λ j. ends_at ends (ring_number p i j)) x
    → fetch_from p k i (lent m rings ends run m.rows) (found_of x) ≡ refuse why
PlansFound p k i n steps rings run x (Ok head) =
    Finds p k i n steps rings run x head

-- the scan stops at the ring of the head, with these ends, and the head may be fetched
pub record Takes (p k i n steps pointer : ℕ) (rings ends run : List ℕ) (head : Head) : Type 0 where
  pub points : pointer < p
  pub found : scan_of p k i pointer ends ≡ at head.filler.0
  pub filler : head.filler.0 < p
  pub reads : head.ends ≡ ends_at ends (ring_number p i head.filler.0)
  pub sound : Sound k head.ends
  pub waits : ¬ (Empty head.ends)
  pub first : head.task.0 ≡ get_or rings (slot_at k (ring_number p i head.filler.0) head.ends.head) 0
  pub task : Fetchable n steps run head

-- the plan of the whole rule, with the pointer of worker i
unfoldable pub PlansFetch : ℕ → ℕ → ℕ → ℕ → ℕ → ℕ → List ℕ → List ℕ → List ℕ → FetchPlan → Type 0
PlansFetch p k i n steps pointer rings ends run (Err why) =
    (m : Mem) → Extent n steps m → pointer_in m i ≡ pointer → fetch_rule p k i (lent m rings ends run m.rows) ≡ refuse why
PlansFetch p k i n steps pointer rings ends run (Ok head) =
    Takes p k i n steps pointer rings ends run head

-- what lets the head of the ring that j fills be taken, with these ends
pub record Takeable (p k i : ℕ) (ends run : List ℕ) (j : ℕ) (both : Ends) (accepted : ℕ) : Type 0 where
  pub ready : Ready p k i ends run
  pub filler : j < p
  pub reads : both ≡ ends_at ends (ring_number p i j)
  pub sound : Sound k both
  pub waits : ¬ (Empty both)
  pub few : accepted ≤ 65535

-- the row after a Fetch: the task is held, "The pointer becomes the ring after, modulo P."
abbrev pub fetched_row : ℕ → ℕ → TaskId → Row → Row
fetched_row p j task row = with_pointer (after p j) (with_hand row.phase task row)

-- the end of a Fetch that takes this head
abbrev pub taken_by : ℕ → Head → Row → Stepped
taken_by p head row = Ok (Fetched head.task, fetched_row p head.filler.0 head.task row)
