-- What is read and checked before a Fetch of a weak job writes: the lists as the rule finds them, in its stages.
use Rattle.std.specs.Prelude.{ℕ, ◌≤◌, ◌<◌, ◌≡◌, not, List, [], ◌∷◌, length, Result, Ok, Err}
use Rattle.lists.specs.Circles.{after, around}
use Rattle.task.specs.Types.{engine}
use Rattle.task.specs.Phases.{leads_to}
use Rattle.task.specs.declared.refusal.Refusal.{Refusal}
use Rattle.task.specs.declared.Ends.{Ends}
use Rattle.task.specs.declared.Step.TheVariants as step-name
use Rattle.task.specs.declared.WorkerId.{WorkerId}
use Rattle.weak_task.specs.Types.{Copy, copy_of}
use Rattle.weak_task.specs.declared.WeakOutcome.TheVariants.{Fetched}
use Rattle.ring.specs.Ring.{Sound, Empty, sound, empty, ends_at, head_on}
use Rattle.choice.specs.Search.{Found, at, search}
use Rattle.memory.specs.Field as list
use Rattle.memory.specs.Shape.{fixed_length}
use Rattle.weak_rules.specs.Memory.{weak, Mem, ring_number, ends_in, pointer_in}
use Rattle.weak_rules.specs.Updates.{Update, put_ends, put_hand, put_pointer}
use Rattle.weak_rules.specs.Plans.{Plan, refuse, accept, with_count}
use Rattle.weak_rules.specs.Steps.{fetch_from, fetch_rule}
use Rattle.weak_admission.specs.Count.{count_of}
use Rattle.weak_fetch.specs.Fetch.{lent, Extent}
use Rattle.weak_fetch.specs.declared.CopyHead.{CopyHead}

-- the lists that are read, of their lengths, and the numbers within the engine's limits, for n tasks and e edges
pub record Sized (p k i n e : ℕ) (rings : List (List ℕ)) (ends run : List ℕ) : Type 0 where
  pub few_workers : p ≤ engine.workers
  pub few_slots : k ≤ engine.slots
  pub worker : i < p
  pub few_tasks : n ≤ engine.tasks
  pub few_edges : e ≤ engine.edges
  pub all_rings : length rings ≡ fixed_length weak p k list.rings
  pub all_ends : length ends ≡ fixed_length weak p k list.ends
  pub all_words : length run ≡ fixed_length weak p k list.run

-- what is known once a scan has stopped at the ring filled by j, which has these ends
pub record HeadFound (p k i n e : ℕ) (rings : List (List ℕ)) (run : List ℕ) (j : ℕ) (both : Ends) : Type 0 where
  pub few_workers : p ≤ engine.workers
  pub worker : i < p
  pub filler : j < p
  pub few_tasks : n ≤ engine.tasks
  pub few_edges : e ≤ engine.edges
  pub all_rings : length rings ≡ fixed_length weak p k list.rings
  pub all_words : length run ≡ fixed_length weak p k list.run
  pub sound : Sound k both

-- the head that is fetched, or why none is
abbrev pub CopyPlan : Type 0
CopyPlan = Result CopyHead Refusal

-- what a scan of owner i's rings finds
abbrev pub scan_of : ℕ → ℕ → ℕ → ℕ → List ℕ → Found
scan_of p k i pointer ends =
    search (λ j. sound k (ends_at ends (ring_number p i j))) (λ j. not (empty (ends_at ends (ring_number p i j)))) (around p pointer)

-- what a Fetch of copy c from the ring filled by j writes, besides that the step is counted
abbrev pub take_updates : ℕ → ℕ → ℕ → ℕ → Copy → Mem → List Update
take_updates p k i j c m =
    put_ends (ring_number p i j) (head_on k (ends_in m (ring_number p i j))) ∷ put_hand i (leads_to step-name.Fetch) c ∷ put_pointer i (after p j) ∷ []

-- a plan as the rules have it, for worker i
abbrev pub plan_of : ℕ → ℕ → ℕ → Mem → CopyPlan → Plan
plan_of p k i m (Err why) = refuse why
plan_of p k i m (Ok head) = accept (Fetched head.copy) (with_count m (take_updates p k i head.filler.0 (copy_of head.copy) m))

-- what lets the plan be written: these are the ring's ends, and R and the accepted word are in their ranges
pub record Takes (p k i n e : ℕ) (ends run : List ℕ) (j : ℕ) (both : Ends) (accepted : ℕ) : Type 0 where
  pub filler : j < p
  pub reads : both ≡ ends_at ends (ring_number p i j)
  pub sound : Sound k both
  pub waits : ¬ (Empty both)
  pub counts : count_of n e run ≡ Ok accepted

abbrev pub Writable : ℕ → ℕ → ℕ → ℕ → ℕ → List ℕ → List ℕ → CopyPlan → Type 0
Writable p k i n e ends run (Err why) = Unit {0}
Writable p k i n e ends run (Ok head) = Takes p k i n e ends run head.filler.0 head.ends head.accepted

-- what a plan made of the ring filled by j, with these ends, has of them, and of the accepted word
abbrev pub Keeps : ℕ → ℕ → List ℕ → WorkerId → Ends → CopyPlan → Type 0
Keeps n e run j both (Err why) = Unit {0}
Keeps n e run j both (Ok head) = (head.filler ≡ j) × ((head.ends ≡ both) × (count_of n e run ≡ Ok head.accepted))

-- the plan is the rule's once a scan has stopped there
unfoldable pub PlansFound : ℕ → ℕ → ℕ → ℕ → ℕ → List Copy → List ℕ → WorkerId → Ends → CopyPlan → Type 0
PlansFound p k i n e rings run j both r =
    ((ends : List ℕ) (m : Mem) → Extent n e m → both ≡ ends_at ends (ring_number p i j.0)
    → fetch_from p k i (lent m rings ends run m.rows) (at j.0) ≡ plan_of p k i (lent m rings ends run m.rows) r)
    × Keeps n e run j both r

-- the plan is that of the whole rule, with the pointer of worker i, and can be written
unfoldable pub PlansFetch : ℕ → ℕ → ℕ → ℕ → ℕ → ℕ → List Copy → List ℕ → List ℕ → CopyPlan → Type 0
PlansFetch p k i n e pointer rings ends run r =
    ((m : Mem) → Extent n e m → pointer_in m i ≡ pointer
    → fetch_rule p k i (lent m rings ends run m.rows) ≡ plan_of p k i (lent m rings ends run m.rows) r)
    × Writable p k i n e ends run r
