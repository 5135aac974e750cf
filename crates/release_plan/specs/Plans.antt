-- What Release is to do, by the words that it reads.
use Rattle.task.specs.declared.refusal.Refusal.TheVariants.{Damaged}
use Rattle.std.specs.Prelude.{ℕ, ◌+◌, ◌*◌, ◌≤◌, ◌<◌, ◌≡◌, true, cond, List, [], ◌∷◌, length, get_or, ltb, leb, ℤ, pos, ◌+ℤ◌, Result, Ok, Err}
use Rattle.task.specs.Types.{engine}
use Rattle.task.specs.declared.refusal.Refusal.{Refusal}
use Rattle.task.specs.declared.Ends.{Ends}
use Rattle.task.specs.declared.Row.{Row}
use Rattle.task.specs.declared.TaskId.{TaskId}
use Rattle.task.specs.declared.WorkerId.{WorkerId}
use Rattle.task.specs.declared.StepOutcome.TheVariants.{Released}
use Rattle.task.specs.declared.ReleaseOutcome.TheVariants.{DegreeLeft, Placed}
use Rattle.ring.specs.Ring.{Sound, Full, end_words, slot_at, ends_at, tail_on}
use Rattle.plans.specs.Forms.{own}
use Rattle.rules.specs.Memory.{Mem, all_steps, ring_number, ends_in, row_in, successor}
use Rattle.rules.specs.Words.{counter_fits, weight_fits}
use Rattle.rules.specs.Updates.{Update, put_degree, put_slot, put_ends, put_counter, put_places, put_accepted}
use Rattle.rules.specs.Plans.{Plan, refuse, accept, checked, counted}
use Rattle.rules.specs.Steps.{advanced, advance, join, release_rule}
use Rattle.release_plan.specs.Picks.{Shows, Next, Lowers, Cursor, Counts, lowering}
use Rattle.release_plan.specs.declared.ReleasePlan as plan
use Rattle.release_plan.specs.declared.ReleasePlan.TheVariants as plans

-- what Release is to do, or why it is refused
abbrev pub ReleasePlan : Type 0
ReleasePlan = Result plan.ReleasePlan Refusal

pattern abbrev pub Lower : TaskId → (count left accepted : ℕ) → ReleasePlan
Lower t count left accepted = Ok (plans.Lower t count left accepted)

pattern abbrev pub Place : TaskId → (count : ℕ) → WorkerId → Ends → (weight accepted : ℕ) → ReleasePlan
Place t count o both weight accepted = Ok (plans.Place t count o both weight accepted)

-- the rule of every form of Release once the ring of owner o is found and its counter judged
unfoldable pub release_at : (p k i o : ℕ) → Mem → Plan
release_at p k i o m =
    checked (weight_fits m (successor m i))
    (counted m (Released (Placed (record { 0 = successor m i }) (record { 0 = o })))
    (put_degree (successor m i) 0 ∷ advance i m ∷ join p k o i (successor m i) m))

-- task t, of so many successors of the completed task, that joins the ring of owner o, whose ends are `both`, by its weight and the run words
unfoldable pub place_of : (steps : ℕ) → TaskId → (count : ℕ) → WorkerId → Ends → (w run : List ℕ) → ReleasePlan
place_of steps t count o both w run =
    cond (leb (get_or w t.0 0) 65535)
    (cond (ltb (get_or run 1 0) steps)
    (Place t count o both (get_or w t.0 0) (get_or run 1 0))
    (Err Damaged))
    (Err Damaged)

-- what is written where the task joins the ring; c are the counters
abbrev pub placing : (p k i : ℕ) → Row → List ℤ → (t count o : ℕ) → Ends → (weight accepted : ℕ) → List Update
placing p k i r c t count o both weight accepted =
    put_accepted (accepted + 1)
    ∷ put_degree t 0
    ∷ put_places i (advanced count r)
    ∷ put_slot (slot_at k (ring_number p o i) both.tail) t
    ∷ put_ends (ring_number p o i) (tail_on k both)
    ∷ put_counter (ring_number p o i) (get_or c (ring_number p o i) (pos 0) +ℤ pos weight)
    ∷ []

-- a plan as the rules have it, for worker i with row r
abbrev pub plan_of : (p k i : ℕ) → Row → List ℤ → ReleasePlan → Plan
plan_of p k i r c (Err why) = refuse why
plan_of p k i r c (Lower t count left accepted) = accept (Released (DegreeLeft left)) (lowering i r t.0 count left accepted)
plan_of p k i r c (Place t count o both weight accepted) =
    accept (Released (Placed t o))
    (placing p k i r c t.0 count o.0 both weight accepted)

-- a memory with that successor, the ends of the ring found, and the words that are read then
pub record Meets (p i a : ℕ) (r : Row) (t n o : ℕ) (both : Ends) (w : List ℕ) (c : List ℤ) (words : List ℕ) (m : Mem) : Type 0 where
  pub next : Next i t n m
  pub row : row_in m i ≡ r
  pub ends : ends_in m (ring_number p o i) ≡ both
  pub weights : m.weights ≡ w
  pub counters : m.counters ≡ c
  pub run : m.run ≡ words
  pub steps : all_steps m ≡ a

-- the lists that Release reads
pub record Lists : Type 0 where
  pub weights : List ℕ
  pub succ_starts : List ℕ
  pub succs : List ℕ
  pub degrees : List ℕ
  pub buffers : List ℕ
  pub ends : List ℕ
  pub counters : List ℤ
  pub run : List ℕ

abbrev pub lists_of : List ℕ → List ℕ → List ℕ → List ℕ → List ℕ → List ℕ → List ℤ → List ℕ → Lists
lists_of w ss s d b e c n =
    record { weights = w; succ_starts = ss; succs = s; degrees = d; buffers = b; ends = e; counters = c; run = n }

-- they have their lengths, and the numbers are within the engine's limits
pub record Measures (p k i : ℕ) (x : Lists) : Type 0 where
  pub worker : i < p
  pub few_workers : p ≤ engine.workers
  pub few_slots : k ≤ engine.slots
  pub weights : length x.weights ≡ length x.degrees
  pub succ_starts : length x.succ_starts ≡ length x.degrees + 1
  pub buffers : i * length x.degrees + length x.degrees ≤ length x.buffers
  pub ends : length x.ends ≡ p * p * end_words
  pub counters : length x.counters ≡ p * p
  pub run : length x.run ≡ 2

-- a memory that has them, row r of worker i, and a run of a steps
pub record Holds (i a : ℕ) (r : Row) (x : Lists) (m : Mem) : Type 0 where
  pub shows : Shows i a r x.succ_starts x.succs x.degrees x.buffers x.run m
  pub weights : m.weights ≡ x.weights
  pub ends : m.ends ≡ x.ends
  pub counters : m.counters ≡ x.counters

-- what is known of a task that joins a ring: the ring is sound and not full, and its counter, the weight and the accepted word are in their ranges
pub record Joins (p k i a : ℕ) (r : Row) (x : Lists) (t n o : ℕ) (both : Ends) (y z : ℕ) : Type 0 where
  pub at : Cursor r t n (length x.degrees)
  pub owner : o < p
  pub ends : both ≡ ends_at x.ends (ring_number p o i)
  pub sound : Sound k both
  pub room : ¬ (Full k both)
  pub counter : counter_fits (get_or x.counters (ring_number p o i) (pos 0)) ≡ true
  pub weight : y ≡ get_or x.weights t 0
  pub light : y ≤ 65535
  pub counts : Counts a z x.run

-- what lets an accepted plan be written
abbrev pub Writable : (p k i a : ℕ) → Row → Lists → ReleasePlan → Type 0
Writable p k i a r x (Err why) = Unit {0}
Writable p k i a r x (Lower t count left accepted) = Lowers a r x.degrees x.run t.0 count left accepted
Writable p k i a r x (Place t count o both weight accepted) =
    Joins p k i a r x t.0 count o.0 both weight accepted

-- the plan is the rule's, in every memory with these lists
abbrev pub Plans : (p k i a : ℕ) → Row → Lists → ReleasePlan → Type 0
Plans p k i a r x plan = (m : Mem) → Holds i a r x m → release_rule (own p m) p k i m ≡ plan_of p k i r x.counters plan

-- a plan that is the rule's and can be written
unfoldable pub Decides : (p k i a : ℕ) → Row → Lists → ReleasePlan → Type 0
Decides p k i a r x plan = Plans p k i a r x plan × Writable p k i a r x plan
