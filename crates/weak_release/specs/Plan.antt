-- What Release of a weak job is to do, by the words that it reads.
use Rattle.task.specs.declared.refusal.Refusal.TheVariants.{Damaged, NothingThere}
use Rattle.std.specs.Prelude.{ℕ, ◌+◌, ◌*◌, ◌≤◌, ◌<◌, ◌≡◌, true, cond, List, ◌∷◌, length, get_or, eqb, ltb, ℤ, pos, Result, Ok, Err}
use Rattle.task.specs.Types.{engine}
use Rattle.task.specs.declared.refusal.Refusal.{Refusal}
use Rattle.task.specs.declared.Ends.{Ends}
use Rattle.task.specs.declared.TaskId.{TaskId}
use Rattle.task.specs.declared.WorkerId.{WorkerId}
use Rattle.weak_task.specs.Types.{task_copy, unfixed}
use Rattle.weak_task.specs.declared.WeakRow.{WeakRow}
use Rattle.weak_task.specs.declared.WeakOutcome.TheVariants.{Placed}
use Rattle.ring.specs.Ring.{Sound, Full, ends_at}
use Rattle.memory.specs.Field as list
use Rattle.memory.specs.Shape.{fixed_length}
use Rattle.plans.specs.Forms.{own}
use Rattle.plans.specs.Laying.{append, join_ring}
use Rattle.weak_rules.specs.Memory.{weak_shape, weak, Mem, tasks, edges, ring_number, row_in, succ_count, oldest, successor, fixed_in, made_copy}
use Rattle.weak_rules.specs.Words.{counter_fits, fixed_fits, task_fits, places_fit, cursor_fits, range_fits, weight_fits}
use Rattle.weak_rules.specs.Updates.{Update, put_fixed}
use Rattle.weak_rules.specs.Plans.{Plan, refuse, accept, refuse_if, checked, with_count, counted}
use Rattle.weak_rules.specs.Steps.{advance, release_later, release_rule}
use Rattle.weak_admission.specs.Count.{count_of}
use Rattle.weak_release.specs.declared.CopyPick as pick
use Rattle.weak_release.specs.declared.CopyPick.TheVariants as picks
use Rattle.weak_release.specs.declared.WeakPlan as plan
use Rattle.weak_release.specs.declared.WeakPlan.TheVariants as plans

-- The copy that is picked, or why it is refused.
abbrev pub CopyPick : Type 0
CopyPick = Result pick.CopyPick Refusal

pattern abbrev pub PickFirst : TaskId → TaskId → ℕ → CopyPick
PickFirst t done count = Ok (picks.First t done count)

pattern abbrev pub PickLater : TaskId → TaskId → ℕ → WorkerId → CopyPick
PickLater t done count o = Ok (picks.Later t done count o)

-- the rule, by the plan that it comes to for a first copy: `release_rule f` is this of `release_first f`, whatever the form f
unfoldable pub release_by : Plan → ℕ → ℕ → ℕ → Mem → Plan
release_by first p k i m =
    checked (places_fit m (row_in m i).read (row_in m i).write)
    (refuse_if (eqb (row_in m i).read (row_in m i).write) NothingThere
    (checked (task_fits m (oldest m i))
    (checked (range_fits m (oldest m i))
    (checked (cursor_fits m (oldest m i) (row_in m i).cursor)
    (checked (task_fits m (successor m i))
    (checked (fixed_fits p (fixed_in m (successor m i)))
    (cond (eqb (fixed_in m (successor m i)) unfixed.0) first (release_later p k i m (fixed_in m (successor m i))))))))))

-- by the word of the successor's worker
unfoldable pub fixed_of : ℕ → List ℕ → TaskId → TaskId → ℕ → CopyPick
fixed_of p fixed t done count =
    cond (eqb (get_or fixed t.0 0) unfixed.0) (PickFirst t done count)
    (cond (ltb (get_or fixed t.0 0) p) (PickLater t done count (record { 0 = get_or fixed t.0 0 })) (Err Damaged))

-- a memory with that row of worker i, and these successor starts, successors, fixed workers and buffers
pub record Shows (i : ℕ) (r : WeakRow) (ss s f b : List ℕ) (m : Mem) : Type 0 where
  pub tasks : tasks m ≡ length f
  pub edges : edges m ≡ length s
  pub row : row_in m i ≡ r
  pub succ_starts : m.succ_starts ≡ ss
  pub succs : m.succs ≡ s
  pub fixed : m.fixed ≡ f
  pub buffers : m.buffers ≡ b

-- the successor at worker i's cursor, the task that it follows, and how many successors that one has
pub record Next (i t done n : ℕ) (m : Mem) : Type 0 where
  pub task : successor m i ≡ t
  pub completed : oldest m i ≡ done
  pub count : succ_count m (oldest m i) ≡ n

-- the row's places, of a successor t among n tasks
pub record CursorAt (r : WeakRow) (t count n : ℕ) : Type 0 where
  pub task : t < n
  pub place : r.read < r.write
  pub cursor : r.cursor < count

-- a copy picked: in every memory with the lists it is that at the cursor, and the rule goes on with the plan `rest`
pub record Picks (p i : ℕ) (r : WeakRow) (ss s f b : List ℕ) (t done n : ℕ) (rest : Plan → ℕ → Mem → Plan) : Type 0 where
  pub at : CursorAt r t n (length f)
  pub next : (m : Mem) → Shows i r ss s f b m → Next i t done n m
  pub follows : (first : Plan) (k : ℕ) (m : Mem) → Shows i r ss s f b m → release_by first p k i m ≡ rest first k m

abbrev pub PicksCopy : ℕ → ℕ → WeakRow → (ss s f b : List ℕ) → CopyPick → Type 0
PicksCopy p i r ss s f b (Err why) = (first : Plan) (k : ℕ) (m : Mem) → Shows i r ss s f b m → release_by first p k i m ≡ refuse why
PicksCopy p i r ss s f b (PickFirst t done n) = Picks p i r ss s f b t.0 done.0 n (λ first k m. first)
PicksCopy p i r ss s f b (PickLater t done n o) =
    Picks p i r ss s f b t.0 done.0 n (λ first k m. release_later p k i m o.0) × (o.0 < p)

-- The plan, or why the step is refused.
abbrev pub WeakPlan : Type 0
WeakPlan = Result plan.WeakPlan Refusal

pattern abbrev pub First : TaskId → TaskId → (count : ℕ) → WorkerId → Ends → (weight accepted : ℕ) → WeakPlan
First t done count o both weight accepted = Ok (plans.First t done count o both weight accepted)

pattern abbrev pub Later : TaskId → TaskId → (count : ℕ) → WorkerId → Ends → (accepted : ℕ) → WeakPlan
Later t done count o both accepted = Ok (plans.Later t done count o both accepted)

-- what each accepted plan writes, besides that the step is counted: a task's first copy joins the ring of owner o; a later one does
abbrev pub first_updates : ℕ → ℕ → ℕ → ℕ → Mem → List Update
first_updates p k i o m = put_fixed (successor m i) o ∷ advance i m ∷ join_ring p k o i (made_copy m i) (successor m i) m

abbrev pub later_updates : ℕ → ℕ → ℕ → ℕ → Mem → List Update
later_updates p k i o m = advance i m ∷ append p k o i (made_copy m i) m

-- what the rule comes to for a first copy whose owner o is found, and the counter that the weight joins judged: `release_to f .. (at o)` goes on with it
unfoldable pub join_first : ℕ → ℕ → ℕ → Mem → ℕ → Plan
join_first p k i m o =
    checked (weight_fits m (successor m i)) (counted m (Placed (task_copy (made_copy m i)) (record { 0 = o })) (first_updates p k i o m))

-- a plan as the rules have it, for worker i
abbrev pub plan_of : ℕ → ℕ → ℕ → Mem → WeakPlan → Plan
plan_of p k i m (Err why) = refuse why
plan_of p k i m (First t done count o both weight accepted) =
    accept (Placed (record { task = t; predecessor = done }) o) (with_count m (first_updates p k i o.0 m))
plan_of p k i m (Later t done count o both accepted) =
    accept (Placed (record { task = t; predecessor = done }) o) (with_count m (later_updates p k i o.0 m))

-- the run words of a job of n tasks and e edges, which are within the engine's limits
pub record Counts (n e : ℕ) (run : List ℕ) : Type 0 where
  pub all_words : length run ≡ weak_shape.run_words
  pub few_tasks : n ≤ engine.tasks
  pub few_edges : e ≤ engine.edges

-- the ends of the rings, of their length
pub record Ended (p k i : ℕ) (ends : List ℕ) : Type 0 where
  pub worker : i < p
  pub few_workers : p ≤ engine.workers
  pub all_ends : length ends ≡ fixed_length weak p k list.ends

-- a memory of n tasks and e edges with these run words, where the successor at worker i's cursor is this
pub record Stands (i n e t done count : ℕ) (run : List ℕ) (m : Mem) : Type 0 where
  pub tasks : tasks m ≡ n
  pub edges : edges m ≡ e
  pub next : Next i t done count m
  pub words : m.run ≡ run

-- the plan of a first copy, once its owner o is found, and the ends of its ring; what it has of them, of the weight and of the accepted word
abbrev pub KeepsFirst : ℕ → TaskId → TaskId → ℕ → WorkerId → Ends → List ℕ → List ℕ → WeakPlan → Type 0
KeepsFirst e t done count o both weights run (Err why) = Unit {0}
KeepsFirst e t done count o both weights run (First t' done' count' o' both' weight accepted) =
    ((t' ≡ t) × ((done' ≡ done) × ((count' ≡ count) × ((o' ≡ o) × (both' ≡ both)))))
    × ((weight ≡ get_or weights t.0 0) × ((weight ≤ 65535) × (count_of (length weights) e run ≡ Ok accepted)))
KeepsFirst e t done count o both weights run (Later t' done' count' o' both' accepted) = ⊥

unfoldable pub PlansFirst : ℕ → TaskId → TaskId → ℕ → WorkerId → Ends → List ℕ → List ℕ → WeakPlan → Type 0
PlansFirst e t done count o both weights run r =
    ((p k i : ℕ) (m : Mem) → Stands i (length weights) e t.0 done.0 count run m → m.weights ≡ weights
    → join_first p k i m o.0 ≡ plan_of p k i m r)
    × KeepsFirst e t done count o both weights run r

-- what lets a copy join the ring of owner o that worker i fills: its ends as they stand, sound and not full; R and the accepted word in their ranges
pub record Joins (p k i n e o : ℕ) (ends run : List ℕ) (both : Ends) (accepted : ℕ) : Type 0 where
  pub owner : o < p
  pub reads : both ≡ ends_at ends (ring_number p o i)
  pub sound : Sound k both
  pub free : ¬ (Full k both)
  pub counts : count_of n e run ≡ Ok accepted

-- the plan of a later copy, whose owner is o
abbrev pub KeepsLater : ℕ → ℕ → ℕ → ℕ → ℕ → TaskId → TaskId → ℕ → WorkerId → List ℕ → List ℕ → WeakPlan → Type 0
KeepsLater p k i n e t done count o ends run (Err why) = Unit {0}
KeepsLater p k i n e t done count o ends run (First t' done' count' o' both weight accepted) = ⊥
KeepsLater p k i n e t done count o ends run (Later t' done' count' o' both accepted) =
    ((t' ≡ t) × ((done' ≡ done) × ((count' ≡ count) × (o' ≡ o)))) × Joins p k i n e o.0 ends run both accepted

unfoldable pub PlansLater : ℕ → ℕ → ℕ → ℕ → ℕ → TaskId → TaskId → ℕ → WorkerId → List ℕ → List ℕ → WeakPlan → Type 0
PlansLater p k i n e t done count o ends run r =
    ((m : Mem) → Stands i n e t.0 done.0 count run m → m.ends ≡ ends → release_later p k i m o.0 ≡ plan_of p k i m r)
    × KeepsLater p k i n e t done count o ends run r

-- this is the task's weight, and it can join its counter q
pub record Weighs (q t : ℕ) (weights : List ℕ) (counters : List ℤ) (weight : ℕ) : Type 0 where
  pub weighs : weight ≡ get_or weights t 0
  pub light : weight ≤ 65535
  pub counter : counter_fits (get_or counters q (pos 0)) ≡ true

-- what lets an accepted plan be written
abbrev pub Writable : ℕ → ℕ → ℕ → ℕ → WeakRow → List ℕ → List ℕ → List ℤ → List ℕ → WeakPlan → Type 0
Writable p k i e row weights ends counters run (Err why) = Unit {0}
Writable p k i e row weights ends counters run (First t done count o both weight accepted) =
    CursorAt row t.0 count (length weights)
    × (Joins p k i (length weights) e o.0 ends run both accepted
    × Weighs (ring_number p o.0 i) t.0 weights counters weight)
Writable p k i e row weights ends counters run (Later t done count o both accepted) =
    CursorAt row t.0 count (length weights) × Joins p k i (length weights) e o.0 ends run both accepted

-- the copy of an accepted plan is that at the cursor
abbrev pub Copied : ℕ → Mem → WeakPlan → Type 0
Copied i m (Err why) = Unit {0}
Copied i m (First t done count o both weight accepted) = Next i t.0 done.0 count m
Copied i m (Later t done count o both accepted) = Next i t.0 done.0 count m

-- the lists that are read, of their lengths, and the numbers within the engine's limits
pub record Sized (p k i e : ℕ) (weights succ_starts succs fixed ends : List ℕ) (counters : List ℤ) (buffers run : List ℕ) : Type 0 where
  pub worker : i < p
  pub few_workers : p ≤ engine.workers
  pub few_slots : k ≤ engine.slots
  pub few_tasks : length weights ≤ engine.tasks
  pub few_edges : e ≤ engine.edges
  pub all_starts : length succ_starts ≡ length weights + 1
  pub all_succs : length succs ≡ e
  pub all_fixed : length fixed ≡ length weights
  pub all_ends : length ends ≡ fixed_length weak p k list.ends
  pub all_counters : length counters ≡ fixed_length weak p k list.counters
  pub own_buffer : i * length weights + length weights ≤ length buffers
  pub all_words : length run ≡ weak_shape.run_words

-- a memory of e edges with that row of worker i and these lists
pub record Reads (i e : ℕ) (r : WeakRow) (ws ss s f es : List ℕ) (cs : List ℤ) (b ns : List ℕ) (m : Mem) : Type 0 where
  pub shows : Shows i r ss s f b m
  pub edges : edges m ≡ e
  pub weights : m.weights ≡ ws
  pub ends : m.ends ≡ es
  pub counters : m.counters ≡ cs
  pub words : m.run ≡ ns

-- the plan is the rule's, and can be written
unfoldable pub PlansRelease : ℕ → ℕ → ℕ → ℕ → WeakRow → (weights ss s f ends : List ℕ) → List ℤ → (b run : List ℕ) → WeakPlan → Type 0
PlansRelease p k i e row weights ss s f ends counters b run r =
    ((m : Mem) → Reads i e row weights ss s f ends counters b run m
    → (release_rule (own p m) p k i m ≡ plan_of p k i m r) × Copied i m r)
    × Writable p k i e row weights ends counters run r
