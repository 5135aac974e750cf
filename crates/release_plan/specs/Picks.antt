-- The successor that a Release picks, and what becomes of one that waits on.
use Rattle.task.specs.declared.refusal.Refusal.TheVariants.{Damaged, NothingThere}
use Rattle.std.specs.Prelude.{ℕ, ◌+◌, ◌-◌, ◌<◌, ◌≡◌, cond, ◌&&◌, List, [], ◌∷◌, length, get_or, ltb, leb, eqb, Result, Ok, Err}
use Rattle.task.specs.declared.refusal.Refusal.{Refusal}
use Rattle.task.specs.declared.Row.{Row}
use Rattle.task.specs.declared.TaskId.{TaskId}
use Rattle.task.specs.declared.StepOutcome.TheVariants.{Released}
use Rattle.task.specs.declared.ReleaseOutcome.TheVariants.{DegreeLeft}
use Rattle.rules.specs.Memory.{Mem, tasks, edges, all_steps, row_in, degree_in, succ_count, oldest, successor}
use Rattle.rules.specs.Words.{task_fits, places_fit, cursor_fits, range_fits, degree_fits}
use Rattle.rules.specs.Updates.{Update, put_degree, put_places, put_accepted}
use Rattle.rules.specs.Plans.{Plan, refuse, accept, refuse_if, checked}
use Rattle.rules.specs.Steps.{advanced, release_waiting}
use Rattle.release_plan.specs.declared.Pick as pick
use Rattle.release_plan.specs.declared.Pick.TheVariants as picks

-- what is picked, or why it is refused
abbrev pub Pick : Type 0
Pick = Result pick.Pick Refusal

pattern abbrev pub Waiting : TaskId → (count left accepted : ℕ) → Pick
Waiting t count left accepted = Ok (picks.Waiting t count left accepted)

pattern abbrev pub Ready : TaskId → (count : ℕ) → Pick
Ready t count = Ok (picks.Ready t count)

-- the rule of every form of Release: a successor that becomes ready goes on with the plan `ready`
unfoldable pub release_by : (ready : Plan) → ℕ → Mem → Plan
release_by ready i m =
    checked (places_fit m (row_in m i).read (row_in m i).write)
    (refuse_if (eqb (row_in m i).read (row_in m i).write) NothingThere
    (checked (task_fits m (oldest m i))
    (checked (range_fits m (oldest m i))
    (checked (cursor_fits m (oldest m i) (row_in m i).cursor)
    (checked (task_fits m (successor m i))
    (checked (degree_fits m (degree_in m (successor m i)))
    (cond (eqb (degree_in m (successor m i)) 1) ready (release_waiting i m))))))))

-- task t by its degree, in a run of so many steps: `count` successors has the completed task
unfoldable pub degree_of : (steps : ℕ) → TaskId → (count : ℕ) → (d run : List ℕ) → Pick
degree_of steps t count d run =
    cond (leb 1 (get_or d t.0 0) && leb (get_or d t.0 0) (length d))
    (cond (eqb (get_or d t.0 0) 1) (Ready t count)
    (cond (ltb (get_or run 1 0) steps) (Waiting t count (get_or d t.0 0 - 1) (get_or run 1 0)) (Err Damaged)))
    (Err Damaged)

-- a memory that has row r of worker i, these successor starts, successors, degrees, buffers and run words, and a run of a steps
pub record Shows (i a : ℕ) (r : Row) (ss s d b words : List ℕ) (m : Mem) : Type 0 where
  pub tasks : tasks m ≡ length d
  pub edges : edges m ≡ length s
  pub steps : all_steps m ≡ a
  pub row : row_in m i ≡ r
  pub succ_starts : m.succ_starts ≡ ss
  pub succs : m.succs ≡ s
  pub degrees : m.degrees ≡ d
  pub buffers : m.buffers ≡ b
  pub run : m.run ≡ words

-- task t is the successor at worker i's cursor, one of so many
pub record Next (i t n : ℕ) (m : Mem) : Type 0 where
  pub task : successor m i ≡ t
  pub count : succ_count m (oldest m i) ≡ n

-- what is known of a successor picked, one of n tasks, by the row
pub record Cursor (r : Row) (t count n : ℕ) : Type 0 where
  pub task : t < n
  pub place : r.read < r.write
  pub cursor : r.cursor < count

-- the run has room for a step, and this is its accepted word
pub record Counts (steps accepted : ℕ) (run : List ℕ) : Type 0 where
  pub word : accepted ≡ get_or run 1 0
  pub room : accepted < steps

-- what is known of a successor that waits on, by its degree and the run words
pub record Lowers (a : ℕ) (r : Row) (d words : List ℕ) (t n left z : ℕ) : Type 0 where
  pub at : Cursor r t n (length d)
  pub degree : left ≡ get_or d t 0 - 1
  pub counts : Counts a z words

-- what is written where the successor waits on
abbrev pub lowering : ℕ → Row → (t count left accepted : ℕ) → List Update
lowering i r t count left accepted = put_accepted (accepted + 1) ∷ put_degree t left ∷ put_places i (advanced count r) ∷ []

module _ (i steps : ℕ) (r : Row) (ss s d b run : List ℕ) where
  -- a successor that waits on, with what the rule writes
  pub record Waits (t : TaskId) (count left accepted : ℕ) : Type 0 where
    pub lowers : Lowers steps r d run t.0 count left accepted
    pub follows : (ready : Plan) (m : Mem) → Shows i steps r ss s d b run m
        → release_by ready i m ≡ accept (Released (DegreeLeft left)) (lowering i r t.0 count left accepted)

  -- a successor that is ready: the rule goes on with it
  pub record Readies (t : TaskId) (count : ℕ) : Type 0 where
    pub at : Cursor r t.0 count (length d)
    pub next : (m : Mem) → Shows i steps r ss s d b run m → Next i t.0 count m
    pub follows : (ready : Plan) (m : Mem) → Shows i steps r ss s d b run m → release_by ready i m ≡ ready

  abbrev pub Picked : Pick → Type 0
  Picked (Err why) = (ready : Plan) (m : Mem) → Shows i steps r ss s d b run m → release_by ready i m ≡ refuse why
  Picked (Waiting t count left accepted) = Waits t count left accepted
  Picked (Ready t count) = Readies t count
