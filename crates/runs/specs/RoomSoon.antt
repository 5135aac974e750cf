-- How long 11 lasts: "let a worker fetch, then release again .. After at most P accepted Fetches of any one worker there is room." A worker whose Release was
-- refused with 11 may fetch, start and complete meanwhile, and ask again as often as it likes: until one of its Releases is accepted, none of the rings that
-- it fills gets fuller.
use Rattle.std.specs.Prelude.{ℕ, ◌≤◌, ◌<◌, ◌≡◌, Bool, true, false, cond, List, [], ◌∷◌, eqb}
use Rattle.task.specs.Refusals.{Said, refused, task_placed, wrong_phase, rings_full}
use Rattle.task.specs.Rows.{Acceptance}
use Rattle.task.specs.declared.Limits.{Limits}
use Rattle.task.specs.declared.Step.{Step}
use Rattle.task.specs.declared.Step.TheVariants.{Fetch, Start, Complete, Release}
use Rattle.machine.specs.Machine.{Machine}
use Rattle.machine.specs.Fetches.{one_more}
use Rattle.rules.specs.Memory.{row_in}
use Rattle.runs.specs.Calls.{Call, step_call, begin_call, lookup_call, accepted_said, says, plain, begins, Run, KeptBy, memory_of, view_of, longer}
use Rattle.runs.specs.Fairness.{fetches}

abbrev pub is_release : Step → Bool
is_release Fetch = false
is_release Start = false
is_release Complete = false
is_release Release = true

-- a Release by worker i
abbrev pub release_by : ℕ → Call → Bool
release_by i (step_call limits p k w s) = cond (is_release s) (eqb w i) false
release_by i (begin_call limits p k) = false
release_by i (lookup_call side t) = false

-- how many of the calls are accepted Releases by worker i
unfoldable pub releases : {M : Type 0} → Machine M Call → ℕ → List Call → M → ℕ
releases on i [] m = 0
releases on i (c ∷ cs) m = one_more (cond (release_by i c) (accepted_said (on.says c m)) false) (releases on i cs (on.leaves c m))

-- what a Release or a Fetch by worker i with these limits and begin's P and K would answer next
abbrev pub release_answer : Limits → Run → ℕ → Said
release_answer limits r i = says (step_call limits r.workers r.slots i Release) (memory_of r)

abbrev pub fetch_answer : Limits → Run → ℕ → Said
fetch_answer limits r i = says (step_call limits r.workers r.slots i Fetch) (memory_of r)

-- worker i's Release would place task t with some worker next; a worker that isn't idle has to complete first
pub record WouldPlace (limits : Limits) (r : Run) (i t : ℕ) : Type 0 where
  pub idle : ◌≡◌ {A = ℕ} (row_in (memory_of r) i).phase 0 → (w : ℕ) × (w < r.workers) × (release_answer limits r i ≡ task_placed t w)
  pub busy : ¬ (◌≡◌ {A = ℕ} (row_in (memory_of r) i).phase 0) → release_answer limits r i ≡ refused wrong_phase (row_in (memory_of r) i).phase

-- PROMISE: of every run and worker whose Release is refused with 11, the detail being task t, and every further list of calls of this run in which no Release
-- by that worker is accepted and one worker, any of the P, has P accepted Fetches or more: the Release then places t, with all limits that the run
-- keeps
pub record RoomSoon : Type 0 where
  pub soon : (r : Run) (limits : Limits) (i t : ℕ) → release_answer limits r i ≡ refused rings_full t
      → (further : List Call) → ◌≡◌ {A = ℕ} (begins further (memory_of r)) 0 → ◌≡◌ {A = ℕ} (releases plain i further (memory_of r)) 0
      → (owner : ℕ) → owner < r.workers → r.workers ≤ fetches owner further (memory_of r)
      → (limits' : Limits) → KeptBy limits' (view_of r) → WouldPlace limits' (longer r further) i t
  -- "The refused worker can fetch itself, since a ring that it owns is full": it is idle, and every idle worker's Fetch would be accepted
  pub refused_idle : (r : Run) (limits : Limits) (i t : ℕ) → release_answer limits r i ≡ refused rings_full t → ◌≡◌ {A = ℕ} (row_in (memory_of r) i).phase 0
  pub can_fetch : (r : Run) (limits : Limits) (i t : ℕ) → release_answer limits r i ≡ refused rings_full t
      → (owner : ℕ) → owner < r.workers → ◌≡◌ {A = ℕ} (row_in (memory_of r) owner).phase 0
      → (limits' : Limits) → KeptBy limits' (view_of r) → Acceptance (fetch_answer limits' r owner)
