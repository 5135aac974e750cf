-- How long 11 lasts in a weak job. "A later copy goes only to the worker that its task is fixed to .. After at most P accepted Fetches of that worker there
-- is room." A first copy goes wherever a ring has room, as long as it is one: another worker's Release may have fixed the task meanwhile, and then the
-- worker that it is fixed to has to fetch. The refused worker may fetch, start and complete meanwhile, and ask again as often as it likes.
use Rattle.std.specs.Prelude.{ℕ, ◌≤◌, ◌<◌, ◌≡◌, ◌⊎◌, List}
use Rattle.task.specs.Refusals.{Said, refused, wrong_phase, rings_full}
use Rattle.task.specs.Rows.{Acceptance}
use Rattle.task.specs.declared.Limits.{Limits}
use Rattle.task.specs.declared.Step.TheVariants.{Fetch, Release}
use Rattle.weak_task.specs.Types.{Copy, copy, unfixed}
use Rattle.weak_task.specs.Says.{copy_placed}
use Rattle.machine.specs.Machine.{begins}
use Rattle.runs.specs.RoomSoon.{releases}
use Rattle.weak_rules.specs.Memory.{fixed_in, row_in, oldest}
use Rattle.weak_runs.specs.Calls.{Call, step_call, says, weak, Run, KeptBy, memory_of, view_of, longer}
use Rattle.weak_runs.specs.Fairness.{fetches}

-- what a Release or a Fetch by worker i with these limits and begin's P and K would answer next
abbrev pub release_answer : Limits → Run → ℕ → Said
release_answer limits r i = says (step_call limits r.workers r.slots i Release) (memory_of r)

abbrev pub fetch_answer : Limits → Run → ℕ → Said
fetch_answer limits r i = says (step_call limits r.workers r.slots i Fetch) (memory_of r)

-- worker i's Release would place the copy with such a worker next; a worker that isn't idle has to complete first
pub record WouldPlace (limits : Limits) (r : Run) (i : ℕ) (c : Copy) (With : ℕ → Type 0) : Type 0 where
  pub idle : ◌≡◌ {A = ℕ} (row_in (memory_of r) i).phase 0 → (w : ℕ) × With w × (release_answer limits r i ≡ copy_placed c w)
  pub busy : ¬ (◌≡◌ {A = ℕ} (row_in (memory_of r) i).phase 0) → release_answer limits r i ≡ refused wrong_phase (row_in (memory_of r) i).phase

-- A Release by worker i is refused with 11, the detail being task t; further calls of this run follow, in which no Release by that worker is accepted and an
-- owner, one of the P, has P accepted Fetches or more.
pub record Waited (r : Run) (limits : Limits) (i t : ℕ) (further : List Call) (owner : ℕ) : Type 0 where
  pub full : release_answer limits r i ≡ refused rings_full t
  pub same_run : ◌≡◌ {A = ℕ} (begins weak further (memory_of r)) 0
  pub not_released : ◌≡◌ {A = ℕ} (releases weak i further (memory_of r)) 0
  pub worker : owner < r.workers
  pub fetched : r.workers ≤ fetches owner further (memory_of r)

-- After them the Release places the copy that it was refused, of t and the oldest task in its buffer, with such a worker, with all limits that the run keeps.
abbrev pub Room : Run → ℕ → ℕ → List Call → (ℕ → Type 0) → Type 0
Room r i t further With =
    (limits : Limits) → KeptBy limits (view_of r) → WouldPlace limits (longer r further) i (copy t (oldest (memory_of r) i)) With

-- PROMISE: of every run, every refused worker and every further list of its calls
pub record RoomSoon : Type 0 where
  -- a later copy: t was fixed to the owner when it was refused
  pub later : (r : Run) (limits : Limits) (i t : ℕ) (further : List Call) (owner : ℕ) → Waited r limits i t further owner
      → fixed_in (memory_of r) t ≡ owner → Room r i t further (λ w. w ≡ owner)
  -- and so where t has been fixed to the owner since
  pub fixed : (r : Run) (limits : Limits) (i t : ℕ) (further : List Call) (owner : ℕ) → Waited r limits i t further owner
      → fixed_in (memory_of (longer r further)) t ≡ owner → Room r i t further (λ w. w ≡ owner)
  -- a first copy that still is one: then any owner will do
  pub first : (r : Run) (limits : Limits) (i t : ℕ) (further : List Call) (owner : ℕ) → Waited r limits i t further owner
      → fixed_in (memory_of (longer r further)) t ≡ unfixed.0 → Room r i t further (λ w. w < r.workers)
  -- the refused worker is idle, and the Fetch of every idle owner that a copy of t could go to would be accepted
  pub refused_idle : (r : Run) (limits : Limits) (i t : ℕ) → release_answer limits r i ≡ refused rings_full t → ◌≡◌ {A = ℕ} (row_in (memory_of r) i).phase 0
  pub can_fetch : (r : Run) (limits : Limits) (i t : ℕ) → release_answer limits r i ≡ refused rings_full t
      → (owner : ℕ) → owner < r.workers → (fixed_in (memory_of r) t ≡ unfixed.0) ⊎ (fixed_in (memory_of r) t ≡ owner)
      → ◌≡◌ {A = ℕ} (row_in (memory_of r) owner).phase 0
      → (limits' : Limits) → KeptBy limits' (view_of r) → Acceptance (fetch_answer limits' r owner)
