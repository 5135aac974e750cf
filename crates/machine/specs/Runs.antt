-- The runs of any machine, whatever its memory and its calls, and what a run shows.
use Rattle.std.specs.Prelude.{ℕ, ◌≡◌, List, [], ◌++◌}
use Rattle.task.specs.Refusals.{accepted}
use Rattle.task.specs.declared.Limits.{Limits}
use Rattle.machine.specs.Machine.{Machine, Event, memory_after, events_after}

-- What a run shows, of which the promises speak: begin's numbers and lists, the lists after the run's calls, and the calls that count with their answers,
-- the latest first.
pub record View (M C : Type 0) : Type 0 where
  -- begin's own; the calls after it have theirs
  pub limits : Limits
  pub workers : ℕ
  pub slots : ℕ
  -- the memory before begin
  pub lent : M
  pub memory : M
  pub events : List (Event C)

-- of a machine and its call begin, with these limits, P and K
module _ {M C : Type 0} (on : Machine M C) (begin_by : Limits → (p k : ℕ) → C) where
  -- "For every list of calls from an accepted begin on": an accepted begin on any memory, with any P and K, and the calls after it
  pub record Run : Type 0 where
    -- begin's own; the calls after it have theirs
    pub limits : Limits
    pub workers : ℕ
    pub slots : ℕ
    -- the memory before begin
    pub lent : M
    pub accepts : on.says (begin_by limits workers slots) lent ≡ accepted
    pub calls : List C

  -- the memory that begin left
  abbrev pub begun_of : Run → M
  begun_of r = on.leaves (begin_by r.limits r.workers r.slots) r.lent

  -- the memory after the run's calls
  abbrev pub memory_of : Run → M
  memory_of r = memory_after on r.calls (begun_of r)

  -- the calls of the run that then goes on, with their answers, the latest first: those since the last accepted begin
  abbrev pub events_of : Run → List (Event C)
  events_of r = events_after on r.calls (begun_of r) []

  -- where no step is taken back, all of them count
  abbrev pub view_of : Run → View M C
  view_of r =
      record { limits = r.limits; workers = r.workers; slots = r.slots; lent = r.lent; memory = memory_of r; events = events_of r }

  -- the run with further calls
  abbrev pub longer : Run → List C → Run
  longer r further =
      record { limits = r.limits; workers = r.workers; slots = r.slots; lent = r.lent; accepts = r.accepts; calls = r.calls ++ further }
