-- The runs of a machine with a journal, and what is judged of them: "This call may stand in a run's list; runs are judged from then on by their final
-- records and by accepted steps, Completes among them, less those taken back."
use Rattle.std.specs.Prelude.{ℕ}
use Rattle.task.specs.declared.Limits.{Limits}
use Rattle.machine.specs.Machine.{Machine, begun_in}
use Rattle.machine.specs.Runs.{View, Run, begun_of, memory_of, events_of}
use Rattle.journals.specs.Journal.{Journaled, WithBack, made, Keeping, journaled}
use Rattle.journals.specs.Net.{stands_of}

module _ {M C B : Type 0} (on : Machine M C) (begin_by : Limits → (p k : ℕ) → C) (by : Keeping M C B) where
  abbrev pub begin_kept : Limits → (p k : ℕ) → WithBack C B
  begin_kept limits p k = made (begin_by limits p k)

  abbrev pub KeptRun : Type 0
  KeptRun = Run (journaled on by) begin_kept

  -- the lists after its calls, the journal among them
  abbrev pub lists_of : KeptRun → Journaled M
  lists_of = memory_of (journaled on by) begin_kept

  -- the lists outside the journal that its last accepted begin left
  abbrev pub last_begun : KeptRun → M
  last_begun r = (begun_in (journaled on by) r.calls (begun_of (journaled on by) begin_kept r) (begun_of (journaled on by) begin_kept r)).memory

  -- what stands of it: the lists outside the journal, and the steps and calls aside less the steps taken back
  abbrev pub standing_view : KeptRun → View M C
  standing_view r =
      record {
        limits = r.limits;
        workers = r.workers;
        slots = r.slots;
        lent = r.lent.memory;
        memory = (lists_of r).memory;
        events = stands_of on by (events_of (journaled on by) begin_kept r);
      }
