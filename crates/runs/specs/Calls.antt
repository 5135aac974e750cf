-- A plain job's runs: lists of its calls (`crates/machine/specs/Jobs.antt`) from an accepted begin on. Each call has limits of its own, as the engine's
-- or the preview's.
use Rattle.std.specs.Prelude.{ℕ, Bool, List, []}
use Rattle.task.specs.Refusals.{Said, answer_says, step_says}
use Rattle.task.specs.declared.Limits.{Limits}
use Rattle.machine.specs.Machine.{Machine}
use Rattle.machine.specs.Machine as machine
pub use Rattle.machine.specs.Machine.{accepted_said}
pub use Rattle.machine.specs.Runs.{View}
use Rattle.machine.specs.Jobs as jobs
pub use Rattle.machine.specs.Jobs.{Call, step_call, begin_call, lookup_call, is_step, is_fetch, fetch_by, is_completion, is_complete, worker_of, kind_of}
use Rattle.graph.specs.Lookup.{lent_of, judge_answer}
use Rattle.rules.specs.Memory.{Mem}
use Rattle.rules.specs.Steps.{step}
use Rattle.rules.specs.Begin.{begin}
pub use Rattle.views.specs.Graphs.{KeptBy}

-- what begin and the steps answer and leave, and the judging call of a lookup
abbrev pub plain_calls : jobs.Engine Mem
plain_calls =
    record {
      step_says = λ limits p k i s m. step_says (step limits p k i s m).answer;
      step_leaves = λ limits p k i s m. (step limits p k i s m).memory;
      begin_says = λ limits p k m. answer_says (begin limits p k m).answer;
      begin_leaves = λ limits p k m. (begin limits p k m).memory;
      lookup_says = λ side t m. answer_says (judge_answer side (lent_of m.weights m.pred_starts m.preds m.succ_starts m.succs) t);
    }

abbrev pub says : Call → Mem → Said
says = jobs.says plain_calls

abbrev pub leaves : Call → Mem → Mem
leaves = jobs.leaves plain_calls

-- the machine of these calls: no step is taken back
abbrev pub plain : Machine Mem Call
plain = jobs.machine_of plain_calls

-- Lists of these calls, as of any machine's (`crates/machine/specs/Machine.antt`).

-- a call and its answer
abbrev pub Event : Type 0
Event = machine.Event Call

abbrev pub event_of : Call → Mem → Event
event_of = machine.event_of plain

-- the event is an accepted begin
abbrev pub began : Event → Bool
began = machine.began plain

-- the memory after a list of calls
abbrev pub memory_after : List Call → Mem → Mem
memory_after = machine.memory_after plain

-- the events of the run so far, the latest first: "a further accepted begin starts another run"
abbrev pub recalled : Event → List Event → List Event
recalled = machine.recalled plain

-- after a list of calls, `past` being what came before it
abbrev pub events_after : List Call → Mem → List Event → List Event
events_after = machine.events_after plain

-- how many of the calls are accepted begins
abbrev pub begins : List Call → Mem → ℕ
begins = machine.begins plain

-- the memory that begin leaves, and that after the run's calls
abbrev pub begun_memory : Limits → ℕ → ℕ → Mem → Mem
begun_memory limits p k m = (begin limits p k m).memory

abbrev pub reached : Limits → ℕ → ℕ → Mem → List Call → Mem
reached limits p k m cs = memory_after cs (begun_memory limits p k m)

-- an accepted begin on any memory, with any P and K, and the calls after it
abbrev pub Run : Type 0
Run = jobs.Run plain_calls

-- the memory after the run's calls
abbrev pub memory_of : Run → Mem
memory_of r = reached r.limits r.workers r.slots r.lent r.calls

-- the calls of the run that then goes on, with their answers, the latest first: those since the last accepted begin
abbrev pub events_of : Run → List Event
events_of r = events_after r.calls (begun_memory r.limits r.workers r.slots r.lent) []

-- what the run shows, of which the promises speak
abbrev pub view_of : Run → View Mem Call
view_of = jobs.view_of plain_calls

-- the run with further calls
abbrev pub longer : Run → List Call → Run
longer r further = jobs.longer plain_calls r further
