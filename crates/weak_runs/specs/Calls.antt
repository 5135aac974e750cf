-- A weak job's runs: lists of its calls (`crates/machine/specs/Jobs.antt`) from an accepted begin on. "A job may be begun weak as a whole, with calls of
-- its own." The lookup is the plain one, on the same tables.
use Rattle.std.specs.Prelude.{ℕ, ◌+◌, List, length}
use Rattle.task.specs.Refusals.{Said, answer_says}
use Rattle.machine.specs.Machine.{Machine}
use Rattle.machine.specs.Machine as machine
pub use Rattle.machine.specs.Runs.{View}
use Rattle.machine.specs.Jobs as jobs
pub use Rattle.machine.specs.Jobs.{Call, step_call, begin_call, lookup_call, is_step, is_fetch, fetch_by, is_complete, worker_of, accepted_steps, accepted_completes}
use Rattle.graph.specs.Graph.{Graph}
use Rattle.graph.specs.Lookup.{lent_of, judge_answer}
use Rattle.graph.specs.Successors.{roots}
use Rattle.weak_task.specs.Says.{step_says}
use Rattle.weak_rules.specs.Memory.{Mem, edges, graph_in}
use Rattle.weak_rules.specs.Steps.{step}
use Rattle.weak_rules.specs.Begin.{begin}
pub use Rattle.views.specs.Graphs.{KeptBy}

-- what begin and the steps answer and leave, and the judging call of a lookup
abbrev pub weak_calls : jobs.Engine Mem
weak_calls =
    record {
      step_says = λ limits p k i s m. step_says (step limits p k i s m).answer;
      step_leaves = λ limits p k i s m. (step limits p k i s m).memory;
      begin_says = λ limits p k m. answer_says (begin limits p k m).answer;
      begin_leaves = λ limits p k m. (begin limits p k m).memory;
      lookup_says = λ side t m. answer_says (judge_answer side (lent_of m.weights m.pred_starts m.preds m.succ_starts m.succs) t);
    }

abbrev pub weak : Machine Mem Call
weak = jobs.machine_of weak_calls

abbrev pub says : Call → Mem → Said
says = jobs.says weak_calls

abbrev pub leaves : Call → Mem → Mem
leaves = jobs.leaves weak_calls

abbrev pub Event : Type 0
Event = machine.Event Call

-- the memory after a list of calls
abbrev pub memory_after : List Call → Mem → Mem
memory_after = machine.memory_after weak

-- an accepted begin on any memory, with any P and K, and the calls after it
abbrev pub Run : Type 0
Run = jobs.Run weak_calls

-- the memory after the run's calls
abbrev pub memory_of : Run → Mem
memory_of = jobs.memory_of weak_calls

-- the calls of the run that then goes on, with their answers, the latest first
abbrev pub events_of : Run → List Event
events_of = jobs.events_of weak_calls

abbrev pub longer : Run → List Call → Run
longer = jobs.longer weak_calls

-- what the run shows, of which the promises speak
abbrev pub view_of : Run → View Mem Call
view_of = jobs.view_of weak_calls

-- the graph that begin was lent, and how many roots and copies it has: "With R roots", "E + R copies used"
abbrev pub graph_of : View Mem Call → Graph
graph_of v = graph_in v.lent

abbrev pub roots_of : View Mem Call → ℕ
roots_of v = length (roots (graph_of v))

abbrev pub copies_in : View Mem Call → ℕ
copies_in v = edges v.lent + roots_of v
