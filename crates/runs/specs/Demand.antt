-- Demand 3, one claim about whole lists of a run's calls. What is counted is counted from the calls and their answers; the record is the lent words.
use Rattle.std.specs.Prelude.{ℕ, ◌+◌, ◌*◌, ◌≤◌, ◌<◌, ◌≡◌, List, get_or}
use Rattle.std.proofs.Math.Decide.{ℕ_discrete}
use Rattle.lists.specs.Lists.{tabulate}
use Rattle.task.specs.Types.{nil}
use Rattle.task.specs.Refusals.{Said, step_says}
use Rattle.task.specs.Rows.{Acceptance}
use Rattle.task.specs.declared.Limits.{Limits}
use Rattle.task.specs.declared.Step.{Step}
unfoldable pub use Rattle.machine.specs.Machine.{accepted_of}
pub use Rattle.machine.specs.Jobs.{accepted_steps, accepted_completes}
use Rattle.graph.specs.Graph.{Edge}
use Rattle.exchange.specs.Exchange.{Allows}
use Rattle.exchange.specs.Pairs.{each_once, TaskExchanges}
use Rattle.rules.specs.Memory.{Mem, tasks, edges, graph_in, accepted_in}
use Rattle.rules.specs.Steps.{step}
pub use Rattle.views.specs.Graphs.{Agree, OneGraph}
use Rattle.views.specs.Finishing as finishing
use Rattle.runs.specs.Calls.{Call, step_call, begin_call, plain, View, KeptBy, Run, view_of}

-- "The run is finished once N of its Completes are accepted"
pub record Finished (v : View Mem Call) : Type 0 where
  pub completes : tasks v.lent ≤ accepted_completes v.events

-- the record's lent words: pair x is (task, worker), NIL where there is no such word
abbrev pub task_word : Mem → ℕ → ℕ
task_word m x = get_or m.executed (2 * x) nil.0

abbrev pub worker_word : Mem → ℕ → ℕ
worker_word m x = get_or m.executed (2 * x + 1) nil.0

-- the run's task order: the tasks of the first N pairs of the record
unfoldable pub order_of : View Mem Call → List ℕ
order_of v = tabulate (tasks v.lent) (task_word v.memory)

-- "It allows a list that holds each of the N tasks once, after all its predecessors.": the graph in the tables that begin was lent
abbrev pub AllowedOrder : Mem → List ℕ → Type 0
AllowedOrder m l = Allows ℕ_discrete (each_once (tasks m)) (Edge (graph_in m)) l

-- what the rules would answer next to a worker's step with these limits and begin's P and K
abbrev pub next_says : Limits → View Mem Call → ℕ → Step → Said
next_says limits v i s = step_says (step limits v.workers v.slots i s v.memory).answer

-- one run, after its list of calls
pub record OneRun (v : View Mem Call) : Type 0 where
  -- "with N tasks and E edges a finished run has exactly 3N + E accepted steps"
  pub steps : Finished v → accepted_steps v.events ≡ 3 * tasks v.lent + edges v.lent
  -- so says the lent word, and on the way too: "After every list of a run's calls the accepted word is the number of its accepted steps"; "an accepted
  -- word that is invented (one per step, 3N+E in demand 3)" is to be rejected
  pub word : accepted_in v.memory ≡ accepted_steps v.events
  pub full : Finished v → accepted_in v.memory ≡ 3 * tasks v.lent + edges v.lent
  -- "and a record that holds every task once, after all its predecessors", each beside one of the workers
  pub order : Finished v → AllowedOrder v.lent (order_of v)
  pub named : Finished v → (x : ℕ) → x < tasks v.lent → worker_word v.memory x < v.workers
  -- "and in an unfinished one some worker has a step that would be accepted next"
  pub next : ¬ (Finished v)
      → (i : ℕ) × (s : Step) × (i < v.workers) × Acceptance (next_says v.limits v i s)
  -- and so with all limits that the run keeps: begin's (`begun-within`), the engine's whatever begin's are (`engine-kept`), and others
  pub next_by : ¬ (Finished v) → (limits : Limits) → KeptBy limits v
      → (i : ℕ) × (s : Step) × (i < v.workers) × Acceptance (next_says limits v i s)

-- "Two runs are of one graph if N and the edges agree.": `OneGraph` (`crates/views/specs/Graphs.antt`)
-- "the records differ only in the order of tasks and the workers named: one task order becomes the other by exchanging neighbours that the graph
-- doesn't order, one exchange for each pair that the two order differently, every list on the way being an order the graph allows"
abbrev pub Exchanges : View Mem Call → View Mem Call → Type 0
Exchanges v v' = TaskExchanges (tasks v.lent) (Edge (graph_in v.lent)) (order_of v) (order_of v')

-- PROMISE: demand 3
pub record Demand3 : Type 0 where
  -- "For every list of calls from an accepted begin on"
  pub one : (r : Run) → OneRun (view_of r)
  -- "For every two such lists whose finished runs are of one graph, whatever worker counts and queue lengths were accepted"
  pub two : (r r' : Run) → OneGraph (view_of r) (view_of r') → Finished (view_of r) → Finished (view_of r') → Exchanges (view_of r) (view_of r')

-- PROMISE: beside "in an unfinished one some worker has a step that would be accepted next": such steps lead to the end. From every run some further
-- steps finish it, all of them with the same limits, whichever the run keeps.
abbrev pub CanFinish : Limits → Run → Type 0
CanFinish = finishing.CanFinish plain begin_call step_call view_of Finished
