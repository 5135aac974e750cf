-- Demand 3 of weak jobs, one claim about whole lists of a run's calls: "With R roots a run has 4E + 3R accepted steps. Demand 3 then speaks of copies, each
-- recorded once: a copy stays behind all copies of its predecessor, and copies of one task may pass each other." What is counted is counted from
-- the calls and their answers; the record is the lent words.
use Rattle.std.specs.Prelude.{ℕ, ◌+◌, ◌*◌, ◌≤◌, ◌<◌, ◌≡◌, List, get_or}
use Rattle.lists.specs.Lists.{tabulate}
use Rattle.task.specs.Types.{nil}
use Rattle.task.specs.Refusals.{Said}
use Rattle.task.specs.Rows.{Acceptance}
use Rattle.task.specs.declared.Limits.{Limits}
use Rattle.task.specs.declared.Step.{Step}
use Rattle.exchange.specs.Exchange.{Allows}
use Rattle.copies.specs.Copies.{Copy, copy, same_copy, is_copy, Before, CopyExchanges}
use Rattle.weak_task.specs.Says.{step_says}
use Rattle.weak_rules.specs.Memory.{Mem, edges, graph_in, accepted_in}
use Rattle.weak_rules.specs.Steps.{step}
pub use Rattle.views.specs.Graphs.{Agree, OneGraph}
use Rattle.views.specs.Finishing as finishing
use Rattle.weak_runs.specs.Calls.{Call, step_call, begin_call, accepted_steps, accepted_completes, weak, View, KeptBy, Run, view_of, graph_of, roots_of, copies_in}

-- "12, the finish and the limits .. follow these counts": finished once E + R of its Completes are accepted
pub record Finished (v : View Mem Call) : Type 0 where
  pub completes : copies_in v ≤ accepted_completes v.events

-- the record's lent words: triple x is (task, predecessor, worker), NIL where there is no such word
abbrev pub copy_words : Mem → ℕ → Copy
copy_words m x = copy (get_or m.executed (3 * x) nil.0) (get_or m.executed (3 * x + 1) nil.0)

abbrev pub worker_word : Mem → ℕ → ℕ
worker_word m x = get_or m.executed (3 * x + 2) nil.0

-- the run's order of copies: those of the first E + R triples of the record
unfoldable pub order_of : View Mem Call → List Copy
order_of v = tabulate (copies_in v) (copy_words v.memory)

-- a list that holds each copy of the graph once and no other, each behind all copies of its predecessor
abbrev pub AllowedOrder : Mem → List Copy → Type 0
AllowedOrder m l = Allows same_copy (is_copy (graph_in m)) (Before (graph_in m)) l

-- what the rules would answer next to a worker's step with these limits and begin's P and K
abbrev pub next_says : Limits → View Mem Call → ℕ → Step → Said
next_says limits v i s = step_says (step limits v.workers v.slots i s v.memory).answer

-- one run, after its list of calls
pub record OneRun (v : View Mem Call) : Type 0 where
  -- "With R roots a run has 4E + 3R accepted steps."
  pub steps : Finished v → accepted_steps v.events ≡ 4 * edges v.lent + 3 * roots_of v
  -- so says the lent word, and on the way too
  pub word : accepted_in v.memory ≡ accepted_steps v.events
  pub full : Finished v → accepted_in v.memory ≡ 4 * edges v.lent + 3 * roots_of v
  -- "copies, each recorded once: a copy stays behind all copies of its predecessor", each beside one of the workers
  pub order : Finished v → AllowedOrder v.lent (order_of v)
  pub named : Finished v → (x : ℕ) → x < copies_in v → worker_word v.memory x < v.workers
  -- "and in an unfinished one some worker has a step that would be accepted next"
  pub next : ¬ (Finished v) → (i : ℕ) × (s : Step) × (i < v.workers) × Acceptance (next_says v.limits v i s)
  -- and so with all limits that the run keeps
  pub next_by : ¬ (Finished v) → (limits : Limits) → KeptBy limits v → (i : ℕ) × (s : Step) × (i < v.workers) × Acceptance (next_says limits v i s)

-- one order of copies becomes the other by exchanging neighbours that the graph doesn't order, one exchange for each pair of copies that the two order
-- differently, every list on the way being an order the graph allows
abbrev pub Exchanges : View Mem Call → View Mem Call → Type 0
Exchanges v v' = CopyExchanges (graph_of v) (order_of v) (order_of v')

-- PROMISE: demand 3 of weak jobs
pub record Demand3 : Type 0 where
  pub one : (r : Run) → OneRun (view_of r)
  -- "whatever worker counts and queue lengths were accepted"; "Two runs are of one graph if N and the edges agree."
  pub two : (r r' : Run) → OneGraph (view_of r) (view_of r') → Finished (view_of r) → Finished (view_of r') → Exchanges (view_of r) (view_of r')

-- PROMISE: from every run some further steps finish it, all of them with the same limits, whichever the run keeps
abbrev pub CanFinish : Limits → Run → Type 0
CanFinish = finishing.CanFinish weak begin_call step_call view_of Finished
