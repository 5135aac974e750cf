-- Where a weak run's copies stand.
use Rattle.std.specs.Prelude.{◌<◌}
use Rattle.machine.specs.Runs.{View}
use Rattle.copies.specs.Copies.{same_copy, is_copy}
use Rattle.runs.specs.OnePlace.{StandsOnce}
use Rattle.weak_rules.specs.Memory.{Mem, graph_in}
use Rattle.weak_runs.specs.Calls.{Call}
use Rattle.weak_runs.specs.Demand.{copy_words}

-- PROMISE: after every list of a run's calls each copy stands at most once in rings, hands and record together, and only copies of the graph that begin was
-- lent stand there
abbrev pub OnePlace : View Mem Call → Type 0
OnePlace v = StandsOnce same_copy copy_words v.workers v.slots v.memory (λ c. 0 < is_copy (graph_in v.lent) c)
