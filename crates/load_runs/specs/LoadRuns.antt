-- Load windows after every list of a run's calls: the call is lent the run's weights, record and run words, and begin's P.
use Rattle.std.specs.Prelude.{ℕ, ◌+◌, ◌*◌, ◌≤◌, ◌<◌, ◌≡◌, cond, List, length, get_or, take, drop, eqb}
use Rattle.lists.specs.Sums.{sum_to, sum_of}
use Rattle.task.specs.Types.{capped}
use Rattle.task.specs.Entries.{Entry}
use Rattle.task.specs.Refusals.{refused, accepted, damaged, answer_says}
use Rattle.task.specs.declared.Limits.{Limits}
use Rattle.rules.specs.Memory.{Mem, tasks, weight_in}
use Rattle.loads.specs.Windows.{window_count, Shown, window_loads}
use Rattle.runs.specs.Calls.{Call, View}
use Rattle.runs.specs.Demand.{accepted_completes, Finished}
use Rattle.runs.specs.RunWords.{entries_of}

abbrev pub windows_in : Limits → View Mem Call → (m : ℕ) → (results : List ℕ) → Shown
windows_in limits v m results = window_loads limits v.workers m v.memory.weights v.memory.executed v.memory.run results

-- what an entry, that of an accepted Complete (`entries_of`), adds to the weight that worker i finished
unfoldable pub finished_in : Mem → ℕ → Entry ℕ → ℕ
finished_in m i e = cond (eqb e.worker i) (weight_in m e.item) 0

-- PROMISE, of what every run shows (`load-runs`): "entries recorded" are the accepted Completes: a call for load windows is never answered 8, is
-- accepted with limits, an m and a length that suit, shows in each word what the Completes of its window finished, and of a finished run the whole
-- weight
pub record LoadRuns (v : View Mem Call) : Type 0 where
  -- no recorded word is damaged, whatever the limits, m and the result list
  pub undamaged : (limits : Limits) (m : ℕ) (results : List ℕ) (d : ℕ)
      → ¬ (answer_says (windows_in limits v m results).answer ≡ refused damaged d)
  -- with limits that N and P keep, whatever they say of E and K, an m and a length that suit are accepted
  pub accepts : (limits : Limits) → tasks v.lent ≤ (capped limits).tasks → v.workers ≤ (capped limits).workers
      → (m : ℕ) (results : List ℕ) → 1 ≤ m → m ≤ accepted_completes v.events
      → length results ≡ window_count (accepted_completes v.events) m * (v.workers + 1)
      → answer_says (windows_in limits v m results).answer ≡ accepted
  -- the words of an accepted call told from the run's calls: "the weight each worker finished" with the m Completes from number w on
  pub loads : (limits : Limits) (m : ℕ) (results : List ℕ) → answer_says (windows_in limits v m results).answer ≡ accepted
      → (w i : ℕ) → w + m ≤ accepted_completes v.events → i < v.workers
      → get_or (windows_in limits v m results).results (w * (v.workers + 1) + i) 0
      ≡ sum_of (finished_in v.lent i) (take m (drop w (entries_of v.events)))
  -- of a finished run the one window of all N entries has sums that add up to the graph's whole weight; with N 0 nothing is said: m 0 is refused
  pub total : Finished v → (limits : Limits) (results : List ℕ)
      → answer_says (windows_in limits v (tasks v.lent) results).answer ≡ accepted
      → sum_to v.workers (λ i. get_or (windows_in limits v (tasks v.lent) results).results i 0) ≡ sum_to (tasks v.lent) (weight_in v.lent)
