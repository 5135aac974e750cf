-- PROMISE: demand 3: a finished run has 3N + E accepted steps and a record that the graph allows, in an unfinished run some step is accepted next, and the
-- records of two finished runs of one graph are joined by exchanges.
use Prim.Native.Nat.{ℕ, ◌+◌, ◌*◌, ◌≤◌, ◌<◌}
use mathlib.Core.Path.{◌≡◌, refl, sym, ap, ◌∙◌}
use mathlib.Core.List.{List, [], ◌∷◌}
use native.Mathlib.Omega.{arith}
use native.Mathlib.Decide.{ℕ_discrete, dec_lt}
use lib.ListN.{length}
use Rattle.lists.specs.Lists.{occ, tabulate, all_of}
use Rattle.lists.proofs.Blocks.{is-tabulate, length-all}
use Rattle.lists.proofs.Decided.{stable, tally-yes, tally-pos}
use Rattle.lists.proofs.Occurrences.{occ-hit}
use Rattle.lists.proofs.Sums.{sum-prefix}
use Rattle.task.specs.Types.{nil}
use Rattle.task.specs.Rows.{Acceptance}
use Rattle.task.specs.declared.Limits.{Limits}
use Rattle.task.specs.declared.Step.{Step}
use Rattle.task.specs.declared.Step.TheVariants.{Fetch, Start, Complete, Release}
use Rattle.graph.specs.Graph.{Graph, Edge}
use Rattle.graph.specs.Conditions.{Sound}
use Rattle.graph.proofs.Accepted.{rank, rank_rises, fits-sound}
use Rattle.graph.proofs.Parts.{edge_of, few-preds}
use Rattle.graph.proofs.Reversed.{all_edges}
use Rattle.exchange.specs.Exchange.{Allows}
use Rattle.exchange.specs.Pairs.{each_once}
use Rattle.exchange.proofs.Theorem.{exchange-tasks}
use Rattle.rules.specs.Memory.{Mem, tasks, edges, graph_in, degree_in, entries_in, accepted_in}
use Rattle.algorithm1.specs.State.{State, thread_of, waiting_for}
use Rattle.algorithm1.specs.Reading.{record_in, state_of}
use Rattle.algorithm1.proofs.Readings.{degree-at, phase-at}
use Rattle.system.specs.Stages.{Hand, idle, running, in_hand}
use Rattle.system.specs.System as system
use Rattle.system.specs.System.{Ready, to_start, to_complete, to_fetch, to_release}
use Rattle.system.proofs.Counting.{held-few}
use Rattle.system.proofs.Finished.{finished-record}
use Rattle.system.proofs.Plain.{Plain, reached-plain, plain-steps, plain-below}
use Rattle.system.proofs.Rules.{reached-few}
use Rattle.system.proofs.Progress.{progress, held-wanted, waiting-wanted, pending-blocked}
use Rattle.runs.specs.Calls.{Run, KeptBy, memory_of, view_of}
use Rattle.runs.specs.Items.{hand_of}
use Rattle.runs.specs.Demand.{Finished, task_word, order_of, AllowedOrder, next_says, OneRun, Agree, OneGraph, Exchanges, Demand3}
use Rattle.runs.specs.Corollaries.{HoldingOpen}
use Rattle.runs.proofs.Invariant.{items_of, pending_of, meaning}
use Rattle.runs.proofs.Calls.{graph-reached, tasks-reached, edges-reached, begun-within}
use Rattle.runs.proofs.Begun.{all_listed, items-reversed}
use Rattle.runs.proofs.Hands.{hand-holds}
use Rattle.runs.proofs.Meaning.{length-tasks}
use Rattle.runs.proofs.Events.{length-record, record-words, recorded-workers, entries-word, accepted-word}
use Rattle.runs.proofs.Honest.{system_in, Honest, honest-invariant, honest-under, honest-run}
use Rattle.runs.proofs.Live.{start-live, complete-live, fetch-live}
use Rattle.runs.proofs.LiveRelease.{release_live}

allowed-as : {g g' : Graph} {l l' : List ℕ} → g' ≡ g → l' ≡ l → Allows ℕ_discrete (each_once g.tasks) (Edge g) l
    → Allows ℕ_discrete (each_once g'.tasks) (Edge g') l'
allowed-as e q a = rw (e, q) a

-- the memory after a run's calls
module _ (r : Run) where
  abbrev p : ℕ
  p = r.workers

  abbrev k : ℕ
  k = r.slots

  abbrev now : Mem
  now = memory_of r

  abbrev state : State
  state = state_of p k now

  abbrev graph : Graph
  graph = graph_in now

  pub run_sound : Sound graph
  run_sound = fits-sound (honest-run r).graph

  laws : system.Reversed ℕ_discrete (items_of graph)
  laws = items-reversed graph run_sound

  pub invariant-run : system.Invariant ℕ_discrete (items_of graph) p (system_in p k now)
  invariant-run = honest-invariant (honest-run r)

  plain-run : Plain ℕ_discrete (items_of graph) p (system_in p k now)
  plain-run = reached-plain ℕ_discrete (items_of graph) p laws (honest-run r).plain

  -- the tasks recorded, and the same from the lent words
  abbrev pub recorded : List ℕ
  recorded = (system_in p k now).stages.done

  pub recorded-length : length recorded ≡ entries_in now
  unfolding meaning state_of
  recorded-length = length-tasks (record_in now) ∙ length-record r

  pub recorded-words : recorded ≡ tabulate (entries_in now) (task_word now)
  unfolding meaning state_of
  recorded-words = is-tabulate (entries_in now) (task_word now) nil.0 recorded recorded-length (λ x h. sym (record-words r x h))

  is-task : (t : ℕ) → (items_of graph).want t ≡ 1 → t < tasks now
  is-task t e = tally-pos (dec_lt t (tasks now)) (omega (arith, e))

  -- what runs and what waits are tasks; what is to be released is one whose degree is in its range
  pub held-task : (i a : ℕ) → i < p → in_hand (hand_of (thread_of state i)) ≡ a ∷ [] → a < tasks now
  unfolding meaning
  held-task i a worker hand =
      is-task a
      (held-wanted ℕ_discrete (items_of graph) laws p {s = system_in p k now} invariant-run i a worker
      (omega (arith, ap (λ (x : List ℕ). occ a x) hand, occ-hit ℕ_discrete a a [] refl)))

  pub running-task : (i a : ℕ) → i < p → hand_of (thread_of state i) ≡ running a → a < tasks now
  running-task i a worker hand = held-task i a worker (ap (λ (x : Hand ℕ). in_hand x) hand)

  pub waiting-task : (i : ℕ) → i < p → (t : ℕ) → 0 < occ t (waiting_for p state i) → t < tasks now
  unfolding meaning
  waiting-task i worker t m =
      is-task t (waiting-wanted ℕ_discrete (items_of graph) laws p {s = system_in p k now} invariant-run i t worker m)

  pub pending-task : (i x : ℕ) (rest : List ℕ) → i < p → pending_of state (thread_of state i) ≡ x ∷ rest
      → (x < tasks now) × (1 ≤ degree_in now x) × (degree_in now x ≤ tasks now)
  unfolding meaning
  pending-task i x rest worker pending =
      let (wanted, blocked) = pending-blocked ℕ_discrete (items_of graph) laws p {s = system_in p k now} invariant-run i x rest worker pending in (
        is-task x wanted,
        omega (arith, blocked, degree-at p k now x),
        omega (arith, reached-few ℕ_discrete (items_of graph) p laws (system.all_due (items_of graph)) (honest-run r).plain x, degree-at p k now x, few-preds (honest-run r).graph.graph x (is-task x wanted)),
      )

  -- While a worker holds a task, an entry is free for it: in memory begun and stepped by the engine Complete never meets 12.
  pub holding-open : HoldingOpen (view_of r)
  unfolding meaning
  holding-open i worker busy =
      omega (
        arith,
        held-few ℕ_discrete (items_of graph) p (all_of (tasks now)) (all_listed graph) {s = system_in p k now} invariant-run,
        sum-prefix p (λ j. length (in_hand (hand_of (thread_of state j)))) i worker,
        ap length (hand-holds (thread_of state i) (λ e. busy (sym (phase-at p k now i worker) ∙ e))),
        recorded-length,
        length-all (tasks now),
      )

  -- all N tasks are recorded
  module _ (full : entries_in now ≡ tasks now) where
    pub all-recorded : length recorded ≡ length (all_of (tasks now))
    all-recorded = omega (arith, recorded-length, full, length-all (tasks now))

    finished-allowed : Allows ℕ_discrete (each_once (tasks now)) (Edge graph) recorded
    finished-allowed =
        record {
          once = once;
          after = λ u t e. invariant-run.order u t e.predecessor (omega (arith, once t, tally-yes (dec_lt t (tasks now)) e.task));
        }
      where
        once : (t : ℕ) → occ t recorded ≡ each_once (tasks now) t
        once =
            finished-record ℕ_discrete (items_of graph) p (all_of (tasks now)) (all_listed graph) {s = system_in p k now} invariant-run all-recorded

    pub finished-count : accepted_in now ≡ 3 * tasks now + edges now
    unfolding meaning
    finished-count =
        omega (
          arith,
          plain-steps ℕ_discrete (items_of graph) p (all_of (tasks now)) (all_listed graph) {s = system_in p k now} invariant-run plain-run all-recorded,
          length-all (tasks now),
          all_edges graph run_sound,
        )

  -- a task isn't recorded yet
  module _ (free : entries_in now < tasks now) where
    some-missing : length recorded < length (all_of (tasks now))
    some-missing = omega (arith, recorded-length, free, length-all (tasks now))

    pub low : accepted_in now < 3 * tasks now + edges now
    unfolding meaning
    low =
        omega (
          arith,
          plain-below ℕ_discrete (items_of graph) p (all_of (tasks now)) (all_listed graph) {s = system_in p k now} invariant-run plain-run some-missing,
          length-all (tasks now),
          all_edges graph run_sound,
        )

    -- some worker has something to do
    ready : Ready p (system_in p k now)
    ready =
        progress ℕ_discrete (items_of graph) laws p (rank graph)
        (λ u t h. rank_rises graph (honest-run r).graph.graph u t (edge_of run_sound u t h))
        (λ u t h. tally-yes (dec_lt u (tasks now)) ((run_sound.good t (edge_of run_sound u t h).task).below u h))
        (all_of (tasks now)) (all_listed graph) (system_in p k now) invariant-run some-missing

    -- so one of the four steps is accepted, with all limits that the run keeps
    accepted-next : (limits : Limits) → KeptBy limits (view_of r) → (i : ℕ) × (s : Step) × (i < p) × Acceptance (next_says limits (view_of r) i s)
    unfolding meaning
    accepted-next limits within = go ready
      where
        Accepts : ℕ → Step → Type 0
        Accepts i s = Acceptance (next_says limits (view_of r) i s)

        h : Honest limits p k now
        h = honest-under r limits within

        release : (i x : ℕ) (rest : List ℕ) → i < p → pending_of state (thread_of state i) ≡ x ∷ rest → hand_of (thread_of state i) ≡ idle
            → ((o : ℕ) → o < p → waiting_for p state o ≡ []) → Accepts i Release
        release i x rest worker pending hand none =
            let (below, positive, few) = pending-task i x rest worker pending in
            release_live h i worker low x rest hand pending below positive few none

        go : Ready p (system_in p k now) → (i : ℕ) × (s : Step) × (i < p) × Accepts i s
        go (to_start i a worker hand) = (i, Start, worker, start-live h i worker low a hand)
        go (to_complete i a worker hand) = (i, Complete, worker, complete-live h i worker low free a (running-task i a worker hand) hand)
        go (to_fetch i worker hands some) = (i, Fetch, worker, fetch-live h i worker low (hands i worker) some (waiting-task i worker))
        go (to_release i x rest worker pending hands none) = (i, Release, worker, release i x rest worker pending (hands i worker) none)

module _ (r : Run) where
  -- "The run is finished once N of its Completes are accepted": then the record is full
  pub finished-full : Finished (view_of r) → entries_in (memory_of r) ≡ tasks (memory_of r)
  finished-full f = omega (arith, f.completes, entries-word r, (honest-run r).words.entries, tasks-reached r)

  pub unfinished-free : ¬ (Finished (view_of r)) → entries_in (memory_of r) < tasks (memory_of r)
  unfinished-free n =
      stable (dec_lt (entries_in (memory_of r)) (tasks (memory_of r)))
      (λ m. n (record { completes = omega (arith, m, entries-word r, tasks-reached r) }))

  pub finished-order : Finished (view_of r) → AllowedOrder r.lent (order_of (view_of r))
  unfolding order_of
  finished-order f = allowed-as (sym (graph-reached r)) order_is (finished-allowed r (finished-full f))
    where
      order_is : tabulate (tasks r.lent) (task_word (memory_of r)) ≡ recorded r
      order_is = ap (λ (n : ℕ). tabulate n (task_word (memory_of r))) (sym (finished-full f ∙ tasks-reached r)) ∙ sym (recorded-words r)

-- what one graph allows the same graph in other tables allows
pub order-agreed : {m m' : Mem} {l : List ℕ} → Agree m m' → AllowedOrder m' l → AllowedOrder m l
order-agreed o a =
    record {
      once = λ t. a.once t ∙ ap (λ (n : ℕ). each_once n t) (sym o.same_tasks);
      after = λ u t e. a.after u t ((o.same_edges u t).0 e);
    }

two_runs : (r r' : Run) → OneGraph (view_of r) (view_of r') → Finished (view_of r) → Finished (view_of r') → Exchanges (view_of r) (view_of r')
two_runs r r' o f f' =
    exchange-tasks (tasks r.lent) (Edge (graph_in r.lent)) (order_of (view_of r)) (order_of (view_of r')) (finished-order r f) (order-agreed o (finished-order r' f'))

one-run : (r : Run) → OneRun (view_of r)
one-run r =
    record {
      steps = λ f. omega (arith, accepted-word r, finished-count r (finished-full r f), tasks-reached r, edges-reached r);
      word = accepted-word r;
      full = λ f. omega (arith, finished-count r (finished-full r f), tasks-reached r, edges-reached r);
      order = finished-order r;
      named = λ f x h. recorded-workers r x (omega (arith, h, f.completes));
      next = λ n. accepted-next r (unfinished-free r n) r.limits (begun-within r);
      next_by = λ n. accepted-next r (unfinished-free r n);
    }

pub demand-3 : Demand3
demand-3 = record { one = one-run; two = two_runs }
