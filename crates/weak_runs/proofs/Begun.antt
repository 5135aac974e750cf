-- What an accepted begin of a weak job leaves, read as a state of Algorithm 1 of source document 000 and of the system of copies.
use Prim.Native.Nat.{ℕ, ◌+◌, ◌<◌}
use mathlib.Core.Path.{◌≡◌, refl, sym, ap, ◌∙◌}
use mathlib.Core.List.{List, [], map}
use native.Mathlib.Omega.{arith}
use native.Mathlib.Decide.{ℕ_discrete, dec_lt}
use lib.ListN.{length, get_or, get_or-eq_default}
use lib.Dec.{leb}
use Rattle.lists.specs.Lists.{occ, occ_of, tabulate}
use Rattle.lists.specs.Sums.{sum_to}
use Rattle.lists.proofs.Apart.{unequal}
use Rattle.lists.proofs.Blocks.{length-tabulate, joined-only}
use Rattle.lists.proofs.Decided.{tally-yes}
use Rattle.lists.proofs.Occurrences.{occ-nil}
use Rattle.lists.proofs.Told.{cond_either}
use Rattle.lists.proofs.Sums.{sum_same, sum-zero}
use Rattle.task.specs.Types.{nil}
use Rattle.task.specs.Refusals.{answer_says, accepted}
use Rattle.task.specs.declared.Limits.{Limits}
use Rattle.weak_task.specs.declared.WeakRow.{WeakRow}
use Rattle.graph.specs.Graph.{Graph, part, preds_of}
use Rattle.graph.specs.Conditions.{Sound}
use Rattle.graph.specs.Successors.{succs_of, succ_starts_of, roots}
use Rattle.graph.proofs.Accepted.{fits-sound}
use Rattle.graph.proofs.Reversed.{succs-none, occ-roots, succ-part}
use Rattle.memory.specs.Field as list
use Rattle.plans.proofs.Dealt.{occ-dealt}
use Rattle.weak_rules.specs.Memory.{Mem, tasks, edges, graph_in, roots_word}
use Rattle.weak_rules.specs.Words.{places_fit}
use Rattle.weak_rules.specs.Begin.{begin}
use Rattle.weak_rules.specs.Begun.{roots_of, root_copies_of, LaidDown}
use Rattle.weak_rules.proofs.Begin.{begin-accepted}
use Rattle.weak_rules.proofs.Begun.{laid-graph, laid-row, laid-run, laid-down}
use Rattle.split_lists.specs.Items.{thread_with, degree_of, successors_of, queue_of, fresh, waiting_for}
use Rattle.split_lists.specs.Reading.{buffer_in, thread_in, successors_in}
use Rattle.system.specs.System as system
use Rattle.system.specs.System.{missing}
use Rattle.system.proofs.Records.{missing-nil}
use Rattle.copies.specs.Copies.{Copy, copy, same_copy, task_copies, copies_of, root_copies, NoneTwice}
use Rattle.copies.specs.Weak.{Weak}
use Rattle.copies.proofs.Copies.{occ-map, occ-unmade, length-copies, roots-free}
use Rattle.copies.proofs.Weak.{owed-nil}
use Rattle.runs.specs.Items.{hand_of}
use Rattle.runs.proofs.Invariant.{from-shaped, tasks_of, Shaped, Buffered}
use Rattle.weak_algorithm.specs.State.{no_item, State, thread_of}
use Rattle.weak_algorithm.specs.Reading.{record_in, state_of}
use Rattle.weak_algorithm.proofs.Readings.{degree-at, successors-at, queue-at, thread-at}
use Rattle.weak_runs.proofs.Invariant.{copies_from, pending_of, done_of, pending_in, meaning, Sane, system_in}

-- the state of any memory is shaped
pub state-shaped : (p k : ℕ) (m : Mem) → Shaped p (state_of p k m).lists
unfolding state_of
state-shaped p k m = from-shaped p k m (record_in m)

-- where the graph and the number of steps are known by other names
pub weak-as : (p : ℕ) (s : State) {g g' : Graph} {n n' : ℕ} → g' ≡ g → n' ≡ n → Weak g p (meaning g p n s) → Weak g' p (meaning g' p n' s)
weak-as p s e f w = rw (e, f) w

-- the roots' copies, dealt out to the workers, are all of them
dealt-copies : (p : ℕ) → 0 < p → (m : Mem) (c : Copy)
    → sum_to p (λ i. occ_of same_copy c (root_copies_of p i m)) ≡ occ_of same_copy c (root_copies (graph_in m))
unfolding root_copies
dealt-copies p positive m c = go (ℕ_discrete c.predecessor nil.0)
  where
    -- as often as its task is a root, if its predecessor is NIL
    own : c.predecessor ≡ nil.0 → (l : List ℕ) → occ_of same_copy c (map (λ t. copy t nil.0) l) ≡ occ c.task l
    own e l =
        ap (λ (u : ℕ). occ_of same_copy (copy c.task u) (map (λ t. copy t nil.0) l)) e
        ∙ occ-map ℕ_discrete same_copy (λ t. copy t nil.0) (λ x y q. ap (λ (c : Copy). c.task) q) c.task l

    other : ¬ (c.predecessor ≡ nil.0) → (l : List ℕ) → occ_of same_copy c (map (λ t. copy t nil.0) l) ≡ 0
    other n l = occ-unmade ℕ_discrete same_copy (λ t. copy t nil.0) c (λ x q. n (ap (λ (c : Copy). c.predecessor) q)) l

    go : Dec (c.predecessor ≡ nil.0)
        → sum_to p (λ i. occ_of same_copy c (root_copies_of p i m)) ≡ occ_of same_copy c (map (λ t. copy t nil.0) (roots (graph_in m)))
    go (yes e) =
        sum_same p (λ i. occ c.task (roots_of p i m)) (λ i. occ_of same_copy c (root_copies_of p i m)) (λ i h. own e (roots_of p i m))
        ∙ occ-dealt p positive c.task 0 (roots (graph_in m)) ∙ sym (own e (roots (graph_in m)))
    go (no n) =
        sum-zero p (λ i. occ_of same_copy c (root_copies_of p i m)) (λ i h. other n (roots_of p i m)) ∙ sym (other n (roots (graph_in m)))

-- what begin lays down in b for the graph in m, read as a state
module _ (p k : ℕ) (m b : Mem) (positive : 0 < p) (sound : Sound (graph_in m)) (once : NoneTwice (graph_in m)) (laid : LaidDown p k m b) where
  -- the copies of each worker's own roots wait for it
  laid-waiting : (i : ℕ) → i < p → waiting_for p (state_of p k b).lists i ≡ root_copies_of p i m
  unfolding waiting_for
  laid-waiting i h =
      joined-only p (queue_of (state_of p k b).lists i) i h (λ j l n. queue-at p k b i j h l ∙ laid.empty i j h l (λ q. n (sym q)))
      ∙ queue-at p k b i i h h ∙ laid.own i h

  empty-buffer : (i : ℕ) → buffer_in b i ≡ []
  unfolding buffer_in tabulate
  empty-buffer i = rw (laid-row laid i) (cond_either (places_fit b 0 0) [])

  fresh_in : (i : ℕ) → thread_in b i ≡ fresh no_item
  unfolding thread_in
  fresh_in i =
      rw (empty-buffer i)
      (ap (λ (r : WeakRow). thread_with [] r.cursor r.phase (copy r.held.task.0 r.held.predecessor.0) r.pointer.0) (laid-row laid i))

  laid-thread : (i : ℕ) → thread_of (state_of p k b) i ≡ fresh no_item
  laid-thread i = go (dec_lt i p)
    where
      go : Dec (i < p) → thread_of (state_of p k b) i ≡ fresh no_item
      go (yes h) = thread-at p k b i h ∙ fresh_in i
      go (no n) = get_or-eq_default (state_of p k b).lists.threads (fresh no_item) {n = i} (omega (arith, (state-shaped p k b).threads))

  laid-record : (state_of p k b).lists.executed ≡ []
  unfolding state_of record_in tabulate
  laid-record = rw (laid-run laid 0 (omega arith)) (cond_either (leb 0 (edges b + roots_word b)) [])

  nothing-done : done_of (state_of p k b) ≡ []
  unfolding tasks_of
  nothing-done = ap tasks_of laid-record

  nothing-pending : (i : ℕ) → pending_in (state_of p k b) i ≡ []
  unfolding pending_of copies_from
  nothing-pending i = ap (pending_of (state_of p k b).lists) (laid-thread i)

  many : length (state_of p k b).lists.successors ≡ tasks b
  unfolding state_of
  many = length-tabulate (tasks b) (successors_in b)

  laid-successors : (t : ℕ) → successors_of (state_of p k b).lists t ≡ succs_of (graph_in m) t
  laid-successors t = go (dec_lt t (tasks m))
    where
      go : Dec (t < tasks m) → successors_of (state_of p k b).lists t ≡ succs_of (graph_in m) t
      go (yes h) =
          successors-at p k b t (rw laid.weights h)
          ∙ ap (λ (a : List ℕ). part a b.succs t) laid.succ_starts
          ∙ ap (λ (a : List ℕ). part (succ_starts_of (graph_in m)) a t) laid.succs
          ∙ succ-part (graph_in m) t h
      go (no n) =
          get_or-eq_default (state_of p k b).lists.successors [] {n = t} (omega (arith, many, ap length laid.weights))
          ∙ sym (succs-none (graph_in m) sound t (omega arith))

  long-degrees : length (state_of p k b).lists.degrees ≡ tasks m
  unfolding state_of
  long-degrees = laid.lengths.list list.degrees ∙ ap length laid.weights

  long-tids : length (state_of p k b).tids ≡ tasks m
  unfolding state_of
  long-tids = laid.lengths.list list.fixed ∙ ap length laid.weights

  -- "degrees are numbers of predecessors", "a root being begun with degree 1": as many as there are copies
  laid-left : (t : ℕ) → t < tasks m → degree_of (state_of p k b).lists t ≡ missing same_copy (task_copies (graph_in m) t) (done_of (state_of p k b))
  laid-left t h = rw nothing-done (degree-at p k b t ∙ go (ℕ_discrete (length (preds_of (graph_in m) t)) 0))
    where
      go : Dec (length (preds_of (graph_in m) t) ≡ 0) → get_or b.degrees t 0 ≡ missing same_copy (task_copies (graph_in m) t) []
      go (yes e) =
          omega (
            arith,
            e,
            laid.root_degree t h e,
            missing-nil same_copy (task_copies (graph_in m) t),
            length-copies (graph_in m) t,
            occ-roots (graph_in m) sound t,
            tally-yes (dec_lt t (tasks m)) h,
          )
      go (no n) =
          omega (
            arith,
            n,
            laid.degree t h (omega (arith, n)),
            missing-nil same_copy (task_copies (graph_in m) t),
            length-copies (graph_in m) t,
            occ-roots (graph_in m) sound t,
            tally-yes (dec_lt t (tasks m)) h,
          )

  laid-sane : Sane (graph_in m) p (state_of p k b)
  laid-sane =
      record {
        shaped = state-shaped p k b;
        degrees = long-degrees;
        tids = long-tids;
        successors = laid-successors;
        buffers = λ i. rw (laid-thread i) fresh-buffered;
        phases = λ i. rw (laid-thread i) (omega arith);
        pointers = λ i h. rw (laid-thread i) positive;
        left = laid-left;
      }
    where
      fresh-buffered : Buffered (state_of p k b).lists (fresh no_item)
      fresh-buffered =
          record {
            each = λ t h. absurd (omega (arith, occ-nil ℕ_discrete t));
            cursor = λ t rest q. unequal cc;
            none = λ q. refl;
          }

  laid-begins : system.Begins same_copy (copies_of (graph_in m)) p (meaning (graph_in m) p 0 (state_of p k b))
  unfolding meaning hand_of copies_of
  laid-begins =
      record {
        waiting = λ c. omega (
          arith,
          roots-free (graph_in m) sound once c,
          dealt-copies p positive m c,
          sum_same p (λ i. occ_of same_copy c (root_copies_of p i m)) (λ i. occ_of same_copy c (waiting_for p (state_of p k b).lists i))
              (λ i h. ap (occ_of same_copy c) (laid-waiting i h)),
        );
        hand = λ i. ap hand_of (laid-thread i);
        pending = nothing-pending;
        degree = λ c. rw nothing-done (omega (
          arith,
          missing-nil same_copy ((copies_of (graph_in m)).preds c),
          sum-zero p (λ i. occ_of same_copy c (pending_in (state_of p k b) i)) (λ i h. ap (occ_of same_copy c) (nothing-pending i) ∙ occ-nil same_copy c),
        ));
        done = nothing-done;
        steps = refl;
        dues = rw nothing-done (owed-nil (graph_in m) sound);
      }

module _ (limits : Limits) (p k : ℕ) (m : Mem) (e : answer_says (begin limits p k m).answer ≡ accepted) where
  abbrev after : Mem
  after = (begin limits p k m).memory

  positive : 0 < p
  positive = ((begin-accepted limits p k m).0 e).0.limits.one_worker

  sound : Sound (graph_in m)
  sound = fits-sound ((begin-accepted limits p k m).0 e).1

  none-twice : NoneTwice (graph_in m)
  none-twice = ((begin-accepted limits p k m).0 e).1.graph.once

  laid : LaidDown p k m after
  laid = laid-down limits p k m e

  pub begun-sane : Sane (graph_in m) p (state_of p k (begin limits p k m).memory)
  begun-sane = laid-sane p k m after positive sound none-twice laid

  -- the roots' copies wait, the other copies are blocked, and nothing is done
  pub begun-begins : system.Begins same_copy (copies_of (graph_in m)) p (meaning (graph_in m) p 0 (state_of p k (begin limits p k m).memory))
  begun-begins = laid-begins p k m after positive sound none-twice laid

  -- so a weak run begins
  pub begun-weak : Weak (graph_in (begin limits p k m).memory) p (system_in p k (begin limits p k m).memory)
  begun-weak = weak-as p (state_of p k after) (laid-graph laid) (laid-run laid 1 (omega arith)) (system.begun begun-begins)
