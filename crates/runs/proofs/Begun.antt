-- What an accepted begin leaves, read as a state of Algorithm 1 and of the system of runs.
use Prim.Native.Nat.{ℕ, ◌<◌}
use mathlib.Core.Path.{◌≡◌, refl, sym, ap, ◌∙◌}
use mathlib.Core.List.{List, []}
use native.Mathlib.Omega.{arith}
use native.Mathlib.Decide.{ℕ_discrete, dec_lt}
use lib.ListN.{length, get_or, get_or-eq_default}
use lib.Dec.{leb}
use Rattle.lists.specs.Lists.{occ, tabulate, all_of}
use Rattle.lists.proofs.Apart.{unequal}
use Rattle.lists.proofs.Blocks.{length-tabulate, joined-only, occ-all}
use Rattle.lists.proofs.Decided.{tally-le-one}
use Rattle.lists.proofs.Occurrences.{occ-nil}
use Rattle.lists.proofs.Told.{cond_either}
use Rattle.lists.proofs.Sums.{sum_same, sum_of-nil}
use Rattle.task.specs.Refusals.{answer_says, accepted}
use Rattle.task.specs.declared.Limits.{Limits}
use Rattle.task.specs.declared.Row.{Row}
use Rattle.graph.specs.Graph.{Graph, part}
use Rattle.graph.specs.Conditions.{Sound}
use Rattle.graph.specs.Successors.{succs_of, succ_starts_of, degree_list, roots}
use Rattle.graph.proofs.Accepted.{fits-sound}
use Rattle.graph.proofs.Reversed.{reversed-all, succs-none, degree-read, occ-roots, succ-part, length-degrees}
use Rattle.plans.proofs.Dealt.{occ-dealt}
use Rattle.rules.specs.Memory.{Mem, tasks, graph_in}
use Rattle.rules.specs.Words.{places_fit}
use Rattle.rules.specs.Begin.{begin}
use Rattle.rules.specs.Begun.{roots_of, LaidDown}
use Rattle.rules.proofs.Begin.{begin-accepted}
use Rattle.rules.proofs.Begun.{laid-row, laid-run, laid-down}
use Rattle.algorithm1.specs.State.{thread_with, successors_of, queue_of, fresh, thread_of, waiting_for}
use Rattle.algorithm1.specs.Reading.{buffer_in, thread_in, record_in, successors_in, state_of}
use Rattle.algorithm1.proofs.Readings.{successors-at, queue-at, thread-at}
use Rattle.system.specs.System as system
use Rattle.runs.specs.Items.{hand_of}
use Rattle.runs.proofs.Invariant.{items_of, state-shaped, followers, pending_of, tasks_of, meaning, Buffered, Sane}

-- a job's items are all its tasks
pub all_listed : (g : Graph) (t : ℕ) → occ t (all_of g.tasks) ≡ (items_of g).want t
all_listed g t = occ-all g.tasks t

-- a sound graph's tasks are items of the system
pub items-reversed : (g : Graph) → Sound g → system.Reversed ℕ_discrete (items_of g)
items-reversed g s = record { one = λ t. tally-le-one (dec_lt t g.tasks); reverse = reversed-all g s }

-- what begin lays down in b for the graph in m, read as a state
module _ (p k : ℕ) (m b : Mem) (positive : 0 < p) (sound : Sound (graph_in m)) (laid : LaidDown p k m b) where
  -- each worker's own roots wait for it
  laid-waiting : (i : ℕ) → i < p → waiting_for p (state_of p k b) i ≡ roots_of p i m
  unfolding waiting_for
  laid-waiting i h =
      joined-only p (queue_of (state_of p k b) i) i h (λ j l n. queue-at p k b i j h l ∙ laid.empty i j h l (λ q. n (sym q)))
      ∙ queue-at p k b i i h h ∙ laid.own i h

  empty-buffer : (i : ℕ) → buffer_in b i ≡ []
  unfolding buffer_in tabulate
  empty-buffer i = rw (laid-row laid i) (cond_either (places_fit b 0 0) [])

  fresh_in : (i : ℕ) → thread_in b i ≡ fresh
  unfolding thread_in
  fresh_in i = rw (empty-buffer i) (ap (λ (r : Row). thread_with [] r.cursor r.phase r.held.0 r.pointer.0) (laid-row laid i))

  laid-thread : (i : ℕ) → thread_of (state_of p k b) i ≡ fresh
  laid-thread i = go (dec_lt i p)
    where
      go : Dec (i < p) → thread_of (state_of p k b) i ≡ fresh
      go (yes h) = thread-at p k b i h ∙ fresh_in i
      go (no n) = get_or-eq_default (state_of p k b).threads fresh {n = i} (omega (arith, (state-shaped p k b).threads))

  laid-record : (state_of p k b).executed ≡ []
  unfolding state_of record_in tabulate
  laid-record = rw (laid-run laid 0) (cond_either (leb 0 (tasks b)) [])

  degrees-laid : (state_of p k b).degrees ≡ degree_list (graph_in m)
  unfolding state_of
  degrees-laid = laid.degrees

  many : length (state_of p k b).successors ≡ tasks b
  unfolding state_of
  many = length-tabulate (tasks b) (successors_in b)

  laid-successors : (t : ℕ) → successors_of (state_of p k b) t ≡ succs_of (graph_in m) t
  laid-successors t = go (dec_lt t (tasks m))
    where
      go : Dec (t < tasks m) → successors_of (state_of p k b) t ≡ succs_of (graph_in m) t
      go (yes h) =
          successors-at p k b t (rw laid.weights h)
          ∙ ap (λ (a : List ℕ). part a b.succs t) laid.succ_starts
          ∙ ap (λ (a : List ℕ). part (succ_starts_of (graph_in m)) a t) laid.succs
          ∙ succ-part (graph_in m) t h
      go (no n) =
          get_or-eq_default (state_of p k b).successors [] {n = t} (omega (arith, many, ap length laid.weights))
          ∙ sym (succs-none (graph_in m) sound t (omega arith))

  laid-sane : Sane (graph_in m) p (state_of p k b)
  laid-sane =
      record {
        shaped = state-shaped p k b;
        degrees = ap length degrees-laid ∙ length-degrees (graph_in m);
        successors = laid-successors;
        buffers = λ i. rw (laid-thread i) fresh-buffered;
        phases = λ i. rw (laid-thread i) (omega arith);
        pointers = λ i h. rw (laid-thread i) positive;
      }
    where
      fresh-buffered : Buffered (state_of p k b) fresh
      fresh-buffered =
          record {
            each = λ t h. absurd (omega (arith, occ-nil ℕ_discrete t));
            cursor = λ t rest q. unequal cc;
            none = λ q. refl;
          }

  laid-begins : system.Begins ℕ_discrete (items_of (graph_in m)) p (meaning p 0 (state_of p k b))
  unfolding meaning hand_of pending_of followers tasks_of
  laid-begins =
      record {
        waiting = λ t. omega (
          arith,
          occ-roots (graph_in m) sound t,
          occ-dealt p positive t 0 (roots (graph_in m)),
          sum_same p (λ i. occ t (roots_of p i m)) (λ i. occ t (waiting_for p (state_of p k b) i)) (λ i h. ap (occ t) (laid-waiting i h)),
        );
        hand = λ i. ap hand_of (laid-thread i);
        pending = λ i. ap (pending_of (state_of p k b)) (laid-thread i);
        degree = λ t. ap (λ (l : List ℕ). get_or l t 0) degrees-laid ∙ degree-read (graph_in m) sound t;
        done = ap tasks_of laid-record;
        steps = refl;
        dues = rw laid-record (sum_of-nil (λ t. length (successors_of (state_of p k b) t)));
      }

module _ (limits : Limits) (p k : ℕ) (m : Mem) (e : answer_says (begin limits p k m).answer ≡ accepted) where
  positive : 0 < p
  positive = ((begin-accepted limits p k m).0 e).0.limits.one_worker

  begun-sound : Sound (graph_in m)
  begun-sound = fits-sound ((begin-accepted limits p k m).0 e).1

  pub begun-sane : Sane (graph_in m) p (state_of p k (begin limits p k m).memory)
  begun-sane = laid-sane p k m (begin limits p k m).memory positive begun-sound (laid-down limits p k m e)

  -- the roots wait, the other tasks are blocked, and nothing is done
  pub begun-begins : system.Begins ℕ_discrete (items_of (graph_in m)) p (meaning p 0 (state_of p k (begin limits p k m).memory))
  begun-begins = laid-begins p k m (begin limits p k m).memory positive begun-sound (laid-down limits p k m e)
