-- What holds of the memory after every list of a weak run's calls: begin lays it down, and every accepted step keeps it.
use Prim.Native.Nat.{ℕ, suc, ◌<◌}
use mathlib.Core.Path.{◌≡◌}
use mathlib.Core.List.{List}
use Rattle.lists.proofs.Places.{place-lt}
use Rattle.task.specs.Types.{engine}
use Rattle.task.specs.Refusals.{answer_says, accepted}
use Rattle.task.specs.declared.Limits.{Limits}
use Rattle.task.specs.declared.Step.{Step}
use Rattle.graph.specs.Conditions.{Sound}
use Rattle.graph.proofs.Accepted.{fits-sound}
use Rattle.ring.specs.Ring.{capacity}
use Rattle.ring.specs.Ring as ring
use Rattle.plans.specs.Sizes.{KeepsLimits}
use Rattle.copies.specs.Copies.{NoneTwice}
use Rattle.weak_rules.specs.Memory.{Mem, tasks, edges, graph_in, ring_number, ends_in, accepted_in}
use Rattle.weak_rules.specs.Steps.{step}
use Rattle.weak_rules.specs.Begin.{begin}
use Rattle.weak_rules.specs.Begun.{LaidDown}
use Rattle.weak_rules.specs.Moves.{AcceptedStep}
use Rattle.weak_rules.proofs.Begin.{begin-accepted}
use Rattle.weak_rules.proofs.Begun.{laid-graph, laid-down, begun-reversed}
use Rattle.weak_rules.proofs.Kept.{Kept, same_graph, fits_kept}
use Rattle.weak_rules.proofs.Kept as rules
use Rattle.weak_rules.proofs.Limits.{within-engine}
use Rattle.weak_rules.proofs.Moved.{counts}
use Rattle.weak_rules.proofs.Moves.{step-accepts}
use Rattle.weak_algorithm.specs.State.{State}
use Rattle.weak_algorithm.specs.Algorithm.{Does}
use Rattle.weak_algorithm.specs.Reading.{state_of}
use Rattle.weak_algorithm.proofs.Accepted.{step-does}
use Rattle.weak_runs.specs.Calls.{Call, memory_after, Run, memory_of, KeptBy, view_of}
use Rattle.weak_runs.proofs.Invariant.{Honest}
use Rattle.weak_runs.proofs.Calls.{always, kept-now, begun-within}
use Rattle.weak_runs.proofs.Begun.{weak-as, begun-sane, begun-weak}
use Rattle.weak_runs.proofs.Steps.{does-steps, does-sane}
use Rattle.weak_runs.proofs.Words.{begun-words, step_words}
use Rattle.weak_runs.proofs.Fixed.{does-fixed, begun-fixed}
use Rattle.weak_runs.proofs.Counters.{does-adds-up}
use Rattle.weak_runs.proofs.BegunCounters.{begun-adds-up}
use Rattle.weak_runs.proofs.Bounds.{Bounded, does-bounded, begun-bounded}
use Rattle.weak_runs.proofs.Unmade.{Unmade, does-unmade, begun-unmade}

-- what is known, that no counter is beyond the weights, and that a task without copies has no worker
pub record Kept-by (limits : Limits) (p k : ℕ) (m : Mem) : Type 0 where
  pub honest : Honest limits p k m
  pub bounded : Bounded (graph_in m) p (state_of p k m)
  pub unmade : Unmade (graph_in m) p (state_of p k m)

module _ (limits : Limits) (p k : ℕ) where
  begun-honest : (m : Mem) → answer_says (begin limits p k m).answer ≡ accepted → Kept-by limits p k (begin limits p k m).memory
  begun-honest m e =
      record {
        honest =
            record {
              fits = fits_kept laid.weights laid.preds laid.lengths ((begin-accepted limits p k m).0 e).0;
              graph = rw (laid.weights, laid.pred_starts, laid.preds) ((begin-accepted limits p k m).0 e).1;
              good = λ u h. (begun-reversed limits p k m e u h).1;
              words = begun-words limits p k m e;
              sane = rw (laid-graph laid) (begun-sane limits p k m e);
              weak = begun-weak limits p k m e;
              fixed = begun-fixed limits p k m e;
              adds_up = begun-adds-up limits p k m e;
            };
        bounded = begun-bounded limits p k m e;
        unmade = begun-unmade limits p k m e;
      }
    where
      laid : LaidDown p k m (begin limits p k m).memory
      laid = laid-down limits p k m e

  module _ (m : Mem) (i : ℕ) (s : Step) (r : AcceptedStep limits p k i s m) {kept-limits : Limits} (whole : Kept-by kept-limits p k m) where
    abbrev h : Honest kept-limits p k m
    h = whole.honest

    abbrev left : Mem
    left = (step limits p k i s m).memory

    abbrev before : State
    before = state_of p k m

    abbrev after : State
    after = state_of p k left

    kept : Kept m left
    kept = rules.step_keeps limits p k i s m

    one_more : accepted_in left ≡ suc (accepted_in m)
    one_more = counts limits p k i s m (step-accepts limits p k i s m r)

    does : Does p (capacity k) i s before after r.outcome
    does = step-does limits p k i s m r

    sound : Sound (graph_in m)
    sound = fits-sound h.graph

    once : NoneTwice (graph_in m)
    once = h.graph.graph.once

    step-honest : Kept-by kept-limits p k left
    step-honest =
        record {
          honest =
              record {
                fits = fits_kept kept.graph.weights kept.graph.preds (kept.lengths p k h.fits.lengths) h.fits;
                graph = rw (kept.graph.weights, kept.graph.pred_starts, kept.graph.preds) h.graph;
                good = rw (kept.graph.weights, kept.graph.succ_starts, kept.graph.succs) h.good;
                words = step_words limits p k i s m r h.words;
                sane =
                    rw (same_graph kept.graph)
                    (does-sane (graph_in m) sound once p (capacity k) i before after r.outcome h.sane (accepted_in m) h.weak s does);
                weak =
                    weak-as p after (same_graph kept.graph) one_more
                    (does-steps (graph_in m) sound once p (capacity k) i before after r.outcome h.sane (accepted_in m) h.weak s does);
                fixed = rw (same_graph kept.graph) (does-fixed h.sane h.fixed does);
                adds_up = rw (same_graph kept.graph) (does-adds-up sound h.sane h.fixed does h.adds_up);
              };
          bounded = rw (same_graph kept.graph) (does-bounded sound h.sane h.fixed does whole.bounded);
          unmade = rw (same_graph kept.graph) (does-unmade h.sane whole.unmade does);
        }

-- it is so under all limits that N, E, P and K keep
honest-as : {limits limits' : Limits} {p k : ℕ} {m : Mem} → KeepsLimits limits' p k (tasks m) (edges m) → Kept-by limits p k m → Kept-by limits' p k m
honest-as w whole =
    record {
      honest =
          record {
            fits = record { limits = w; lengths = whole.honest.fits.lengths };
            graph =
                record {
                  tasks = w.few_tasks;
                  edges = w.few_edges;
                  light = whole.honest.graph.light;
                  lengths = whole.honest.graph.lengths;
                  graph = whole.honest.graph.graph;
                };
            good = whole.honest.good;
            words = whole.honest.words;
            sane = whole.honest.sane;
            weak = whole.honest.weak;
            fixed = whole.honest.fixed;
            adds_up = whole.honest.adds_up;
          };
      bounded = whole.bounded;
      unmade = whole.unmade;
    }

-- so it holds after every list of a run's calls, each with limits of its own, and under the engine's
honest : (limits : Limits) (p k : ℕ) (m : Mem) → answer_says (begin limits p k m).answer ≡ accepted → (cs : List Call)
    → Kept-by engine p k (memory_after cs (begin limits p k m).memory)
honest limits p k =
    always p k (Kept-by engine p k)
    (λ l m e. honest-as (within-engine (begun-honest l p k m e).honest.fits.limits) (begun-honest l p k m e))
    (λ l m i s a h. step-honest l p k m i s a h) limits

-- the ends of the ring of owner i filled by worker j are slots
pub ends-sound : {limits : Limits} {p k : ℕ} {m : Mem} → Honest limits p k m → (i : ℕ) → i < p → (j : ℕ) → j < p → ring.Sound k (ends_in m (ring_number p i j))
ends-sound {p = p} h i worker j l = h.words.ends (ring_number p i j) (place-lt p p i j worker l)

-- what is known of the memory after a run's calls, under all limits that the run keeps, and under begin's
pub kept_under : (r : Run) (limits : Limits) → KeptBy limits (view_of r) → Kept-by limits r.workers r.slots (memory_of r)
kept_under r limits w = honest-as (kept-now r limits w) (honest r.limits r.workers r.slots r.lent r.accepts r.calls)

pub kept_run : (r : Run) → Kept-by r.limits r.workers r.slots (memory_of r)
kept_run r = kept_under r r.limits (begun-within r)

pub honest-under : (r : Run) (limits : Limits) → KeptBy limits (view_of r) → Honest limits r.workers r.slots (memory_of r)
honest-under r limits w = (kept_under r limits w).honest

pub honest-run : (r : Run) → Honest r.limits r.workers r.slots (memory_of r)
honest-run r = (kept_run r).honest
