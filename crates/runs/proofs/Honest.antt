-- What holds of the memory after every list of a run's calls: begin lays it down, and every accepted step keeps it.
use Prim.Native.Nat.{ℕ, suc, ◌<◌}
use mathlib.Core.Path.{◌≡◌}
use mathlib.Core.List.{List}
use native.Mathlib.Decide.{ℕ_discrete}
use Rattle.lists.proofs.Places.{place-lt}
use Rattle.task.specs.Types.{engine}
use Rattle.task.specs.Refusals.{answer_says, accepted}
use Rattle.task.specs.declared.Limits.{Limits}
use Rattle.task.specs.declared.Step.{Step}
use Rattle.graph.specs.Graph.{Graph}
use Rattle.graph.specs.Conditions.{Good, GraphFits}
use Rattle.graph.proofs.Accepted.{fits-sound}
use Rattle.ring.specs.Ring.{Sound, capacity}
use Rattle.rules.specs.Memory.{Mem, tasks, edges, graph_in, ring_number, ends_in, accepted_in}
use Rattle.rules.specs.Sizes.{KeepsLimits, Fits}
use Rattle.rules.specs.Steps.{step}
use Rattle.rules.specs.Begin.{begin}
use Rattle.rules.specs.Begun.{LaidDown}
use Rattle.rules.specs.Moves.{AcceptedStep}
use Rattle.rules.proofs.Begin.{begin-accepted}
use Rattle.rules.proofs.Begun.{laid-graph, laid-run, laid-down, begun-reversed}
use Rattle.rules.proofs.Kept.{Kept, same_graph, fits_kept}
use Rattle.rules.proofs.Kept as rules
use Rattle.rules.proofs.Limits.{within-engine}
use Rattle.rules.proofs.Moved.{counts}
use Rattle.rules.proofs.Moves.{step-accepts}
use Rattle.algorithm1.specs.State.{State}
use Rattle.algorithm1.specs.Algorithm.{Does}
use Rattle.algorithm1.specs.Reading.{state_of}
use Rattle.algorithm1.proofs.Accepted.{step-does}
use Rattle.system.specs.System as system
use Rattle.system.proofs.Rules.{reached-invariant}
use Rattle.runs.specs.Calls.{Call, reached, Run, KeptBy, memory_of, view_of}
use Rattle.runs.specs.Counters.{AddsUp}
use Rattle.runs.proofs.Invariant.{items_of, meaning, Sane, Words}
use Rattle.runs.proofs.Calls.{always, kept-now, begun-within}
use Rattle.runs.proofs.Begun.{items-reversed, begun-sane, begun-begins}
use Rattle.runs.proofs.Steps.{does-steps, does-sane}
use Rattle.runs.proofs.Counters.{does-adds-up, begun-adds-up}
use Rattle.runs.proofs.Words.{begun-words, step_words}
use Rattle.runs.proofs.Bounds.{Bounded, does-bounded, begun-bounded}

-- the system's state that the memory stands for
abbrev pub system_in : ℕ → ℕ → Mem → system.State ℕ
system_in p k m = meaning p (accepted_in m) (state_of p k m)

-- the system's states that the plain runs of a graph reach
abbrev pub PlainState : Graph → ℕ → system.State ℕ → Type 0
PlainState g p = system.Reached ℕ_discrete (items_of g) p (system.all_due (items_of g))

-- the graph and the number of steps are known by other names
plain-as : (p : ℕ) (s : State) {g g' : Graph} {n n' : ℕ} → g' ≡ g → n' ≡ n → PlainState g p (meaning p n s) → PlainState g' p (meaning p n' s)
plain-as p s e f v = rw (e, f) v

pub record Honest (limits : Limits) (p k : ℕ) (m : Mem) : Type 0 where
  pub fits : Fits limits p k m
  pub graph : GraphFits limits m.weights m.pred_starts m.preds
  -- the successor table is as begin filled it
  pub good : (u : ℕ) → u < tasks m → Good (tasks m) m.succ_starts m.succs u
  pub words : Words p k m
  pub sane : Sane (graph_in m) p (state_of p k m)
  pub plain : PlainState (graph_in m) p (system_in p k m)
  pub adds_up : AddsUp p (state_of p k m)
  pub bounded : Bounded p (state_of p k m)

module _ (limits : Limits) (p k : ℕ) where
  begun-honest : (m : Mem) → answer_says (begin limits p k m).answer ≡ accepted → Honest limits p k (begin limits p k m).memory
  begun-honest m e =
      record {
        fits = fits_kept laid.weights laid.preds laid.lengths ((begin-accepted limits p k m).0 e).0;
        graph = rw (laid.weights, laid.pred_starts, laid.preds) ((begin-accepted limits p k m).0 e).1;
        good = λ u h. (begun-reversed limits p k m e u h).1;
        words = begun-words limits p k m e;
        sane = rw (laid-graph laid) (begun-sane limits p k m e);
        plain =
            plain-as p (state_of p k (begin limits p k m).memory) (laid-graph laid) (laid-run laid 1) (system.begun (begun-begins limits p k m e));
        adds_up = begun-adds-up limits p k m e;
        bounded = begun-bounded limits p k m e;
      }
    where
      laid : LaidDown p k m (begin limits p k m).memory
      laid = laid-down limits p k m e

  module _ (m : Mem) (i : ℕ) (s : Step) (r : AcceptedStep limits p k i s m) {kept-limits : Limits} (h : Honest kept-limits p k m) where
    abbrev left : Mem
    left = (step limits p k i s m).memory

    abbrev before : State
    before = state_of p k m

    abbrev after : State
    after = state_of p k left

    kept : Kept m left
    kept = rules.step_keeps limits p k i s m

    one_more : accepted_in left ≡ suc (accepted_in m)
    one_more = counts limits p k i s m (step-accepts limits p k i s m r)

    does : Does p (capacity k) i s before after r.outcome
    does = step-does limits p k i s m r

    -- an accepted step is a step of the system
    goes_on : PlainState (graph_in m) p (meaning p (suc (accepted_in m)) after)
    goes_on =
        let (t, e) = does-steps (graph_in m) p (capacity k) i before after r.outcome h.sane (accepted_in m) s does in
        system.further h.plain t e

    step-honest : Honest kept-limits p k left
    step-honest =
        record {
          fits = fits_kept kept.graph.weights kept.graph.preds (kept.lengths p k h.fits.lengths) h.fits;
          graph = rw (kept.graph.weights, kept.graph.pred_starts, kept.graph.preds) h.graph;
          good = rw (kept.graph.weights, kept.graph.succ_starts, kept.graph.succs) h.good;
          words = step_words limits p k i s m r h.words;
          sane = rw (same_graph kept.graph) (does-sane (graph_in m) p (capacity k) i before after r.outcome h.sane s does);
          plain = plain-as p after (same_graph kept.graph) one_more goes_on;
          adds_up = does-adds-up p (capacity k) i before after r.outcome h.sane.shaped s does h.adds_up;
          bounded = does-bounded p (capacity k) i before after r.outcome h.sane.shaped s does h.bounded;
        }

-- it is so under all limits that N, E, P and K keep
honest-as : {limits limits' : Limits} {p k : ℕ} {m : Mem} → KeepsLimits limits' p k (tasks m) (edges m) → Honest limits p k m → Honest limits' p k m
honest-as w h =
    record {
      fits = record { limits = w; lengths = h.fits.lengths };
      graph =
          record { tasks = w.few_tasks; edges = w.few_edges; light = h.graph.light; lengths = h.graph.lengths; graph = h.graph.graph };
      good = h.good;
      words = h.words;
      sane = h.sane;
      plain = h.plain;
      adds_up = h.adds_up;
      bounded = h.bounded;
    }

-- so it holds after every list of a run's calls, each with limits of its own, and under the engine's
honest : (limits : Limits) (p k : ℕ) (m : Mem) → answer_says (begin limits p k m).answer ≡ accepted → (cs : List Call)
    → Honest engine p k (reached limits p k m cs)
honest limits p k =
    always p k (Honest engine p k)
    (λ l m e. honest-as (within-engine (begun-honest l p k m e).fits.limits) (begun-honest l p k m e))
    (λ l m i s a h. step-honest l p k m i s a h) limits

pub honest-invariant : {limits : Limits} {p k : ℕ} {m : Mem} → Honest limits p k m
    → system.Invariant ℕ_discrete (items_of (graph_in m)) p (system_in p k m)
honest-invariant {p = p} {m = m} h =
    reached-invariant ℕ_discrete (items_of (graph_in m)) p (items-reversed (graph_in m) (fits-sound h.graph)) (system.all_due (items_of (graph_in m))) h.plain

-- the ends of the ring of owner i filled by worker j are slots
pub ends-sound : {limits : Limits} {p k : ℕ} {m : Mem} → Honest limits p k m → (i : ℕ) → i < p → (j : ℕ) → j < p → Sound k (ends_in m (ring_number p i j))
ends-sound {p = p} h i worker j l = h.words.ends (ring_number p i j) (place-lt p p i j worker l)

-- what is known of the memory after a run's calls, under all limits that the run keeps, and under begin's
pub honest-under : (r : Run) (limits : Limits) → KeptBy limits (view_of r) → Honest limits r.workers r.slots (memory_of r)
honest-under r limits w = honest-as (kept-now r limits w) (honest r.limits r.workers r.slots r.lent r.accepts r.calls)

pub honest-run : (r : Run) → Honest r.limits r.workers r.slots (memory_of r)
honest-run r = honest-under r r.limits (begun-within r)
