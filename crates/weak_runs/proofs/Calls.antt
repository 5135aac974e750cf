-- A weak job's calls keep the laws of a family's: so what an accepted begin starts and accepted steps keep holds after every list of calls, and what
-- neither writes, as the graph, stays as begin was lent it.
use Prim.Native.Nat.{ℕ}
use mathlib.Core.Path.{◌≡◌, refl, ap}
use mathlib.Core.List.{List, [], ◌∷◌}
use lib.ListN.{length}
use Rattle.std.specs.Prelude.{Err, Ok}
use Rattle.lists.proofs.Decided.{both?}
use Rattle.task.specs.Types.{engine}
use Rattle.task.specs.Refusals.{Said, accepted, answer_says, Answer}
use Rattle.task.specs.Rows.{Acceptance}
use Rattle.task.specs.declared.Limits.{Limits}
use Rattle.task.specs.declared.Step.{Step}
use Rattle.machine.specs.Machine.{event_of, events_after}
use Rattle.machine.specs.Standing.{calls_of, kept_in}
use Rattle.machine.proofs.Jobs as jobs
pub use Rattle.machine.proofs.Jobs.{Still, refuses, looks}
use Rattle.plans.specs.Sizes.{KeepsLimits, Lengths}
use Rattle.weak_rules.specs.Memory.{Mem, tasks, edges, graph_in}
use Rattle.weak_rules.specs.Steps.{step}
use Rattle.weak_rules.specs.Begin.{begin}
use Rattle.weak_rules.specs.Begun.{LaidDown}
use Rattle.weak_rules.specs.Moves.{AcceptedStep}
use Rattle.weak_rules.proofs.Untouched.{refused-step, refused-begin}
use Rattle.weak_rules.proofs.Numbers.{other_step, other-begin}
use Rattle.weak_rules.proofs.Moves.{accepted-step}
use Rattle.weak_rules.proofs.Kept.{same_graph, step_keeps, SameGraph}
use Rattle.weak_rules.proofs.Begin.{begin-accepted}
use Rattle.weak_rules.proofs.Begun.{laid-graph, laid-down}
use Rattle.weak_rules.proofs.Limits.{within-engine}
use Rattle.views.proofs.Numbers.{accepted-fits}
use Rattle.weak_runs.specs.Calls.{Call, step_call, weak_calls, weak, Event, memory_after, Run, memory_of, events_of, KeptBy, view_of}

pub weak-laws : jobs.Laws weak_calls Lengths
weak-laws =
    record {
      refused_step = refused-step;
      refused_begin = refused-begin;
      step_numbers = λ limits p k p' k' i s m l a. same p k p' k' (both? p' k' p k) (λ n. accepted-fits _ a (other_step limits p k p' k' m l n i s));
      begin_numbers = λ limits p k p' k' m l a. same p k p' k' (both? p' k' p k) (λ n. accepted-fits _ a (other-begin limits p k p' k' m l n));
      begin_plain = λ limits p k m a. alone (begin limits p k m).answer a;
      step_fit = λ limits p k i s m l. (step_keeps limits p k i s m).lengths p k l;
      begin_fit = λ limits p k m e. (laid-down limits p k m e).lengths;
    }
  where
    same : (p k p' k' : ℕ) → Dec ((p' ≡ p) × (k' ≡ k)) → (¬ ((p' ≡ p) × (k' ≡ k)) → ⊥) → (p' ≡ p) × (k' ≡ k)
    same p k p' k' (yes e) f = e
    same p k p' k' (no n) f = absurd (f n)

    alone : (a : Answer) → Acceptance (answer_says a) → answer_says a ≡ accepted
    alone (Err why) h = absurd h
    alone (Ok u) h = refl

-- I is a property of the memory and the run's events so far
module _ (p k : ℕ) (I : Mem → List Event → Type 0)
    -- an accepted begin on any memory starts it
    (start : (limits : Limits) (m : Mem) → answer_says (begin limits p k m).answer ≡ accepted → I (begin limits p k m).memory [])
    -- a call that moves nothing is one more event
    (stay : (m : Mem) (past : List Event) (c : Call) (said : Said) → Still c said → I m past → I m (record { call = c; said = said } ∷ past))
    -- an accepted step keeps it
    (keep : (limits : Limits) (m : Mem) (past : List Event) (i : ℕ) (s : Step) → AcceptedStep limits p k i s m → I m past
    → I (step limits p k i s m).memory (event_of weak (step_call limits p k i s) m ∷ past)) where
  pub throughout : (limits : Limits) (m : Mem) → answer_says (begin limits p k m).answer ≡ accepted → (cs : List Call)
      → I (memory_after cs (begin limits p k m).memory) (events_after weak cs (begin limits p k m).memory [])
  throughout = jobs.throughout weak-laws p k I start stay (λ limits m past i s a. keep limits m past i s (accepted-step limits p k i s m a))

-- a property of the memory alone
module _ (p k : ℕ) (I : Mem → Type 0)
    (start : (limits : Limits) (m : Mem) → answer_says (begin limits p k m).answer ≡ accepted → I (begin limits p k m).memory)
    (keep : (limits : Limits) (m : Mem) (i : ℕ) (s : Step) → AcceptedStep limits p k i s m → I m → I (step limits p k i s m).memory) where
  pub always : (limits : Limits) (m : Mem) → answer_says (begin limits p k m).answer ≡ accepted → (cs : List Call)
      → I (memory_after cs (begin limits p k m).memory)
  always = throughout p k (λ m past. I m) start (λ m past c said q h. h) (λ limits m past. keep limits m)

-- what no call of a run writes is as begin was lent it: weights and predecessor tables, and with them the graph and N
module _ (r : Run) where
  as_lent : {A : Type 0} (f : Mem → A) → ((m m' : Mem) → SameGraph m m' → f m' ≡ f m)
      → ((m b : Mem) → LaidDown r.workers r.slots m b → f b ≡ f m)
      → f (memory_of r) ≡ f r.lent
  as_lent f stepped begun =
      jobs.as_lent weak-laws r f (λ limits m i s. stepped m _ (step_keeps limits r.workers r.slots i s m).graph)
      (λ limits m e. begun m _ (laid-down limits r.workers r.slots m e))

  pub weights-reached : (memory_of r).weights ≡ r.lent.weights
  weights-reached = as_lent (λ m. m.weights) (λ m m' g. g.weights) (λ m b l. l.weights)

  pub starts-reached : (memory_of r).pred_starts ≡ r.lent.pred_starts
  starts-reached = as_lent (λ m. m.pred_starts) (λ m m' g. g.pred_starts) (λ m b l. l.pred_starts)

  pub preds-reached : (memory_of r).preds ≡ r.lent.preds
  preds-reached = as_lent (λ m. m.preds) (λ m m' g. g.preds) (λ m b l. l.preds)

  pub graph-reached : graph_in (memory_of r) ≡ graph_in r.lent
  graph-reached = as_lent graph_in (λ m m' g. same_graph g) (λ m b l. laid-graph l)

  pub tasks-reached : tasks (memory_of r) ≡ tasks r.lent
  tasks-reached = ap length weights-reached

  pub edges-reached : edges (memory_of r) ≡ edges r.lent
  edges-reached = ap length preds-reached

  -- so N, E, P and K that kept some limits at begin still keep them
  pub kept-now : (limits : Limits) → KeptBy limits (view_of r) → KeepsLimits limits r.workers r.slots (tasks (memory_of r)) (edges (memory_of r))
  kept-now limits w = rw (tasks-reached, edges-reached) w

  -- begin's own limits are such
  pub begun-within : KeptBy r.limits (view_of r)
  begun-within = ((begin-accepted r.limits r.workers r.slots r.lent).0 r.accepts).0.limits

  -- and so are the engine's
  pub engine-kept : KeptBy engine (view_of r)
  engine-kept = within-engine begun-within

-- the memory that the run's last accepted begin left
abbrev pub last_begun : Run → Mem
last_begun = jobs.last_begun weak-laws

-- a run's memory is that after its accepted steps alone
pub steps-alone : (r : Run) → (memory_of r ≡ memory_after (calls_of (kept_in weak (events_of r))) (last_begun r))
    × (events_after weak (calls_of (kept_in weak (events_of r))) (last_begun r) [] ≡ kept_in weak (events_of r))
steps-alone = jobs.steps-alone weak-laws
