-- PROMISE: the equation in a call's contract is its link in what a host sees: of begin and the steps, whatever form their answer is handed out in,
-- and of the lookup's judging call, which writes nothing.
use Prim.Native.Nat.{ℕ}
use mathlib.Core.Path.{◌≡◌, refl, sym, ap, ◌∙◌}
use Rattle.task.specs.Refusals.{Said, answer_says, Answer}
use Rattle.task.specs.declared.Limits.{Limits}
use Rattle.task.specs.declared.Side.{Side}
use Rattle.task.specs.declared.Step.{Step}
use Rattle.weak_task.specs.Says.{WeakAnswer, step_says}
use Rattle.graph.specs.Lookup.{lent_of, judge_answer}
use Rattle.weak_rules.specs.Memory.{Mem}
use Rattle.weak_rules.specs.Plans.{Result, result_of}
use Rattle.weak_rules.specs.Steps.{step}
use Rattle.weak_rules.specs.Begin.{begin}
use Rattle.weak_runs.specs.Calls.{Call, step_call, begin_call, lookup_call, says, leaves}
use Rattle.weak_runs.specs.Hosted.{seen_as, Link}

-- what the judging call answers on a memory's tables
abbrev pub judged : Mem → Side → ℕ → Answer
judged m side t = judge_answer side (lent_of m.weights m.pred_starts m.preds m.succ_starts m.succs) t

module _ (m : Mem) where
  -- `reply` turns the rule's answer into what the call hands out, and `read` tells from that what was said
  from-rule : {A R : Type 0} (c : Call) (rule : Result A) (say : A → Said) → says c m ≡ say rule.answer → leaves c m ≡ rule.memory
      → (reply : A → R) (read : R → Said) → read (reply rule.answer) ≡ say rule.answer
      → (r : R) (m' : Mem) → result_of r m' ≡ result_of (reply rule.answer) rule.memory → Link m (seen_as c (read r) m')
  from-rule {R = R} c rule say answer memory reply read told r m' contract =
      record {
        answered = ap (λ (x : Result R). read x.answer) contract ∙ told ∙ sym answer;
        written = ap (λ (x : Result R). x.memory) contract ∙ sym memory;
      }

  pub replied-step : {R : Type 0} (limits : Limits) (p k i : ℕ) (s : Step) (reply : WeakAnswer → R) (read : R → Said)
      → read (reply (step limits p k i s m).answer) ≡ step_says (step limits p k i s m).answer
      → (r : R) (m' : Mem) → result_of r m' ≡ result_of (reply (step limits p k i s m).answer) (step limits p k i s m).memory
      → Link m (seen_as (step_call limits p k i s) (read r) m')
  replied-step limits p k i s = from-rule (step_call limits p k i s) (step limits p k i s m) step_says refl refl

  pub replied-begin : {R : Type 0} (limits : Limits) (p k : ℕ) (reply : Answer → R) (read : R → Said)
      → read (reply (begin limits p k m).answer) ≡ answer_says (begin limits p k m).answer
      → (r : R) (m' : Mem) → result_of r m' ≡ result_of (reply (begin limits p k m).answer) (begin limits p k m).memory
      → Link m (seen_as (begin_call limits p k) (read r) m')
  replied-begin limits p k = from-rule (begin_call limits p k) (begin limits p k m) answer_says refl refl

  pub replied-lookup : {R : Type 0} (side : Side) (t : ℕ) (reply : Answer → R) (read : R → Said)
      → read (reply (judged m side t)) ≡ answer_says (judged m side t)
      → (r : R) → r ≡ reply (judged m side t) → Link m (seen_as (lookup_call side t) (read r) m)
  replied-lookup {R = R} side t reply read told r contract =
      from-rule (lookup_call side t) (result_of (judged m side t) m) answer_says refl refl reply read told r m (ap (λ (x : R). result_of x m) contract)

  -- the contracts of `weak_engine`, and of `lookup::judge`: the answer itself is handed out
  pub step-link : (limits : Limits) (p k i : ℕ) (s : Step) (a : WeakAnswer) (m' : Mem) → result_of a m' ≡ step limits p k i s m
      → Link m (seen_as (step_call limits p k i s) (step_says a) m')
  step-link limits p k i s = replied-step limits p k i s (λ a. a) step_says refl

  pub begin-link : (limits : Limits) (p k : ℕ) (a : Answer) (m' : Mem) → result_of a m' ≡ begin limits p k m
      → Link m (seen_as (begin_call limits p k) (answer_says a) m')
  begin-link limits p k = replied-begin limits p k (λ a. a) answer_says refl

  pub lookup-link : (side : Side) (t : ℕ) (a : Answer) → a ≡ judged m side t → Link m (seen_as (lookup_call side t) (answer_says a) m)
  lookup-link side t = replied-lookup side t (λ a. a) answer_says refl
