-- Wrong programs that are no edit of a definition: each differs from the rule on a memory named here. ("a step accepted with nothing
-- moved" is refuted on every memory, by `moved`.)
use Prim.Native.Nat.{ℕ}
use mathlib.Core.Path.{◌≡◌, sym, ap, ◌∙◌}
use Rattle.lists.proofs.Apart.{unequal}
use Rattle.task.specs.Types.{engine}
use Rattle.task.specs.Refusals.{Said, refused, Answer}
use Rattle.task.specs.declared.Step.{Step}
use Rattle.task.specs.declared.Step.TheVariants.{Fetch}
use Rattle.weak_task.specs.Types.{Copy, copy}
use Rattle.weak_task.specs.Says.{WeakAnswer, copy_fetched, step_says}
use Rattle.weak_rules.specs.Memory.{Mem}
use Rattle.weak_rules.specs.Plans.{Result}
use Rattle.weak_rules.specs.Steps.{step}
use Rattle.weak_rules.specs.Begin.{begin}
use Rattle.weak_rules.proofs.Examples.{diamond, two_roots, fresh, desk_run, examples}

-- "a begin that lays down the finished record while later steps only move phases": the diamond
pub no-finished-record : (b : Mem → Result Answer) → (b diamond).memory.executed ≡ (desk_run (fresh 2 4 diamond)).executed → ¬ (b diamond ≡ begin engine 2 4 diamond)
no-finished-record b f e =
    unequal (cc (sym (ap (λ (m : Mem). m.executed) examples.laid_out) ∙ sym (ap (λ (r : Result Answer). r.memory.executed) e) ∙ f ∙ examples.listing))

abbrev says : Result WeakAnswer → Said
says r = step_says r.answer

-- two roots: worker 0 fetches the first, and after it worker 1 the second
abbrev first : Mem
first = fresh 2 2 two_roots

abbrev second : Mem
second = (step engine 2 2 0 Fetch first).memory

fetches-first : says (step engine 2 2 0 Fetch first) ≡ copy_fetched (copy 0 65535)
fetches-first = examples.first_root

fetches-second : says (step engine 2 2 1 Fetch second) ≡ copy_fetched (copy 1 65535)
fetches-second = examples.second_root

-- "every call refused"
pub not-all-refused : (f : ℕ → Step → Mem → Result WeakAnswer) (n d : ℕ) → says (f 0 Fetch first) ≡ refused n d → ¬ (f 0 Fetch first ≡ step engine 2 2 0 Fetch first)
not-all-refused f n d r e = unequal (cc (sym r ∙ ap says e ∙ fetches-first))

-- the same copy always named
pub not-one-copy : (f : ℕ → Mem → Result WeakAnswer) (c : Copy) → says (f 0 first) ≡ copy_fetched c → says (f 1 second) ≡ copy_fetched c
    → ¬ ((f 0 first ≡ step engine 2 2 0 Fetch first) × (f 1 second ≡ step engine 2 2 1 Fetch second))
not-one-copy f c one two (a, b) = unequal (cc (sym (sym one ∙ ap says a ∙ fetches-first) ∙ sym two ∙ ap says b ∙ fetches-second))
