-- What an answer says tells the answer; and its number tells whether it accepts.
use Prim.Native.Nat.{ℕ, ◌≤◌}
use mathlib.Core.Path.{◌≡◌, refl, sym, ap, ◌∙◌}
use mathlib.Core.Bool.{Bool, true, cond, ◌&&◌}
use mathlib.Core.Logic.{◌↔◌, inl, inr}
use mathlib.Core.List.{List, [], ◌∷◌}
use native.Mathlib.Omega.{arith}
use lib.ListN.{get_or}
use lib.Dec.{eqb, leb}
use borrow.Author.Tests.{leb-true}
use Rattle.lists.proofs.Told.{and-true}
use Rattle.std.specs.Prelude.{Ok, Err, ◌-◌}
use Rattle.task.specs.Refusals.{Said, refused, answered, StepAnswer, refusal_number, refusal_detail, step_says, number_of}
use Rattle.task.specs.Rows.{Refusal, Given, Acceptance, Follows}
use Rattle.task.specs.declared.refusal.Refusal as why
use Rattle.task.specs.declared.refusal.Refusal.TheVariants.{WrongLength, BeyondLimit, BadTable, Duplicate, Cycle, TooManyRoots, NoSuchWorker, Damaged, WrongPhase, NothingThere, RingsFull, RecordFull, BrokenLayout, NoDummies, BadWindow}
use Rattle.task.specs.declared.StepOutcome.TheVariants.{Moved, Fetched, Released}
use Rattle.task.specs.declared.ReleaseOutcome.TheVariants.{DegreeLeft, Placed}

-- the refusal with this number and detail; no other refusal has them
abbrev pub refusal_of : ℕ → ℕ → why.Refusal
refusal_of n d =
    get_or
    (WrongLength
    ∷ BeyondLimit
    ∷ BadTable d
    ∷ Duplicate d
    ∷ Cycle d
    ∷ TooManyRoots d
    ∷ NoSuchWorker d
    ∷ Damaged
    ∷ WrongPhase d
    ∷ NothingThere
    ∷ RingsFull d
    ∷ RecordFull
    ∷ BrokenLayout d
    ∷ NoDummies
    ∷ BadWindow
    ∷ []) (n - 1) Damaged

pub refusal-of : (y : why.Refusal) → refusal_of (refusal_number y) (refusal_detail y) ≡ y
refusal-of WrongLength = refl
refusal-of BeyondLimit = refl
refusal-of (BadTable d) = refl
refusal-of (Duplicate d) = refl
refusal-of (Cycle d) = refl
refusal-of (TooManyRoots d) = refl
refusal-of (NoSuchWorker d) = refl
refusal-of Damaged = refl
refusal-of (WrongPhase d) = refl
refusal-of NothingThere = refl
refusal-of (RingsFull d) = refl
refusal-of RecordFull = refl
refusal-of (BrokenLayout d) = refl
refusal-of NoDummies = refl
refusal-of BadWindow = refl

-- the step answer that says this; no step says anything else
abbrev answer_of : Said → StepAnswer
answer_of (refused n d) = Err (refusal_of n d)
answer_of (answered k vs) =
    cond (eqb k 1) (Ok (Fetched (record { 0 = get_or vs 0 0 })))
    (cond (eqb k 2) (Ok (Released (DegreeLeft (get_or vs 0 0))))
    (cond (eqb k 3) (Ok (Released (Placed (record { 0 = get_or vs 0 0 }) (record { 0 = get_or vs 1 0 })))) (Ok Moved)))

answer-of : (a : StepAnswer) → answer_of (step_says a) ≡ a
answer-of (Err y) = ap Err (refusal-of y)
answer-of (Ok Moved) = refl
answer-of (Ok (Fetched t)) = refl
answer-of (Ok (Released (DegreeLeft d))) = refl
answer-of (Ok (Released (Placed t w))) = refl

-- PROMISE: no two step answers say the same, so what a step says is as good as its answer
pub step-said : (a b : StepAnswer) → step_says a ≡ step_says b → a ≡ b
step-said a b e = sym (answer-of a) ∙ ap answer_of e ∙ answer-of b

-- no row has the number 0
abbrev pub numbered : List Refusal → Bool
numbered [] = true
numbered (r ∷ rs) = leb 1 r.number && numbered rs

given-numbered : (rows : List Refusal) (n d : ℕ) → numbered rows ≡ true → Given rows n d → 1 ≤ n
given-numbered [] n d u g = absurd g
given-numbered (r ∷ rs) n d u (inl g) = omega (arith, leb-true 1 r.number (and-true (leb 1 r.number) (numbered rs) u).0, g.0)
given-numbered (r ∷ rs) n d u (inr g) = given-numbered rs n d (and-true (leb 1 r.number) (numbered rs) u).1 g.1

-- an answer that follows such rows has the number 0 exactly if it accepts
pub zero-accepts : (rows : List Refusal) (said : Said) → Follows rows said → numbered rows ≡ true → (number_of said ≡ 0) ↔ Acceptance said
zero-accepts rows (refused n d) f u =
    (λ e. absurd (omega (arith, e, given-numbered rows n d u ((f.refuses n d).0 refl))), λ a. absurd a)
zero-accepts rows (answered k vs) f u = (λ e. tt, λ a. refl)
