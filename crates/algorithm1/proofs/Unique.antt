-- Algorithm 1's step is determined: from one state a thread's step leads to one state, with one outcome, since what it chooses (the
-- circular list, the thread) is the only one that is as the paper says.
use Prim.Native.Nat.{ℕ}
use mathlib.Core.Path.{◌≡◌}
use lib.IntN.{ℤ}
use Rattle.task.specs.declared.Step.{Step}
use Rattle.task.specs.declared.Step.TheVariants.{Fetch, Start, Complete, Release}
use Rattle.task.specs.declared.StepOutcome.{StepOutcome}
use Rattle.choice.proofs.Least.{least-one}
use Rattle.split_lists.proofs.Memories.{first_one}
use Rattle.algorithm1.specs.State.{Thread, State}
use Rattle.algorithm1.specs.Algorithm.{Fetches, Passes, Releases, lowers, allocates, Lines, Does}

-- line 6: T and the thread after it
passes-one : {i : ℕ} {s : State} {T U : ℕ} {r q : Thread} → Passes i s T r → Passes i s U q → (T ≡ U) × (r ≡ q)
passes-one f g = (cc, cc)

fetches_one : {p i : ℕ} {s a b : State} {o q : StepOutcome} → Fetches p i s a o → Fetches p i s b q → (a ≡ b) × (o ≡ q)
fetches_one f g = let list = first_one f.first g.first in (cc, cc)

releases-one : {C : ℕ → Type 0} {W : ℕ → ℤ} {p capacity i : ℕ} {s a b : State} {o q : StepOutcome} → Releases C W p capacity i s a o → Releases C W p capacity i s b q → (a ≡ b) × (o ≡ q)
releases-one (lowers f) (lowers g) = let (task, next) = passes-one f.pass g.pass in (cc, cc)
-- the degree left is 0 or it isn't
releases-one (lowers f) (allocates g) = absurd (f.some (rw (passes-one f.pass g.pass).0 g.zero))
releases-one (allocates f) (lowers g) = absurd (g.some (rw (passes-one g.pass f.pass).0 f.zero))
releases-one (allocates f) (allocates g) =
    let (task, next) = passes-one f.pass g.pass in
    let owner = first_one (rw (least-one f.least g.least) at f.room) g.room in
    (cc, cc)

lines-one : (p capacity i : ℕ) (step : Step) (s a b : State) (o q : StepOutcome)
    → Lines p capacity i step s a o → Lines p capacity i step s b q → (a ≡ b) × (o ≡ q)
lines-one p capacity i Fetch s a b o q f g = fetches_one f g
lines-one p capacity i Start s a b o q f g = (cc, cc)
lines-one p capacity i Complete s a b o q f g = (cc, cc)
lines-one p capacity i Release s a b o q f g = releases-one f g

-- the state and the answer after a step are determined
pub does-one : (p capacity i : ℕ) (step : Step) (s a b : State) (o q : StepOutcome)
    → Does p capacity i step s a o → Does p capacity i step s b q → (a ≡ b) × (o ≡ q)
does-one p capacity i step s a b o q f g = lines-one p capacity i step s a b o q f.lines g.lines
