-- Algorithm 1's step is determined: from one state a thread's step leads to one state, with one outcome, since what it chooses (the list, the
-- thread) is the only one that is as the paper says.
use Prim.Native.Nat.{ℕ, ◌≤◌}
use mathlib.Core.Path.{◌≡◌, sym, ◌∙◌}
use native.Mathlib.Omega.{arith}
use lib.IntN.{ℤ}
use Rattle.task.specs.Types.{nil}
use Rattle.task.specs.declared.Step.{Step}
use Rattle.task.specs.declared.Step.TheVariants.{Fetch, Start, Complete, Release}
use Rattle.weak_task.specs.declared.WeakOutcome.{WeakOutcome}
use Rattle.choice.proofs.Least.{least-one}
use Rattle.split_lists.proofs.Memories.{first_one}
use Rattle.weak_algorithm.specs.State.{Thread, State}
use Rattle.weak_algorithm.specs.Algorithm.{Fetches, Completes, copies, completes, Passes, AllocatesFirst, AllocatesLater, Releases, first, later, Lines, Does}

-- lines 15 and 16: T_s, the task that it is a successor of, and the thread after it
passes-one : {i : ℕ} {s : State} {T U a b : ℕ} {r q : Thread} → Passes i s T a r → Passes i s U b q → (T ≡ U) × (a ≡ b) × (r ≡ q)
passes-one f g = (cc, cc, cc)

fetches_one : {p i : ℕ} {s a b : State} {o q : WeakOutcome} → Fetches p i s a o → Fetches p i s b q → (a ≡ b) × (o ≡ q)
fetches_one f g = let list = first_one f.first g.first in (cc, cc)

-- the degree left is 0 or it isn't
completes-one : {i : ℕ} {s a b : State} {o q : WeakOutcome} → Completes i s a o → Completes i s b q → (a ≡ b) × (o ≡ q)
completes-one (copies f) (copies g) = (cc, cc)
completes-one (copies f) (completes g) = absurd (f.some g.zero)
completes-one (completes f) (copies g) = absurd (g.some f.zero)
completes-one (completes f) (completes g) = (cc, cc)

-- no thread's number is NIL, so a task that has a thread isn't without one
fixed-once : {C : ℕ → Type 0} {W : ℕ → ℤ} {p capacity i : ℕ} {s a b : State} {o q : WeakOutcome} → p ≤ nil.0 → AllocatesFirst C W p capacity i s a o → AllocatesLater p capacity i s b q → ⊥
fixed-once few f g =
    let (task, oldest, next) = passes-one f.pass g.pass in
    let same = sym g.fixed ∙ (rw task at f.unfixed) in
    omega (arith, few, g.worker, same)

releases-one : {C : ℕ → Type 0} {W : ℕ → ℤ} {p capacity i : ℕ} {s a b : State} {o q : WeakOutcome} → p ≤ nil.0 → Releases C W p capacity i s a o → Releases C W p capacity i s b q
    → (a ≡ b) × (o ≡ q)
releases-one few (first f) (first g) =
    let (task, oldest, next) = passes-one f.pass g.pass in
    let owner = first_one (rw (least-one f.least g.least) at f.room) g.room in
    (cc, cc)
releases-one few (first f) (later g) = absurd (fixed-once few f g)
releases-one few (later f) (first g) = absurd (fixed-once few g f)
releases-one few (later f) (later g) = let (task, oldest, next) = passes-one f.pass g.pass in (cc, cc)

lines-one : (p capacity i : ℕ) (step : Step) (s a b : State) (o q : WeakOutcome)
    → p ≤ nil.0 → Lines p capacity i step s a o → Lines p capacity i step s b q → (a ≡ b) × (o ≡ q)
lines-one p capacity i Fetch s a b o q few f g = fetches_one f g
lines-one p capacity i Start s a b o q few f g = (cc, cc)
lines-one p capacity i Complete s a b o q few f g = completes-one f g
lines-one p capacity i Release s a b o q few f g = releases-one few f g

-- the state and the answer after a step are determined
pub does-one : (p capacity i : ℕ) (step : Step) (s a b : State) (o q : WeakOutcome)
    → Does p capacity i step s a o → Does p capacity i step s b q → (a ≡ b) × (o ≡ q)
does-one p capacity i step s a b o q f g = lines-one p capacity i step s a b o q f.few f.lines g.lines
