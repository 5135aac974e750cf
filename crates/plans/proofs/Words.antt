-- What the tests on counters and places tell.
use Prim.Native.Nat.{ℕ, zero, suc, ◌≤◌}
use mathlib.Core.Path.{◌≡◌, refl, subst}
use mathlib.Core.Bool.{◌&&◌}
use mathlib.Core.List.{List, [], ◌∷◌}
use native.Mathlib.Omega.{arith}
use lib.ListN.{length}
use lib.IntN.{ℤ, pos, negsuc}
use borrow.Author.Tests.{ltb-true, ltb-false}
use Rattle.lists.proofs.Integers.{le_z-told}
use Rattle.lists.proofs.Told.{Told, told-true, told-false, told, and-told}
use Rattle.memory.specs.Family.{Family}
use Rattle.memory.specs.Memory.{Mem}
use Rattle.plans.specs.Memory.{tasks}
use Rattle.plans.specs.Words.{counter_fits, counters_fit, join_fits}
use Rattle.plans.specs.Tables.{Beyond2^30, BadCounter}

pub counter-told : (c : ℤ) → Told (counter_fits c) (¬ (Beyond2^30 c)) (Beyond2^30 c)
counter-told c = and-told _ _ (le_z-told (negsuc 1073741823) c) (le_z-told c (pos 1073741824))

-- the test of all counters, against the table's row on counters
list-told : (cs : List ℤ) → Told (counters_fit cs) (¬ (BadCounter (length cs) cs)) (BadCounter (length cs) cs)
unfolding counters_fit
list-told [] = told-true refl (λ b. omega (arith, b.1))
list-told (c ∷ cs) = go (counter-told c) (list-told cs)
  where
    none-bad : ¬ (Beyond2^30 c) → ¬ (BadCounter (length cs) cs) → ¬ (BadCounter (suc (length cs)) (c ∷ cs))
    none-bad f g (zero, h, b) = f b
    none-bad f g (suc q, h, b) = g (q, omega (arith, h), b)

    go : Told (counter_fits c) (¬ (Beyond2^30 c)) (Beyond2^30 c) → Told (counters_fit cs) (¬ (BadCounter (length cs) cs)) (BadCounter (length cs) cs)
        → Told (counter_fits c && counters_fit cs) (¬ (BadCounter (suc (length cs)) (c ∷ cs))) (BadCounter (suc (length cs)) (c ∷ cs))
    go (told-true e f) (told-true d g) = told-true (rw (e, d)) (none-bad f g)
    go (told-true e f) (told-false d b) = told-false (rw (e, d)) (suc b.0, omega (arith, b.1), b.2)
    go (told-false e b) t = told-false (rw e) (0, omega arith, b)

pub counters-told : (cs : List ℤ) (n : ℕ) → length cs ≡ n → Told (counters_fit cs) (¬ (BadCounter n cs)) (BadCounter n cs)
counters-told cs n e = subst (λ (k : ℕ). Told (counters_fit cs) (¬ (BadCounter k cs)) (BadCounter k cs)) e (list-told cs)

-- "or write N where a task must join": a place that is at most N is below it, or it is N
pub join-told : {F : Family} (m : Mem F) (write : ℕ) → write ≤ tasks m → Told (join_fits m write) (¬ (write ≡ tasks m)) (write ≡ tasks m)
join-told m write h = told (join_fits m write) (λ e q. omega (arith, ltb-true write (tasks m) e)) (λ e. omega (arith, ltb-false write (tasks m) e))
