-- How many steps and entries a weak run has, and what the tests on its words tell.
use Prim.Native.Nat.{ℕ, ◌+◌, ◌*◌, ◌≤◌, ◌<◌}
use mathlib.Core.Path.{◌≡◌, refl}
use mathlib.Core.Bool.{◌||◌}
use lib.Dec.{eqb, ltb}
use Rattle.lists.proofs.Told.{Told, told-true, told-false, same-told, le-told, lt-told, and-told}
use Rattle.task.specs.Types.{nil}
use Rattle.weak_task.specs.Types.{Copy, unfixed}
pub use Rattle.plans.proofs.Words.{counter-told, counters-told, join-told}
use Rattle.weak_rules.specs.Memory.{Mem, tasks, edges, roots_word, all_steps, all_entries, entries_in, accepted_in}
use Rattle.weak_rules.specs.Words.{copy_fits, fixed_fits, roots_fit, entries_fit, accepted_fits}
use Rattle.weak_rules.specs.Tables.{BadCopy, BadRoots}

-- a word that may be NIL, and is below n otherwise
nil-or-below : (word n : ℕ) → Told (eqb word nil.0 || ltb word n) (¬ (¬ (word ≡ nil.0) × (n ≤ word))) (¬ (word ≡ nil.0) × (n ≤ word))
nil-or-below word n = go (same-told word nil.0) (lt-told word n)
  where
    go : Told (eqb word nil.0) (word ≡ nil.0) (¬ (word ≡ nil.0)) → Told (ltb word n) (¬ (n ≤ word)) (n ≤ word)
        → Told (eqb word nil.0 || ltb word n) (¬ (¬ (word ≡ nil.0) × (n ≤ word))) (¬ (word ≡ nil.0) × (n ≤ word))
    go (told-true e y) t = told-true (rw e) (λ c. c.0 y)
    go (told-false e f) (told-true q g) = told-true (rw (e, q)) (λ c. g c.1)
    go (told-false e f) (told-false q h) = told-false (rw (e, q)) (f, h)

-- "ring .. held .. word ≥ N", "a predecessor word neither NIL nor below N"
pub copy_told : (m : Mem) (c : Copy) → Told (copy_fits m c) (¬ (BadCopy m c)) (BadCopy m c)
copy_told m c = and-told _ _ (lt-told c.task (tasks m)) (nil-or-below c.predecessor (tasks m))

-- "65,535 before, else below P or damaged"
pub fixed_told : (p word : ℕ) → Told (fixed_fits p word) (¬ (¬ (word ≡ unfixed.0) × (p ≤ word))) (¬ (word ≡ unfixed.0) × (p ≤ word))
fixed_told p word = nil-or-below word p

-- "over N is damaged"
pub roots-told : (m : Mem) → Told (roots_fit m) (¬ (BadRoots m)) (BadRoots m)
roots-told m = le-told (roots_word m) (tasks m)

-- "4E + 3R accepted steps"
pub all-steps-are : (m : Mem) → all_steps m ≡ 4 * edges m + 3 * roots_word m
unfolding all_steps
all-steps-are m = refl

-- "E + R copies used"
pub all-entries-are : (m : Mem) → all_entries m ≡ edges m + roots_word m
unfolding all_entries
all-entries-are m = refl

pub accepted-told : (m : Mem) → Told (accepted_fits m) (¬ (4 * edges m + 3 * roots_word m ≤ accepted_in m)) (4 * edges m + 3 * roots_word m ≤ accepted_in m)
accepted-told m = rw (all-steps-are m) (lt-told (accepted_in m) (4 * edges m + 3 * roots_word m))

pub entries-told : (m : Mem) → Told (entries_fit m) (¬ (edges m + roots_word m < entries_in m)) (edges m + roots_word m < entries_in m)
entries-told m = rw (all-entries-are m) (le-told (entries_in m) (edges m + roots_word m))

-- 12: E + R entries recorded
pub recorded-told : (m : Mem) → Told (eqb (entries_in m) (all_entries m)) (entries_in m ≡ edges m + roots_word m) (¬ (entries_in m ≡ edges m + roots_word m))
recorded-told m = rw (all-entries-are m) (same-told (entries_in m) (edges m + roots_word m))
