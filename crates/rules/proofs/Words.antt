-- How many steps and entries a run has, and what the tests on its words tell.
use Prim.Native.Nat.{◌+◌, ◌*◌, ◌<◌}
use mathlib.Core.Path.{◌≡◌, refl}
use lib.Dec.{eqb}
use Rattle.lists.proofs.Told.{Told, same-told, le-told, lt-told}
pub use Rattle.plans.proofs.Words.{counter-told, counters-told, join-told}
use Rattle.rules.specs.Memory.{Mem, tasks, edges, all_steps, all_entries, entries_in, accepted_in}
use Rattle.rules.specs.Words.{entries_fit, accepted_fits}
use Rattle.rules.specs.Tables.{BadAccepted}

-- "3N+E"
pub all-steps-are : (m : Mem) → all_steps m ≡ 3 * tasks m + edges m
unfolding all_steps
all-steps-are m = refl

all-entries-are : (m : Mem) → all_entries m ≡ tasks m
unfolding all_entries
all-entries-are m = refl

pub accepted-told : (m : Mem) → Told (accepted_fits m) (¬ (BadAccepted m)) (BadAccepted m)
accepted-told m = rw (all-steps-are m) (lt-told (accepted_in m) (3 * tasks m + edges m))

pub entries-told : (m : Mem) → Told (entries_fit m) (¬ (tasks m < entries_in m)) (tasks m < entries_in m)
entries-told m = rw (all-entries-are m) (le-told (entries_in m) (tasks m))

-- 12: "Complete with N entries recorded"
pub recorded-told : (m : Mem) → Told (eqb (entries_in m) (all_entries m)) (entries_in m ≡ tasks m) (¬ (entries_in m ≡ tasks m))
recorded-told m = rw (all-entries-are m) (same-told (entries_in m) (tasks m))
