-- The target of a Release, chosen worker by worker, and whether all counters are in their range.
use Rattle.std.specs.Prelude.{ℕ, ◌+◌, ◌*◌, ◌≤◌, ◌<◌, ◌≡◌, Bool, true, false, ◌&&◌, List, ℤ, pos, negsuc, length, get_or, drop, Result, Ok, Err}
use Rattle.std.specs.Int.Signed.{mag, le_z}
use Rattle.lists.specs.Lists.{all_of}
use Rattle.choice.specs.Least.{load, least}
use Rattle.rules.specs.Words.{counters_fit}
use Rattle.task.specs.declared.WorkerId.{WorkerId}
use Rattle.task.specs.declared.refusal.Damaged.{Damaged}

-- within ±2^26: 16 such counters add up in 32 bits
abbrev pub small_counter : ℤ → Bool
small_counter c = le_z (negsuc 67108863) c && le_z c (pos 67108864)

abbrev pub Small : List ℤ → Type 0
Small counters = (q : ℕ) → q < length counters → mag (get_or counters q (pos 0)) ≤ 67108864

-- worker j's load: the sum of its counters, and whether they fit, so that it is left to look at those after them
abbrev pub Loads : ℕ → List ℤ → ℕ → ℤ → Bool → Type 0
Loads p counters j sum fits =
    (sum ≡ load p counters j) × (counters_fit (drop (j * p) counters) ≡ (fits && counters_fit (drop (j * p + p) counters)))

-- the target, unless a counter is out of its range
abbrev pub Choice : Type 0
Choice = Result WorkerId Damaged

abbrev pub Chosen : ℕ → List ℤ → Choice → Type 0
Chosen p counters (Err damaged) = counters_fit counters ≡ false
Chosen p counters (Ok worker) = (counters_fit counters ≡ true) × (worker.0 ≡ least (all_of p) (load p counters))
