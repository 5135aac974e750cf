-- The fixed words after the roots have been fixed, each to the worker that it goes to.
use Prim.Native.Nat.{ℕ, ◌+◌, ◌%◌, ◌≤◌, ◌<◌}
use mathlib.Core.Path.{◌≡◌, refl, sym, ◌∙◌}
use mathlib.Core.List.{List, [], ◌∷◌}
use native.Mathlib.Omega.{arith}
use native.Mathlib.Decide.{ℕ_discrete}
use lib.Dec.{eqb}
use lib.ListN.{length, get_or, set, length-set}
use lib.Seq.{get_or-set_same, get_or-set_other}
use Rattle.lists.specs.Lists.{occ}
use Rattle.lists.proofs.Occurrences.{occ-nil, occ-hit, occ-miss, occ-not-head, occ-not-tail}
use Rattle.lists.proofs.Sums.{sum-prefix}
use Rattle.lists.proofs.Told.{Told, same-told, told-true, told-false}
use Rattle.memory.specs.Updates.{updated, written}
use Rattle.task.specs.Types.{nil}
use Rattle.weak_task.specs.Types.{copy}
use Rattle.plans.specs.Laying.{roots_laid, dealt}
use Rattle.plans.proofs.Dealt.{occ-dealt}
use Rattle.weak_rules.specs.Memory.{weak, Mem}
use Rattle.weak_rules.specs.Updates.{Update, put_fixed}

-- "a root has one copy with NIL", which "fixes the task's worker"
abbrev pub root_copy : ℕ → weak.Item
root_copy t = copy t nil.0

abbrev pub fixing : ℕ → ℕ → ℕ → List Update
fixing p n t = put_fixed t (n % p) ∷ []

-- roots, numbered from n, are fixed one after the other
unfoldable pub fix_all : ℕ → ℕ → List ℕ → List ℕ → List ℕ
fix_all p n [] l = l
fix_all p n (t ∷ ts) l = fix_all p (n + 1) ts (set l t (n % p))

pub laid-fixed : (p k n : ℕ) (ts : List ℕ) (m : Mem) → (roots_laid p k root_copy (fixing p) n ts m).fixed ≡ fix_all p n ts m.fixed
unfolding roots_laid written updated fix_all
laid-fixed p k n [] m = refl
laid-fixed p k n (t ∷ ts) m = laid-fixed p k (n + 1) ts _

-- a task that isn't among them
pub fixed-other : (p n : ℕ) (ts l : List ℕ) (t d : ℕ) → occ t ts ≡ 0 → get_or (fix_all p n ts l) t d ≡ get_or l t d
unfolding fix_all
fixed-other p n [] l t d none = refl
fixed-other p n (x ∷ ts) l t d none =
    fixed-other p (n + 1) ts (set l x (n % p)) t d (occ-not-tail ℕ_discrete t x ts none)
    ∙ get_or-set_other l x t (n % p) d (λ e. occ-not-head ℕ_discrete t x ts none (sym e))

module _ (p : ℕ) (positive : 0 < p) where
  dealt-among : (t i n : ℕ) (ts : List ℕ) → i < p → occ t (dealt p i n ts) ≤ occ t ts
  dealt-among t i n ts h = omega (arith, occ-dealt p positive t n ts, sum-prefix p (λ j. occ t (dealt p j n ts)) i h)

  -- a task that is among those that go to worker i, and once among all
  pub fixed-dealt : (i t : ℕ) → i < p → (n : ℕ) (ts l : List ℕ) → occ t ts ≤ 1 → t < length l → 0 < occ t (dealt p i n ts)
      → get_or (fix_all p n ts l) t 0 ≡ i
  unfolding fix_all dealt
  fixed-dealt i t h n [] l once inside among = absurd (omega (arith, among, occ-nil ℕ_discrete t))
  fixed-dealt i t h n (x ∷ ts) l once inside among =
      go (ℕ_discrete t x) (same-told (n % p) i)
      (λ o d. fixed-dealt i t h (n + 1) ts (set l x (n % p)) o (omega (arith, inside, length-set l x (n % p))) d)
    where
      go : Dec (t ≡ x) → Told (eqb (n % p) i) (n % p ≡ i) (¬ (n % p ≡ i))
          → (occ t ts ≤ 1 → 0 < occ t (dealt p i (n + 1) ts) → get_or (fix_all p (n + 1) ts (set l x (n % p))) t 0 ≡ i)
          → get_or (fix_all p (n + 1) ts (set l x (n % p))) t 0 ≡ i
      go (yes e) (told-true a s) later =
          fixed-other p (n + 1) ts (set l x (n % p)) t 0 (omega (arith, once, occ-hit ℕ_discrete t x ts e))
          ∙ rw (← e) (get_or-set_same l t (n % p) 0 inside)
          ∙ s
      go (yes e) (told-false a m) later =
          absurd (omega (arith, once, rw a at among, occ-hit ℕ_discrete t x ts e, dealt-among t i (n + 1) ts h))
      go (no m) (told-true a s) later =
          later (omega (arith, once, occ-miss ℕ_discrete t x ts m))
          (omega (arith, rw a at among, occ-miss ℕ_discrete t x (dealt p i (n + 1) ts) m))
      go (no m) (told-false a s) later = later (omega (arith, once, occ-miss ℕ_discrete t x ts m)) (rw a at among)
