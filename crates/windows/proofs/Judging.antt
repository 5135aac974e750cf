-- What the tests say, and the answers in their order, over plain lists.
use Prim.Native.Nat.{ℕ, ◌+◌, ◌*◌, ◌≤◌, ◌<◌, min}
use mathlib.Core.Path.{◌≡◌, refl, sym, ◌∙◌}
use mathlib.Core.Bool.{Bool, true, false, not, ◌&&◌}
use mathlib.Core.List.{List}
use native.Mathlib.Omega.{arith}
use native.Mathlib.Nat.{mul-le-mul, min-le_right}
use native.Mathlib.Numerals.{add-one}
use borrow.Author.Tests.{leb-true, eqb-true, lt-ltb, le-ltb, eq-eqb, ne_eqb, not-true, not-false}
use lib.Dec.{ltb, leb, eqb}
use lib.ListN.{length, get_or}
use Rattle.std.specs.Prelude.{Err, Ok}
use Rattle.task.specs.declared.refusal.Refusal.TheVariants.{BadWindow, BeyondLimit, Damaged, WrongLength}
use Rattle.lists.proofs.Told.{and-true}
use Rattle.lists.proofs.Apart.{true-and-false}
use Rattle.task.specs.Types.{capped}
use Rattle.task.specs.Refusals.{Answer}
use Rattle.task.specs.declared.Limits.{Limits}
use Rattle.loads.specs.Windows.{task_at, worker_at, entries_word, window_count, counts_fit, entry_fits, record_fits, windows_answer}
use Rattle.loads.proofs.Windows.{each_fits}

pub counts-tested : (limits own : Limits) (p n : ℕ) → own ≡ capped limits
    → (leb n own.tasks && (leb 1 p && leb p own.workers)) ≡ counts_fit limits p n
unfolding counts_fit
counts-tested limits own p n e = rw e

-- The entries' tests.
module _ (p : ℕ) (weights executed : List ℕ) where
  pub far-task : (x : ℕ) {t : ℕ} → t ≡ task_at executed x → length weights ≤ t → false ≡ entry_fits p weights executed x
  unfolding entry_fits
  far-task x {t} e h = rw (le-ltb (task_at executed x) (length weights) (omega (arith, e, h)))

  pub near-task : (x : ℕ) {t i : ℕ} → t ≡ task_at executed x → i ≡ worker_at executed x → t < length weights
      → (ltb i p && leb (get_or weights t 0) 65535) ≡ entry_fits p weights executed x
  unfolding entry_fits
  near-task x {t} {i} e f h = rw (← e, ← f, lt-ltb t (length weights) h)

  pub none-unfit : true ≡ record_fits p weights executed 0
  unfolding record_fits
  none-unfit = refl

  pub next_fits : (x : ℕ) {b : Bool} → true ≡ record_fits p weights executed x → b ≡ entry_fits p weights executed x → not b ≡ false
      → true ≡ record_fits p weights executed (x + 1)
  unfolding record_fits
  next_fits x {b} e f h = rw (add-one x, ← e, ← f, not-false b h)

  pub all_fit : {x n : ℕ} → true ≡ record_fits p weights executed x → x ≡ n → true ≡ record_fits p weights executed n
  all_fit e h = rw (← h) e

  -- an entry that doesn't fit, among the first n
  pub unfit : (n x : ℕ) {b : Bool} → x < n → b ≡ entry_fits p weights executed x → not b ≡ true → false ≡ record_fits p weights executed n
  unfit n x {b} h e u = go (record_fits p weights executed n) refl
    where
      go : (c : Bool) → record_fits p weights executed n ≡ c → false ≡ record_fits p weights executed n
      go true f = absurd (true-and-false (e ∙ each_fits p weights executed n f x h) (not-true b u))
      go false f = sym f

-- What the tests leave.
pub counts-kept : (limits : Limits) (p n : ℕ) {b : Bool} → b ≡ counts_fit limits p n → not b ≡ false → (n ≤ 1024) × (1 ≤ p) × (p ≤ 16)
unfolding counts_fit capped
counts-kept limits p n {b} e h =
    let (few, workers) = and-true (leb n (min limits.tasks 1024)) _ (sym e ∙ not-false b h) in
    let (some, most) = and-true (leb 1 p) (leb p (min limits.workers 16)) workers in (
      omega (arith, leb-true n (min limits.tasks 1024) few, min-le_right limits.tasks 1024),
      leb-true 1 p some,
      omega (arith, leb-true p (min limits.workers 16) most, min-le_right limits.workers 16),
    )

pub both_equal : (a b c d : ℕ) → not (eqb a b && eqb c d) ≡ false → (a ≡ b) × (c ≡ d)
both_equal a b c d h =
    let (e, f) = and-true (eqb a b) (eqb c d) (not-false (eqb a b && eqb c d) h) in
    (eqb-true a b e, eqb-true c d f)

pub window-within : (m n : ℕ) → not (leb 1 m && leb m n) ≡ false → (1 ≤ m) × (m ≤ n)
window-within m n h =
    let (e, f) = and-true (leb 1 m) (leb m n) (not-false (leb 1 m && leb m n) h) in
    (leb-true 1 m e, leb-true m n f)

pub room-few : (p entries m : ℕ) → p ≤ 16 → entries ≤ 1024 → window_count entries m * (p + 1) ≤ 17425
room-few p entries m h l =
    mul-le-mul {n₁ = window_count entries m} {m₁ = p + 1} {n₂ = 1025} {m₂ = 17} (omega (arith, l)) (omega (arith, h))

-- The answers, in their order.
module _ (limits : Limits) (p m : ℕ) (weights executed run : List ℕ) (room : ℕ) {b : Bool} (hb : b ≡ counts_fit limits p (length weights)) where
  abbrev found : Answer
  found = windows_answer limits p m weights executed run room

  pub judge-far : not b ≡ true → Err BeyondLimit ≡ found
  unfolding windows_answer
  judge-far h = rw (← hb, h)

  module _ (h1 : not b ≡ false) where
    pub judge-long : not (eqb (length executed) (2 * length weights) && eqb (length run) 2) ≡ true → Err WrongLength ≡ found
    unfolding windows_answer
    judge-long h = rw (← hb, h1, h)

    module _ (h2 : not (eqb (length executed) (2 * length weights) && eqb (length run) 2) ≡ false) where
      pub judge-over : length weights < entries_word run → Err Damaged ≡ found
      unfolding windows_answer
      judge-over h = rw (← hb, h1, h2, lt-ltb (length weights) (entries_word run) h)

      module _ (h3 : entries_word run ≤ length weights) where
        pub judge-odd : not (leb 1 m && leb m (entries_word run)) ≡ true → Err BadWindow ≡ found
        unfolding windows_answer
        judge-odd h = rw (← hb, h1, h2, le-ltb (length weights) (entries_word run) h3, h)

        module _ (h4 : not (leb 1 m && leb m (entries_word run)) ≡ false) where
          pub judge-room : ¬ (room ≡ window_count (entries_word run) m * (p + 1)) → Err WrongLength ≡ found
          unfolding windows_answer
          judge-room h = rw (← hb, h1, h2, le-ltb (length weights) (entries_word run) h3, h4, ne_eqb room (window_count (entries_word run) m * (p + 1)) h)

          module _ (h5 : room ≡ window_count (entries_word run) m * (p + 1)) {c : Bool} (hc : c ≡ record_fits p weights executed (entries_word run)) where
            pub judge-bad : not c ≡ true → Err Damaged ≡ found
            unfolding windows_answer
            judge-bad h =
                rw (← hb, h1, h2, le-ltb (length weights) (entries_word run) h3, h4, eq-eqb room (window_count (entries_word run) m * (p + 1)) h5, ← hc, h)

            pub judge-good : not c ≡ false → Ok tt ≡ found
            unfolding windows_answer
            judge-good h =
                rw (← hb, h1, h2, le-ltb (length weights) (entries_word run) h3, h4, eq-eqb room (window_count (entries_word run) m * (p + 1)) h5, ← hc, h)
