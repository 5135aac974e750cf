-- Groups of eight words in a journal: one that is stored stands there, and those before it stay.
use Prim.Native.Nat.{ℕ, zero, suc, ◌+◌, ◌*◌, ◌≤◌, ◌<◌}
use mathlib.Core.Path.{◌≡◌, refl, subst, ◌∙◌}
use mathlib.Core.List.{List, [], ◌∷◌}
use native.Mathlib.Omega.{arith}
use lib.ListN.{length, get_or, set, length-set}
use lib.Seq.{get_or-set_same, get_or-set_other}
use Rattle.memory.specs.Updates.{store_words, words_from}
use Rattle.journals.specs.Journal.{group_place, group_at}

word-before : (ws l : List ℕ) (x y : ℕ) → y < x → get_or (store_words l x ws) y 0 ≡ get_or l y 0
unfolding store_words
word-before [] l x y h = refl
word-before (w ∷ ws) l x y h = word-before ws (set l x w) (x + 1) y (omega arith) ∙ get_or-set_other l x y w 0 (λ e. omega arith)

words-before : (n : ℕ) (ws l : List ℕ) (x y : ℕ) → y + n ≤ x → words_from (store_words l x ws) y n ≡ words_from l y n
unfolding words_from
words-before zero ws l x y h = refl
words-before (suc n) ws l x y h = rw (word-before ws l x y (omega arith), words-before n ws l x (y + 1) (omega arith)) refl

words-there : (ws l : List ℕ) (x : ℕ) → x + length ws ≤ length l → words_from (store_words l x ws) x (length ws) ≡ ws
unfolding store_words words_from
words-there [] l x h = refl
words-there (w ∷ ws) l x h =
    rw (
      word-before ws (set l x w) (x + 1) x (omega arith),
      get_or-set_same l x w 0 (omega arith),
      words-there ws (set l x w) (x + 1) (omega (arith, h, length-set l x w)),
    ) refl

pub group-there : (j ws : List ℕ) (n : ℕ) → ◌≡◌ {A = ℕ} (length ws) 8 → 8 * n + 8 ≤ length j → group_at (store_words j (group_place n) ws) n ≡ ws
group-there j ws n e h =
    subst (λ (k : ℕ). words_from (store_words j (8 * n) ws) (8 * n) k ≡ ws) e (words-there ws j (8 * n) (omega (arith, e, h)))

pub group-before : (j ws : List ℕ) (n i : ℕ) → i < n → group_at (store_words j (group_place n) ws) i ≡ group_at j i
group-before j ws n i h = words-before 8 ws j (8 * n) (8 * i) (omega arith)
