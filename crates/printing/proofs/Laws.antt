-- Laws over plain lists and numbers that the functions' proofs cite.
use Prim.Native.Nat.{ℕ, suc, ◌+◌, ◌-◌, ◌*◌, ◌≤◌, ◌<◌}
use mathlib.Core.Path.{◌≡◌, ap}
use mathlib.Core.List.{List, [], ◌∷◌}
use native.Mathlib.Omega.{arith}
use lib.ListN.{length, get_or}
use Rattle.layout.specs.Marks.{lf, space}
use Rattle.layout.specs.Digits.{digits_of}
use Rattle.layout.proofs.Digits.{digits-few}
use Rattle.desk_rule.specs.Printed.{pair_line}
use Rattle.desk_rule.specs.Output.{entry_lines}
use Rattle.text_put.specs.Appending.{Appends}
use Rattle.text_put.proofs.Laws.{appends-then, Underway, next-piece, all_done}

-- a word has at most ten digits
pub ten-digits : (n : ℕ) → n < 4294967296 → length (digits_of n) ≤ 10
ten-digits n h = digits-few 9 n (omega (arith, h))

-- Two numbers with their marks.
pub pair_put : (first second : ℕ) → first < 4294967296 → second < 4294967296 → {at spaced next ended end : ℕ} {before one two three after : List ℕ}
    → Appends at (digits_of first) before one spaced → Appends spaced (space ∷ []) one two next → Appends next (digits_of second) two three ended
    → Appends ended (lf ∷ []) three after end → Appends at (pair_line first second) before after end × (end ≤ at + 22)
unfolding pair_line
pair_put first second h k p s q e =
    (appends-then p (appends-then s (appends-then q e)), omega (arith, p.end, s.end, q.end, e.end, ten-digits first h, ten-digits second k))

-- The lines of n entries put, x of them done.
module _ (at n : ℕ) (executed before : List ℕ) where
  abbrev pub EntriesPut : ℕ → List ℕ → ℕ → Type 0
  EntriesPut = Underway (entry_lines executed n 0) (λ x. entry_lines executed (n - x) x) at before

  module _ (x : ℕ) (out : List ℕ) (end : ℕ) (u : EntriesPut x out end) where
    pub next-entry : (t w : ℕ) (new : List ℕ) (r : ℕ) → x < n → t ≡ get_or executed (2 * x) 0 → w ≡ get_or executed (2 * x + 1) 0
        → Appends end (pair_line t w) out new r → EntriesPut (x + 1) new r
    unfolding entry_lines
    next-entry t w new r h e f =
        let left : n - x ≡ suc (n - (x + 1)) = omega (arith, h) in
        next-piece _ _ _ _ _ _ _ u (pair_line t w) (x + 1) (rw (e, f) (ap (λ (k : ℕ). entry_lines executed k x) left)) new r

    pub all-entries : n ≡ x → Appends at (entry_lines executed n 0) before out end
    unfolding entry_lines
    all-entries h =
        let none : n - x ≡ 0 = omega (arith, h) in
        all_done _ _ _ _ _ _ _ u (ap (λ (k : ℕ). entry_lines executed k x) none)
