-- Laws over plain lists and numbers that the functions' proofs cite.
use Prim.Native.Nat.{ℕ, zero, suc, ◌+◌, ◌-◌, ◌%◌, ◌<◌}
use mathlib.Core.Path.{◌≡◌, refl, sym, ap, ◌∙◌}
use mathlib.Core.Bool.{Bool, true, false, not, ◌&&◌}
use mathlib.Core.List.{List, ◌∷◌}
use native.Mathlib.Omega.{arith}
use native.Mathlib.Nat.{suc-sub-suc, sub-zero, mod-eq_of_lt}
use borrow.Author.Tests.{not-true, not-false}
use Rattle.lists.specs.Lists.{tabulate}
use Rattle.lists.specs.Circles.{after, around}
use Rattle.lists.proofs.Blocks.{tabulate-same}
use Rattle.lists.proofs.Circles.{mod-after}
use Rattle.task.specs.declared.Ends.{Ends}
use Rattle.ring.specs.Ring.{ends_at, sound, empty}
use Rattle.choice.specs.Search.{Found, unsound, none, at, search}
use Rattle.choice.proofs.Search.{search-nil, search-unsound, search-stops-here, search-goes-on}

-- ends read from the words are those of the ring, whose number was computed beforehand
pub ends_read : (words : List ℕ) (q r : ℕ) (e : Ends) → e ≡ ends_at words q → q ≡ r → e ≡ ends_at words r
ends_read words q r e he hq = he ∙ ap (ends_at words) hq

-- a test that failed on them is known of the ring's own ends
pub ends-test : (test : Ends → Bool) (words : List ℕ) (q r : ℕ) (e : Ends) (b v : Bool) → b ≡ test e → e ≡ ends_at words q → q ≡ r → not b ≡ v
    → not (test (ends_at words r)) ≡ v
ends-test test words q r e b v hb he hq h = rw (← hq, ← he, ← hb) h

both_hold : (a b : Bool) → not (a && b) ≡ false → (not a ≡ false) × (not b ≡ false)
both_hold true b h = (refl, h)
both_hold false true h = (h, refl)
both_hold false false h = (h, h)

second-fails : (a b : Bool) → not (a && b) ≡ true → not a ≡ false → not b ≡ true
second-fails true b h s = h
second-fails false true h s = sym s
second-fails false false h s = refl

-- a ring that was found sound and empty, and one that wasn't, though it is sound
module _ (k : ℕ) (words : List ℕ) (q r : ℕ) (e : Ends) (b : Bool) (tested : b ≡ (sound k e && empty e)) (read : e ≡ ends_at words q) (hq : q ≡ r) where
  pub sound_empty : not b ≡ false → (not (sound k (ends_at words r)) ≡ false) × (not (empty (ends_at words r)) ≡ false)
  sound_empty h = both_hold (sound k (ends_at words r)) (empty (ends_at words r)) (ends-test (λ x. sound k x && empty x) words q r e b false tested read hq h)

  pub not-empty : not b ≡ true → not (sound k (ends_at words r)) ≡ false → not (empty (ends_at words r)) ≡ true
  not-empty h = second-fails (sound k (ends_at words r)) (empty (ends_at words r)) (ends-test (λ x. sound k x && empty x) words q r e b true tested read hq h)

-- j, j+1, … modulo n, `left` numbers: those that a search around n still has to look at
unfoldable pub onward : ℕ → ℕ → ℕ → List ℕ
onward n left j = tabulate left (λ d. (j + d) % n)

pub onward-all : (n j : ℕ) → around n j ≡ onward n n j
unfolding around onward
onward-all n j = refl

onward-turn : (n left j : ℕ) → j < n → 0 < left → onward n left j ≡ j ∷ onward n (left - 1) (after n j)
unfolding onward tabulate
onward-turn n zero j h l = absurd (omega arith)
onward-turn n (suc left) j h l =
    let first : (j + 0) % n ≡ j = mod-eq_of_lt {n = j + 0} {m = n} (omega arith) ∙ omega arith in
    rw (
      first,
      suc-sub-suc left 0,
      sub-zero left,
      tabulate-same left (λ d. (after n j + d) % n) (λ d. (j + suc d) % n) (λ d m. mod-after n j d),
    )

-- One look of a search whose whole is the search of the rest.
module _ (sound stops : ℕ → Bool) (whole : Found) (n left j : ℕ) (inv : whole ≡ search sound stops (onward n left j)) where
  pub look_none : left ≡ 0 → none ≡ whole
  unfolding onward tabulate
  look_none e = sym (inv ∙ rw e (search-nil sound stops))

  module _ (inside : j < n) (some : 0 < left) where
    turn : whole ≡ search sound stops (j ∷ onward n (left - 1) (after n j))
    turn = inv ∙ ap (search sound stops) (onward-turn n left j inside some)

    pub look-unsound : not (sound j) ≡ true → unsound ≡ whole
    look-unsound s = sym (turn ∙ search-unsound sound stops _ _ (not-true _ s))

    module _ (s : not (sound j) ≡ false) where
      pub look-stops : stops j ≡ true → at j ≡ whole
      look-stops t = sym (turn ∙ search-stops-here sound stops _ _ (not-false _ s) t)

      pub look-goes-on : stops j ≡ false → (next : ℕ) → next ≡ after n j → whole ≡ search sound stops (onward n (left - 1) next)
      look-goes-on t next e = rw e (turn ∙ search-goes-on sound stops _ _ (not-false _ s) t)
