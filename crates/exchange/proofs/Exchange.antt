-- The exchange theorem: any two lists that the edges allow are joined by exchanges of unordered neighbours, through allowed lists, and by as many
-- exchanges as there are pairs that the two order differently.
use Prim.Native.Nat.{ℕ, suc, ◌+◌, ◌≤◌, ◌<◌}
use mathlib.Core.Path.{◌≡◌, refl, sym, ap, ◌∙◌}
use mathlib.Core.List.{List, [], ◌∷◌, ◌++◌}
use native.Mathlib.Omega.{arith}
use native.Mathlib.Nat.{zero-add, suc-add}
use lib.ListN.{length}
use Rattle.lists.specs.Lists.{occ_of}
use Rattle.lists.proofs.Occurrences.{occ-nil, occ-cons, occ-hit, occ-append, occ-insert, occ-around, occ-none, occ-apart}
use Rattle.lists.proofs.Positions.{Before, before-member, before-cons, before-first, before-joined, before_more}
use Rattle.exchange.specs.Exchange.{Unordered, Exchanged, Allows, Chain, none, more}
use Rattle.exchange.proofs.Allowed.{exchange-allowed, leads-before}
use Rattle.exchange.proofs.Counts.{differ, differ-first}

-- n exchanges lead from a to b
data Swaps {A : Type 0} (E : A → A → Type 0) : List A → List A → ℕ → Type 0 where
  done : {a : List A} → Swaps E a a 0
  next : {a b c : List A} {n : ℕ} → Exchanged E a b → Swaps E b c n → Swaps E a c (suc n)

module _ {A : Type 0} {E : A → A → Type 0} where
  exchanged-cons : {a b : List A} (z : A) → Exchanged E a b → Exchanged E (z ∷ a) (z ∷ b)
  exchanged-cons z s = record {
    front = z ∷ s.front;
    x = s.x;
    y = s.y;
    back = s.back;
    before = ap (λ (l : List A). z ∷ l) s.before;
    after = ap (λ (l : List A). z ∷ l) s.after;
    unordered = s.unordered;
  }

  exchanges-cons : {a b : List A} {n : ℕ} (z : A) → Swaps E a b n → Swaps E (z ∷ a) (z ∷ b) n
  exchanges-cons z done = done
  exchanges-cons z (next s r) = next (exchanged-cons z s) (exchanges-cons z r)

  exchanges-trans : {a b c : List A} {m n : ℕ} → Swaps E a b m → Swaps E b c n → Swaps E a c (m + n)
  exchanges-trans {n} done q = rw (zero-add n) q
  exchanges-trans {n} (next {n = k} s r) q = rw (suc-add k n) (next s (exchanges-trans r q))

  exchanges-snoc : {a b c : List A} {n : ℕ} → Swaps E a b n → Exchanged E b c → Swaps E a c (suc n)
  exchanges-snoc done s = next s done
  exchanges-snoc (next t r) s = next t (exchanges-snoc r s)

module _ {A : Type 0} (same : Discrete A) (E : A → A → Type 0) where
  -- y passes the items k that stand before it, which the edges don't order with it
  pass : (y : A) (k m : List A) → ((x : A) → 0 < occ_of same x k → Unordered E x y) → Swaps E (k ++ (y ∷ m)) (y ∷ (k ++ m)) (length k)
  pass y [] m f = done
  pass y (x ∷ k) m f =
      exchanges-snoc (exchanges-cons x (pass y k m (λ z h. f z (omega (arith, occ-cons same z x k))))) record {
        front = [];
        x = x;
        y = y;
        back = k ++ m;
        before = refl;
        after = refl;
        unordered = f x (omega (arith, occ-hit same x x k refl));
      }

  -- lists of the same distinct items are joined if the edges order no pair that the lists order differently
  abbrev Reached : List A → Type 0
  Reached b =
      (a : List A) → ((t : A) → occ_of same t a ≡ occ_of same t b) → ((t : A) → occ_of same t b ≤ 1)
      → ((x z : A) → Before same x z a → Before same z x b → Unordered E x z) → Swaps E a b (differ same a b)

  reach : (b : List A) → Reached b
  unfolding differ
  reach [] a e one f = rw (occ-none same a (λ t. e t ∙ occ-nil same t)) done
  reach (y ∷ b) a e one f = go (occ-around same y a (omega (arith, e y, occ-hit same y y b refl))) (reach b)
    where
      go : (k : List A) × (m : List A) × (a ≡ k ++ (y ∷ m)) → Reached b → Swaps E a (y ∷ b) (differ same a (y ∷ b))
      go (k, m, q) r =
          rw (q, differ-first same y k m b gone)
          (exchanges-trans (pass y k m passed) (exchanges-cons y (r (k ++ m) rest (λ t. omega (arith, one t, occ-cons same t y b)) apart)))
        where
          -- y aside, both lists hold the same
          rest : (t : A) → occ_of same t (k ++ m) ≡ occ_of same t b
          rest t = omega (arith, e t, ap (occ_of same t) q, occ-insert same t y k m, occ-cons same t y b)

          gone : occ_of same y (k ++ m) ≡ 0
          gone = omega (arith, rest y, one y, occ-hit same y y b refl)

          other : (t : A) → 0 < occ_of same t (k ++ m) → ¬ (t ≡ y)
          other t h = occ-apart same t y (k ++ m) h gone

          passed : (x : A) → 0 < occ_of same x k → Unordered E x y
          passed x h =
              f x y (rw q (before-joined same x y k (y ∷ m) h (omega (arith, gone, occ-append same y k m))))
              (before-first same y x b (other x (omega (arith, h, occ-append same x k m))))

          apart : (x z : A) → Before same x z (k ++ m) → Before same z x b → Unordered E x z
          apart x z h g =
              f x z (rw q (before_more same x z y k m (other z (omega (arith, rest z, before-member same z x b g))) h))
              (before-cons same z x y b (other x (before-member same x z (k ++ m) h)) (λ n. g))

  allowed-chain : {want : A → ℕ} {a b : List A} {n : ℕ} → Swaps E a b n → Allows same want E a → Chain same want E a b n
  allowed-chain done p = none p
  allowed-chain (next s r) p = more p s (allowed-chain r (exchange-allowed same s p))

-- "the exchanges are exactly as many as these pairs"
pub chain-between : {A : Type 0} (same : Discrete A) (want : A → ℕ) (E : A → A → Type 0) → ((a : A) → want a ≤ 1)
    → (a b : List A) → Allows same want E a → Allows same want E b → Chain same want E a b (differ same a b)
chain-between {A} same want E one a b p q =
    allowed-chain same E (reach same E b a (λ t. p.once t ∙ sym (q.once t)) (λ t. omega (arith, q.once t, one t)) unordered) p
  where
    unordered : (x z : A) → Before same x z a → Before same z x b → Unordered E x z
    unordered x z h g = record {
      to = λ w. omega (arith, h, g, leads-before same x z q w);
      fro = λ w. omega (arith, h, g, leads-before same z x p w);
    }
