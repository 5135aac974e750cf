-- Taking from lists "in a round robin fashion", the items being of any type: each take from any of the lists brings every waiting item nearer
-- to its own turn, and what joins a list at the end comes behind it.
use Prim.Native.Nat.{ℕ, suc, ◌+◌, ◌-◌, ◌*◌, ◌%◌, ◌<◌}
use mathlib.Core.Path.{◌≡◌, refl, sym, ap, ◌∙◌}
use mathlib.Core.Logic.{◌⊎◌, inl, inr}
use mathlib.Core.List.{List, [], ◌∷◌, ◌++◌, append-nil, append_assoc}
use native.Mathlib.Omega.{arith}
use native.Mathlib.Decide.{ℕ_discrete, dec_lt}
use native.Mathlib.Nat.{mod-lt, mod-eq_of_lt, mod-add-mod, add-mod_right, suc-mul}
use lib.ListN.{length, length-append}
use Rattle.lists.proofs.Decided.{stable}
use Rattle.lists.proofs.Appends.{some-members}
use Rattle.lists.proofs.Circles.{mod-reached}
use Rattle.lists.proofs.Places.{place-lt}
use Rattle.split_lists.specs.Moves.{First}
use Rattle.split_lists.proofs.Memories.{first-lt}

-- item t stands in one of the p lists, between those ahead of it and those behind it; the list is so far on from the pointer, modulo p
pub record Waits {A : Type 0} (p : ℕ) (lists : ℕ → List A) (pointer list : ℕ) (ahead : List A) (t : A) (behind : List A) (distance : ℕ) : Type 0 where
  pub stands : lists list ≡ ahead ++ (t ∷ behind)
  pub near : distance < p
  pub there : list ≡ (pointer + distance) % p

-- item a is taken from the first of the lists, from the pointer on, that isn't empty
pub record Takes {A : Type 0} (p : ℕ) (lists lists' : ℕ → List A) (pointer list : ℕ) (a : A) : Type 0 where
  pub first : First p (λ h. ¬ (lists h ≡ [])) pointer list
  pub rest : List A
  pub head : lists list ≡ a ∷ rest
  pub left : lists' list ≡ rest
  pub others : (h : ℕ) → h < p → ¬ (h ≡ list) → lists' h ≡ lists h

-- nothing is taken: the pointer stays, and each of the lists, but for what joins it at the end
pub record Spares {A : Type 0} (lists lists' : ℕ → List A) (pointer pointer' : ℕ) : Type 0 where
  pub stays : pointer' ≡ pointer
  pub joins : (h : ℕ) → (l : List A) × (lists' h ≡ lists h ++ l)

-- the take is item t's own: t stood first in its list, and those behind it stay
pub record Own {A : Type 0} (lists lists' : ℕ → List A) (list : ℕ) (a t : A) (behind : List A) : Type 0 where
  pub item : a ≡ t
  pub first : lists list ≡ t ∷ behind
  pub left : lists' list ≡ behind

-- item t waits still, and fewer than n takes can come before its own
pub record Nearer {A : Type 0} (p : ℕ) (lists : ℕ → List A) (pointer list : ℕ) (t : A) (behind : List A) (n : ℕ) : Type 0 where
  pub ahead : List A
  pub distance : ℕ
  pub waits : Waits p lists pointer list ahead t behind distance
  pub fewer : length ahead * p + distance < n

-- an item in one of the lists, with these ahead of it: that list is less than p on from the pointer
pub stands-near : {A : Type 0} (p : ℕ) (lists : ℕ → List A) (pointer list : ℕ) (ahead : List A) (t : A) (behind : List A) → list < p
    → lists list ≡ ahead ++ (t ∷ behind) → Nearer p lists pointer list t behind ((length ahead + 1) * p)
stands-near p lists pointer list ahead t behind l stands =
    let (distance, near, there) = mod-reached p (pointer % p) list (mod-lt pointer (omega (arith, l))) l in
    record {
      ahead = ahead;
      distance = distance;
      waits = record { stands = stands; near = near; there = sym there ∙ mod-add-mod pointer p distance };
      fewer = place-lt p (length ahead + 1) (length ahead) distance (omega arith) near;
    }

pub spares-none : {A : Type 0} (lists : ℕ → List A) (pointer : ℕ) → Spares lists lists pointer pointer
spares-none lists pointer = record { stays = refl; joins = λ h. ([], sym (append-nil (lists h))) }

-- where the lists are spared the item keeps those ahead of it, and what joins its list comes behind it
pub spared-near : {A : Type 0} {p : ℕ} {lists lists' : ℕ → List A} {pointer pointer' list : ℕ} {t : A} {behind : List A} {n : ℕ}
    → Spares lists lists' pointer pointer' → Nearer p lists pointer list t behind n → (l : List A) × Nearer p lists' pointer' list t (behind ++ l) n
spared-near {A} {list = list} {t = t} {behind = behind} h near =
    let (l, e) = h.joins list in (
      l,
      record {
        ahead = near.ahead;
        distance = near.distance;
        waits =
            record {
              stands = e ∙ ap (λ (x : List A). x ++ l) near.waits.stands ∙ append_assoc near.ahead (t ∷ behind) l;
              near = near.waits.near;
              there = rw h.stays near.waits.there;
            };
        fewer = near.fewer;
      },
    )

-- from the number after x it is p − 1 on to x
whole-round : (p x : ℕ) → x < p → x ≡ ((x + 1) % p + (p - 1)) % p
whole-round p x h = sym (mod-add-mod (x + 1) p (p - 1) ∙ ap (λ (n : ℕ). n % p) (omega (arith, h)) ∙ add-mod_right x p ∙ mod-eq_of_lt h)

-- and to a number beyond x it is so much less as x is on from the start
part-round : (p start x y a b : ℕ) → x ≡ (start + a) % p → y ≡ (start + b) % p → a < b → y ≡ ((x + 1) % p + (b - suc a)) % p
part-round p start x y a b ex ey h =
    ey
    ∙ ap (λ (n : ℕ). n % p) (omega (arith, h))
    ∙ sym (mod-add-mod (start + a) p (b - a))
    ∙ ap (λ (n : ℕ). (n + (b - a)) % p) (sym ex)
    ∙ ap (λ (n : ℕ). n % p) (omega (arith, h))
    ∙ sym (mod-add-mod (x + 1) p (b - suc a))

module _ {A : Type 0} (p : ℕ) (lists lists' : ℕ → List A) (pointer list j : ℕ) (a t : A) (behind : List A) (takes : Takes p lists lists' pointer j a) where
  -- the item's own list is taken from: it is the item's turn, or one item fewer is ahead of it
  own : (ahead : List A) (distance : ℕ) → Waits p lists pointer list ahead t behind distance → list ≡ j
      → Own lists lists' list a t behind ⊎ Nearer p lists' ((j + 1) % p) list t behind (length ahead * p + distance)
  own ahead distance w e = go ahead (sym had ∙ w.stands)
    where
      had : lists list ≡ a ∷ takes.rest
      had = ap lists e ∙ takes.head

      has : lists' list ≡ takes.rest
      has = ap lists' e ∙ takes.left

      go : (ahead : List A) → (a ∷ takes.rest) ≡ ahead ++ (t ∷ behind)
          → Own lists lists' list a t behind ⊎ Nearer p lists' ((j + 1) % p) list t behind (length ahead * p + distance)
      go [] q = inl (record { item = cc; first = had ∙ q; left = has ∙ cc })
      go (x ∷ ahead) q =
          inr (record {
            ahead = ahead;
            distance = p - 1;
            waits = record { stands = has ∙ cc; near = omega (arith, w.near); there = e ∙ whole-round p j (first-lt takes.first) };
            fewer = omega (arith, suc-mul (length ahead) p, w.near);
          })

  -- another list is taken from: it came before, so the item's own is now less far on
  other : (ahead : List A) (distance : ℕ) → Waits p lists pointer list ahead t behind distance → ¬ (list ≡ j)
      → Nearer p lists' ((j + 1) % p) list t behind (length ahead * p + distance)
  other ahead distance w n =
      record {
        ahead = ahead;
        distance = distance - suc skipped;
        waits =
            record {
              stands = kept ∙ w.stands;
              near = omega (arith, w.near);
              there = part-round p pointer j list skipped distance takes.first.there w.there sooner;
            };
        fewer = omega (arith, sooner);
      }
    where
      skipped : ℕ
      skipped = takes.first.distance

      kept : lists' list ≡ lists list
      kept = takes.others list (rw w.there (mod-lt (pointer + distance) (omega (arith, w.near)))) n

      some : ¬ (lists list ≡ [])
      some = some-members (lists list) (rw (w.stands, length-append ahead (t ∷ behind)) (omega arith))

      not_after : ¬ (distance < skipped)
      not_after h = takes.first.before distance h (rw (sym w.there) some)

      not_same : ¬ (distance ≡ skipped)
      not_same e = n (w.there ∙ ap (λ (x : ℕ). (pointer + x) % p) e ∙ sym takes.first.there)

      sooner : skipped < distance
      sooner = stable (dec_lt skipped distance) (λ m. not_same (omega (arith, m, not_after)))

  -- each take is the item's own, or brings it nearer
  pub taken-or-nearer : (ahead : List A) (distance : ℕ) → Waits p lists pointer list ahead t behind distance
      → Own lists lists' list a t behind ⊎ Nearer p lists' ((j + 1) % p) list t behind (length ahead * p + distance)
  taken-or-nearer ahead distance w = go (ℕ_discrete list j)
    where
      go : Dec (list ≡ j) → Own lists lists' list a t behind ⊎ Nearer p lists' ((j + 1) % p) list t behind (length ahead * p + distance)
      go (yes e) = own ahead distance w e
      go (no n) = inr (other ahead distance w n)

  -- fewer than n takes could come before the item's own: this is it, or fewer than n − 1 can come now
  pub taken-near : (n : ℕ) → Nearer p lists pointer list t behind n
      → Own lists lists' list a t behind ⊎ Nearer p lists' ((j + 1) % p) list t behind (n - 1)
  taken-near n near = go (taken-or-nearer near.ahead near.distance near.waits)
    where
      go : Own lists lists' list a t behind ⊎ Nearer p lists' ((j + 1) % p) list t behind (length near.ahead * p + near.distance)
          → Own lists lists' list a t behind ⊎ Nearer p lists' ((j + 1) % p) list t behind (n - 1)
      go (inl own) = inl own
      go (inr next) =
          inr (record { ahead = next.ahead; distance = next.distance; waits = next.waits; fewer = omega (arith, next.fewer, near.fewer) })
