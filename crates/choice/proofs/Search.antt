-- The search: it finds what its property says, and nothing else has that property.
use Prim.Native.Nat.{ℕ, zero, suc}
use mathlib.Core.Path.{◌≡◌, refl, sym, ap, ◌∙◌, subst}
use mathlib.Core.Bool.{Bool, true, false}
use mathlib.Core.List.{List, [], ◌∷◌}
use native.Mathlib.Omega.{arith}
use lib.ListN.{length, get_or}
use Rattle.lists.specs.Decided.{Smallest}
use Rattle.lists.proofs.Decided.{smallest-unique}
use Rattle.lists.proofs.Told.{Told, told-true, told-false}
use Rattle.choice.specs.Search.{Found, unsound, none, at, search, WentOn, MetUnsound, MetAt, Outcome}

-- one look, from the front of the list
module _ (sound stops : ℕ → Bool) where
  pub search-nil : search sound stops [] ≡ none
  unfolding search
  search-nil = refl

  module _ (x : ℕ) (xs : List ℕ) where
    pub search-unsound : sound x ≡ false → search sound stops (x ∷ xs) ≡ unsound
    unfolding search
    search-unsound e = rw e

    pub search-stops-here : sound x ≡ true → stops x ≡ true → search sound stops (x ∷ xs) ≡ at x
    unfolding search
    search-stops-here e q = rw (e, q)

    pub search-goes-on : sound x ≡ true → stops x ≡ false → search sound stops (x ∷ xs) ≡ search sound stops xs
    unfolding search
    search-goes-on e q = rw (e, q)

module _ (Sound Stops : ℕ → Type 0) where
  -- one that passed, before what was found
  passed-more : (x : ℕ) (xs : List ℕ) (n : ℕ) → Sound x → ¬ (Stops x) → WentOn Sound Stops xs n → WentOn Sound Stops (x ∷ xs) (suc n)
  passed-more x xs n s f p zero h = (s, f)
  passed-more x xs n s f p (suc d) h = p d (omega arith)

  outcome-more : (x : ℕ) (xs : List ℕ) (f : Found) → Sound x → ¬ (Stops x) → Outcome Sound Stops xs f → Outcome Sound Stops (x ∷ xs) f
  outcome-more x xs unsound s n m =
      record { place = suc m.place; inside = omega (arith, m.inside); passed = passed-more x xs m.place s n m.passed; damaged = m.damaged }
  outcome-more x xs none s n p = passed-more x xs (length xs) s n p
  outcome-more x xs (at y) s n m =
      record {
        place = suc m.place;
        inside = omega (arith, m.inside);
        passed = passed-more x xs m.place s n m.passed;
        there = m.there;
        sound = m.sound;
        stops = m.stops;
      }

  -- where a search ends
  module _ (xs : List ℕ) where
    abbrev Ends : ℕ → Type 0
    Ends d = ¬ (Sound (get_or xs d 0) × ¬ (Stops (get_or xs d 0)))

    ends-damaged : (m : MetUnsound Sound Stops xs) → Smallest Ends m.place
    ends-damaged m = record { such = λ q. m.damaged q.0; least = λ k h e. e (m.passed k h) }

    ends_at : (x : ℕ) (m : MetAt Sound Stops xs x) → Smallest Ends m.place
    ends_at x m = record { such = λ q. q.1 (subst Stops (sym m.there) m.stops); least = λ k h e. e (m.passed k h) }

    damaged-or-at : (x : ℕ) → MetUnsound Sound Stops xs → ¬ (MetAt Sound Stops xs x)
    damaged-or-at x m a =
        m.damaged (subst Sound (sym (ap (λ (d : ℕ). get_or xs d 0) (smallest-unique (ends-damaged m) (ends_at x a)) ∙ a.there)) a.sound)

    none-or-damaged : WentOn Sound Stops xs (length xs) → ¬ (MetUnsound Sound Stops xs)
    none-or-damaged p m = (ends-damaged m).such (p m.place m.inside)

    none-or-at : (x : ℕ) → WentOn Sound Stops xs (length xs) → ¬ (MetAt Sound Stops xs x)
    none-or-at x p a = (ends_at x a).such (p a.place a.inside)

    pub search-only : (f g : Found) → Outcome Sound Stops xs f → Outcome Sound Stops xs g → f ≡ g
    search-only unsound unsound m k = refl
    search-only unsound none m p = absurd (none-or-damaged p m)
    search-only unsound (at y) m b = absurd (damaged-or-at y m b)
    search-only none unsound p k = absurd (none-or-damaged p k)
    search-only none none p q = refl
    search-only none (at y) p b = absurd (none-or-at y p b)
    search-only (at x) unsound a k = absurd (damaged-or-at x k a)
    search-only (at x) none a q = absurd (none-or-at x q a)
    search-only (at x) (at y) a b =
        ap at (sym a.there ∙ ap (λ (d : ℕ). get_or xs d 0) (smallest-unique (ends_at x a) (ends_at y b)) ∙ b.there)

module _ (sound stops : ℕ → Bool) (Sound Stops : ℕ → Type 0)
    (s : (x : ℕ) → Told (sound x) (Sound x) (¬ (Sound x)))
    (t : (x : ℕ) → Told (stops x) (Stops x) (¬ (Stops x))) where
  pub search_is : (xs : List ℕ) → Outcome Sound Stops xs (search sound stops xs)
  search_is [] = rw (search-nil sound stops) (λ d h. absurd (omega arith))
  search_is (x ∷ xs) = go (s x) (t x) (search_is xs)
    where
      go : Told (sound x) (Sound x) (¬ (Sound x)) → Told (stops x) (Stops x) (¬ (Stops x)) → Outcome Sound Stops xs (search sound stops xs)
          → Outcome Sound Stops (x ∷ xs) (search sound stops (x ∷ xs))
      go (told-false e n) b o =
          rw (search-unsound sound stops x xs e) (record { place = 0; inside = omega arith; passed = λ d h. absurd (omega arith); damaged = n })
      go (told-true e y) (told-true q z) o =
          rw (search-stops-here sound stops x xs e q)
          (record { place = 0; inside = omega arith; passed = λ d h. absurd (omega arith); there = refl; sound = y; stops = z })
      go (told-true e y) (told-false q n) o =
          rw (search-goes-on sound stops x xs e q) (outcome-more Sound Stops x xs (search sound stops xs) y n o)
