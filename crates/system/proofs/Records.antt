-- Laws of `missing`: how many of a list's items are not yet recorded. A record told by its words.
use Prim.Native.Nat.{ℕ, ◌+◌, ◌<◌}
use mathlib.Core.Path.{◌≡◌, refl, sym, ap, ◌∙◌}
use mathlib.Core.List.{List, [], ◌∷◌, ◌++◌}
use native.Mathlib.Omega.{arith}
use native.Mathlib.Decide.{ℕ_discrete}
use lib.ListN.{length, get_or}
use Rattle.lists.specs.Lists.{tabulate, occ_of, place_of}
use Rattle.lists.proofs.Blocks.{length-tabulate, get_d_tabulate}
use Rattle.lists.proofs.Occurrences.{occ-nil, occ-hit, occ-miss, occ-append, at-occ}
use Rattle.lists.proofs.Positions.{place-member, place_at, place-least, before-member}
use Rattle.system.specs.System.{missing}

module _ {A : Type 0} (same : Discrete A) where
  pub missing-nil : (l : List A) → missing same l [] ≡ length l
  unfolding missing
  missing-nil [] = refl
  missing-nil (u ∷ l) = omega (arith, missing-nil l, occ-nil same u)

  -- an item that joins the record is missing no more, wherever it stands in the list
  pub missing-snoc : (l done : List A) (a : A) → occ_of same a done ≡ 0 → missing same l (done ++ (a ∷ [])) + occ_of same a l ≡ missing same l done
  unfolding missing occ_of
  missing-snoc [] done a h = refl
  missing-snoc (u ∷ l) done a h = go (same u a) (missing-snoc l done a h)
    where
      go : Dec (u ≡ a) → missing same l (done ++ (a ∷ [])) + occ_of same a l ≡ missing same l done
          → missing same (u ∷ l) (done ++ (a ∷ [])) + occ_of same a (u ∷ l) ≡ missing same (u ∷ l) done
      go (yes e) r = omega (arith, occ-append same u done (a ∷ []), occ-hit same u a [] e, occ-hit same a u l (sym e), rw (sym e) at h)
      go (no n) r = omega (arith, occ-append same u done (a ∷ []), occ-miss same u a [] n, occ-miss same a u l (λ q. n (sym q)))

  pub missing-none : (l done : List A) (u : A) → missing same l done ≡ 0 → 0 < occ_of same u l → 0 < occ_of same u done
  unfolding missing occ_of
  missing-none [] done u h m = absurd (omega arith)
  missing-none (w ∷ l) done u h m = go (same u w) (missing-none l done u (omega arith))
    where
      go : Dec (u ≡ w) → (0 < occ_of same u l → 0 < occ_of same u done) → 0 < occ_of same u done
      go (yes e) r = rw e (omega arith)
      go (no n) r = r (omega (arith, occ-miss same u w l n))

  -- where some are missing, one can be named
  pub missing-find : (l done : List A) → 0 < missing same l done → (u : A) × (0 < occ_of same u l) × (occ_of same u done ≡ 0)
  unfolding missing occ_of
  missing-find [] done h = absurd (omega arith)
  missing-find (w ∷ l) done h = go (ℕ_discrete (occ_of same w done) 0) (missing-find l done)
    where
      go : Dec (occ_of same w done ≡ 0) → (0 < missing same l done → (u : A) × (0 < occ_of same u l) × (occ_of same u done ≡ 0))
          → (u : A) × (0 < occ_of same u (w ∷ l)) × (occ_of same u done ≡ 0)
      go (yes e) r = (w, omega (arith, occ-hit same w w l refl), e)
      go (no n) r = let (u, m, e) = r (omega arith) in (u, omega (arith, m), e)

-- The record is the first n items f.
module _ {A : Type 0} (same : Discrete A) (n : ℕ) (f : ℕ → A) (done : List A) (words : done ≡ tabulate n f) where
  long : length done ≡ n
  long = ap length words ∙ length-tabulate n f

  word_at : (z : ℕ) → z < n → get_or done z (f 0) ≡ f z
  word_at z h = ap (λ (l : List A). get_or l z (f 0)) words ∙ get_d_tabulate n f (f 0) z h

  -- each of them is recorded
  pub word-recorded : (z : ℕ) → z < n → 0 < occ_of same (f z) done
  word-recorded z h = rw (word_at z h) at (at-occ same (f 0) done z (omega (arith, h, long)))

  module _ (u : A) (member : 0 < occ_of same u done) where
    inside : place_of same u done < n
    inside = omega (arith, place-member same u done member, long)

    there : f (place_of same u done) ≡ u
    there = sym (word_at (place_of same u done) inside) ∙ place_at same (f 0) u done member

    -- what is recorded is one of them
    pub recorded-word : (y : ℕ) × (y < n) × (f y ≡ u)
    recorded-word = (place_of same u done, inside, there)

  -- what is recorded before one of them is an earlier one
  pub earlier_word : (x : ℕ) (u : A) → x < n → place_of same u done < place_of same (f x) done → (y : ℕ) × (y < x) × (f y ≡ u)
  earlier_word x u h before = (
    place_of same u done,
    omega (arith, before, place-least same (f 0) done x (omega (arith, h, long)), ap (λ (a : A). place_of same a done) (word_at x h)),
    there u (before-member same u (f x) done before),
  )
