-- What a search over p rings, from number x upward modulo p, finds, in the words of the refusal table: `at-distance d` are the
-- ends of the ring at distance d, and those as `Skip` says are skipped.
use Prim.Native.Nat.{ℕ, ◌+◌, ◌%◌, ◌≤◌, ◌<◌}
use mathlib.Core.Path.{◌≡◌, sym, ap, subst, ◌∙◌}
use mathlib.Core.Bool.{Bool, not}
use mathlib.Core.List.{List}
use native.Mathlib.Omega.{arith}
use lib.ListN.{length, get_or}
use Rattle.lists.specs.Circles.{around}
use Rattle.lists.specs.Decided.{Smallest}
use Rattle.lists.proofs.Circles.{length-around, around-at}
use Rattle.lists.proofs.Decided.{smallest-unique}
use Rattle.lists.proofs.Told.{Told, told-true, told-false, not-told}
use Rattle.task.specs.declared.Ends.{Ends}
use Rattle.ring.specs.Ring.{Sound, Empty, Full, sound, empty, full}
use Rattle.ring.proofs.Ends.{sound-told, empty-told, full-told}
use Rattle.choice.specs.Search.{Found, unsound, none, at, search, Outcome}
use Rattle.choice.proofs.Search.{search_is}
use Rattle.memory.specs.Family.{Family}
use Rattle.memory.specs.Memory.{Mem}
use Rattle.plans.specs.Memory.{ring_number, ends_in, pointer_in}
use Rattle.plans.specs.Tables.{GoesOn, BadEnds, StopsAt, scanned_ends, offered_ends}
use Rattle.plans.specs.Searches.{scan, find_room}

module _ (p k : ℕ) (Skip : Ends → Type 0) (at-distance : ℕ → Ends) where
  -- what is found from number x on, as a property
  abbrev pub Looked : ℕ → Found → Type 0
  Looked x unsound = BadEnds p k Skip at-distance
  Looked x none = GoesOn k Skip at-distance p
  Looked x (at j) = (e : ℕ) × StopsAt p k Skip at-distance e × (j ≡ (x + e) % p)

  -- a distance at which a search doesn't go on
  abbrev Halts : ℕ → Type 0
  Halts d = ¬ (Sound k (at-distance d) × Skip (at-distance d))

  stop_halts : {e : ℕ} → StopsAt p k Skip at-distance e → Smallest Halts e
  stop_halts s = record { such = λ h. s.stops h.1; least = λ d l h. h (s.goes_on d l) }

  bad-halts : (b : BadEnds p k Skip at-distance) → Smallest Halts b.0
  bad-halts b = record { such = λ h. b.3 h.0; least = λ d l h. h (b.2 d l) }

  -- the three exclude each other, and the stop is the only one
  pub stop-unique : {e f : ℕ} → StopsAt p k Skip at-distance e → StopsAt p k Skip at-distance f → e ≡ f
  stop-unique s t = smallest-unique (stop_halts s) (stop_halts t)

  pub all-not-bad : GoesOn k Skip at-distance p → ¬ (BadEnds p k Skip at-distance)
  all-not-bad all b = b.3 (all b.0 b.1).0

  pub stop-not-bad : {e : ℕ} → StopsAt p k Skip at-distance e → ¬ (BadEnds p k Skip at-distance)
  stop-not-bad s b = b.3 (subst (λ d. Sound k (at-distance d)) (smallest-unique (stop_halts s) (bad-halts b)) s.sound)

  pub stop-not-all : {e : ℕ} → StopsAt p k Skip at-distance e → ¬ (GoesOn k Skip at-distance p)
  stop-not-all {e} s all = s.stops (all e s.inside).1

-- what is found along a list of rings, by their numbers
module _ (k : ℕ) (Skip : Ends → Type 0) (ends : ℕ → Ends) (xs : List ℕ) where
  abbrev along : ℕ → Ends
  along d = ends (get_or xs d 0)

  abbrev pub Sought : Found → Type 0
  Sought unsound = BadEnds (length xs) k Skip (λ d. ends (get_or xs d 0))
  Sought none = GoesOn k Skip (λ d. ends (get_or xs d 0)) (length xs)
  Sought (at j) = (e : ℕ) × StopsAt (length xs) k Skip (λ d. ends (get_or xs d 0)) e × (j ≡ get_or xs e 0)

-- the search itself
module _ (k : ℕ) (Skip : Ends → Type 0) (skips : Ends → Bool) (skip-told : (e : Ends) → Told (skips e) (Skip e) (¬ (Skip e))) (ends : ℕ → Ends) where
  abbrev SoundAt : ℕ → Type 0
  SoundAt j = Sound k (ends j)

  abbrev BlocksAt : ℕ → Type 0
  BlocksAt j = ¬ (Skip (ends j))

  skip-stable : (e : Ends) → ¬ (¬ (Skip e)) → Skip e
  skip-stable e n = go (skip-told e)
    where
      go : Told (skips e) (Skip e) (¬ (Skip e)) → Skip e
      go (told-true q y) = y
      go (told-false q m) = absurd (n m)

  stops-told : (j : ℕ) → Told (not (skips (ends j))) (BlocksAt j) (¬ (BlocksAt j))
  stops-told j = go (skip-told (ends j))
    where
      go : Told (skips (ends j)) (Skip (ends j)) (¬ (Skip (ends j))) → Told (not (skips (ends j))) (BlocksAt j) (¬ (BlocksAt j))
      go (told-true q y) = not-told (skips (ends j)) (told-true q (λ n. n y))
      go (told-false q m) = not-told (skips (ends j)) (told-false q m)

  module _ (xs : List ℕ) where
    abbrev found : Found
    found = search (λ j. sound k (ends j)) (λ j. not (skips (ends j))) xs

    sought-of : (f : Found) → Outcome SoundAt BlocksAt xs f → Sought k Skip ends xs f
    sought-of unsound m = (m.place, m.inside, λ d l. ((m.passed d l).0, skip-stable (ends (get_or xs d 0)) (m.passed d l).1), m.damaged)
    sought-of none passed = λ d l. ((passed d l).0, skip-stable (ends (get_or xs d 0)) (passed d l).1)
    sought-of (at j) m = (
      m.place,
      record {
        inside = m.inside;
        goes_on = λ d l. ((m.passed d l).0, skip-stable (ends (get_or xs d 0)) (m.passed d l).1);
        sound = subst SoundAt (sym m.there) m.sound;
        stops = subst BlocksAt (sym m.there) m.stops;
      },
      sym m.there,
    )

    pub search-sought : Sought k Skip ends xs (search (λ j. sound k (ends j)) (λ j. not (skips (ends j))) xs)
    search-sought = sought-of found (search_is _ _ SoundAt BlocksAt (λ j. sound-told k (ends j)) stops-told xs)

    -- so where a search would stop, it does
    pub search-stops-at : (e : ℕ) → StopsAt (length xs) k Skip (λ d. ends (get_or xs d 0)) e
        → search (λ j. sound k (ends j)) (λ j. not (skips (ends j))) xs ≡ at (get_or xs e 0)
    search-stops-at e s = go found search-sought
      where
        go : (f : Found) → Sought k Skip ends xs f → f ≡ at (get_or xs e 0)
        go unsound bad = absurd (stop-not-bad (length xs) k Skip (along k Skip ends xs) s bad)
        go none all = absurd (stop-not-all (length xs) k Skip (along k Skip ends xs) s all)
        go (at j) (d, t, q) = ap at (q ∙ ap (λ (n : ℕ). get_or xs n 0) (stop-unique (length xs) k Skip (along k Skip ends xs) t s))

-- the same over p rings, from number x upward modulo p: what is found along the list of their numbers
module _ (p k x : ℕ) (Skip : Ends → Type 0) (skips : Ends → Bool)
    (skip-told : (e : Ends) → Told (skips e) (Skip e) (¬ (Skip e))) (ends : ℕ → Ends) where
  abbrev away : ℕ → Ends
  away d = ends ((x + d) % p)

  there-is : (d : ℕ) → d < p → ends (get_or (around p x) d 0) ≡ away d
  there-is d l = ap ends (around-at p x d 0 l)

  on-away : (n : ℕ) → n ≤ p → GoesOn k Skip (λ d. ends (get_or (around p x) d 0)) n → GoesOn k Skip away n
  on-away n h on d l = rw (there-is d (omega (arith, l, h))) at (on d l)

  away_of : (f : Found) → Sought k Skip ends (around p x) f → Looked p k Skip away x f
  away_of unsound (e, l, on, bad) =
      let inside : e < p = omega (arith, l, length-around p x) in
      (e, inside, on-away e (omega (arith, inside)) on, rw (there-is e inside) at bad)
  away_of none all = on-away p (omega arith) (rw (length-around p x) at all)
  away_of (at j) (e, s, q) =
      let inside : e < p = omega (arith, s.inside, length-around p x) in (
        e,
        record {
          inside = inside;
          goes_on = on-away e (omega (arith, inside)) s.goes_on;
          sound = rw (there-is e inside) at s.sound;
          stops = rw (there-is e inside) at s.stops;
        },
        q ∙ around-at p x e 0 inside,
      )

  pub search-looked : Looked p k Skip (λ d. ends ((x + d) % p)) x (search (λ j. sound k (ends j)) (λ j. not (skips (ends j))) (around p x))
  search-looked = away_of (search (λ j. sound k (ends j)) (λ j. not (skips (ends j))) (around p x)) (search-sought k Skip skips skip-told ends (around p x))

  -- so where a search would stop, it does
  pub search-stops : (e : ℕ) → StopsAt p k Skip (λ d. ends ((x + d) % p)) e
      → search (λ j. sound k (ends j)) (λ j. not (skips (ends j))) (around p x) ≡ at ((x + e) % p)
  search-stops e s = go (search (λ j. sound k (ends j)) (λ j. not (skips (ends j))) (around p x)) search-looked
    where
      go : (f : Found) → Looked p k Skip away x f → f ≡ at ((x + e) % p)
      go unsound bad = absurd (stop-not-bad p k Skip away s bad)
      go none all = absurd (stop-not-all p k Skip away s all)
      go (at j) (d, t, q) = ap at (q ∙ ap (λ (n : ℕ). (x + n) % p) (stop-unique p k Skip away t s))

-- what the scan finds, and that it stops where it would
module _ {F : Family} (p k i : ℕ) (m : Mem F) where
  pub scan-looked : Looked p k Empty (scanned_ends p i m) (pointer_in m i) (scan p k i m)
  unfolding scan
  scan-looked = search-looked p k (pointer_in m i) Empty empty empty-told (λ j. ends_in m (ring_number p i j))

  pub scan-stops : (e : ℕ) → StopsAt p k Empty (scanned_ends p i m) e → scan p k i m ≡ at ((pointer_in m i + e) % p)
  unfolding scan
  scan-stops = search-stops p k (pointer_in m i) Empty empty empty-told (λ j. ends_in m (ring_number p i j))

-- what the search for room finds along a list of owners, and that it stops where it would
module _ {F : Family} (p k i : ℕ) (owners : List ℕ) (m : Mem F) where
  pub room-looked : Sought k (Full k) (λ o. ends_in m (ring_number p o i)) owners (find_room p k i m owners)
  unfolding find_room
  room-looked = search-sought k (Full k) (full k) (full-told k) (λ o. ends_in m (ring_number p o i)) owners

  pub room-stops : (e : ℕ) → StopsAt (length owners) k (Full k) (offered_ends p i m owners) e → find_room p k i m owners ≡ at (get_or owners e 0)
  unfolding find_room
  room-stops = search-stops-at k (Full k) (full k) (full-told k) (λ o. ends_in m (ring_number p o i)) owners
