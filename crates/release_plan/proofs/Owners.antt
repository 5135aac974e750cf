-- The counters, the target and the search from it on, and what they leave.
use Prim.Native.Nat.{ℕ, zero, suc, ◌+◌, ◌*◌, ◌%◌, ◌<◌}
use mathlib.Core.Path.{ap, ◌≡◌, refl, sym, subst, ◌∙◌}
use mathlib.Core.Bool.{true, not}
use mathlib.Core.List.{List, [], ◌∷◌}
use native.Mathlib.Omega.{arith}
use native.Mathlib.Nat.{mod-lt}
use lib.ListN.{length, get_or}
use lib.IntN.{ℤ, pos}
use Rattle.std.specs.Prelude.{Some, None, Ok, Err}
use Rattle.task.specs.declared.refusal.Refusal.{Refusal}
use Rattle.task.specs.declared.refusal.Refusal.TheVariants.{Damaged, RingsFull}
use Rattle.lists.proofs.Apart.{unequal}
use Rattle.lists.proofs.Told.{and-true}
use Rattle.lists.specs.Lists.{all_of}
use Rattle.lists.specs.Circles.{around}
use Rattle.ring.specs.Ring.{Sound, Full, sound, full, ends_at}
use Rattle.ring.proofs.Ends.{full-told}
use Rattle.choice.specs.Least.{load, least}
use Rattle.choice.specs.Search.{unsound, none, at, search}
use Rattle.choice.specs.Search as rules
use Rattle.choice.proofs.Least.{least-worker}
use Rattle.plans.specs.Forms.{own}
use Rattle.rules.specs.Memory.{Mem, ring_number}
use Rattle.rules.specs.Words.{counter_fits, counters_fit}
use Rattle.rules.specs.Steps.{find_room, release_to, release_ready}
use Rattle.plans.specs.Plans.{Plan, refuse}
use Rattle.plans.proofs.Searches.{Looked, search-looked}
use Rattle.task.specs.declared.Ends.{Ends}
use Rattle.task.specs.declared.WorkerId.{WorkerId}
use Rattle.task.specs.declared.refusal.Damaged as word
use Rattle.counters.specs.Choice.{Choice, Chosen}
use Rattle.searches.specs.Searches.{Found, found_of, Reads}
use Rattle.release_plan.specs.Owners.{Owner, At, room_from, owner_at, owner_of, Offers, Owned}

-- one of the counters that all fit
counter-among : (c : List ℤ) → counters_fit c ≡ true → (q : ℕ) → q < length c → counter_fits (get_or c q (pos 0)) ≡ true
unfolding counters_fit
counter-among [] e q h = absurd (omega arith)
counter-among (x ∷ c) e zero h = (and-true (counter_fits x) (counters_fit c) e).0
counter-among (x ∷ c) e (suc q) h = counter-among c (and-true (counter_fits x) (counters_fit c) e).1 q (omega arith)

module _ (p k i j : ℕ) (e : List ℕ) where
  -- the search from owner j on
  abbrev room : rules.Found
  room = search (λ o. sound k (ends_at e (o * p + i))) (λ o. not (full k (ends_at e (o * p + i)))) (around p j)

  module _ (r : Found) (hr : found_of r ≡ room) (o : WorkerId) (both : Ends) (g : r ≡ Ok (Some (o, both))) where
    looked : Looked p k (Full k) (λ d. ends_at e ((j + d) % p * p + i)) j (at o.0)
    looked = rw (← hr, g) at (search-looked p k j (Full k) (full k) (full-told k) (λ o. ends_at e (o * p + i)))

    found_below : i < p → o.0 < p
    found_below h = rw looked.2 (mod-lt (j + looked.0) (omega arith))

    found-sound : Sound k (ends_at e (o.0 * p + i))
    found-sound = subst (λ (x : ℕ). Sound k (ends_at e (x * p + i))) (sym looked.2) looked.1.sound

    found-room : ¬ (Full k (ends_at e (o.0 * p + i)))
    found-room = subst (λ (x : ℕ). ¬ (Full k (ends_at e (x * p + i)))) (sym looked.2) looked.1.stops

module _ (p : ℕ) (c : List ℤ) (x : Choice) (hx : Chosen p c x) where
  module _ (j : WorkerId) (t : x ≡ Ok j) where
    chosen : (counters_fit c ≡ true) × (j.0 ≡ least (all_of p) (load p c))
    chosen = rw t at hx

    pub target_below : 0 < p → j.0 < p
    target_below h = rw chosen.1 (least-worker p (load p c) h).0.candidate

  module _ (k i s : ℕ) (e : List ℕ) where
    pub owner-damaged : (d : word.Damaged) → x ≡ Err d → (Err Damaged ≡ owner_of p k i s e c) × Owned p k i s e c (Err Damaged)
    unfolding release_ready owner_of room_from
    owner-damaged d g = (rw (rw g at hx) refl, λ m v. rw (v.counters, rw g at hx))

    module _ (j : WorkerId) (t : x ≡ Ok j) (r : Found) (hr : found_of r ≡ room p k i j.0 e) where
      goes_to : (m : Mem) → Offers i s e c m → release_ready (own p m) p k i m ≡ release_to (own p m) p k i m (found_of r)
      unfolding release_ready find_room
      goes_to m v = rw (v.counters, v.ends, (chosen j t).0, ← (chosen j t).1, ← hr)

      room-is : room_from p k i e c ≡ found_of r
      unfolding room_from
      room-is = rw ((chosen j t).0, ← (chosen j t).1, ← hr) refl

      pub owner-unsound : (d : word.Damaged) → r ≡ Err d → (Err Damaged ≡ owner_of p k i s e c) × Owned p k i s e c (Err Damaged)
      unfolding release_to owner_of
      owner-unsound d g = (rw (room-is, g) refl, λ m v. goes_to m v ∙ rw g)

      pub owner-none : r ≡ Ok None → (Err (RingsFull s) ≡ owner_of p k i s e c) × Owned p k i s e c (Err (RingsFull s))
      unfolding release_to owner_of
      owner-none g = (rw (room-is, g) refl, λ m v. goes_to m v ∙ rw (g, v.task))

      pub owner-at : Reads (λ o. ends_at e (o * p + i)) r → (o : WorkerId) (both : Ends) → r ≡ Ok (Some (o, both)) → i < p
          → (At o both ≡ owner_of p k i s e c) × Owned p k i s e c (At o both)
      unfolding owner_of
      owner-at read o both g h =
          let ends : both ≡ ends_at e (o.0 * p + i) = subst (Reads (λ o. ends_at e (o * p + i))) g read in (
            rw (room-is, g, ends) refl,
            (
              record {
                owner = found_below p k i j.0 e r hr o both g h;
                sound = found-sound p k i j.0 e r hr o both g;
                room = found-room p k i j.0 e r hr o both g;
                counters = counter-among c (chosen j t).0;
                follows = λ m v. goes_to m v ∙ rw g;
              },
              ends,
            ),
          )

-- the owner that was found
abbrev found_in : rules.Found → Owner → rules.Found
found_in f (Err why) = f
found_in f (At o both) = at o.0

-- what is told by an owner, of every plan that goes on with what the search found
module _ (p k i s : ℕ) (e : List ℕ) (c : List ℤ) (r : Owner) (told : r ≡ owner_of p k i s e c) where
  pub room-refused : {O U : Type 0} (to : rules.Found → Plan O U) → to unsound ≡ refuse Damaged → to none ≡ refuse (RingsFull s) → (why : Refusal) → r ≡ Err why
      → to (room_from p k i e c) ≡ refuse why
  unfolding owner_of
  room-refused {O} {U} to a b why v = go (room_from p k i e c) (sym told ∙ v)
    where
      same : (why' : Refusal) → ◌≡◌ {A = Owner} (Err why') (Err why) → ◌≡◌ {A = Plan O U} (refuse why') (refuse why)
      same why' q = cc

      go : (f : rules.Found) → owner_at s (λ o. ends_at e (ring_number p o i)) f ≡ Err why → to f ≡ refuse why
      go unsound q = a ∙ same Damaged q
      go none q = b ∙ same (RingsFull s) q
      go (at o) q = unequal cc

  pub room_at : (o : WorkerId) (both : Ends) → r ≡ At o both → room_from p k i e c ≡ at o.0
  unfolding owner_of
  room_at o both v = go (room_from p k i e c) (sym told ∙ v)
    where
      go : (f : rules.Found) → owner_at s (λ o. ends_at e (ring_number p o i)) f ≡ At o both → f ≡ at o.0
      go unsound q = unequal cc
      go none q = unequal cc
      go (at o') q = ap (found_in unsound) q
