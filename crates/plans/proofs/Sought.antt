-- Where a target is sought by a form that chooses, what is found along the owners offered is told in the table's words, of any family.
use Prim.Native.Nat.{ℕ}
use mathlib.Core.Path.{◌≡◌, sym, ap, subst, ◌∙◌}
use mathlib.Core.List.{List}
use lib.ListN.{length, get_or}
use Rattle.lists.proofs.Told.{Told, told-true, told-false}
use Rattle.task.specs.declared.Ends.{Ends}
use Rattle.ring.specs.Ring.{Sound, Full}
use Rattle.choice.specs.Least.{Least}
use Rattle.choice.specs.Form.{Offered, Form}
use Rattle.choice.proofs.Least.{least-one}
use Rattle.choice.proofs.Form.{Chooses, target_is}
use Rattle.memory.specs.Family.{Family}
use Rattle.memory.specs.Memory.{Mem}
use Rattle.plans.specs.Memory.{ring_number, ends_in}
use Rattle.plans.specs.Tables.{GoesOn, BadEnds, StopsAt, offered_ends}
use Rattle.plans.specs.Forms.{target_by, BadOffered, AllFull, RoomAt, BadUsed}
use Rattle.plans.proofs.Searches.{stop-unique}

module _ {F : Family} (f : Form) (p k i : ℕ) (m : Mem F) (chooses : Chooses p f) (good : ¬ f.Damaged) where
  -- "target j", and the owners and ends that are looked at from there on
  abbrev j : ℕ
  j = target_by f

  abbrev owners : List ℕ
  owners = f.offered j

  abbrev offers : ℕ → Ends
  offers = offered_ends p i m owners

  pub least-target : Least f.Candidate f.sum (target_by f)
  least-target = (target_is chooses good).0

  from-target : Offered p f.Candidate j owners
  from-target = chooses.offers j least-target.candidate

  pub none-damaged : ¬ (BadEnds (length (f.offered (target_by f))) k (Full k) (offered_ends p i m (f.offered (target_by f)))) → ¬ (BadOffered f p k i m)
  none-damaged n (h, t, b) =
      n (subst (λ (x : ℕ). BadEnds (length (f.offered x)) k (Full k) (offered_ends p i m (f.offered x))) (least-one t least-target) b)

  -- the rings looked at are all that worker i fills for candidates
  pub all-full : GoesOn k (Full k) (offered_ends p i m (f.offered (target_by f))) (length (f.offered (target_by f))) → AllFull f p k i m
  all-full g o c =
      let (e, l, q) = from-target.every o c in
      subst (λ (x : ℕ). Sound k (ends_in m (ring_number p x i)) × Full k (ends_in m (ring_number p x i))) q (g e l)

  module _ (e : ℕ) (stop : StopsAt (length (f.offered (target_by f))) k (Full k) (offered_ends p i m (f.offered (target_by f))) e) where
    pub one-open : ¬ (AllFull f p k i m)
    one-open c = stop.stops (c (get_or owners e 0) (from-target.taken e stop.inside).candidate).1

    -- the counter of the ring found, told of whichever target and place; `Seeks` is that a target is sought
    pub used-told : {Seeks : Type 0} → Seeks → (o : ℕ) → o ≡ get_or (f.offered (target_by f)) e 0
        → Told (f.fits_at (ring_number p o i)) (¬ (Seeks × BadUsed f p k i m)) (Seeks × BadUsed f p k i m)
    used-told {Seeks} seeks o q = go (chooses.told_at (ring_number p o i))
      where
        same : (h d : ℕ) → RoomAt f p k i m h d → get_or (f.offered h) d 0 ≡ o
        same h d (t, s) =
            let w : h ≡ j = least-one t least-target in
            ap (λ (x : ℕ). get_or (f.offered x) d 0) w
            ∙ ap (λ (n : ℕ). get_or owners n 0)
            (stop-unique (length owners) k (Full k) offers
            (subst (λ (x : ℕ). StopsAt (length (f.offered x)) k (Full k) (offered_ends p i m (f.offered x)) d) w s) stop)
            ∙ sym q

        go : Told (f.fits_at (ring_number p o i)) (¬ (f.DamagedAt (ring_number p o i))) (f.DamagedAt (ring_number p o i))
            → Told (f.fits_at (ring_number p o i)) (¬ (Seeks × BadUsed f p k i m)) (Seeks × BadUsed f p k i m)
        go (told-true t n) = told-true t (λ (r, (h, d, s, b)). n (subst (λ (x : ℕ). f.DamagedAt (ring_number p x i)) (same h d s) b))
        go (told-false t b) = told-false t (seeks, (j, e, (least-target, stop), subst (λ (x : ℕ). f.DamagedAt (ring_number p x i)) q b))
