-- In an unfinished run of an acyclic job some worker has something to do. And what is known of an item that is in a hand, that waits, or
-- that is to be released.
use Prim.Native.Nat.{ℕ, zero, suc, ◌≤◌, ◌<◌}
use mathlib.Core.Path.{◌≡◌, refl, ap}
use mathlib.Core.List.{List, [], ◌∷◌}
use native.Mathlib.Omega.{arith}
use native.Mathlib.Decide.{dec_lt}
use lib.ListN.{length}
use Rattle.lists.specs.Lists.{occ_of}
use Rattle.lists.specs.Sums.{sum_to}
use Rattle.lists.proofs.Appends.{no-members, some-members}
use Rattle.lists.proofs.Occurrences.{occ-nil, occ-hit, less-often}
use Rattle.lists.proofs.Sums.{sum-zero, sum-prefix, sum-find, one-adds}
use Rattle.system.specs.Stages.{Hand, idle, fetched, running, in_hand, phase, places}
use Rattle.system.specs.System.{Items, Reversed, State, missing, Invariant, Falls, Step, fetch, start, complete, lower, place, Begins, Ready, to_start, to_complete, to_fetch, to_release}
use Rattle.system.proofs.Records.{missing-none, missing-find}

idle-hand : {A : Type 0} (r : Hand A) → phase r ≡ 0 → r ≡ idle
idle-hand idle h = refl
idle-hand (fetched a) h = absurd (omega arith)
idle-hand (running a) h = absurd (omega arith)

module _ {A : Type 0} (same : Discrete A) (G : Items A) where
  -- an item of the job that isn't recorded while all its predecessors are
  abbrev Due : List A → Type 0
  Due done = (u : A) × (G.want u ≡ 1) × (occ_of same u done ≡ 0) × (missing same (G.preds u) done ≡ 0)

  -- found from any that isn't recorded, down along predecessors that aren't
  due_below : (rank : A → ℕ) → ((u a : A) → 0 < occ_of same u (G.preds a) → rank u < rank a)
      → ((u a : A) → 0 < occ_of same u (G.preds a) → G.want u ≡ 1) → (done : List A) (m : ℕ) (a : A) → rank a < m → G.want a ≡ 1
      → occ_of same a done ≡ 0 → Due done
  due_below rank up closed done zero a h w e = absurd (omega arith)
  due_below rank up closed done (suc m) a h w e = go (dec_lt 0 (missing same (G.preds a) done)) (due_below rank up closed done m)
    where
      go : Dec (0 < missing same (G.preds a) done) → ((u : A) → rank u < m → G.want u ≡ 1 → occ_of same u done ≡ 0 → Due done) → Due done
      go (no n) r = (a, w, e, omega (arith, n))
      go (yes l) r =
          let (u, p, z) = missing-find same (G.preds a) done l in
          r u (omega (arith, h, up u a p)) (closed u a p) z

  module _ (laws : Reversed same G) (P : ℕ) where
    module _ (rank : A → ℕ) (up : (u a : A) → 0 < occ_of same u (G.preds a) → rank u < rank a)
        (closed : (u a : A) → 0 < occ_of same u (G.preds a) → G.want u ≡ 1) (all : List A) (each : (a : A) → occ_of same a all ≡ G.want a)
        (s : State A) (v : Invariant same G P s) where
      -- an item that is due, is in no hand and doesn't wait is still blocked, so its release is
      release-left : Due s.stages.done → ((j : ℕ) → j < P → s.stages.hand j ≡ idle) → ((j : ℕ) → j < P → s.stages.waiting j ≡ []) → Ready P s
      unfolding places
      release-left (u, w, z, e) rest empty = go (sum-find P (λ i. occ_of same u (s.pending i)) blocked)
        where
          blocked : 0 < sum_to P (λ i. occ_of same u (s.pending i))
          blocked =
              omega (
                arith,
                w,
                z,
                e,
                v.stage u,
                v.degree u,
                sum-zero P (λ i. occ_of same u (in_hand (s.stages.hand i))) (λ i h. rw (rest i h) (occ-nil same u)),
                sum-zero P (λ i. occ_of same u (s.stages.waiting i)) (λ i h. rw (empty i h) (occ-nil same u)),
              )

          first : (i : ℕ) → i < P → (l : List A) → s.pending i ≡ l → 0 < occ_of same u l → Ready P s
          first i h [] q m = absurd (omega (arith, m, occ-nil same u))
          first i h (x ∷ l) q m = to_release i x l h q rest empty

          go : (i : ℕ) × (i < P) × (0 < occ_of same u (s.pending i)) → Ready P s
          go (i, h, m) = first i h (s.pending i) refl m

      -- an unfinished run of an acyclic job has something to do
      pub progress : length s.stages.done < length all → Ready P s
      progress short = hands (dec_lt 0 (sum_to P (λ i. phase (s.stages.hand i))))
        where
          due : Due s.stages.done
          due =
              let (a, h) = less-often same s.stages.done all short in
              due_below rank up closed s.stages.done (suc (rank a)) a (omega arith) (omega (arith, h, each a, laws.one a)) (omega (arith, h, each a, laws.one a))

          lists : ((j : ℕ) → j < P → s.stages.hand j ≡ idle) → Dec (0 < sum_to P (λ i. length (s.stages.waiting i))) → Ready P s
          lists rest (yes h) =
              let (i, l, m) = sum-find P (λ i. length (s.stages.waiting i)) h in
              to_fetch i l rest (some-members (s.stages.waiting i) m)
          lists rest (no n) =
              release-left due rest (λ j l. no-members (s.stages.waiting j) (omega (arith, n, sum-prefix P (λ i. length (s.stages.waiting i)) j l)))

          busy : (i : ℕ) → i < P → (r : Hand A) → s.stages.hand i ≡ r → 0 < phase r → Ready P s
          busy i l idle e h = absurd (omega (arith, h))
          busy i l (fetched a) e h = to_start i a l e
          busy i l (running a) e h = to_complete i a l e

          hands : Dec (0 < sum_to P (λ i. phase (s.stages.hand i))) → Ready P s
          hands (yes h) =
              let (i, l, m) = sum-find P (λ i. phase (s.stages.hand i)) h in
              busy i l (s.stages.hand i) refl m
          hands (no n) =
              lists (λ j l. idle-hand (s.stages.hand j) (omega (arith, n, sum-prefix P (λ i. phase (s.stages.hand i)) j l)))
              (dec_lt 0 (sum_to P (λ i. length (s.stages.waiting i))))

    module _ {s : State A} (v : Invariant same G P s) where
      -- what is held or waits is an item of the job
      pub held-wanted : (i : ℕ) (a : A) → i < P → 0 < occ_of same a (in_hand (s.stages.hand i)) → G.want a ≡ 1
      unfolding places
      held-wanted i a l h = omega (arith, h, v.stage a, laws.one a, sum-prefix P (λ j. occ_of same a (in_hand (s.stages.hand j))) i l)

      pub waiting-wanted : (i : ℕ) (a : A) → i < P → 0 < occ_of same a (s.stages.waiting i) → G.want a ≡ 1
      unfolding places
      waiting-wanted i a l h = omega (arith, h, v.stage a, laws.one a, sum-prefix P (λ j. occ_of same a (s.stages.waiting j)) i l)

      -- an item that is in a place has all its predecessors recorded
      placed-behind : (a u : A) → 0 < places same P s.stages a → 0 < occ_of same u (G.preds a) → 0 < occ_of same u s.stages.done
      placed-behind a u h = missing-none same (G.preds a) s.stages.done u (omega (arith, h, v.stage a, v.degree a, laws.one a))

      pub held-behind : (i : ℕ) (a u : A) → i < P → 0 < occ_of same a (in_hand (s.stages.hand i)) → 0 < occ_of same u (G.preds a)
          → 0 < occ_of same u s.stages.done
      unfolding places
      held-behind i a u l h = placed-behind a u (omega (arith, h, sum-prefix P (λ j. occ_of same a (in_hand (s.stages.hand j))) i l))

      pub waiting-behind : (i : ℕ) (a u : A) → i < P → 0 < occ_of same a (s.stages.waiting i) → 0 < occ_of same u (G.preds a)
          → 0 < occ_of same u s.stages.done
      unfolding places
      waiting-behind i a u l h = placed-behind a u (omega (arith, h, sum-prefix P (λ j. occ_of same a (s.stages.waiting j)) i l))

      -- no item is in two hands
      pub one-holder : (i j : ℕ) (a : A) → i < P → j < P → 0 < occ_of same a (in_hand (s.stages.hand i)) → 0 < occ_of same a (in_hand (s.stages.hand j)) → i ≡ j
      unfolding places
      one-holder i j a = one-adds P (λ k. occ_of same a (in_hand (s.stages.hand k))) (omega (arith, v.stage a, laws.one a)) i j

      -- what is to be released is an item of the job that is still blocked
      pub pending-blocked : (i : ℕ) (x : A) (rest : List A) → i < P → s.pending i ≡ x ∷ rest → (G.want x ≡ 1) × (0 < s.degree x)
      unfolding places
      pending-blocked i x rest l e = (omega (arith, some, v.stage x, laws.one x), some)
        where
          some : 0 < s.degree x
          some =
              omega (arith, v.degree x, sum-prefix P (λ j. occ_of same x (s.pending j)) i l, ap (occ_of same x) e, occ-hit same x x rest refl)

  -- a degree never rises, so in a run it is at most the number of predecessors
  module _ (P : ℕ) where
    falls-degree : {x : A} {left : ℕ} {s s' : State A} → Falls same G P x left s s' → (a : A) → s'.degree a ≤ s.degree a
    falls-degree {x} {left} {s} {s'} f a = go (same a x)
      where
        go : Dec (a ≡ x) → s'.degree a ≤ s.degree a
        go (yes e) = rw e (omega (arith, f.was, f.now))
        go (no n) = omega (arith, f.others a n)

    step-degree : {s s' : State A} → Step same G P s s' → (a : A) → s'.degree a ≤ s.degree a
    step-degree (fetch i b f) a = omega (arith, f.keeps.degree a)
    step-degree (start i b f) a = omega (arith, f.keeps.degree a)
    step-degree (complete i b f) a = omega (arith, f.degree a, f.within a)
    step-degree (lower i x f) a = falls-degree f.falls a
    step-degree (place i o x f) a = falls-degree f.falls a

    pub begins-few : {s : State A} → Begins same G P s → (a : A) → s.degree a ≤ length (G.preds a)
    begins-few b a = omega (arith, b.degree a)

    pub step-few : {s s' : State A} → Step same G P s s' → ((a : A) → s.degree a ≤ length (G.preds a)) → (a : A) → s'.degree a ≤ length (G.preds a)
    step-few t h a = omega (arith, step-degree t a, h a)
