-- Begin makes the invariant of the system, and each step keeps it.
use Prim.Native.Nat.{ℕ, suc, ◌+◌, ◌<◌, min}
use mathlib.Core.Path.{◌≡◌, refl}
use mathlib.Core.List.{[], ◌∷◌, ◌++◌}
use native.Mathlib.Omega.{arith}
use native.Mathlib.Decide.{dec_lt}
use lib.ListN.{length, length-append}
use Rattle.lists.specs.Lists.{occ_of, place_of}
use Rattle.lists.specs.Sums.{sum_to}
use Rattle.lists.proofs.Occurrences.{occ-hit, occ-miss, occ-append}
use Rattle.lists.proofs.Sums.{sum-zero, sum_kept}
use Rattle.lists.proofs.Positions.{place-member, place-left, place-right}
use Rattle.lists.proofs.Decided.{tally-yes, tally-no}
use Rattle.system.specs.Stages.{in_hand, phase, Stages, places, Finishes}
use Rattle.system.specs.System.{Items, Reversed, State, missing, Invariant, Keeps, Fetches, Starts, Completes, Falls, Releases, Lowers, Places, Step, fetch, start, complete, lower, place, Begins}
use Rattle.system.proofs.Stages.{sum-replaced, enters-places, takes-places, runs-places, finishes-places, stays-places}
use Rattle.system.proofs.Records.{missing-nil, missing-snoc, missing-none}

module _ {A : Type 0} (same : Discrete A) (G : Items A) (P : ℕ) where
  -- fetch and start: an item changes hands, one phase further
  moved_keeps : {s s' : State A} → Keeps same G P s s' → s'.stages.done ≡ s.stages.done
      → ((x : A) → places same P s'.stages x ≡ places same P s.stages x)
      → sum_to P (λ i. phase (s'.stages.hand i)) ≡ suc (sum_to P (λ i. phase (s.stages.hand i)))
      → Invariant same G P s → Invariant same G P s'
  moved_keeps {s} {s'} k d p h v = record {
    stage = λ x. rw (p x, k.degree x) (v.stage x);
    degree = λ x. rw (d, k.degree x) (omega (arith, v.degree x, sum_kept (occ_of same x) P k.pending));
    order = λ u x. rw d (v.order u x);
    count = rw d (omega (arith, v.count, k.steps, k.dues, h, sum_kept length P k.pending));
  }

  fetch-keeps : {i : ℕ} {a : A} {s s' : State A} → Fetches same G P i a s s' → Invariant same G P s → Invariant same G P s'
  fetch-keeps f = moved_keeps f.keeps f.takes.done (takes-places same P f.takes) (omega (arith, sum-replaced phase f.takes.hand))

  start-keeps : {i : ℕ} {a : A} {s s' : State A} → Starts same G P i a s s' → Invariant same G P s → Invariant same G P s'
  start-keeps f = moved_keeps f.keeps f.runs.done (runs-places same P f.runs) (omega (arith, sum-replaced phase f.runs.hand))

  -- release: a successor's degree falls, and its release is due no more
  released-keeps : {i left : ℕ} {x : A} {s s' : State A} → Releases same G P i x s s' → Falls same G P x left s s' → s'.stages.done ≡ s.stages.done
      → ((j : ℕ) → s'.stages.hand j ≡ s.stages.hand j)
      → ((y : A) → min 1 (s'.degree y) + places same P s'.stages y ≡ min 1 (s.degree y) + places same P s.stages y)
      → Invariant same G P s → Invariant same G P s'
  released-keeps {i} {left} {x} {s} {s'} p f d h g v = record {
    stage = λ y. omega (arith, g y, v.stage y);
    degree = λ y. go y (same y x);
    order = λ u y. rw d (v.order u y);
    count = rw d (omega (arith, v.count, p.steps, p.dues, sum_kept phase P h, sum-replaced length p.pending));
  }
    where
      go : (y : A) → Dec (y ≡ x) → s'.degree y ≡ missing same (G.preds y) s'.stages.done + sum_to P (λ j. occ_of same y (s'.pending j))
      go y (yes e) = rw (e, d, f.now) (omega (arith, v.degree x, f.was, sum-replaced (occ_of same x) p.pending, occ-hit same x x p.rest refl))
      go y (no m) = rw (d, f.others y m) (omega (arith, v.degree y, sum-replaced (occ_of same y) p.pending, occ-miss same y x p.rest m))

  lower-keeps : {i : ℕ} {x : A} {s s' : State A} → Lowers same G P i x s s' → Invariant same G P s → Invariant same G P s'
  lower-keeps {i} {x} {s} {s'} f = released-keeps f.releases f.falls f.stays.done f.stays.hand (λ y. go y (same y x))
    where
      go : (y : A) → Dec (y ≡ x) → min 1 (s'.degree y) + places same P s'.stages y ≡ min 1 (s.degree y) + places same P s.stages y
      go y (yes e) = rw e (omega (arith, stays-places same P f.stays x, f.falls.was, f.falls.now, f.blocked))
      go y (no m) = rw (stays-places same P f.stays y, f.falls.others y m) refl

  place-keeps : {i o : ℕ} {x : A} {s s' : State A} → Places same G P i o x s s' → Invariant same G P s → Invariant same G P s'
  place-keeps {i} {o} {x} {s} {s'} f = released-keeps f.releases f.falls f.enters.done f.enters.hand (λ y. go y (same y x))
    where
      go : (y : A) → Dec (y ≡ x) → min 1 (s'.degree y) + places same P s'.stages y ≡ min 1 (s.degree y) + places same P s.stages y
      go y (yes e) = rw e (omega (arith, enters-places same P f.enters x, tally-yes (same x x) refl, f.falls.was, f.falls.now))
      go y (no m) = omega (arith, enters-places same P f.enters y, tally-no (same y x) m, f.falls.others y m)

  module _ (laws : Reversed same G) where
    -- an item that completes was in a hand, so it is an item of the job, neither recorded nor blocked
    pub running-fresh : {i : ℕ} {a : A} {s : State A} {after : Stages A} → Finishes same P i a s.stages after → Invariant same G P s
        → (G.want a ≡ 1) × (occ_of same a s.stages.done ≡ 0) × (missing same (G.preds a) s.stages.done ≡ 0)
    unfolding places
    running-fresh {i} {a} {s} f v = (
      omega (arith, held, v.stage a, laws.one a),
      omega (arith, held, v.stage a, laws.one a),
      omega (arith, held, v.stage a, v.degree a, laws.one a),
    )
      where
        held : 0 < sum_to P (λ j. occ_of same a (in_hand (s.stages.hand j)))
        held = omega (arith, sum-replaced (λ r. occ_of same a (in_hand r)) f.hand, occ-hit same a a [] refl)

    complete-keeps : {i : ℕ} {a : A} {s s' : State A} → Completes same G P i a s s' → Invariant same G P s → Invariant same G P s'
    unfolding places occ_of
    complete-keeps {i} {a} {s} {s'} f v = record {
      stage = λ x. omega (arith, finishes-places same P f.finishes x, as-blocked x, v.stage x);
      degree = λ x. rw f.finishes.done (omega (
        arith,
        v.degree x,
        f.degree x,
        sum-replaced (occ_of same x) f.pending,
        occ-append same x f.old f.due,
        laws.reverse a x,
        missing-snoc same (G.preds x) s.stages.done a fresh,
      ));
      order = λ u x h m. rw f.finishes.done (after u x h (rw f.finishes.done at m) (same x a));
      count = rw f.finishes.done (omega (
        arith,
        v.count,
        f.steps,
        sum-replaced phase f.finishes.hand,
        sum-replaced length f.pending,
        length-append f.old f.due,
        length-append s.stages.done (a ∷ []),
        f.dues,
      ));
    }
      where
        -- what was blocked stays so, and no degree rises
        as-blocked : (x : A) → min 1 (s'.degree x) ≡ min 1 (s.degree x)
        as-blocked x = go (dec_lt 0 (s.degree x))
          where
            go : Dec (0 < s.degree x) → min 1 (s'.degree x) ≡ min 1 (s.degree x)
            go (yes h) = omega (arith, h, f.blocked x h)
            go (no n) = omega (arith, n, f.degree x, f.within x)

        fresh : occ_of same a s.stages.done ≡ 0
        fresh = (running-fresh f.finishes v).1

        ready : missing same (G.preds a) s.stages.done ≡ 0
        ready = (running-fresh f.finishes v).2

        after : (u x : A) → 0 < occ_of same u (G.preds x) → 0 < occ_of same x (s.stages.done ++ (a ∷ [])) → Dec (x ≡ a)
            → place_of same u (s.stages.done ++ (a ∷ [])) < place_of same x (s.stages.done ++ (a ∷ []))
        after u x h m (yes e) =
            let hu : 0 < occ_of same u s.stages.done = missing-none same (G.preds a) s.stages.done u ready (rw e at h) in
            let p : place_of same u s.stages.done < length s.stages.done = place-member same u s.stages.done hu in
            rw e (omega (arith, p, place-left same u s.stages.done (a ∷ []) p, place-right same a s.stages.done (a ∷ []) fresh))
        after u x h m (no n) =
            let hx : 0 < occ_of same x s.stages.done = omega (arith, m, occ-append same x s.stages.done (a ∷ []), occ-miss same x a [] n) in
            let p : place_of same u s.stages.done < place_of same x s.stages.done = v.order u x h hx in
            let q : place_of same x s.stages.done < length s.stages.done = place-member same x s.stages.done hx in
            omega (arith, p, q, place-left same x s.stages.done (a ∷ []) q, place-left same u s.stages.done (a ∷ []) (omega (arith, p, q)))

    pub step_keeps : {s s' : State A} → Step same G P s s' → Invariant same G P s → Invariant same G P s'
    step_keeps (fetch i a f) = fetch-keeps f
    step_keeps (start i a f) = start-keeps f
    step_keeps (complete i a f) = complete-keeps f
    step_keeps (lower i x f) = lower-keeps f
    step_keeps (place i o x f) = place-keeps f

  pub begins-keeps : {s : State A} → Begins same G P s → Invariant same G P s
  unfolding places occ_of
  begins-keeps {s} b = record {
    stage = λ a. rw (b.done, b.degree a) (omega (arith, b.waiting a, sum-zero P (λ i. occ_of same a (in_hand (s.stages.hand i))) (λ i l. rw (b.hand i))));
    degree = λ a. rw (b.done, b.degree a) (omega (arith, missing-nil same (G.preds a), sum-zero P (λ i. occ_of same a (s.pending i)) (λ i l. rw (b.pending i))));
    order = λ u a h m. absurd (omega (arith, rw b.done at m));
    count = rw (b.done, b.steps, b.dues) (omega (
      arith,
      sum-zero P (λ i. length (s.pending i)) (λ i l. rw (b.pending i)),
      sum-zero P (λ i. phase (s.stages.hand i)) (λ i l. rw (b.hand i)),
    ));
  }
