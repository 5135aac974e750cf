-- Where some worker has something to do and the rule can be followed, there is a next state; so a finished one is reached.
use Prim.Native.Nat.{ℕ, zero, suc, ◌+◌, ◌-◌, ◌≤◌, ◌<◌}
use mathlib.Core.Path.{◌≡◌, refl, ap}
use mathlib.Core.Bool.{Bool, cond}
use mathlib.Core.List.{List, [], ◌∷◌, ◌++◌}
use native.Mathlib.Omega.{arith}
use native.Mathlib.Decide.{ℕ_discrete, dec_lt}
use lib.ListN.{length}
use Rattle.lists.specs.Decided.{holds}
use Rattle.lists.specs.Lists.{occ_of}
use Rattle.lists.proofs.Decided.{yes-holds, no-holds}
use Rattle.lists.proofs.Occurrences.{occ-cons}
use Rattle.system.specs.Stages.{idle, fetched, running, Stages, Other, Replaced, Finishes}
use Rattle.system.specs.System.{Items, Reversed, State, Invariant, Fetches, Starts, Completes, Falls, Releases, Lowers, Places, Step, fetch, start, complete, lower, place, Rule, ByRule, Reached, further, Ready, to_start, to_complete, to_fetch, to_release}
use Rattle.system.proofs.Records.{missing-snoc}
use Rattle.system.proofs.Kept.{running-fresh}
use Rattle.system.proofs.Counting.{held-few}
use Rattle.system.proofs.Progress.{pending-blocked}
use Rattle.system.proofs.Rules.{reached-invariant}

-- f, but `new` at k
module _ {K B : Type 0} (same : Discrete K) (k : K) (new : B) (f : K → B) where
  put : K → B
  put j = cond (holds (same j k)) new (f j)

  put-there : put k ≡ new
  unfolding put
  put-there = ap (λ (b : Bool). cond b new (f k)) (yes-holds (same k k) refl)

  put-elsewhere : (j : K) → ¬ (j ≡ k) → put j ≡ f j
  unfolding put
  put-elsewhere j n = ap (λ (b : Bool). cond b new (f j)) (no-holds (same j k) n)

module _ {B : Type 0} (n k : ℕ) (new : B) (f : ℕ → B) (inside : k < n) where
  put_other : Other n k f (put ℕ_discrete k new f)
  put_other = record { inside = inside; others = put-elsewhere ℕ_discrete k new f }

  put-replaced : (old : B) → f k ≡ old → Replaced n k old new f (put ℕ_discrete k new f)
  put-replaced old e = record { place = put_other; was = e; now = put-there ℕ_discrete k new f }

module _ {A : Type 0} (same : Discrete A) (G : Items A) (P : ℕ) (s : State A) where
  -- the stages change, one step more
  abbrev moved : Stages A → State A
  moved after = record { stages = after; pending = s.pending; degree = s.degree; steps = suc s.steps; dues = s.dues }

  module _ (i : ℕ) (a : A) (inside : i < P) where
    pub next-fetch : (rest : List A) → s.stages.waiting i ≡ a ∷ rest → s.stages.hand i ≡ idle → (s' : State A) × Fetches same G P i a s s'
    next-fetch rest w h = (
      moved record {
        waiting = put ℕ_discrete i rest s.stages.waiting;
        hand = put ℕ_discrete i (fetched a) s.stages.hand;
        done = s.stages.done;
      },
      record {
        takes = record {
          waiting = put_other P i rest s.stages.waiting inside;
          removed = record {
            more = λ x. omega (
              arith,
              ap (occ_of same x) w,
              ap (occ_of same x) (put-there ℕ_discrete i rest s.stages.waiting),
              occ-cons same x a rest,
            );
          };
          hand = put-replaced P i (fetched a) s.stages.hand inside idle h;
          done = refl;
        };
        keeps = record { pending = λ j. refl; degree = λ x. refl; steps = refl; dues = refl };
      },
    )

    pub next_start : s.stages.hand i ≡ fetched a → (s' : State A) × Starts same G P i a s s'
    next_start h = (
      moved record {
        waiting = s.stages.waiting;
        hand = put ℕ_discrete i (running a) s.stages.hand;
        done = s.stages.done;
      },
      record {
        runs = record {
          waiting = λ j. refl;
          hand = put-replaced P i (running a) s.stages.hand inside (fetched a) h;
          done = refl;
        };
        keeps = record { pending = λ j. refl; degree = λ x. refl; steps = refl; dues = refl };
      },
    )

    -- the state after worker i completed a, where `due` falls due with it
    module _ (due : List A) where
      pub completed : State A
      completed =
          record {
            stages = record {
              waiting = s.stages.waiting;
              hand = put ℕ_discrete i idle s.stages.hand;
              done = s.stages.done ++ (a ∷ []);
            };
            pending = put ℕ_discrete i (s.pending i ++ due) s.pending;
            degree = λ x. (s.degree x + occ_of same x due) - occ_of same x (G.succs a);
            steps = suc s.steps;
            dues = length due + s.dues;
          }

      pub completed-finishes : s.stages.hand i ≡ running a → Finishes same P i a s.stages completed.stages
      unfolding completed
      completed-finishes h =
          record {
            waiting = λ j. refl;
            hand = put-replaced P i idle s.stages.hand inside (running a) h;
            done = refl;
          }

      pub completed-pending : Replaced P i (s.pending i) (s.pending i ++ due) s.pending completed.pending
      unfolding completed
      completed-pending = put-replaced P i (s.pending i ++ due) s.pending inside (s.pending i) refl

      pub completed-steps : completed.steps ≡ suc s.steps
      unfolding completed
      completed-steps = refl

      pub completed-dues : completed.dues ≡ length due + s.dues
      unfolding completed
      completed-dues = refl

      -- the degrees of its successors count it, so they can fall
      pub completed-degree : Reversed same G → Invariant same G P s → s.stages.hand i ≡ running a
          → (x : A) → completed.degree x + occ_of same x (G.succs a) ≡ s.degree x + occ_of same x due
      unfolding completed
      completed-degree laws v h x =
          omega (
            arith,
            v.degree x,
            laws.reverse a x,
            missing-snoc same (G.preds x) s.stages.done a (running-fresh same G P laws (completed-finishes h) v).1,
          )

  module _ (i : ℕ) (x : A) (rest : List A) (inside : i < P) (first : s.pending i ≡ x ∷ rest) where
    -- x is released, and its degree is then `left`
    abbrev released : ℕ → Stages A → State A
    released left after =
        record {
          stages = after;
          pending = put ℕ_discrete i rest s.pending;
          degree = put same x left s.degree;
          steps = suc s.steps;
          dues = s.dues;
        }

    released-releases : (left : ℕ) (after : Stages A) → Releases same G P i x s (released left after)
    released-releases left after =
        record {
          rest = rest;
          pending = put-replaced P i rest s.pending inside (x ∷ rest) first;
          steps = refl;
          dues = refl;
        }

    released-falls : (left : ℕ) (after : Stages A) → s.degree x ≡ suc left → Falls same G P x left s (released left after)
    released-falls left after e =
        record {
          was = e;
          now = put-there same x left s.degree;
          others = put-elsewhere same x left s.degree;
        }

    pub next-lower : (left : ℕ) → s.degree x ≡ suc (suc left) → (s' : State A) × Lowers same G P i x s s'
    next-lower left e = (
      released (suc left) s.stages,
      record {
        releases = released-releases (suc left) s.stages;
        stays = record { waiting = λ j. refl; hand = λ j. refl; done = refl };
        left = suc left;
        blocked = omega arith;
        falls = released-falls (suc left) s.stages e;
      },
    )

    -- whichever worker o it comes to wait for
    pub next_place : (o : ℕ) → o < P → s.degree x ≡ 1 → (s' : State A) × Places same G P i o x s s'
    next_place o l e = (
      released 0 after,
      record {
        releases = released-releases 0 after;
        enters = record {
          waiting = put_other P o (x ∷ s.stages.waiting o) s.stages.waiting l;
          added = record {
            more = λ y. omega (
              arith,
              ap (occ_of same y) (put-there ℕ_discrete o (x ∷ s.stages.waiting o) s.stages.waiting),
              occ-cons same y x (s.stages.waiting o),
            );
          };
          hand = λ j. refl;
          done = refl;
        };
        falls = released-falls 0 after e;
      },
    )
      where
        after : Stages A
        after =
            record {
              waiting = put ℕ_discrete o (x ∷ s.stages.waiting o) s.stages.waiting;
              hand = s.stages.hand;
              done = s.stages.done;
            }

module _ {A : Type 0} (same : Discrete A) (G : Items A) (P : ℕ) (rule : Rule A) where
  -- a step by the rule
  abbrev pub Next : State A → Type 0
  Next s = (s' : State A) × (t : Step same G P s s') × ByRule same G P rule t

  -- a Complete by the rule can be made of whatever runs
  abbrev pub Followed : State A → Type 0
  Followed s = (i : ℕ) (a : A) → i < P → s.stages.hand i ≡ running a
      → (s' : State A) × (f : Completes same G P i a s s') × (f.due ≡ rule s.stages.done a)

  step-counted : {s s' : State A} → Step same G P s s' → s'.steps ≡ suc s.steps
  step-counted (fetch i a f) = f.keeps.steps
  step-counted (start i a f) = f.keeps.steps
  step-counted (complete i a f) = f.steps
  step-counted (lower i x f) = f.releases.steps
  step-counted (place i o x f) = f.releases.steps

  module _ (laws : Reversed same G) where
    -- where some worker has something to do, and what runs can complete, a step follows
    pub next : (s : State A) → Invariant same G P s → Followed s → Ready P s → Next s
    next s v c (to_start i a l h) =
        let (s', f) = next_start same G P s i a l h in
        (s', start i a f, tt)
    next s v c (to_complete i a l h) =
        let (s', f, e) = c i a l h in
        (s', complete i a f, e)
    next s v c (to_fetch i l h n) = go (s.stages.waiting i) refl
      where
        go : (w : List A) → s.stages.waiting i ≡ w → Next s
        go [] e = absurd (n e)
        go (a ∷ rest) e =
            let (s', f) = next-fetch same G P s i a l rest e (h i l) in
            (s', fetch i a f, tt)
    next s v c (to_release i x rest l e h w) = go (s.degree x) refl
      where
        go : (d : ℕ) → s.degree x ≡ d → Next s
        go zero q = absurd (omega (arith, q, (pending-blocked same G laws P v i x rest l e).1))
        go (suc zero) q =
            let (s', f) = next_place same G P s i x rest l e i l q in
            (s', place i i x f, tt)
        go (suc (suc left)) q =
            let (s', f) = next-lower same G P s i x rest l e left q in
            (s', lower i x f, tt)

    -- where each unfinished state that is reached has a next one, in fewer than `most` steps, a finished one is reached
    module _ (all : List A) (each : (a : A) → occ_of same a all ≡ G.want a) (most : ℕ)
        (below : (s : State A) → Reached same G P rule s → length s.stages.done < length all → s.steps < most)
        (on : (s : State A) → Reached same G P rule s → length s.stages.done < length all → Next s) where
      abbrev Finish : Type 0
      Finish = (s : State A) × Reached same G P rule s × (length s.stages.done ≡ length all)

      within : (m : ℕ) (s : State A) → Reached same G P rule s → most ≤ s.steps + m → Finish
      within zero s r h = go (dec_lt (length s.stages.done) (length all))
        where
          go : Dec (length s.stages.done < length all) → Finish
          go (yes l) = absurd (omega (arith, h, below s r l))
          go (no n) = (s, r, omega (arith, n, held-few same G P all each (reached-invariant same G P laws rule r)))
      within (suc m) s r h = go (dec_lt (length s.stages.done) (length all)) (within m)
        where
          go : Dec (length s.stages.done < length all) → ((s' : State A) → Reached same G P rule s' → most ≤ s'.steps + m → Finish) → Finish
          go (yes l) again =
              let (s', t, e) = on s r l in
              again s' (further r t e) (omega (arith, h, step-counted t))
          go (no n) again = (s, r, omega (arith, n, held-few same G P all each (reached-invariant same G P laws rule r)))

      pub reached-finishes : (s : State A) → Reached same G P rule s → Finish
      reached-finishes s r = within most s r (omega arith)
