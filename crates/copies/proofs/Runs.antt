-- Weak runs, by the system's laws: what they keep, that an unfinished one goes on, that there are finished ones, and what these have recorded, in how
-- many steps.
use Prim.Native.Nat.{ℕ, zero, suc, ◌+◌, ◌*◌, ◌≤◌, ◌<◌, min}
use mathlib.Core.Path.{◌≡◌, refl, ap, ◌∙◌}
use mathlib.Core.List.{List, [], ◌∷◌, ◌++◌}
use native.Mathlib.Omega.{arith}
use native.Mathlib.Decide.{ℕ_discrete, dec_lt}
use lib.ListN.{length}
use Rattle.lists.specs.Lists.{occ_of, place_of}
use Rattle.lists.specs.Sums.{sum_to}
use Rattle.lists.proofs.Occurrences.{occ-nil, occ-cons, occ-hit, occ-append}
use Rattle.lists.proofs.Sums.{sum-zero, sum-only, sum_kept, sum-prefix}
use Rattle.graph.specs.Graph.{Graph, edge_count}
use Rattle.graph.specs.Conditions.{Acceptable, Sound}
use Rattle.graph.specs.Successors.{roots}
use Rattle.graph.proofs.Accepted.{rank, rank_rises}
use Rattle.system.specs.Stages.{idle}
use Rattle.system.specs.System.{State, missing, Reversed, Invariant, Completes, Lowers, Step, fetch, start, complete, lower, place, ByRule, begun, further, Ready}
use Rattle.system.proofs.Stages.{sum-replaced}
use Rattle.system.proofs.Records.{missing-snoc}
use Rattle.system.proofs.Kept.{running-fresh}
use Rattle.system.proofs.Counting.{below_all}
use Rattle.system.proofs.Finished.{finished-record, finished-steps}
use Rattle.system.proofs.Progress.{progress}
use Rattle.system.proofs.Rules.{reached-invariant, reached-dues}
use Rattle.system.proofs.Next.{completed, completed-finishes, completed-pending, completed-degree, completed-steps, completed-dues, Followed, next, reached-finishes}
use Rattle.copies.specs.Copies.{Copy, same_copy, task_copies, is_copy, copies_of, Before, root_copies, all_copies, NoneTwice}
use Rattle.copies.specs.Weak.{last_due, owed, Weak, CompletesCopy}
use Rattle.copies.proofs.Copies.{each_copy, count-copies, one-copy, roots-free, preds-before, preds-are, before-preds, before-edge, copies-own, copies-reversed}
use Rattle.copies.proofs.Weak.{owed-nil, owed_more, owed-few, owed_all, due-early, completes-copy, copy-due}

module _ (g : Graph) (sound : Sound g) (once : NoneTwice g) (P : ℕ) where
  laws : Reversed same_copy (copies_of g)
  laws = copies-reversed g sound once

  want-copy : (c : Copy) → occ_of same_copy c (all_copies g) ≡ (copies_of g).want c
  unfolding copies_of
  want-copy = each_copy g sound

  -- there are such runs: at first the roots' copies wait, here for worker 0
  pub weak-begun : 0 < P → (s : State Copy) × Weak g P s
  unfolding copies_of
  weak-begun h = (
    first,
    begun {s = first} (record {
      waiting = λ c. omega (
        arith,
        roots-free g sound once c,
        sum-only P (λ i. occ_of same_copy c (waits i)) 0 h (λ i n. other c i n),
      );
      hand = λ i. refl;
      pending = λ i. refl;
      degree = λ c. refl;
      done = refl;
      steps = refl;
      dues = refl;
    }),
  )
    where
      waits : ℕ → List Copy
      waits zero = root_copies g
      waits (suc i) = []

      other : (c : Copy) (i : ℕ) → ¬ (i ≡ 0) → occ_of same_copy c (waits i) ≡ 0
      other c zero n = absurd (n refl)
      other c (suc i) n = occ-nil same_copy c

      first : State Copy
      first =
          record {
            stages = record { waiting = waits; hand = λ i. idle; done = [] };
            pending = λ i. [];
            degree = λ c. length ((copies_of g).preds c);
            steps = 0;
            dues = 0;
          }

  -- the record so far: what is recorded is recorded once, behind all copies of its predecessor
  pub weak-invariant : {s : State Copy} → Weak g P s → Invariant same_copy (copies_of g) P s
  weak-invariant r = reached-invariant same_copy (copies_of g) P laws (last_due g) r

  pub weak-order : {s : State Copy} → Weak g P s → (b c : Copy) → Before g b c → 0 < occ_of same_copy c s.stages.done
      → place_of same_copy b s.stages.done < place_of same_copy c s.stages.done
  weak-order r b c e = (weak-invariant r).order b c (before-preds g sound e)

  -- the successors of the complete tasks have fallen due
  pub weak-dues : {s : State Copy} → Weak g P s → s.dues ≡ owed g s.stages.done
  unfolding copies_of
  weak-dues r = reached-dues same_copy (copies_of g) P laws (last_due g) (owed g) (owed-nil g sound) (owed_more g sound) r

  -- a weak Complete goes on in the run
  pub weak-complete : {i : ℕ} {c : Copy} {s s' : State Copy} → Weak g P s → CompletesCopy g P i c s s' → Weak g P s'
  weak-complete {i} {c} r f =
      further r (complete i c (completes-copy g sound once P (weak-invariant r) f)) (copy-due g sound once P (weak-invariant r) f)

  -- E + R copies are recorded: the run is finished
  module _ {s : State Copy} (r : Weak g P s) (full : length s.stages.done ≡ edge_count g + length (roots g)) where
    pub finished-copies : (c : Copy) → occ_of same_copy c s.stages.done ≡ is_copy g c
    unfolding copies_of
    finished-copies =
        finished-record same_copy (copies_of g) P (all_copies g) want-copy (weak-invariant r) (omega (arith, full, count-copies g sound))

    pub finished-order : (b c : Copy) → Before g b c → place_of same_copy b s.stages.done < place_of same_copy c s.stages.done
    finished-order b c e = weak-order r b c e (omega (arith, finished-copies c, e.later))

    pub weak-steps : s.steps ≡ 3 * (edge_count g + length (roots g)) + edge_count g
    weak-steps =
        omega (
          arith,
          finished-steps same_copy (copies_of g) P (all_copies g) want-copy (weak-invariant r) (omega (arith, full, count-copies g sound)),
          count-copies g sound,
          weak-dues r,
          owed_all g sound s.stages.done finished-copies,
        )

  module _ {s : State Copy} (r : Weak g P s) (short : length s.stages.done < edge_count g + length (roots g)) where
    pub weak-below : s.steps < 3 * (edge_count g + length (roots g)) + edge_count g
    weak-below =
        omega (
          arith,
          below_all same_copy (copies_of g) P (all_copies g) want-copy (weak-invariant r) (omega (arith, short, count-copies g sound)) (edge_count g)
              (omega (arith, weak-dues r, owed-few g sound s.stages.done)),
          count-copies g sound,
        )

    -- some worker has something to do
    pub weak-progress : Acceptable g → Ready P s
    unfolding copies_of
    weak-progress a =
        progress same_copy (copies_of g) laws P (λ c. rank g c.task) up closed (all_copies g) want-copy s (weak-invariant r)
        (omega (arith, short, count-copies g sound))
      where
        up : (b c : Copy) → 0 < occ_of same_copy b ((copies_of g).preds c) → rank g b.task < rank g c.task
        up b c h = rank_rises g a b.task c.task (before-edge g sound (preds-before g sound b c h))

        closed : (b c : Copy) → 0 < occ_of same_copy b ((copies_of g).preds c) → (copies_of g).want b ≡ 1
        closed b c h = omega (arith, one-copy g sound once b, (preds-before g sound b c h).earlier)

  -- what runs can complete, by the rule
  weak-followed : {s : State Copy} → Weak g P s → Followed same_copy (copies_of g) P (last_due g) s
  weak-followed {s} r i c l h = (
    after,
    completes-copy g sound once P (weak-invariant r) made,
    copy-due g sound once P (weak-invariant r) made,
  )
    where
      due : List Copy
      due = last_due g s.stages.done c

      after : State Copy
      after = completed same_copy (copies_of g) P s i c l due

      made : CompletesCopy g P i c s after
      made =
          record {
            finishes = completed-finishes same_copy (copies_of g) P s i c l due h;
            old = s.pending i;
            pending = completed-pending same_copy (copies_of g) P s i c l due;
            degree = completed-degree same_copy (copies_of g) P s i c l due laws (weak-invariant r) h;
            steps = completed-steps same_copy (copies_of g) P s i c l due;
            dues = completed-dues same_copy (copies_of g) P s i c l due;
          }

  module _ (a : Acceptable g) where
    -- it goes on: some step follows, by the rule
    pub weak-next : {s : State Copy} → Weak g P s → length s.stages.done < edge_count g + length (roots g)
        → (s' : State Copy) × (t : Step same_copy (copies_of g) P s s') × ByRule same_copy (copies_of g) P (last_due g) t
    weak-next {s} r short = next same_copy (copies_of g) P (last_due g) laws s (weak-invariant r) (weak-followed r) (weak-progress r short a)

    -- so there are finished runs, as the laws above ask for
    pub weak-finishes : 0 < P → (s : State Copy) × Weak g P s × (length s.stages.done ≡ edge_count g + length (roots g))
    weak-finishes h =
        let (s, r) = weak-begun h in
        let (s', r', e) = reached-finishes same_copy (copies_of g) P (last_due g) laws (all_copies g) want-copy (3 * (edge_count g + length (roots g)) + edge_count g)
        (λ s r l. weak-below r (omega (arith, l, count-copies g sound))) (λ s r l. weak-next r (omega (arith, l, count-copies g sound))) s r in
        (s', r', omega (arith, e, count-copies g sound))

  -- every release frees a copy, none only lowers a degree: what is to be released waits for nothing else
  module _ (x : Copy) where
    abbrev pub pending_copies : State Copy → ℕ
    pending_copies s = sum_to P (λ i. occ_of same_copy x (s.pending i))

    -- its release is due once, and not before all that it waits for is recorded
    abbrev pub Single : State Copy → Type 0
    Single s = pending_copies s + min 1 (missing same_copy ((copies_of g).preds x) s.stages.done) ≤ 1

    complete-single : {i : ℕ} {c : Copy} {s s' : State Copy} → Invariant same_copy (copies_of g) P s → (f : Completes same_copy (copies_of g) P i c s s')
        → f.due ≡ last_due g s.stages.done c → Single s → Single s'
    complete-single {i} {c} {s} {s'} v f e h =
        rw f.finishes.done (go (dec_lt 0 (occ_of same_copy c ((copies_of g).preds x))) (ℕ_discrete left 0))
      where
        left : ℕ
        left = missing same_copy (task_copies g c.task) (s.stages.done ++ (c ∷ []))

        fresh : occ_of same_copy c s.stages.done ≡ 0
        fresh = (running-fresh same_copy (copies_of g) P laws f.finishes v).1

        joins : pending_copies s' ≡ pending_copies s + occ_of same_copy x f.due
        joins = omega (arith, sum-replaced (occ_of same_copy x) f.pending, occ-append same_copy x f.old f.due)

        less : missing same_copy ((copies_of g).preds x) (s.stages.done ++ (c ∷ [])) + occ_of same_copy c ((copies_of g).preds x)
            ≡ missing same_copy ((copies_of g).preds x) s.stages.done
        less = missing-snoc same_copy ((copies_of g).preds x) s.stages.done c fresh

        go : Dec (0 < occ_of same_copy c ((copies_of g).preds x)) → Dec (left ≡ 0)
            → pending_copies s' + min 1 (missing same_copy ((copies_of g).preds x) (s.stages.done ++ (c ∷ []))) ≤ 1
        go (no n) d = omega (arith, h, n, joins, less, f.within x, laws.reverse c x)
        go (yes m) (yes z) =
            omega (
              arith,
              h,
              z,
              m,
              joins,
              less,
              f.within x,
              laws.reverse c x,
              ap (λ (l : List Copy). missing same_copy l (s.stages.done ++ (c ∷ []))) (preds-are g sound c x m),
              ap (occ_of same_copy c) (preds-are g sound c x m),
              copies-own g c c.task refl,
              one-copy g sound once c,
            )
        go (yes m) (no n) =
            omega (
              arith,
              h,
              m,
              joins,
              less,
              ap (occ_of same_copy x) (e ∙ due-early g s.stages.done c n),
              occ-nil same_copy x,
            )

    step-single : {s s' : State Copy} → Invariant same_copy (copies_of g) P s → (t : Step same_copy (copies_of g) P s s')
        → ByRule same_copy (copies_of g) P (last_due g) t → Single s → Single s'
    step-single v (fetch i c f) e h = rw f.takes.done (omega (arith, h, sum_kept (occ_of same_copy x) P f.keeps.pending))
    step-single v (start i c f) e h = rw f.runs.done (omega (arith, h, sum_kept (occ_of same_copy x) P f.keeps.pending))
    step-single v (complete i c f) e h = complete-single v f e h
    step-single v (lower i y f) e h =
        rw f.stays.done (omega (arith, h, sum-replaced (occ_of same_copy x) f.releases.pending, occ-cons same_copy x y f.releases.rest))
    step-single v (place i o y f) e h =
        rw f.enters.done (omega (arith, h, sum-replaced (occ_of same_copy x) f.releases.pending, occ-cons same_copy x y f.releases.rest))

    pub weak-single : {s : State Copy} → Weak g P s → Single s
    weak-single {s} (begun b) = omega (arith, sum-zero P (λ i. occ_of same_copy x (s.pending i)) (λ i l. rw (b.pending i) (occ-nil same_copy x)))
    weak-single (further r t e) = step-single (weak-invariant r) t e (weak-single r)

  pub never-lowered : {i : ℕ} {x : Copy} {s s' : State Copy} → Weak g P s → ¬ (Lowers same_copy (copies_of g) P i x s s')
  never-lowered {i} {x} {s} r f =
      omega (
        arith,
        f.blocked,
        f.falls.was,
        (weak-invariant r).degree x,
        weak-single x r,
        sum-prefix P (λ j. occ_of same_copy x (s.pending j)) i f.releases.pending.place.inside,
        ap (occ_of same_copy x) f.releases.pending.was,
        occ-hit same_copy x x f.releases.rest refl,
      )
