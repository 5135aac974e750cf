-- PROMISE: an accepted step has found what its sentences ask for, and it answers and writes what they say.
use Prim.Native.Nat.{ℕ, ◌+◌, ◌*◌, ◌<◌}
use mathlib.Core.Path.{◌≡◌, refl, ap, subst, ◌∙◌}
use mathlib.Core.Bool.{true, cond}
use mathlib.Core.Logic.{◌⊎◌, inl, inr}
use mathlib.Core.List.{List}
use native.Mathlib.Omega.{arith}
use lib.Dec.{leb, eqb}
use borrow.Author.Tests.{ltb-true, leb-true, eqb-true, eqb-false}
use Rattle.std.specs.Prelude.{Err, Ok}
use Rattle.lists.proofs.Told.{Told, told-true, told-false, same-told, and-true, told-yes, told-no}
use Rattle.task.specs.Phases.{suits, next_phase}
use Rattle.task.specs.Refusals.{step_says, StepAnswer, refusal_number, refusal_detail}
use Rattle.task.specs.Rows.{Acceptance}
use Rattle.task.specs.declared.Limits.{Limits}
use Rattle.task.specs.declared.Row.{Row}
use Rattle.task.specs.declared.Step.{Step}
use Rattle.task.specs.declared.Step.TheVariants.{Fetch, Start, Complete, Release}
use Rattle.task.specs.declared.StepOutcome.{StepOutcome}
use Rattle.lists.specs.Circles.{after}
use Rattle.ring.specs.Ring.{Empty, Full, head_on, tail_on}
use Rattle.choice.specs.Form.{Form}
use Rattle.choice.proofs.Form.{Chooses, target_is}
use Rattle.plans.specs.Forms.{target_by, own}
use Rattle.plans.proofs.Forms.{own-chooses}
use Rattle.choice.specs.Search.{Found, unsound, none, at}
use Rattle.memory.specs.Family.{Places}
use Rattle.memory.specs.Field as list
use Rattle.rules.specs.Memory.{Mem, tasks, edges, ring_number, ends_in, head_word, counter_in, degree_in, succ_count, first_succ, past_succ, row_in, held, pointer_in, entries_in, accepted_in, oldest, successor}
use Rattle.rules.specs.Sizes.{Fits}
use Rattle.rules.specs.Words.{phase_fits, range_fits, places_fit, accepted_fits}
use Rattle.rules.specs.Updates.{Update}
use Rattle.rules.specs.Plans.{Plan, refuse, accept, suited, with_count, counted, carried_out}
use Rattle.rules.specs.Steps.{scan, fetch_task, fetch_from, fetch_rule, start_rule, complete_sink, complete_inner, complete_rule, advanced, find_room, release_to, release_ready, release_waiting, release_rule, rule_of, step_plan, step}
use Rattle.rules.specs.Tables.{BadAccepted, scanned_ends, HasSuccessors, Ready}
use Rattle.rules.specs.Moves.{Fetches, Ranged, Completing, Completes, sink, inner, Advances, next, last, Releasing, Releases, waiting, placed, Made, Allowed, AcceptedStep}
use Rattle.rules.proofs.Plans.{outcome-accepts}
use Rattle.rules.proofs.Untouched.{refused-step}
use Rattle.plans.proofs.Headers.{fits-are}
use Rattle.plans.proofs.Accepted.{IfAccepted, if-refused, if-required, if-cond}
use Rattle.rules.proofs.Words.{counter-told, accepted-told, entries-told, recorded-told}
use Rattle.plans.proofs.Searches.{Looked, Sought, scan-looked, room-looked}

-- updates that add 1 to an accepted word in its range, and the others
record Counted (m : Mem) (M : StepOutcome → List Update → Type 0) (o : StepOutcome) (us : List Update) : Type 0 where
  low : accepted_in m < 3 * tasks m + edges m
  others : List Update
  whole : us ≡ with_count m others
  made : M o others

-- "The cursor advances; after the last successor it returns to 0 and the read place advances."
places-advance : (count : ℕ) (r : Row) → r.cursor < count → Advances count r (advanced count r)
unfolding advanced
places-advance count r h = go (same-told (r.cursor + 1) count)
  where
    go : Told (eqb (r.cursor + 1) count) (r.cursor + 1 ≡ count) (¬ (r.cursor + 1 ≡ count)) → Advances count r (advanced count r)
    go (told-true e q) = rw e (last (omega arith))
    go (told-false e n) = rw e (next (omega arith))

module _ (m : Mem) where
  if-counted : {M : StepOutcome → List Update → Type 0} (o : StepOutcome) (us : List Update) → M o us → IfAccepted (Counted m M) (counted m o us)
  unfolding counted
  if-counted {M} o us h =
      if-required (accepted_fits m) _ (λ l.
      let n : ¬ (BadAccepted m) = told-yes (accepted-told m) l in
      record {
        holds = λ o' us' e. record {
          low = omega (arith, n);
          others = us;
          whole = cc;
          made = subst (λ (x : StepOutcome). M x us) (cc) h;
        };
      })

  ranged : (t : ℕ) → t < tasks m → range_fits m t ≡ true → Ranged m t
  ranged t h e =
      let (a, b) = and-true (leb (first_succ m t) (past_succ m t)) _ e in
      record { below = h; rises = leb-true _ _ a; inside = leb-true _ _ b }

  module _ (p k i : ℕ) where
    if-fetched : (f : Found) → pointer_in m i < p → Looked p k Empty (scanned_ends p i m) (pointer_in m i) f
        → IfAccepted (Counted m (Fetches p k i m)) (fetch_from p k i m f)
    unfolding fetch_from fetch_task head_on after
    if-fetched unsound h l = if-refused _
    if-fetched none h l = if-refused _
    if-fetched (at j) h (e, stop, q) =
        if-required _ _ (λ a.
        if-counted _ _ (record {
          pointer = h;
          distance = e;
          stop = stop;
          ring = ring_number p i j;
          ring_is = ap (ring_number p i) q;
          filler = j;
          filler_is = q;
          task = head_word k m (ring_number p i j);
          task_is = refl;
          below = ltb-true _ _ a;
          outcome = refl;
          updates = refl;
        }))

    if-inner : Completing p i m → HasSuccessors m i → IfAccepted (Counted m (Completes p i m)) (complete_inner p i m)
    unfolding complete_inner
    if-inner c h =
        if-required (places_fit m (row_in m i).read (row_in m i).write) _ (λ a.
        let (r, _) = and-true (leb (row_in m i).read (row_in m i).write) _ a in
        if-required _ _ (λ w.
        if-counted _ _ (inner (record { common = c; successors = h; places = leb-true _ _ r; room = ltb-true _ _ w; outcome = refl; updates = refl }))))

    if-completed : Completing p i m → IfAccepted (Counted m (Completes p i m))
        (cond (eqb (succ_count m (held m i)) 0) (complete_sink p i m) (complete_inner p i m))
    unfolding complete_sink
    if-completed c =
        if-cond _
        (λ z. if-counted _ _ (sink (record { common = c; none = eqb-true _ _ z; outcome = refl; updates = refl })))
        (λ s.
        let n : ¬ (◌≡◌ {A = ℕ} (succ_count m (held m i)) 0) = eqb-false _ _ s in
        if-inner c (omega (arith, n)))

    abbrev to : Places
    to = advanced (succ_count m (oldest m i)) (row_in m i)

    -- a Release by form f
    module _ (f : Form) (sane : Chooses p f) where
      -- "target j"
      abbrev j : ℕ
      j = target_by f

      if-placed : (g : Found) → Releasing i m to → Ready m i → ¬ f.Damaged
          → Sought k (Full k) (λ o. ends_in m (ring_number p o i)) (f.offered j) g
          → IfAccepted (Counted m (Releases f p k i m)) (release_to f p k i m g)
      unfolding release_to tail_on after
      if-placed unsound c r q l = if-refused _
      if-placed none c r q l = if-refused _
      if-placed (at o) c r q (d, stop, g) =
          if-required _ _ (λ u.
          if-required _ _ (λ w.
          if-counted _ _ (placed (record {
            to = to;
            common = c;
            ready = r;
            undamaged = q;
            target = j;
            least = (target_is sane q).0;
            place = d;
            stop = stop;
            owner = o;
            owner_is = g;
            ring = ring_number p o i;
            ring_is = refl;
            counter = told-yes (sane.told_at (ring_number p o i)) u;
            light = leb-true _ _ w;
            outcome = refl;
            updates = refl;
          }))))

      if-released : Releasing i m to → IfAccepted (Counted m (Releases f p k i m))
          (cond (eqb (degree_in m (successor m i)) 1) (release_ready f p k i m) (release_waiting i m))
      unfolding release_ready release_waiting
      if-released c =
          if-cond _
          (λ r. if-required _ _ (λ q.
          if-placed (find_room p k i m (f.offered j)) c (eqb-true _ _ r) (told-yes sane.told q)
          (room-looked p k i (f.offered j) m)))
          (λ n. if-counted _ _ (waiting (record { to = to; common = c; not_ready = eqb-false _ _ n; outcome = refl; updates = refl })))

      if-release : IfAccepted (Counted m (Releases f p k i m)) (release_rule f p k i m)
      unfolding release_rule
      if-release =
          if-required _ _ (λ a.
          let (r, w) = and-true (leb (row_in m i).read (row_in m i).write) _ a in
          if-cond _ (λ _. if-refused _) (λ b.
          let n : ¬ ((row_in m i).read ≡ (row_in m i).write) = eqb-false _ _ b in
          if-required _ _ (λ t.
          if-required _ _ (λ g.
          if-required _ _ (λ c.
          if-required _ _ (λ s.
          if-required _ _ (λ d.
          let (d1, d2) = and-true (leb 1 (degree_in m (successor m i))) _ d in
          if-released (record {
            not_empty = omega (arith, leb-true (row_in m i).read (row_in m i).write r, n);
            places = leb-true _ _ w;
            task = ranged (oldest m i) (ltb-true _ _ t) g;
            cursor = ltb-true _ _ c;
            below = ltb-true _ _ s;
            positive = leb-true _ _ d1;
            few = leb-true _ _ d2;
            advances = places-advance (succ_count m (oldest m i)) (row_in m i) (ltb-true _ _ c);
          }))))))))

    -- a Release by document 01's form
    module _ (sane : Chooses p (own p m)) where
      -- a step's own rule
      if-ruled : (s : Step) → IfAccepted (Counted m (Made s p k i m)) (rule_of s p k i m)
      unfolding rule_of fetch_rule start_rule complete_rule
      if-ruled Fetch = if-required _ _ (λ h. if-fetched (scan p k i m) (ltb-true _ _ h) (scan-looked p k i m))
      if-ruled Start = if-counted _ _ (record { outcome = refl; updates = refl })
      if-ruled Complete =
          if-required _ _ (λ a.
          if-cond _ (λ _. if-refused _) (λ b.
          let n : ¬ (entries_in m ≡ tasks m) = told-no (recorded-told m) b in
          let l : ¬ (tasks m < entries_in m) = told-yes (entries-told m) a in
          if-required _ _ (λ t.
          if-required _ _ (λ w.
          if-required _ _ (λ c.
          if-required _ _ (λ g.
          if-completed (record {
            entries = omega (arith, l, n);
            task = ranged (held m i) (ltb-true _ _ t) g;
            light = leb-true _ _ w;
            counter = told-yes (counter-told (counter_in m (ring_number p i i))) c;
          })))))))
      if-ruled Release = if-release (own p m) sane

-- where a step is accepted, it is allowed, with the updates after that of the accepted word
record AllFound (limits : Limits) (p k i : ℕ) (s : Step) (m : Mem) (o : StepOutcome) (us : List Update) : Type 0 where
  others : List Update
  whole : us ≡ with_count m others
  allowed : Allowed limits p k i s m o others

if-stepped : (limits : Limits) (p k i : ℕ) (s : Step) (m : Mem) → IfAccepted (AllFound limits p k i s m) (step_plan limits p k i s m)
unfolding step_plan next_phase
if-stepped limits p k i s m =
    if-required _ _ (λ a.
    if-required _ _ (λ b.
    if-required _ _ (λ c.
    if-required (phase_fits (row_in m i).phase) _ (λ _.
    go (same-told (row_in m i).phase (suits s)) (fits-are limits p k m a b) (ltb-true _ _ c)))))
  where
    go : Told (eqb (row_in m i).phase (suits s)) ((row_in m i).phase ≡ suits s) (¬ ((row_in m i).phase ≡ suits s)) → Fits limits p k m → i < p
        → IfAccepted (AllFound limits p k i s m) (suited (next_phase (row_in m i).phase s) (row_in m i).phase (rule_of s p k i m))
    go (told-true q e) f w = rw q (record { holds = λ o us h. found o us ((if-ruled m p k i (own-chooses p m (omega (arith, f.limits.one_worker)) (f.lengths.list list.counters)) s).holds o us h) })
      where
        found : (o : StepOutcome) (us : List Update) → Counted m (Made s p k i m) o us → AllFound limits p k i s m o us
        found o us c =
            record {
              others = c.others;
              whole = c.whole;
              allowed = record { fits = f; worker = w; phase = e; low = c.low; made = c.made };
            }
    go (told-false q n) f w = rw q (if-refused _)

-- what an accepted step has found, answers and writes
pub accepted-step : (limits : Limits) (p k i : ℕ) (s : Step) (m : Mem) → Acceptance (step_says (step limits p k i s m).answer) → AcceptedStep limits p k i s m
unfolding step carried_out
accepted-step limits p k i s m a = go (step_plan limits p k i s m) refl a
  where
    go : (plan : Plan) → step_plan limits p k i s m ≡ plan → Acceptance (step_says (carried_out plan m).answer) → AcceptedStep limits p k i s m
    go (refuse why) e b = absurd b
    go (accept o us) e b =
        let r : AllFound limits p k i s m o us = (if-stepped limits p k i s m).holds o us e in
        record {
          outcome = o;
          updates = r.others;
          allowed = r.allowed;
          answered = ap (λ (plan : Plan). step_says (carried_out plan m).answer) e;
          left = ap (λ (plan : Plan). (carried_out plan m).memory) (e ∙ ap (accept o) r.whole);
        }

-- and its answer accepts
pub step-accepts : (limits : Limits) (p k i : ℕ) (s : Step) (m : Mem) → AcceptedStep limits p k i s m → Acceptance (step_says (step limits p k i s m).answer)
step-accepts limits p k i s m r = rw r.answered (outcome-accepts r.outcome)

-- every other step leaves the memory
pub accepted-or-same : (limits : Limits) (p k i : ℕ) (s : Step) (m : Mem) → AcceptedStep limits p k i s m ⊎ ((step limits p k i s m).memory ≡ m)
accepted-or-same limits p k i s m = go (step limits p k i s m).answer refl
  where
    go : (a : StepAnswer) → (step limits p k i s m).answer ≡ a → AcceptedStep limits p k i s m ⊎ ((step limits p k i s m).memory ≡ m)
    go (Err why) e = inr (refused-step limits p k i s m (refusal_number why) (refusal_detail why) (ap step_says e))
    go (Ok o) e = inl (accepted-step limits p k i s m (rw e (outcome-accepts o)))
