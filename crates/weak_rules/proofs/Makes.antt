-- PROMISE: a step that finds what its sentences ask for is accepted, and then it answers and writes what they say.
use Prim.Native.Nat.{ℕ, ◌+◌, ◌-◌, ◌*◌, ◌≤◌, ◌<◌}
use mathlib.Core.Path.{◌≡◌, sym, ap, ◌∙◌}
use mathlib.Core.Bool.{true, cond}
use mathlib.Core.List.{List, ◌∷◌}
use native.Mathlib.Omega.{arith}
use lib.ListN.{length}
use lib.Dec.{eqb}
use borrow.Author.Tests.{lt-ltb, le-leb, eq-eqb, ne_eqb}
use Rattle.lists.proofs.Told.{told-pass, told-fail}
use Rattle.task.specs.Rows.{Acceptance}
use Rattle.task.specs.declared.Limits.{Limits}
use Rattle.task.specs.declared.Step.{Step}
use Rattle.task.specs.declared.Step.TheVariants.{Fetch, Start, Complete, Release}
use Rattle.weak_task.specs.Types.{unfixed}
use Rattle.weak_task.specs.Says.{outcome_says, step_says}
use Rattle.weak_task.specs.declared.WeakRow.{WeakRow}
use Rattle.weak_task.specs.declared.WeakOutcome.{WeakOutcome}
use Rattle.lists.specs.Circles.{after}
use Rattle.graph.specs.Conditions.{Good}
use Rattle.ring.specs.Ring.{head_on, tail_on}
use Rattle.ring.proofs.Ends.{sound-told, full-told}
use Rattle.choice.specs.Form.{Form}
use Rattle.choice.proofs.Form.{Chooses, target_is}
use Rattle.plans.specs.Forms.{own}
use Rattle.plans.proofs.Forms.{own-chooses}
use Rattle.memory.specs.Family.{Places}
use Rattle.memory.specs.Field as list
use Rattle.memory.specs.Updates.{written}
use Rattle.plans.proofs.Headers.{headed-reaches}
use Rattle.weak_rules.specs.Memory.{Mem, tasks, edges, ring_number, ends_in, head_item, counter_in, degree_in, fixed_in, roots_word, succ_count, row_in, held, accepted_in, successor}
use Rattle.weak_rules.specs.Words.{roots_fit, accepted_fits}
use Rattle.weak_rules.specs.Updates.{Update, put_accepted}
use Rattle.weak_rules.specs.Plans.{Plan, accept, with_count, counted, carried_out}
use Rattle.weak_rules.specs.Steps.{fetch_copy, fetch_from, fetch_rule, start_rule, complete_copy, complete_sink, complete_inner, complete_last, complete_rule, advanced, release_to, release_first, release_later, release_rule, rule_of, step_plan, step}
use Rattle.weak_rules.specs.Moves.{Fetches, Ranged, Completing, CompletingLast, CompletesSink, CompletesInner, copies, sink, inner, Advances, next, last, Releasing, ReleasesFirst, ReleasesLater, Releases, first, later, Made, Allowed}
use Rattle.weak_rules.proofs.Plans.{outcome-accepts}
use Rattle.weak_rules.proofs.Words.{counter-told, copy_told, fixed_told, roots-told, accepted-told, entries-told, recorded-told}
use Rattle.plans.proofs.Searches.{scan-stops, room-stops}

-- the tests that every Complete passes, those that a last copy's passes, and those that every Release passes
completing-passes : (p i : ℕ) (m : Mem) → roots_fit m ≡ true → Completing i m
    → complete_rule p i m ≡ cond (eqb (degree_in m (held m i).task) 1) (complete_last p i m) (complete_copy i m)
unfolding complete_rule
completing-passes p i m r c =
    rw (
      r,
      told-pass (entries-told m) (λ h. omega (arith, c.entries)),
      told-fail (recorded-told m) (λ e. omega (arith, c.entries)),
      told-pass (copy_told m (held m i)) c.good,
      le-leb _ _ c.positive,
      le-leb _ _ c.few,
    )

last-passes : (p i : ℕ) (m : Mem) → roots_fit m ≡ true → CompletingLast p i m
    → complete_rule p i m ≡ cond (eqb (succ_count m (held m i).task) 0) (complete_sink p i m) (complete_inner p i m)
unfolding complete_last
last-passes p i m r c =
    completing-passes p i m r c.common
    ∙ rw (
      eq-eqb _ _ c.last,
      le-leb _ _ c.light,
      told-pass (counter-told (counter_in m (ring_number p i i))) c.counter,
      le-leb _ _ c.task.rises,
      le-leb _ _ c.task.inside,
    )

releasing-passes : (f : Form) (p k i : ℕ) (m : Mem) (to : Places) → ¬ (¬ (fixed_in m (successor m i) ≡ unfixed.0) × (p ≤ fixed_in m (successor m i))) → Releasing i m to
    → release_rule f p k i m
    ≡ cond (eqb (fixed_in m (successor m i)) unfixed.0) (release_first f p k i m) (release_later p k i m (fixed_in m (successor m i)))
unfolding release_rule
releasing-passes f p k i m to t c =
    rw (
      le-leb (row_in m i).read (row_in m i).write (omega (arith, c.not_empty)),
      le-leb _ _ c.places,
      ne_eqb (row_in m i).read (row_in m i).write (λ e. omega (arith, c.not_empty)),
      lt-ltb _ _ c.task.below,
      le-leb _ _ c.task.rises,
      le-leb _ _ c.task.inside,
      lt-ltb _ _ c.cursor,
      lt-ltb _ _ c.below,
      told-pass (fixed_told p (fixed_in m (successor m i))) t,
    )

advanced-is : {count : ℕ} {r : WeakRow} {to : Places} → Advances count r to → advanced count r ≡ to
unfolding advanced
advanced-is {count} {r} (next h) = rw (ne_eqb (r.cursor + 1) count (λ e. omega arith))
advanced-is {count} {r} (last h) = rw (eq-eqb (r.cursor + 1) count (omega arith))

module _ (p k i : ℕ) (m : Mem) (roots : roots_word m ≤ tasks m) (low : accepted_in m < 4 * edges m + 3 * roots_word m) where
  roots-fit : roots_fit m ≡ true
  roots-fit = told-pass (roots-told m) (λ b. omega (arith, roots, b))

  accepted-fits : accepted_fits m ≡ true
  accepted-fits = told-pass (accepted-told m) (λ b. omega (arith, low, b))

  counted-accepts : (o : WeakOutcome) (us : List Update) → counted m o us ≡ accept o (with_count m us)
  unfolding counted
  counted-accepts o us = rw (roots-fit, accepted-fits)

  fetch-accepts : (o : WeakOutcome) (us : List Update) → Fetches p k i m o us → fetch_rule p k i m ≡ accept o (with_count m us)
  unfolding fetch_rule fetch_from fetch_copy head_on after
  fetch-accepts o us f =
      let e : f.ring ≡ ring_number p i f.filler = f.ring_is ∙ sym (ap (ring_number p i) f.filler_is) in
      let t : f.item ≡ head_item k m (ring_number p i f.filler) = f.item_is ∙ ap (head_item k m) e in
      rw (lt-ltb _ _ f.pointer, scan-stops p k i m f.distance f.stop, sym f.filler_is, sym t, told-pass (copy_told m f.item) f.good)
      (rw (counted-accepts, f.outcome, f.updates, e))

  sink-accepts : (o : WeakOutcome) (us : List Update) → CompletesSink p i m o us → complete_rule p i m ≡ accept o (with_count m us)
  unfolding complete_sink counted
  sink-accepts o us f =
      let z : ◌≡◌ {A = ℕ} (degree_in m (held m i).task - 1) 0 = omega (arith, f.common.last) in
      last-passes p i m roots-fit f.common
      ∙ rw (eq-eqb _ _ f.none, roots-fit, accepted-fits, z, f.outcome, f.updates)

  inner-accepts : (o : WeakOutcome) (us : List Update) → CompletesInner p i m o us → complete_rule p i m ≡ accept o (with_count m us)
  unfolding complete_inner counted
  inner-accepts o us f =
      let z : ◌≡◌ {A = ℕ} (degree_in m (held m i).task - 1) 0 = omega (arith, f.common.last) in
      last-passes p i m roots-fit f.common
      ∙ rw (
        ne_eqb (succ_count m (held m i).task) 0 (λ e. omega (arith, f.successors)),
        le-leb _ _ f.places,
        le-leb (row_in m i).write (tasks m) (omega (arith, f.room)),
        lt-ltb _ _ f.room,
        roots-fit,
        accepted-fits,
        z,
        f.outcome,
        f.updates,
      )

  first-accepts : (form : Form) → Chooses p form → (o : WeakOutcome) (us : List Update) → ReleasesFirst form p k i m o us
      → release_rule form p k i m ≡ accept o (with_count m us)
  unfolding release_first release_to counted tail_on after
  first-accepts form chooses o us f =
      releasing-passes form p k i m f.to (λ n. n.0 f.first) f.common
      ∙ rw (
        eq-eqb _ _ f.first,
        told-pass chooses.told f.undamaged,
        sym ((target_is chooses f.undamaged).1 f.target f.least),
        room-stops p k i (form.offered f.target) m f.place f.stop,
        sym f.owner_is,
        told-pass (chooses.told_at (ring_number p f.owner i)) (rw f.ring_is at f.counter),
        le-leb _ _ f.light,
        roots-fit,
        accepted-fits,
        advanced-is f.common.advances,
        f.outcome,
        f.updates,
        f.ring_is,
      )

  later-accepts : (form : Form) (o : WeakOutcome) (us : List Update) → ReleasesLater p k i m o us → release_rule form p k i m ≡ accept o (with_count m us)
  unfolding release_later counted tail_on after
  later-accepts form o us f =
      releasing-passes form p k i m f.to (λ n. omega (arith, n.1, f.fixed, f.worker)) f.common
      ∙ rw (
        f.fixed,
        ne_eqb _ _ f.later,
        sym f.ring_is,
        told-pass (sound-told k (ends_in m f.ring)) (λ n. n f.sound),
        told-fail (full-told k (ends_in m f.ring)) f.room,
        roots-fit,
        accepted-fits,
        advanced-is f.common.advances,
        f.outcome,
        f.updates,
      )

  -- a Release by any form that chooses among P workers
  pub release-accepts : (form : Form) → Chooses p form → (o : WeakOutcome) (us : List Update) → Releases form p k i m o us
      → release_rule form p k i m ≡ accept o (with_count m us)
  release-accepts form chooses o us (first f) = first-accepts form chooses o us f
  release-accepts form chooses o us (later f) = later-accepts form o us f

  rule-accepts : Chooses p (own p m) → (s : Step) (o : WeakOutcome) (us : List Update) → Made s p k i m o us → rule_of s p k i m ≡ accept o (with_count m us)
  unfolding rule_of start_rule complete_copy counted
  rule-accepts c Fetch o us f = fetch-accepts o us f
  rule-accepts c Start o us f = rw (roots-fit, accepted-fits, f.outcome, f.updates)
  rule-accepts c Complete o us (copies f) =
      rw (completing-passes p i m roots-fit f.common, ne_eqb _ _ f.not_last, roots-fit, accepted-fits, f.outcome, f.updates)
  rule-accepts c Complete o us (sink f) = sink-accepts o us f
  rule-accepts c Complete o us (inner f) = inner-accepts o us f
  rule-accepts c Release o us f = release-accepts (own p m) c o us f

module _ (limits : Limits) (p k i : ℕ) (s : Step) (m : Mem) where
  -- a step that is allowed is accepted, with that outcome and those updates
  pub made-accepted : (o : WeakOutcome) (us : List Update) → Allowed limits p k i s m o us
      → (step_says (step limits p k i s m).answer ≡ outcome_says o) × ((step limits p k i s m).memory ≡ written (put_accepted (accepted_in m + 1) ∷ us) m)
  unfolding step step_plan carried_out
  made-accepted o us r = (ap (λ (plan : Plan). step_says (carried_out plan m).answer) q, ap (λ (plan : Plan). (carried_out plan m).memory) q)
    where
      q : step_plan limits p k i s m ≡ accept o (with_count m us)
      q =
          headed-reaches limits p k i s m (rule_of s p k i m) r.fits r.worker r.phase
          ∙ rule-accepts p k i m r.roots r.low (own-chooses p m r.fits.limits.one_worker (r.fits.lengths.list list.counters)) s o us r.made

  -- whatever it answers
  pub allowed-accepted : (o : WeakOutcome) (us : List Update) → Allowed limits p k i s m o us → Acceptance (step_says (step limits p k i s m).answer)
  allowed-accepted o us a = rw (made-accepted o us a).0 (outcome-accepts o)

-- a task's successors, where the table's part is good, as the rules read them
pub good-ranged : (m : Mem) → length m.succs ≡ edges m → (t : ℕ) → t < tasks m → Good (tasks m) m.succ_starts m.succs t → Ranged m t
good-ranged m e t h g = record { below = h; rises = g.rises; inside = omega (arith, g.inside, e) }
