-- PROMISE: a step that finds what its sentences ask for is accepted, and then it answers and writes what they say.
use Prim.Native.Nat.{ℕ, ◌+◌, ◌*◌, ◌<◌}
use mathlib.Core.Path.{◌≡◌, sym, ap, ◌∙◌}
use mathlib.Core.Bool.{true, cond}
use mathlib.Core.List.{List, ◌∷◌}
use native.Mathlib.Omega.{arith}
use lib.ListN.{length}
use lib.Dec.{eqb}
use borrow.Author.Tests.{lt-ltb, le-leb, eq-eqb, ne_eqb}
use Rattle.lists.proofs.Told.{told-pass, told-fail}
use Rattle.task.specs.Refusals.{outcome_says, step_says}
use Rattle.task.specs.Rows.{Acceptance}
use Rattle.task.specs.declared.Limits.{Limits}
use Rattle.task.specs.declared.Row.{Row}
use Rattle.task.specs.declared.Step.{Step}
use Rattle.task.specs.declared.Step.TheVariants.{Fetch, Start, Complete, Release}
use Rattle.task.specs.declared.StepOutcome.{StepOutcome}
use Rattle.lists.specs.Circles.{after}
use Rattle.graph.specs.Conditions.{Good}
use Rattle.ring.specs.Ring.{head_on, tail_on}
use Rattle.choice.specs.Form.{Form}
use Rattle.choice.proofs.Form.{Chooses, target_is}
use Rattle.plans.specs.Forms.{own}
use Rattle.plans.proofs.Forms.{own-chooses}
use Rattle.memory.specs.Family.{Places}
use Rattle.memory.specs.Field as list
use Rattle.memory.specs.Updates.{written}
use Rattle.rules.specs.Memory.{Mem, tasks, edges, ring_number, head_word, counter_in, degree_in, succ_count, row_in, held, accepted_in, successor}
use Rattle.rules.specs.Words.{accepted_fits}
use Rattle.rules.specs.Updates.{Update, put_accepted}
use Rattle.rules.specs.Plans.{Plan, accept, with_count, counted, carried_out}
use Rattle.rules.specs.Steps.{fetch_task, fetch_from, fetch_rule, start_rule, complete_sink, complete_inner, complete_rule, advanced, release_to, release_ready, release_waiting, release_rule, rule_of, step_plan, step}
use Rattle.rules.specs.Moves.{Fetches, Ranged, Completing, sink, inner, Advances, next, last, Releasing, ReleasesPlaced, Releases, waiting, placed, Made, Allowed}
use Rattle.rules.proofs.Plans.{outcome-accepts}
use Rattle.plans.proofs.Headers.{headed-reaches}
use Rattle.rules.proofs.Words.{counter-told, accepted-told, entries-told, recorded-told}
use Rattle.plans.proofs.Searches.{scan-stops, room-stops}

-- the tests that both kinds of Complete pass, and both of Release
completing-passes : (p i : ℕ) (m : Mem) → Completing p i m
    → complete_rule p i m ≡ cond (eqb (succ_count m (held m i)) 0) (complete_sink p i m) (complete_inner p i m)
unfolding complete_rule
completing-passes p i m c =
    rw (
      told-pass (entries-told m) (λ h. omega (arith, c.entries)),
      told-fail (recorded-told m) (λ e. omega (arith, c.entries)),
      lt-ltb _ _ c.task.below,
      le-leb _ _ c.light,
      told-pass (counter-told (counter_in m (ring_number p i i))) c.counter,
      le-leb _ _ c.task.rises,
      le-leb _ _ c.task.inside,
    )

releasing-passes : (f : Form) (p k i : ℕ) (m : Mem) (to : Places) → Releasing i m to
    → release_rule f p k i m
    ≡ cond (eqb (degree_in m (successor m i)) 1) (release_ready f p k i m) (release_waiting i m)
unfolding release_rule
releasing-passes f p k i m to c =
    rw (
      le-leb (row_in m i).read (row_in m i).write (omega (arith, c.not_empty)),
      le-leb _ _ c.places,
      ne_eqb (row_in m i).read (row_in m i).write (λ e. omega (arith, c.not_empty)),
      lt-ltb _ _ c.task.below,
      le-leb _ _ c.task.rises,
      le-leb _ _ c.task.inside,
      lt-ltb _ _ c.cursor,
      lt-ltb _ _ c.below,
      le-leb _ _ c.positive,
      le-leb _ _ c.few,
    )

advanced-is : {count : ℕ} {r : Row} {to : Places} → Advances count r to → advanced count r ≡ to
unfolding advanced
advanced-is {count} {r} (next h) = rw (ne_eqb (r.cursor + 1) count (λ e. omega arith))
advanced-is {count} {r} (last h) = rw (eq-eqb (r.cursor + 1) count (omega arith))

module _ (p k i : ℕ) (m : Mem) (low : accepted_in m < 3 * tasks m + edges m) where
  fits : accepted_fits m ≡ true
  fits = told-pass (accepted-told m) (λ b. omega (arith, low, b))

  fetch-accepts : (o : StepOutcome) (us : List Update) → Fetches p k i m o us → fetch_rule p k i m ≡ accept o (with_count m us)
  unfolding fetch_rule fetch_from fetch_task counted head_on after
  fetch-accepts o us f =
      let e : f.ring ≡ ring_number p i f.filler = f.ring_is ∙ sym (ap (ring_number p i) f.filler_is) in
      let t : f.task ≡ head_word k m (ring_number p i f.filler) = f.task_is ∙ ap (head_word k m) e in
      rw (lt-ltb _ _ f.pointer, scan-stops p k i m f.distance f.stop, sym f.filler_is, sym t, lt-ltb _ _ f.below)
      (rw (fits, f.outcome, f.updates, e))

  placed-accepts : (form : Form) → Chooses p form → (o : StepOutcome) (us : List Update) → ReleasesPlaced form p k i m o us
      → release_rule form p k i m ≡ accept o (with_count m us)
  unfolding release_ready release_to counted tail_on after
  placed-accepts form sane o us f =
      rw (
        releasing-passes form p k i m f.to f.common,
        eq-eqb _ _ f.ready,
        told-pass sane.told f.undamaged,
        sym ((target_is sane f.undamaged).1 f.target f.least),
        room-stops p k i (form.offered f.target) m f.place f.stop,
        sym f.owner_is,
        told-pass (sane.told_at (ring_number p f.owner i)) (rw f.ring_is at f.counter),
        le-leb _ _ f.light,
        fits,
        advanced-is f.common.advances,
        f.outcome,
        f.updates,
        f.ring_is,
      )

  -- a Release by any sane form
  pub release-accepts : (form : Form) → Chooses p form → (o : StepOutcome) (us : List Update) → Releases form p k i m o us
      → release_rule form p k i m ≡ accept o (with_count m us)
  unfolding release_waiting counted
  release-accepts form sane o us (waiting f) =
      rw (
        releasing-passes form p k i m f.to f.common,
        ne_eqb _ _ f.not_ready,
        fits,
        advanced-is f.common.advances,
        f.outcome,
        f.updates,
      )
  release-accepts form sane o us (placed f) = placed-accepts form sane o us f

  rule-accepts : Chooses p (own p m) → (s : Step) (o : StepOutcome) (us : List Update) → Made s p k i m o us → rule_of s p k i m ≡ accept o (with_count m us)
  unfolding rule_of start_rule complete_sink complete_inner counted
  rule-accepts c Fetch o us f = fetch-accepts o us f
  rule-accepts c Start o us f = rw (fits, f.outcome, f.updates)
  rule-accepts c Complete o us (sink f) =
      rw (completing-passes p i m f.common, eq-eqb _ _ f.none, fits, f.outcome, f.updates)
  rule-accepts c Complete o us (inner f) =
      rw (
        completing-passes p i m f.common,
        ne_eqb (succ_count m (held m i)) 0 (λ e. omega (arith, f.successors)),
        le-leb _ _ f.places,
        le-leb (row_in m i).write (tasks m) (omega (arith, f.room)),
        lt-ltb _ _ f.room,
        fits,
        f.outcome,
        f.updates,
      )
  rule-accepts c Release o us f = release-accepts (own p m) c o us f

module _ (limits : Limits) (p k i : ℕ) (s : Step) (m : Mem) where
  -- a step that is allowed is accepted, with that outcome and those updates
  pub made-accepted : (o : StepOutcome) (us : List Update) → Allowed limits p k i s m o us
      → (step_says (step limits p k i s m).answer ≡ outcome_says o) × ((step limits p k i s m).memory ≡ written (put_accepted (accepted_in m + 1) ∷ us) m)
  unfolding step step_plan carried_out
  made-accepted o us r = (ap (λ (plan : Plan). step_says (carried_out plan m).answer) q, ap (λ (plan : Plan). (carried_out plan m).memory) q)
    where
      q : step_plan limits p k i s m ≡ accept o (with_count m us)
      q =
          headed-reaches limits p k i s m (rule_of s p k i m) r.fits r.worker r.phase
          ∙ rule-accepts p k i m r.low (own-chooses p m r.fits.limits.one_worker (r.fits.lengths.list list.counters)) s o us r.made

  -- whatever it answers
  pub allowed-accepted : (o : StepOutcome) (us : List Update) → Allowed limits p k i s m o us → Acceptance (step_says (step limits p k i s m).answer)
  allowed-accepted o us a = rw (made-accepted o us a).0 (outcome-accepts o)

-- a task's successors, where the table's part is good, as the rules read them
pub good-ranged : (m : Mem) → length m.succs ≡ edges m → (t : ℕ) → t < tasks m → Good (tasks m) m.succ_starts m.succs t → Ranged m t
good-ranged m e t h g = record { below = h; rises = g.rises; inside = omega (arith, g.inside, e) }
