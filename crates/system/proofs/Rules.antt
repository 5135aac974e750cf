-- Runs by a rule of what falls due: the invariant holds in them, and what has fallen due is known from the record.
use Prim.Native.Nat.{ℕ, ◌+◌, ◌≤◌}
use mathlib.Core.Path.{◌≡◌, ap, ◌∙◌}
use mathlib.Core.List.{List, [], ◌∷◌, ◌++◌}
use native.Mathlib.Omega.{arith}
use lib.ListN.{length}
use Rattle.lists.specs.Lists.{occ_of}
use Rattle.system.specs.System.{Items, Reversed, State, Invariant, Step, fetch, start, complete, lower, place, Begins, Rule, ByRule, Reached, begun, further}
use Rattle.system.proofs.Kept.{step_keeps, begins-keeps, running-fresh}
use Rattle.system.proofs.Progress.{begins-few, step-few}

module _ {A : Type 0} (same : Discrete A) (G : Items A) (P : ℕ) (laws : Reversed same G) (rule : Rule A) where
  pub reached-invariant : {s : State A} → Reached same G P rule s → Invariant same G P s
  reached-invariant (begun b) = begins-keeps same G P b
  reached-invariant (further r t e) = step_keeps same G P laws t (reached-invariant r)

  -- no degree is above the number of predecessors; the invariant alone doesn't say so
  pub reached-few : {s : State A} → Reached same G P rule s → (a : A) → s.degree a ≤ length (G.preds a)
  reached-few (begun b) = begins-few same G P b
  reached-few (further r t e) = step-few same G P t (reached-few r)

  -- `owed` says of a record how much has fallen due while it came about: an item that joins it adds what the rule says
  module _ (owed : List A → ℕ) (none : owed [] ≡ 0)
      (more : (done : List A) (a : A) → G.want a ≡ 1 → occ_of same a done ≡ 0 → owed (done ++ (a ∷ [])) ≡ length (rule done a) + owed done) where
    begins-dues : {s : State A} → Begins same G P s → s.dues ≡ owed s.stages.done
    begins-dues b = rw (b.done, b.dues) (omega (arith, none))

    step-dues : {s s' : State A} → Invariant same G P s → (t : Step same G P s s') → ByRule same G P rule t → s.dues ≡ owed s.stages.done
        → s'.dues ≡ owed s'.stages.done
    step-dues v (fetch i a f) e h = rw f.takes.done (f.keeps.dues ∙ h)
    step-dues v (start i a f) e h = rw f.runs.done (f.keeps.dues ∙ h)
    step-dues {s} v (complete i a f) e h =
        let (wanted, fresh, ready) = running-fresh same G P laws f.finishes v in
        rw f.finishes.done (omega (arith, f.dues, ap length e, h, more s.stages.done a wanted fresh))
    step-dues v (lower i x f) e h = rw f.stays.done (f.releases.dues ∙ h)
    step-dues v (place i o x f) e h = rw f.enters.done (f.releases.dues ∙ h)

    pub reached-dues : {s : State A} → Reached same G P rule s → s.dues ≡ owed s.stages.done
    reached-dues (begun b) = begins-dues b
    reached-dues (further r t e) = step-dues (reached-invariant r) t e (reached-dues r)
