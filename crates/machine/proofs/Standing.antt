-- What stands after one more call, and the calls of events with one more.
use mathlib.Core.Path.{◌≡◌, refl}
use mathlib.Core.Bool.{Bool, true, false, cond}
use mathlib.Core.List.{List, [], ◌∷◌}
use Rattle.machine.specs.Machine.{Kind, beginning, forward, back, aside, lookup, Machine, Event, accepted_said, began_by, event_of, began, memory_after, recalled, events_after}
use Rattle.machine.specs.Standing.{calls_of, stood_by, standing}
use Rattle.machine.proofs.Lists.{memory-on, events-on}

module _ {M C : Type 0} (on : Machine M C) where
  pub memory-next : (e : Event C) (es : List (Event C)) (b : M)
      → memory_after on (calls_of (e ∷ es)) b ≡ on.leaves e.call (memory_after on (calls_of es) b)
  unfolding calls_of memory_after
  memory-next e es b = memory-on on (calls_of es) (e.call ∷ []) b

  pub events-next : (e : Event C) (es : List (Event C)) (b : M)
      → events_after on (calls_of (e ∷ es)) b [] ≡ recalled on (event_of on e.call (memory_after on (calls_of es) b)) (events_after on (calls_of es) b [])
  unfolding calls_of events_after
  events-next e es b = events-on on (calls_of es) (e.call ∷ []) b []

  -- an accepted begin leaves nothing to stand
  pub standing-recalled : (e : Event C) (past : List (Event C)) → standing on (recalled on e past) ≡ standing on (e ∷ past)
  unfolding recalled began standing
  standing-recalled e past = go (on.kind e.call) (accepted_said e.said) refl refl
    where
      go : (k : Kind) (a : Bool) → on.kind e.call ≡ k → accepted_said e.said ≡ a
          → standing on (cond (began_by k a) [] (e ∷ past)) ≡ cond a (stood_by on k e (standing on past)) (standing on past)
      go beginning true q a = refl
      go beginning false q a = rw a refl
      go forward x q a = rw (a, q) refl
      go back x q a = rw (a, q) refl
      go aside x q a = rw (a, q) refl
      go lookup x q a = rw (a, q) refl
