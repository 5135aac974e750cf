-- Lists of calls: one after another, what each call keeps, and machines that do the same.
use mathlib.Core.Path.{◌≡◌, refl, ap, ◌∙◌}
use mathlib.Core.List.{List, [], ◌∷◌, ◌++◌}
use Rattle.machine.specs.Machine.{Machine, Event, event_of, began, memory_after, recalled, events_after}

module _ {M C : Type 0} (on : Machine M C) where
  -- one list of calls after another
  pub memory-on : (cs ds : List C) (m : M) → memory_after on (cs ++ ds) m ≡ memory_after on ds (memory_after on cs m)
  unfolding memory_after
  memory-on [] ds m = refl
  memory-on (c ∷ cs) ds m = memory-on cs ds (on.leaves c m)

  pub events-on : (cs ds : List C) (m : M) (past : List (Event C))
      → events_after on (cs ++ ds) m past ≡ events_after on ds (memory_after on cs m) (events_after on cs m past)
  unfolding memory_after events_after
  events-on [] ds m past = refl
  events-on (c ∷ cs) ds m past = events-on cs ds (on.leaves c m) (recalled on (event_of on c m) past)

  -- what is true of the memory and the events, and stays so with each call, is true after every list
  module _ (I : M → List (Event C) → Type 0)
      (each : (c : C) (m : M) (past : List (Event C)) → I m past → I (on.leaves c m) (recalled on (event_of on c m) past)) where
    pub every : (cs : List C) (m : M) (past : List (Event C)) → I m past → I (memory_after on cs m) (events_after on cs m past)
    unfolding memory_after events_after
    every [] m past h = h
    every (c ∷ cs) m past h = every cs (on.leaves c m) (recalled on (event_of on c m) past) (each c m past h)

-- two machines that answer and leave the same
pub record Alike {M C : Type 0} (on on' : Machine M C) : Type 0 where
  pub says : (c : C) (m : M) → on.says c m ≡ on'.says c m
  pub leaves : (c : C) (m : M) → on.leaves c m ≡ on'.leaves c m
  pub kind : (c : C) → on.kind c ≡ on'.kind c

module _ {M C : Type 0} (on on' : Machine M C) (same : Alike on on') where
  pub alike-memory : (cs : List C) (m : M) → memory_after on cs m ≡ memory_after on' cs m
  unfolding memory_after
  alike-memory [] m = refl
  alike-memory (c ∷ cs) m = alike-memory cs (on.leaves c m) ∙ ap (memory_after on' cs) (same.leaves c m)

  alike-recalled : (e : Event C) (past : List (Event C)) → recalled on e past ≡ recalled on' e past
  unfolding recalled began
  alike-recalled e past = rw (same.kind e.call) refl

  pub alike-events : (cs : List C) (m : M) (past : List (Event C)) → events_after on cs m past ≡ events_after on' cs m past
  unfolding events_after
  alike-events [] m past = refl
  alike-events (c ∷ cs) m past =
      alike-events cs (on.leaves c m) (recalled on (event_of on c m) past)
      ∙ rw (alike-recalled (event_of on c m) past, same.says c m, same.leaves c m) refl
