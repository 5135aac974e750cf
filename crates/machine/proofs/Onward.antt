-- A machine without steps back: its memory is that after its accepted steps and calls aside alone, made from the last begin on, and each of these then
-- answers as it did.
use mathlib.Core.Path.{◌≡◌, refl, sym, ap, ◌∙◌}
use mathlib.Core.Bool.{Bool, true, false, cond}
use mathlib.Core.List.{List, [], ◌∷◌}
use Rattle.machine.specs.Machine.{Kind, beginning, forward, back, aside, lookup, Machine, Event, accepted_said, began_by, event_of, began, memory_after, recalled, events_after, begun_in}
use Rattle.machine.specs.Standing.{calls_of, kept_in}
use Rattle.machine.proofs.Standing.{memory-next, events-next}

module _ {M C : Type 0} (on : Machine M C) (onward : (c : C) → ¬ (on.kind c ≡ back))
    (still : (c : C) (m : M) → accepted_said (on.says c m) ≡ false → on.leaves c m ≡ m)
    (looks : (c : C) (m : M) → on.kind c ≡ lookup → on.leaves c m ≡ m) where
  abbrev Alone : M → List (Event C) → M → Type 0
  Alone b es m = (m ≡ memory_after on (calls_of es) b) × (events_after on (calls_of es) b [] ≡ es)

  -- one more of them
  more : (c : C) (b m : M) (es : List (Event C)) → began on (event_of on c m) ≡ false → Alone b es m → Alone b (event_of on c m ∷ es) (on.leaves c m)
  unfolding recalled
  more c b m es n (e, again) =
      (ap (on.leaves c) e ∙ sym (memory-next on (event_of on c m) es b), events-next on (event_of on c m) es b ∙ rw (sym e, again, n) refl)

  one : (c : C) (b m : M) (past : List (Event C)) → Alone b (kept_in on past) m
      → Alone (cond (began on (event_of on c m)) (on.leaves c m) b) (kept_in on (recalled on (event_of on c m) past)) (on.leaves c m)
  unfolding recalled began kept_in calls_of memory_after events_after
  one c b m past h = go (on.kind c) (accepted_said (on.says c m)) refl refl
    where
      e : Event C
      e = event_of on c m

      go : (k : Kind) (a : Bool) → on.kind c ≡ k → accepted_said (on.says c m) ≡ a
          → Alone (cond (began_by k a) (on.leaves c m) b) (kept_in on (cond (began_by k a) [] (e ∷ past))) (on.leaves c m)
      go beginning true q a = (refl, refl)
      go beginning false q a = rw (q, still c m a) h
      go forward true q a = rw (q, a) (more c b m (kept_in on past) (rw q refl) h)
      go forward false q a = rw (q, a, still c m a) h
      go back x q a = absurd (onward c q)
      go aside true q a = rw (q, a) (more c b m (kept_in on past) (rw q refl) h)
      go aside false q a = rw (q, a, still c m a) h
      go lookup x q a = rw (q, looks c m q) h

  alone : (cs : List C) (b m : M) (past : List (Event C)) → Alone b (kept_in on past) m
      → Alone (begun_in on cs m b) (kept_in on (events_after on cs m past)) (memory_after on cs m)
  unfolding memory_after events_after begun_in
  alone [] b m past h = h
  alone (c ∷ cs) b m past h =
      alone cs (cond (began on (event_of on c m)) (on.leaves c m) b) (on.leaves c m) (recalled on (event_of on c m) past) (one c b m past h)

  pub kept-alone : (cs : List C) (m : M)
      → (memory_after on cs m ≡ memory_after on (calls_of (kept_in on (events_after on cs m []))) (begun_in on cs m m))
      × (events_after on (calls_of (kept_in on (events_after on cs m []))) (begun_in on cs m m) [] ≡ kept_in on (events_after on cs m []))
  unfolding kept_in calls_of memory_after events_after
  kept-alone cs m = alone cs m m [] (refl, refl)
