-- What a host sees of its calls: one after the other, each with its answer and with the memory that it left. What is known of each call alone is put
-- together.
use Rattle.std.specs.Prelude.{ℕ, suc, ◌≡◌, cond, List, [], ◌∷◌}
use Rattle.task.specs.Refusals.{Said}
use Rattle.machine.specs.Machine.{Machine, Event, began, recalled}

-- a call that a host made, what it was answered, and the memory afterwards
pub record Seen (M C : Type 0) : Type 0 where
  pub call : C
  pub said : Said
  pub left : M

module _ {M C : Type 0} where
  abbrev pub seen_as : C → Said → M → Seen M C
  seen_as c said m = record { call = c; said = said; left = m }

  abbrev pub event_seen : Seen M C → Event C
  event_seen s = record { call = s.call; said = s.said }

  unfoldable pub calls_made : List (Seen M C) → List C
  calls_made [] = []
  calls_made (s ∷ rest) = s.call ∷ calls_made rest

  -- the memory in the end
  unfoldable pub last_left : M → List (Seen M C) → M
  last_left m [] = m
  last_left m (s ∷ rest) = last_left s.left rest

module _ {M C : Type 0} (on : Machine M C) where
  -- the call was made on the memory m, and answered and left what the machine does
  pub record Link (m : M) (s : Seen M C) : Type 0 where
    pub answered : s.said ≡ on.says s.call m
    pub written : s.left ≡ on.leaves s.call m

  -- each call was made on the memory that the last one left
  abbrev pub Chained : M → List (Seen M C) → Type 0
  Chained m [] = Unit {0}
  Chained m (s ∷ rest) = Link m s × Chained s.left rest

  -- the events of the run that then goes on, from calls and answers as they were seen
  unfoldable pub events_seen : List (Seen M C) → List (Event C) → List (Event C)
  events_seen [] past = past
  events_seen (s ∷ rest) past = events_seen rest (recalled on (event_seen s) past)

  -- how many of them are accepted begins
  unfoldable pub begins_seen : List (Seen M C) → ℕ
  begins_seen [] = 0
  begins_seen (s ∷ rest) = cond (began on (event_seen s)) (suc (begins_seen rest)) (begins_seen rest)
