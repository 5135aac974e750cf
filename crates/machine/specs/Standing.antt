-- The steps that stand, where accepted steps may be taken back: "accepted steps less those taken back".
use Rattle.std.specs.Prelude.{ℕ, Bool, true, false, cond, ◌&&◌, List, [], ◌∷◌, ◌++◌}
use Rattle.machine.specs.Machine.{Kind, beginning, forward, back, aside, lookup, Machine, Event, accepted_said, accepted_of}

abbrev pub is_forward : Kind → Bool
is_forward beginning = false
is_forward forward = true
is_forward back = false
is_forward aside = false
is_forward lookup = false

abbrev pub is_back : Kind → Bool
is_back beginning = false
is_back forward = false
is_back back = true
is_back aside = false
is_back lookup = false

-- an accepted call of this kind stands: a step until it is taken back, a call aside until the run ends
abbrev pub keeps : Kind → Bool
keeps beginning = false
keeps forward = true
keeps back = false
keeps aside = true
keeps lookup = false

-- the calls of some events, the earliest first
unfoldable pub calls_of : {C : Type 0} → List (Event C) → List C
calls_of [] = []
calls_of (e ∷ es) = calls_of es ++ (e.call ∷ [])

module _ {M C : Type 0} (on : Machine M C) where
  -- the last step is taken back; calls aside after it stay where they stood
  unfoldable pub without_last : List (Event C) → List (Event C)
  without_last [] = []
  without_last (e ∷ es) = cond (is_forward (on.kind e.call)) es (e ∷ without_last es)

  -- after one more accepted call
  abbrev pub stood_by : Kind → Event C → List (Event C) → List (Event C)
  stood_by beginning e es = []
  stood_by forward e es = e ∷ es
  stood_by back e es = without_last es
  stood_by aside e es = e ∷ es
  stood_by lookup e es = es

  -- what stands of some events, the latest first: a refused call leaves it
  unfoldable pub standing : List (Event C) → List (Event C)
  standing [] = []
  standing (e ∷ es) = cond (accepted_said e.said) (stood_by (on.kind e.call) e (standing es)) (standing es)

  -- the accepted steps and calls aside, in their order: what stands as long as no step is taken back
  unfoldable pub kept_in : List (Event C) → List (Event C)
  kept_in [] = []
  kept_in (e ∷ es) = cond (keeps (on.kind e.call) && accepted_said e.said) (e ∷ kept_in es) (kept_in es)

  -- how many of the events are accepted steps, and how many accepted steps back
  abbrev pub steps_in : List (Event C) → ℕ
  steps_in = accepted_of (λ c. is_forward (on.kind c))

  abbrev pub backs_in : List (Event C) → ℕ
  backs_in = accepted_of (λ c. is_back (on.kind c))
