-- A machine without steps back: a word that steps overwrite, a mark that no step writes, and how many steps were accepted, three at most. Some lists of
-- its calls, computed. And what stands of events with steps back among them.
use Prim.Native.Nat.{ℕ, suc}
use mathlib.Core.Path.{◌≡◌, refl}
use mathlib.Core.Bool.{cond}
use mathlib.Core.List.{List, [], ◌∷◌}
use lib.ListN.{length}
use lib.Dec.{eqb, ltb}
use Rattle.task.specs.Refusals.{Said, refused, answered, accepted}
use Rattle.machine.specs.Machine.{Kind, beginning, forward, back, aside, lookup, Machine, Event, accepted_said, accepted_of, began, memory_after, recalled, events_after, begins, begun_in}
use Rattle.machine.specs.Standing.{calls_of, without_last, standing, kept_in, steps_in, backs_in}

pub record Store : Type 0 where
  pub word : ℕ
  pub mark : ℕ
  pub steps : ℕ

pub data Call : Type 0 where
  clear : Call
  write : ℕ → Call
  set_mark : ℕ → Call
  read : Call

abbrev pub store_of : ℕ → ℕ → ℕ → Store
store_of w k n = record { word = w; mark = k; steps = n }

-- what is written is from 1 to 9, and a mark that is set is another one
abbrev pub answer : Call → Store → Said
answer clear m = accepted
answer (write n) m = cond (ltb 9 n) (refused 2 0) (cond (eqb n 0) (refused 9 0) (cond (ltb m.steps 3) accepted (refused 8 0)))
answer (set_mark k) m = cond (eqb k m.mark) (refused 18 0) accepted
answer read m = answered 1 (m.word ∷ [])

-- of an accepted call
abbrev pub does : Call → Store → Store
does clear m = store_of 0 0 0
does (write n) m = store_of n m.mark (suc m.steps)
does (set_mark k) m = store_of m.word k m.steps
does read m = m

abbrev pub kind_of : Call → Kind
kind_of clear = beginning
kind_of (write n) = forward
kind_of (set_mark k) = aside
kind_of read = lookup

abbrev pub store : Machine Store Call
store = record { says = answer; leaves = λ c m. cond (accepted_said (answer c m)) (does c m) m; kind = kind_of }

abbrev memory_of : List Call → Store
memory_of cs = memory_after store cs (store_of 0 0 0)

abbrev events_of : List Call → List (Event Call)
events_of cs = events_after store cs (store_of 0 0 0) []

-- a refused step, marks of which one is refused, a lookup, and more steps than there is room for
abbrev mixed : List Call
mixed = write 5 ∷ set_mark 3 ∷ write 0 ∷ set_mark 3 ∷ read ∷ write 6 ∷ write 7 ∷ write 8 ∷ []

-- a begin in the middle
abbrev again : List Call
again = write 5 ∷ write 6 ∷ clear ∷ write 7 ∷ write 0 ∷ read ∷ []

record Computed : Type 0 where
  memory : memory_of mixed ≡ store_of 7 3 3
  events : length (events_of mixed) ≡ 8
  counted : ◌≡◌ {A = ℕ} (steps_in store (events_of mixed)) 3
  kept : calls_of (kept_in store (events_of mixed)) ≡ write 5 ∷ set_mark 3 ∷ write 6 ∷ write 7 ∷ []
  -- what came before the begin is forgotten
  since : (calls_of (kept_in store (events_of again)) ≡ write 7 ∷ []) × (length (events_of again) ≡ 3) × (memory_of again ≡ store_of 7 0 1)
  begun : (◌≡◌ {A = ℕ} (begins store again (store_of 0 0 0)) 1) × (begun_in store again (store_of 0 0 0) (store_of 1 1 1) ≡ store_of 0 0 0)

computed : Computed
unfolding began memory_after recalled events_after begins begun_in accepted_of calls_of kept_in
computed = record { memory = refl; events = refl; counted = refl; kept = refl; since = (refl, refl, refl); begun = (refl, refl) }

-- Numbered calls of any kind, and their events, the latest first.
abbrev numbered : Machine (Unit {0}) (Kind × ℕ)
numbered = record { says = λ c m. accepted; leaves = λ c m. m; kind = λ c. c.0 }

abbrev took : Kind → ℕ → Event (Kind × ℕ)
took k n = record { call = (k, n); said = accepted }

abbrev failed : Kind → ℕ → Event (Kind × ℕ)
failed k n = record { call = (k, n); said = refused 9 0 }

-- two steps, of which the second is taken back; refused and looked up between; the first is taken back; a refused step back; and a step
abbrev undone : List (Event (Kind × ℕ))
undone =
    took forward 8 ∷ failed back 7 ∷ took back 6 ∷ took lookup 5 ∷ failed forward 4 ∷ took back 3 ∷ took forward 2 ∷ took forward 1 ∷ []

record Stands : Type 0 where
  step : standing numbered (took forward 2 ∷ took forward 1 ∷ []) ≡ took forward 2 ∷ took forward 1 ∷ []
  refusal : standing numbered (failed forward 2 ∷ took forward 1 ∷ []) ≡ took forward 1 ∷ []
  taken : standing numbered (took back 3 ∷ took forward 2 ∷ took forward 1 ∷ []) ≡ took forward 1 ∷ []
  -- 3 accepted steps less 2 taken back
  last : standing numbered undone ≡ took forward 8 ∷ []
  counts : (◌≡◌ {A = ℕ} (steps_in numbered undone) 3) × (◌≡◌ {A = ℕ} (backs_in numbered undone) 2)
  -- a call aside after the step that is taken back stays
  asides : standing numbered (took back 4 ∷ took aside 3 ∷ took forward 2 ∷ took aside 1 ∷ []) ≡ took aside 3 ∷ took aside 1 ∷ []
  begun : standing numbered (took forward 3 ∷ took beginning 2 ∷ took forward 1 ∷ []) ≡ took forward 3 ∷ []

stands : Stands
unfolding accepted_of without_last standing
stands = record { step = refl; refusal = refl; taken = refl; last = refl; counts = (refl, refl); asides = refl; begun = refl }
