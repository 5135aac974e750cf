-- Lists of calls over any machine: any memory M and any calls C. "Each finds the words that the last one left."
use Rattle.std.specs.Prelude.{ℕ, suc, Bool, true, false, cond, ◌&&◌, List, [], ◌∷◌}
use Rattle.task.specs.Refusals.{Said, refused, answered}

-- what a call is, where it is accepted
pub data Kind : Type 0 where
  -- it begins another run
  beginning : Kind
  -- a step, which is counted
  forward : Kind
  -- it takes the last step back
  back : Kind
  -- no step, and no step back takes it back: it may write words that no step writes
  aside : Kind
  -- it writes nothing
  lookup : Kind

-- what a call answers, the memory that it leaves, and its kind
pub record Machine (M C : Type 0) : Type 0 where
  pub says : C → M → Said
  pub leaves : C → M → M
  pub kind : C → Kind

-- a call and its answer
pub record Event (C : Type 0) : Type 0 where
  pub call : C
  pub said : Said

abbrev pub accepted_said : Said → Bool
accepted_said (refused n d) = false
accepted_said (answered k vs) = true

-- of an accepted call, whether it begins a run
abbrev pub began_by : Kind → Bool → Bool
began_by beginning a = a
began_by forward a = false
began_by back a = false
began_by aside a = false
began_by lookup a = false

-- how many of the events are accepted calls of those wanted
unfoldable pub accepted_of : {C : Type 0} → (C → Bool) → List (Event C) → ℕ
accepted_of wanted [] = 0
accepted_of wanted (e ∷ es) = cond (wanted e.call && accepted_said e.said) (suc (accepted_of wanted es)) (accepted_of wanted es)

module _ {M C : Type 0} (on : Machine M C) where
  abbrev pub event_of : C → M → Event C
  event_of c m = record { call = c; said = on.says c m }

  -- the event is an accepted begin
  unfoldable pub began : Event C → Bool
  began e = began_by (on.kind e.call) (accepted_said e.said)

  -- the memory after a list of calls
  unfoldable pub memory_after : List C → M → M
  memory_after [] m = m
  memory_after (c ∷ cs) m = memory_after cs (on.leaves c m)

  -- the events of the run so far, the latest first: "a further accepted begin starts another run"
  unfoldable pub recalled : Event C → List (Event C) → List (Event C)
  recalled e past = cond (began e) [] (e ∷ past)

  -- after a list of calls, `past` being what came before it
  unfoldable pub events_after : List C → M → List (Event C) → List (Event C)
  events_after [] m past = past
  events_after (c ∷ cs) m past = events_after cs (on.leaves c m) (recalled (event_of c m) past)

  -- how many of the calls are accepted begins
  unfoldable pub begins : List C → M → ℕ
  begins [] m = 0
  begins (c ∷ cs) m = cond (began (event_of c m)) (suc (begins cs (on.leaves c m))) (begins cs (on.leaves c m))

  -- the memory that the last accepted begin among the calls left; without one, the memory given
  unfoldable pub begun_in : List C → M → M → M
  begun_in [] m b = b
  begun_in (c ∷ cs) m b = begun_in cs (on.leaves c m) (cond (began (event_of c m)) (on.leaves c m) b)
