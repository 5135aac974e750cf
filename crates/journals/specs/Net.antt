-- What stands of calls with steps back among them, as calls without: "runs are judged from then on by their final records and by accepted steps, Completes
-- among them, less those taken back".
use Rattle.std.specs.Prelude.{◌+◌, ◌≡◌, Bool, true, false, ◌&&◌, List, [], ◌∷◌, ◌++◌, length, ltb}
use Rattle.task.specs.Refusals.{Said}
use Rattle.machine.specs.Machine.{Kind, beginning, forward, back, aside, lookup, Machine, Event, accepted_said, event_of, recalled, memory_after, events_after}
use Rattle.machine.specs.Standing.{calls_of, standing, steps_in, backs_in}
use Rattle.journals.specs.Journal.{Journaled, journaled_of, WithBack, made, back_call, Keeping, says, leaves, kind_of, journaled, Accepts}

-- the events below the journal: those of the calls without it
abbrev pub below_by : {C B : Type 0} → WithBack C B → Said → List (Event C) → List (Event C)
below_by (made c) said es = record { call = c; said = said } ∷ es
below_by (back_call b) said es = es

unfoldable pub below : {C B : Type 0} → List (Event (WithBack C B)) → List (Event C)
below [] = []
below (e ∷ es) = below_by e.call e.said (below es)

abbrev pub AllAside : {M C : Type 0} → Machine M C → List C → Type 0
AllAside on [] = Unit {0}
AllAside on (c ∷ cs) = (on.kind c ≡ aside) × AllAside on cs

module _ {M C B : Type 0} (on : Machine M C) (by : Keeping M C B) where
  -- the steps and calls aside that stand
  abbrev pub stands_of : List (Event (WithBack C B)) → List (Event C)
  stands_of past = below (standing (journaled on by) past)

  -- After calls from b on the lists are x, and the events `past`; the last accepted begin left `begun`. The calls that stand, begins among them, made on b
  -- without a journal, leave the same memory and answer there what they answered.
  pub record Net (b begun : M) (x : Journaled M) (past : List (Event (WithBack C B))) : Type 0 where
    pub calls : List C
    pub memory : x.memory ≡ memory_after on calls b
    pub events : stands_of past ≡ events_after on calls b []
    -- "down to the begun state": so do those since that begin, made on what it left
    pub since : x.memory ≡ memory_after on (calls_of (stands_of past)) begun
    -- "accepted steps .. less those taken back"
    pub steps : steps_in (journaled on by) past ≡ steps_in on (stands_of past) + backs_in (journaled on by) past
    pub long : length x.journal ≡ by.size x.memory

  -- an accepted step back takes back a step among these events
  abbrev pub only_own_by : Kind → Bool → List (Event (WithBack C B)) → Bool
  only_own_by beginning a past = true
  only_own_by forward a past = true
  only_own_by back true past = ltb 0 (steps_in on (stands_of past))
  only_own_by back false past = true
  only_own_by aside a past = true
  only_own_by lookup a past = true

  -- the calls take back no step but their own and those of `past`
  unfoldable pub only_own : List (WithBack C B) → Journaled M → List (Event (WithBack C B)) → Bool
  only_own [] x past = true
  only_own (c ∷ cs) x past =
      only_own_by (kind_of on by c) (accepted_said (says on by c x)) past && only_own cs (leaves on by c x) (recalled (journaled on by) (event_of (journaled on by) c x) past)

  -- Of the events that stand, the last step, with the calls from b on before it and the calls aside since.
  pub record LastStep (b : M) (x : Journaled M) (stands : List (Event C)) : Type 0 where
    pub earlier : List C
    pub step : C
    pub since : List C
    -- those of the last begin's run are what stands
    pub before : List C
    pub rest : List C
    pub parted : earlier ≡ before ++ rest
    pub standing : calls_of stands ≡ rest ++ (step ∷ since)
    pub memory : x.memory ≡ memory_after on (earlier ++ (step ∷ since)) b
    pub accepts : Accepts on forward step (memory_after on earlier b)
    pub asides : AllAside on since
    -- a step back answers by that step's words, as right after it
    pub answers : (k : B) → says on by (back_call k) x
        ≡ by.back_says k (by.words step (memory_after on earlier b)) (on.leaves step (memory_after on earlier b))
    -- "all lent words outside the journal are then those before that step", "and stepping back leaves marks"; "steps back keep it"
    pub restores : (k : B) → accepted_said (says on by (back_call k) x) ≡ true
        → leaves on by (back_call k) x ≡ journaled_of (memory_after on (earlier ++ since) b) x.journal
