-- What a call of a family's run does, whatever its limits: it moves nothing, or it is an accepted step or an accepted begin with begin's P and K. So
-- what an accepted begin starts and accepted steps keep holds after every list of calls, and what neither writes stays as begin was lent it.
use Prim.Native.Nat.{ℕ}
use mathlib.Core.Path.{◌≡◌, refl, sym, ap, ◌∙◌}
use mathlib.Core.Bool.{true, false}
use mathlib.Core.List.{List, [], ◌∷◌}
use Rattle.lists.proofs.Apart.{unequal}
use Rattle.task.specs.Refusals.{Said, refused, answered, accepted}
use Rattle.task.specs.Rows.{Acceptance}
use Rattle.task.specs.declared.Limits.{Limits}
use Rattle.task.specs.declared.Side.{Side}
use Rattle.task.specs.declared.Step.{Step}
use Rattle.machine.specs.Machine.{back, lookup, Event, accepted_said, event_of, began, memory_after, recalled, events_after, begun_in, accepted_of}
use Rattle.machine.specs.Standing.{is_forward, calls_of, kept_in, steps_in}
use Rattle.machine.specs.Jobs.{Call, step_call, begin_call, lookup_call, is_step, kind_of, accepted_steps, Engine, says, leaves, machine_of, Run, begun_of, memory_of, events_of}
use Rattle.machine.proofs.Lists.{every}
use Rattle.machine.proofs.Onward.{kept-alone}

-- what a family has to show of one call, where `Fit p k m` says that memory m has the lengths of P workers and K slots
pub record Laws {M : Type 0} (on : Engine M) (Fit : ℕ → ℕ → M → Type 0) : Type 0 where
  -- a refused call leaves every word
  pub refused_step : (limits : Limits) (p k i : ℕ) (s : Step) (m : M) (n d : ℕ) → on.step_says limits p k i s m ≡ refused n d
      → on.step_leaves limits p k i s m ≡ m
  pub refused_begin : (limits : Limits) (p k : ℕ) (m : M) (n d : ℕ) → on.begin_says limits p k m ≡ refused n d → on.begin_leaves limits p k m ≡ m
  -- "A call with another P or K than begin's meets 2 or 1.": so it isn't accepted
  pub step_numbers : (limits : Limits) (p k p' k' i : ℕ) (s : Step) (m : M) → Fit p k m → Acceptance (on.step_says limits p' k' i s m)
      → (p' ≡ p) × (k' ≡ k)
  pub begin_numbers : (limits : Limits) (p k p' k' : ℕ) (m : M) → Fit p k m → Acceptance (on.begin_says limits p' k' m) → (p' ≡ p) × (k' ≡ k)
  -- begin answers acceptance alone
  pub begin_plain : (limits : Limits) (p k : ℕ) (m : M) → Acceptance (on.begin_says limits p k m) → on.begin_says limits p k m ≡ accepted
  -- the lists keep their lengths
  pub step_fit : (limits : Limits) (p k i : ℕ) (s : Step) (m : M) → Fit p k m → Fit p k (on.step_leaves limits p k i s m)
  pub begin_fit : (limits : Limits) (p k : ℕ) (m : M) → on.begin_says limits p k m ≡ accepted → Fit p k (on.begin_leaves limits p k m)

-- a call that moves nothing: a refused one, a lookup
pub data Still : Call → Said → Type 0 where
  refuses : (c : Call) (n d : ℕ) → Still c (refused n d)
  looks : (side : Side) (t : ℕ) (said : Said) → Still (lookup_call side t) said

-- what a call does in memory begun with P and K, whatever its limits
pub data Did {M : Type 0} (on : Engine M) (p k : ℕ) (m : M) : Call → Type 0 where
  stays : (c : Call) → Still c (says on c m) → leaves on c m ≡ m → Did on p k m c
  steps : (limits : Limits) (i : ℕ) (s : Step) → Acceptance (on.step_says limits p k i s m) → Did on p k m (step_call limits p k i s)
  starts : (limits : Limits) → on.begin_says limits p k m ≡ accepted → Did on p k m (begin_call limits p k)

module _ {M : Type 0} (on : Engine M) where
  -- what moves nothing begins no other run
  pub still-began : (c : Call) (said : Said) → Still c said → began (machine_of on) (record { call = c; said = said }) ≡ false
  unfolding began
  still-began (step_call limits p k i s) said (refuses _ n d) = refl
  still-began (begin_call limits p k) said (refuses _ n d) = refl
  still-began (lookup_call side t) said h = refl

  module _ (limits : Limits) (p k : ℕ) (m : M) where
    -- nor does a step
    pub step-began : (i : ℕ) (s : Step) → began (machine_of on) (event_of (machine_of on) (step_call limits p k i s) m) ≡ false
    unfolding began
    step-began i s = refl

    pub begin-began : on.begin_says limits p k m ≡ accepted → began (machine_of on) (event_of (machine_of on) (begin_call limits p k) m) ≡ true
    unfolding began
    begin-began e = ap accepted_said e

module _ {M : Type 0} {on : Engine M} {Fit : ℕ → ℕ → M → Type 0} (laws : Laws on Fit) where
  module _ (p k : ℕ) (m : M) (fit : Fit p k m) where
    -- every step call is an accepted step with begin's P and K, or leaves the memory
    step-did : (limits : Limits) (p' k' i : ℕ) (s : Step) → Did on p k m (step_call limits p' k' i s)
    step-did limits p' k' i s = go (on.step_says limits p' k' i s m) refl
      where
        go : (said : Said) → on.step_says limits p' k' i s m ≡ said → Did on p k m (step_call limits p' k' i s)
        go (refused n d) e = stays (step_call limits p' k' i s) (rw e (refuses _ n d)) (laws.refused_step limits p' k' i s m n d e)
        go (answered n vs) e =
            let a : Acceptance (on.step_says limits p' k' i s m) = rw e tt in
            let (ep, ek) = laws.step_numbers limits p k p' k' i s m fit a in
            rw (ep, ek) (steps limits i s (rw (sym ep, sym ek) a))

    begin-did : (limits : Limits) (p' k' : ℕ) → Did on p k m (begin_call limits p' k')
    begin-did limits p' k' = go (on.begin_says limits p' k' m) refl
      where
        go : (said : Said) → on.begin_says limits p' k' m ≡ said → Did on p k m (begin_call limits p' k')
        go (refused n d) e = stays (begin_call limits p' k') (rw e (refuses _ n d)) (laws.refused_begin limits p' k' m n d e)
        go (answered n vs) e =
            let a : Acceptance (on.begin_says limits p' k' m) = rw e tt in
            let (ep, ek) = laws.begin_numbers limits p k p' k' m fit a in
            rw (ep, ek) (starts limits (rw (sym ep, sym ek) (laws.begin_plain limits p' k' m a)))

    pub did : (c : Call) → Did on p k m c
    did (step_call limits p' k' i s) = step-did limits p' k' i s
    did (begin_call limits p' k') = begin-did limits p' k'
    did (lookup_call side t) = stays _ (looks side t _) refl

    pub fit-kept : (c : Call) → Fit p k (leaves on c m)
    fit-kept c = go c (did c)
      where
        go : (c : Call) → Did on p k m c → Fit p k (leaves on c m)
        go c (stays _ h e) = rw e fit
        go _ (steps limits i s a) = laws.step_fit limits p k i s m fit
        go _ (starts limits e) = laws.begin_fit limits p k m e

  -- I is a property of the memory and the run's events so far
  module _ (p k : ℕ) (I : M → List (Event Call) → Type 0)
      -- an accepted begin on any memory starts it
      (start : (limits : Limits) (m : M) → on.begin_says limits p k m ≡ accepted → I (on.begin_leaves limits p k m) [])
      -- a call that moves nothing is one more event
      (stay : (m : M) (past : List (Event Call)) (c : Call) (said : Said) → Still c said → I m past → I m (record { call = c; said = said } ∷ past))
      -- an accepted step keeps it
      (keep : (limits : Limits) (m : M) (past : List (Event Call)) (i : ℕ) (s : Step) → Acceptance (on.step_says limits p k i s m) → I m past
      → I (on.step_leaves limits p k i s m) (event_of (machine_of on) (step_call limits p k i s) m ∷ past)) where
    -- then every call keeps it
    each : (c : Call) (m : M) (past : List (Event Call)) → Fit p k m × I m past
        → Fit p k (leaves on c m) × I (leaves on c m) (recalled (machine_of on) (event_of (machine_of on) c m) past)
    unfolding recalled
    each c m past (l, h) = (fit-kept p k m l c, go c (did p k m l c))
      where
        go : (c : Call) → Did on p k m c → I (leaves on c m) (recalled (machine_of on) (event_of (machine_of on) c m) past)
        go c (stays _ q e) = rw (e, still-began on c (says on c m) q) (stay m past c (says on c m) q h)
        go _ (steps limits i s a) = rw (step-began on limits p k m i s) (keep limits m past i s a h)
        go _ (starts limits e) = rw (begin-began on limits p k m e) (start limits m e)

    pub throughout : (limits : Limits) (m : M) → on.begin_says limits p k m ≡ accepted → (cs : List Call)
        → I (memory_after (machine_of on) cs (on.begin_leaves limits p k m)) (events_after (machine_of on) cs (on.begin_leaves limits p k m) [])
    throughout limits m e cs =
        (every (machine_of on) (λ m past. Fit p k m × I m past) each cs (on.begin_leaves limits p k m) []
        (laws.begin_fit limits p k m e, start limits m e)).1

  -- What neither steps nor accepted begins write, no call of a run writes.
  module _ (p k : ℕ) {A : Type 0} (f : M → A)
      (stepped : (limits : Limits) (m : M) (i : ℕ) (s : Step) → f (on.step_leaves limits p k i s m) ≡ f m)
      (begun : (limits : Limits) (m : M) → on.begin_says limits p k m ≡ accepted → f (on.begin_leaves limits p k m) ≡ f m) where
    call-unwritten : (m : M) (c : Call) → Did on p k m c → f (leaves on c m) ≡ f m
    call-unwritten m c (stays _ q e) = ap f e
    call-unwritten m _ (steps limits i s a) = stepped limits m i s
    call-unwritten m _ (starts limits e) = begun limits m e

    pub unwritten : (cs : List Call) (m : M) → Fit p k m → f (memory_after (machine_of on) cs m) ≡ f m
    unwritten cs m l =
        (every (machine_of on) (λ m' past. Fit p k m' × (f m' ≡ f m))
        (λ c m' past h. (fit-kept p k m' h.0 c, call-unwritten m' c (did p k m' h.0 c) ∙ h.1)) cs m [] (l, refl)).1

  -- so it is as begin was lent it
  pub as_lent : (r : Run on) {A : Type 0} (f : M → A)
      → ((limits : Limits) (m : M) (i : ℕ) (s : Step) → f (on.step_leaves limits r.workers r.slots i s m) ≡ f m)
      → ((limits : Limits) (m : M) → on.begin_says limits r.workers r.slots m ≡ accepted
      → f (on.begin_leaves limits r.workers r.slots m) ≡ f m)
      → f (memory_of on r) ≡ f r.lent
  as_lent r f stepped begun =
      unwritten r.workers r.slots f stepped begun r.calls (begun_of on r)
      (laws.begin_fit r.limits r.workers r.slots r.lent r.accepts)
      ∙ begun r.limits r.lent r.accepts

  -- No step is taken back, and what is refused or looked up moves nothing: so a run's memory is that after its accepted steps alone.
  onward : (c : Call) → ¬ (kind_of c ≡ back)
  onward (step_call limits p k i s) e = unequal cc
  onward (begin_call limits p k) e = unequal cc
  onward (lookup_call side t) e = unequal cc

  stays-still : (c : Call) (m : M) → accepted_said (says on c m) ≡ false → leaves on c m ≡ m
  stays-still (step_call limits p k i s) m = go (on.step_says limits p k i s m) refl
    where
      go : (said : Said) → on.step_says limits p k i s m ≡ said → accepted_said said ≡ false → on.step_leaves limits p k i s m ≡ m
      go (refused n d) e _ = laws.refused_step limits p k i s m n d e
      go (answered n vs) e f = unequal cc
  stays-still (begin_call limits p k) m = go (on.begin_says limits p k m) refl
    where
      go : (said : Said) → on.begin_says limits p k m ≡ said → accepted_said said ≡ false → on.begin_leaves limits p k m ≡ m
      go (refused n d) e _ = laws.refused_begin limits p k m n d e
      go (answered n vs) e f = unequal cc
  stays-still (lookup_call side t) m = λ _. refl

  looks-still : (c : Call) (m : M) → kind_of c ≡ lookup → leaves on c m ≡ m
  looks-still (step_call limits p k i s) m e = unequal cc
  looks-still (begin_call limits p k) m e = unequal cc
  looks-still (lookup_call side t) m e = refl

  -- the memory that the run's last accepted begin left
  abbrev pub last_begun : Run on → M
  last_begun r = begun_in (machine_of on) r.calls (begun_of on r) (begun_of on r)

  pub steps-alone : (r : Run on)
      → (memory_of on r ≡ memory_after (machine_of on) (calls_of (kept_in (machine_of on) (events_of on r))) (last_begun r))
      × (events_after (machine_of on) (calls_of (kept_in (machine_of on) (events_of on r))) (last_begun r) [] ≡ kept_in (machine_of on) (events_of on r))
  steps-alone r = kept-alone (machine_of on) onward stays-still looks-still r.calls (begun_of on r)

-- the steps that the machine counts are those that demand 3 counts
counted_step : (c : Call) → is_forward (kind_of c) ≡ is_step c
counted_step (step_call limits p k i s) = refl
counted_step (begin_call limits p k) = refl
counted_step (lookup_call side t) = refl

pub counted-steps : {M : Type 0} (on : Engine M) (es : List (Event Call)) → steps_in (machine_of on) es ≡ accepted_steps es
unfolding accepted_of
counted-steps on [] = refl
counted-steps on (e ∷ es) = rw (counted_step e.call, counted-steps on es) refl
