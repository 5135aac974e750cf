-- Events that stand, with their words in a journal: made alone, their calls have these events; the accepted word counts their steps; and the last step
-- among them is the one that a step back takes back, whatever calls aside came since.
use Prim.Native.Nat.{ℕ, suc, ◌+◌, ◌-◌, ◌≤◌, ◌<◌}
use mathlib.Core.Path.{◌≡◌, refl, sym, ap, ◌∙◌}
use mathlib.Core.Bool.{true, false}
use mathlib.Core.Logic.{◌⊎◌, inl, inr}
use mathlib.Core.List.{List, [], ◌∷◌, ◌++◌, append_assoc, append-nil}
use native.Mathlib.Omega.{arith}
use Rattle.lists.proofs.Apart.{unequal}
use Rattle.machine.specs.Machine.{forward, aside, Machine, Event, accepted_said, began_by, accepted_of, began, memory_after, recalled, events_after}
use Rattle.machine.specs.Standing.{calls_of, without_last, steps_in}
use Rattle.machine.proofs.Standing.{memory-next, events-next}
use Rattle.memory.specs.Updates.{store_words}
use Rattle.journals.specs.Journal.{group_place, group_at, Keeping, TakesBack, Laws}
use Rattle.journals.specs.Net.{AllAside}
use Rattle.journals.proofs.Groups.{group-before}

module _ {M C : Type 0} (on : Machine M C) where
  -- the memory after events, the latest first
  unfoldable pub reached : List (Event C) → M → M
  reached [] b = b
  reached (e ∷ es) b = on.leaves e.call (reached es b)

  pub reached-is : (es : List (Event C)) (b : M) → memory_after on (calls_of es) b ≡ reached es b
  unfolding reached calls_of memory_after
  reached-is [] b = refl
  reached-is (e ∷ es) b = memory-next on e es b ∙ ap (on.leaves e.call) (reached-is es b)

  -- their calls, the earliest first
  calls-on : (late es : List (Event C)) → calls_of (late ++ es) ≡ calls_of es ++ calls_of late
  unfolding calls_of
  calls-on [] es = sym (append-nil (calls_of es))
  calls-on (e ∷ late) es = ap (λ (cs : List C). cs ++ (e.call ∷ [])) (calls-on late es) ∙ append_assoc (calls_of es) (calls_of late) (e.call ∷ [])

  pub calls-over : (first : List C) (late es : List (Event C)) → first ++ calls_of (late ++ es) ≡ (first ++ calls_of es) ++ calls_of late
  calls-over first late es = ap (λ (cs : List C). first ++ cs) (calls-on late es) ∙ sym (append_assoc first (calls_of es) (calls_of late))

  pub calls-parted : (first : List C) (late : List (Event C)) (e : Event C) (es : List (Event C))
      → first ++ calls_of (late ++ (e ∷ es)) ≡ (first ++ calls_of es) ++ (e.call ∷ calls_of late)
  unfolding calls_of
  calls-parted first late e es =
      calls-over first late (e ∷ es)
      ∙ ap (λ (cs : List C). cs ++ calls_of late) (sym (append_assoc first (calls_of es) (e.call ∷ [])))
      ∙ append_assoc (first ++ calls_of es) (e.call ∷ []) (calls_of late)

  aside-on : (cs : List C) (c : C) → AllAside on cs → on.kind c ≡ aside → AllAside on (cs ++ (c ∷ []))
  aside-on [] c a q = (q, tt)
  aside-on (d ∷ cs) c a q = (a.0, aside-on cs c a.1 q)

module _ {M C B : Type 0} (on : Machine M C) (by : Keeping M C B) where
  -- an event that stands after es from b on: an accepted step or call aside, answered as it answers there; the journal has a step's words
  pub record Holds (e : Event C) (es : List (Event C)) (j : List ℕ) (b : M) : Type 0 where
    pub kind : (on.kind e.call ≡ forward) ⊎ (on.kind e.call ≡ aside)
    pub said : e.said ≡ on.says e.call (reached on es b)
    pub accepted : accepted_said e.said ≡ true
    pub group : on.kind e.call ≡ forward → group_at j (by.count (reached on es b)) ≡ by.words e.call (reached on es b)

  unfoldable pub Held : List (Event C) → List ℕ → M → Type 0
  Held [] j b = Unit {0}
  Held (e ∷ es) j b = Holds e es j b × Held es j b

  steps-aside : (e : Event C) (es : List (Event C)) → on.kind e.call ≡ aside → steps_in on (e ∷ es) ≡ steps_in on es
  unfolding accepted_of
  steps-aside e es q = rw q refl

  module _ (laws : Laws on by) (b : M) where
    -- what is known of the first event
    module _ (e : Event C) (es : List (Event C)) (j : List ℕ) (h : Holds e es j b) where
      pub there : accepted_said (on.says e.call (reached on es b)) ≡ true
      there = ap accepted_said (sym h.said) ∙ h.accepted

      began-none : began on e ≡ false
      unfolding began
      began-none = go h.kind
        where
          go : (on.kind e.call ≡ forward) ⊎ (on.kind e.call ≡ aside) → began_by (on.kind e.call) (accepted_said e.said) ≡ false
          go (inl q) = rw q refl
          go (inr q) = rw q refl

      count-step : on.kind e.call ≡ forward → by.count (reached on (e ∷ es) b) ≡ suc (by.count (reached on es b))
      unfolding reached
      count-step q = laws.more e.call (reached on es b) (q, there)

      count-aside : on.kind e.call ≡ aside → by.count (reached on (e ∷ es) b) ≡ by.count (reached on es b)
      unfolding reached
      count-aside q = laws.as_many e.call (reached on es b) (q, there)

      steps-step : on.kind e.call ≡ forward → steps_in on (e ∷ es) ≡ suc (steps_in on es)
      unfolding accepted_of
      steps-step q = rw (q, h.accepted) refl

    -- made alone, these calls have these events
    pub again : (es : List (Event C)) (j : List ℕ) → Held es j b → events_after on (calls_of es) b [] ≡ es
    unfolding Held calls_of events_after recalled
    again [] j h = refl
    again (e ∷ es) j h =
        events-next on e es b ∙ rw (reached-is on es b, again es j h.1, sym h.0.said, began-none e es j h.0) refl

    -- the accepted word counts the steps
    pub counted : (es : List (Event C)) (j : List ℕ) → Held es j b → by.count (reached on es b) ≡ by.count b + steps_in on es
    unfolding Held reached accepted_of
    counted [] j h = omega arith
    counted (e ∷ es) j h = go h.0.kind (counted es j h.1)
      where
        go : (on.kind e.call ≡ forward) ⊎ (on.kind e.call ≡ aside) → by.count (reached on es b) ≡ by.count b + steps_in on es
            → by.count (reached on (e ∷ es) b) ≡ by.count b + steps_in on (e ∷ es)
        go (inl q) i = omega (arith, i, count-step e es j h.0 q, steps-step e es j h.0 q)
        go (inr q) i = omega (arith, i, count-aside e es j h.0 q, steps-aside e es q)

    -- a later group is written
    pub held-later : (es : List (Event C)) (j ws : List ℕ) (n : ℕ) → Held es j b → by.count (reached on es b) ≤ n → Held es (store_words j (group_place n) ws) b
    unfolding Held
    held-later [] j ws n h l = tt
    held-later (e ∷ es) j ws n h l = go h.0.kind (held-later es j ws n h.1)
      where
        group : (on.kind e.call ≡ forward → by.count (reached on es b) < n) → Holds e es (store_words j (group_place n) ws) b
        group room =
            record {
              kind = h.0.kind;
              said = h.0.said;
              accepted = h.0.accepted;
              group = λ q. group-before j ws n (by.count (reached on es b)) (room q) ∙ h.0.group q;
            }

        go : (on.kind e.call ≡ forward) ⊎ (on.kind e.call ≡ aside) → (by.count (reached on es b) ≤ n → Held es (store_words j (group_place n) ws) b)
            → Held (e ∷ es) (store_words j (group_place n) ws) b
        go (inl q) later = let c = count-step e es j h.0 q in (group (λ _. omega (arith, c, l)), later (omega (arith, c, l)))
        go (inr q) later =
            (group (λ z. let y = sym q ∙ z in unequal cc), later (omega (arith, count-aside e es j h.0 q, l)))

    -- the last step among events, g being the journal's last group; those before it, calls aside since
    pub record Found (es : List (Event C)) (j g : List ℕ) : Type 0 where
      pub earlier : List (Event C)
      pub step : Event C
      pub since : List (Event C)
      pub is : es ≡ since ++ (step ∷ earlier)
      pub without : without_last on es ≡ since ++ earlier
      pub holds : Holds step earlier j b
      pub forwards : on.kind step.call ≡ forward
      pub asides : AllAside on (calls_of since)
      pub fewer : steps_in on es ≡ suc (steps_in on (without_last on es))
      pub words : by.words step.call (reached on earlier b) ≡ g
      pub answers : (k : B) → by.back_says k g (reached on es b) ≡ by.back_says k g (on.leaves step.call (reached on earlier b))
      pub taken : (k : B) → TakesBack on by k g (reached on es b)
          → (by.back_leaves k g (reached on es b) ≡ reached on (without_last on es) b) × Held (without_last on es) j b

    first_step : (x : Event C) (es : List (Event C)) (j g : List ℕ) → Holds x es j b → Held es j b → on.kind x.call ≡ forward
        → group_at j (by.count (reached on (x ∷ es) b) - 1) ≡ g → Found (x ∷ es) j g
    unfolding reached calls_of without_last
    first_step x es j g h rest q e =
        record {
          earlier = es;
          step = x;
          since = [];
          is = refl;
          without = rw q refl;
          holds = h;
          forwards = q;
          asides = tt;
          fewer = rw q (steps-step x es j h q);
          words = words;
          answers = λ k. refl;
          taken = λ k a. rw q (rw (sym words) (laws.exact k x.call (reached on es b) (q, there x es j h) (rw words a)), rest);
        }
      where
        words : by.words x.call (reached on es b) ≡ g
        words = sym (h.group q) ∙ ap (group_at j) (omega (arith, count-step x es j h q)) ∙ e

    first-aside : (x : Event C) (es : List (Event C)) (j g : List ℕ) → Holds x es j b → on.kind x.call ≡ aside → Found es j g → Found (x ∷ es) j g
    unfolding Held reached calls_of without_last
    first-aside x es j g h q f =
        record {
          earlier = f.earlier;
          step = f.step;
          since = x ∷ f.since;
          is = ap (λ (l : List (Event C)). x ∷ l) f.is;
          without = rw q (ap (λ (l : List (Event C)). x ∷ l) f.without);
          holds = f.holds;
          forwards = f.forwards;
          asides = aside-on on (calls_of f.since) x.call f.asides q;
          fewer = rw q (steps-aside x es q ∙ f.fewer ∙ ap suc (sym (steps-aside x (without_last on es) q)));
          words = f.words;
          answers = λ k. laws.unseen k g x.call m (q, there x es j h) ∙ f.answers k;
          taken = λ k a. rw q (back k (ap accepted_said (sym (laws.unseen k g x.call m (q, there x es j h))) ∙ a));
        }
      where
        m : M
        m = reached on es b

        rest : List (Event C)
        rest = without_last on es

        back : (k : B) → TakesBack on by k g m → (by.back_leaves k g (on.leaves x.call m) ≡ on.leaves x.call (reached on rest b)) × (Holds x rest j b × Held rest j b)
        back k a =
            let (e, held) = f.taken k a in
            let same : on.says x.call (reached on rest b) ≡ x.said =
            ap (on.says x.call) (sym e) ∙ laws.answers-too k g x.call m (q, there x es j h) a ∙ sym h.said in (
              laws.commutes k g x.call m (q, there x es j h) a ∙ ap (on.leaves x.call) e,
              (record { kind = inr q; said = sym same; accepted = h.accepted; group = λ z. let y = sym q ∙ z in unequal cc }, held),
            )

    pub found : (es : List (Event C)) (j g : List ℕ) → 0 < steps_in on es → Held es j b → group_at j (by.count (reached on es b) - 1) ≡ g → Found es j g
    unfolding Held accepted_of
    found [] j g some h e = absurd (omega (arith, some))
    found (x ∷ es) j g some h e = go h.0.kind (λ y. found es j g y h.1)
      where
        m : M
        m = reached on es b

        go : (on.kind x.call ≡ forward) ⊎ (on.kind x.call ≡ aside) → (0 < steps_in on es → group_at j (by.count m - 1) ≡ g → Found es j g)
            → Found (x ∷ es) j g
        go (inl q) later = first_step x es j g h.0 h.1 q e
        go (inr q) later =
            first-aside x es j g h.0 q
            (later (omega (arith, some, steps-aside x es q)) (ap (λ (i : ℕ). group_at j (i - 1)) (sym (count-aside x es j h.0 q)) ∙ e))
