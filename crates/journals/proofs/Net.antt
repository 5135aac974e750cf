-- After any list of calls, steps back among them, the memory below the journal is that after the calls that stand, made on the machine without a journal,
-- and these answer there what they answered. The last of them that is a step is the one that a step back takes back.
use Prim.Native.Nat.{ℕ, zero, suc, ◌+◌, ◌-◌, ◌<◌}
use mathlib.Core.Path.{◌≡◌, refl, sym, ap, ◌∙◌}
use mathlib.Core.Bool.{Bool, true, false, cond}
use mathlib.Core.Logic.{◌⊎◌, inl, inr}
use mathlib.Core.List.{List, [], ◌∷◌, ◌++◌}
use native.Mathlib.Omega.{arith}
use lib.ListN.{length, length-replicate}
use borrow.Author.Tests.{eq-eqb, ltb-true}
use Rattle.lists.proofs.Told.{and-true}
use Rattle.lists.proofs.Apart.{unequal, true-and-false}
use Rattle.machine.specs.Machine.{Kind, beginning, forward, back, aside, lookup, Machine, Event, accepted_said, began_by, accepted_of, event_of, began, memory_after, recalled, events_after, begun_in}
use Rattle.machine.specs.Standing.{is_forward, calls_of, without_last, stood_by, standing, steps_in, backs_in}
use Rattle.machine.proofs.Lists.{memory-on, events-on}
use Rattle.machine.proofs.Standing.{standing-recalled}
use Rattle.memory.proofs.Fields.{length-words}
use Rattle.journals.specs.Journal.{Journaled, journaled_of, WithBack, made, back_call, group_place, group_at, Keeping, Accepts, fits, last, says_by, says, journal_by, moves, leaves, kind_of, journaled, TakesBack, Laws}
use Rattle.journals.specs.Net.{below_by, below, stands_of, Net, only_own_by, only_own, LastStep}
use Rattle.journals.proofs.Groups.{group-there}
use Rattle.journals.proofs.Held.{reached, reached-is, calls-over, calls-parted, Held, there, again, counted, held-later, Found, found}

module _ {M C B : Type 0} (on : Machine M C) (by : Keeping M C B) where
  abbrev J : Machine (Journaled M) (WithBack C B)
  J = journaled on by

  abbrev Past : Type 0
  Past = List (Event (WithBack C B))

  -- what a call answers and leaves where the journal has its length
  module _ (x : Journaled M) (long : length x.journal ≡ by.size x.memory) where
    fit : fits on by x ≡ true
    unfolding fits
    fit = eq-eqb _ _ long

    pub says-made : (c : C) → says on by (made c) x ≡ on.says c x.memory
    unfolding says
    says-made c = go (on.kind c)
      where
        go : (k : Kind) → says_by on by k c x ≡ on.says c x.memory
        go beginning = rw fit refl
        go forward = rw fit refl
        go back = rw fit refl
        go aside = rw fit refl
        go lookup = refl

    says_back : (k : B) → says on by (back_call k) x ≡ by.back_says k (last on by x) x.memory
    unfolding says
    says_back k = rw fit refl

  pub left-moved : (c : WithBack C B) (x : Journaled M) → accepted_said (says on by c x) ≡ true → leaves on by c x ≡ moves on by c x
  unfolding leaves
  left-moved c x a = rw a refl

  left-same : (c : WithBack C B) (x : Journaled M) → accepted_said (says on by c x) ≡ false → leaves on by c x ≡ x
  unfolding leaves
  left-same c x a = rw a refl

  below-without : (es : Past) → below (without_last J es) ≡ without_last on (below es)
  unfolding below without_last
  below-without [] = refl
  below-without (e ∷ es) = go e.call refl (below-without es)
    where
      go : (c : WithBack C B) → e.call ≡ c → below (without_last J es) ≡ without_last on (below es)
          → below (cond (is_forward (kind_of on by c)) es (e ∷ without_last J es)) ≡ without_last on (below_by c e.said (below es))
      go (made c) q later = split (is_forward (on.kind c))
        where
          split : (f : Bool)
              → below (cond f es (e ∷ without_last J es)) ≡ cond f (below es) (record { call = c; said = e.said } ∷ without_last on (below es))
          split true = refl
          split false = rw (q, later) refl
      go (back_call k) q later = rw (q, later) refl

  -- what stands after one more call, and the memory that the last begin left
  module _ (c : WithBack C B) (x : Journaled M) (past : Past) where
    abbrev event : Event (WithBack C B)
    event = event_of J c x

    abbrev after : Past
    after = recalled J event past

    stands-refused : accepted_said (says on by c x) ≡ false → stands_of on by after ≡ stands_of on by past
    unfolding standing
    stands-refused a = ap below (standing-recalled J event past) ∙ rw a refl

    stands-accepted : accepted_said (says on by c x) ≡ true → stands_of on by after ≡ below (stood_by J (kind_of on by c) event (standing J past))
    unfolding standing
    stands-accepted a = ap below (standing-recalled J event past) ∙ rw a refl

  module _ (laws : Laws on by) (b : M) where
    -- the events that stand since the last accepted begin, which left `begun`; the calls up to it, if there was one
    record Stands (begun : M) (x : Journaled M) (es : List (Event C)) : Type 0 where
      earlier : List C
      is : memory_after on earlier b ≡ begun
      fresh : events_after on earlier b [] ≡ []
      zeroed : ◌≡◌ {A = ℕ} (by.count b) 0 → ◌≡◌ {A = ℕ} (by.count begun) 0
      memory : x.memory ≡ reached on es begun
      held : Held on by es x.journal begun
      long : length x.journal ≡ by.size x.memory

    module _ (m : M) (x : Journaled M) (es : List (Event C)) (s : Stands m x es) where
      along : (l : List (Event C)) → memory_after on (s.earlier ++ calls_of l) b ≡ reached on l m
      along l = memory-on on s.earlier (calls_of l) b ∙ reached-is on l (memory_after on s.earlier b) ∙ ap (reached on l) s.is

      events-in : events_after on (s.earlier ++ calls_of es) b [] ≡ es
      events-in =
          events-on on s.earlier (calls_of es) b []
          ∙ rw (s.fresh, s.is) (again on by laws m es x.journal s.held)

      steps-in : ◌≡◌ {A = ℕ} (by.count b) 0 → by.count x.memory ≡ steps_in on es
      steps-in z = ap by.count s.memory ∙ omega (arith, counted on by laws m es x.journal s.held, s.zeroed z)

      last_found : 0 < steps_in on es → Found on by laws m es x.journal (last on by x)
      last_found some =
          found on by laws m es x.journal (last on by x) some s.held (ap (λ (n : M). group_at x.journal (by.count n - 1)) (sym s.memory))

      -- a step or a call aside, which leaves this journal
      pushed : (c : C) (j : List ℕ) → (on.kind c ≡ forward) ⊎ (on.kind c ≡ aside) → accepted_said (on.says c x.memory) ≡ true
          → length j ≡ length x.journal → Held on by es j m → (on.kind c ≡ forward → group_at j (by.count x.memory) ≡ by.words c x.memory)
          → Stands m (journaled_of (on.leaves c x.memory) j) (event_of on c x.memory ∷ es)
      unfolding Held reached
      pushed c j kind a same held group =
          record {
            earlier = s.earlier;
            is = s.is;
            fresh = s.fresh;
            zeroed = s.zeroed;
            memory = ap (on.leaves c) s.memory;
            held = (record { kind = kind; said = ap (on.says c) s.memory; accepted = a; group = λ q. rw (sym s.memory) (group q) }, held);
            long = same ∙ s.long ∙ sym (laws.sized c x.memory a);
          }

      stepped : (c : C) → Accepts on forward c x.memory
          → Stands m (journaled_of (on.leaves c x.memory) (journal_by on by forward c x)) (event_of on c x.memory ∷ es)
      stepped c (q, a) =
          pushed c (journal_by on by forward c x) (inl q) a (length-words (by.words c x.memory) x.journal (group_place (by.count x.memory)))
          (held-later on by laws m es x.journal (by.words c x.memory) (by.count x.memory) s.held (omega (arith, ap by.count s.memory)))
          (λ _. group-there x.journal (by.words c x.memory) (by.count x.memory) (laws.eight c x.memory (q, a))
          (omega (arith, laws.room c x.memory (q, a), s.long)))

      begun-anew : (c : C) → Accepts on beginning c x.memory
          → Stands (on.leaves c x.memory) (journaled_of (on.leaves c x.memory) (journal_by on by beginning c x)) []
      unfolding Held reached memory_after events_after recalled began
      begun-anew c (q, a) =
          record {
            earlier = all ++ (c ∷ []);
            is = memory-on on all (c ∷ []) b ∙ ap (on.leaves c) here;
            fresh = events-on on all (c ∷ []) b [] ∙ rw (here, q, a) refl;
            zeroed = λ _. laws.begun c x.memory (q, a);
            memory = refl;
            held = tt;
            long = length-replicate (length x.journal) 0 ∙ s.long ∙ sym (laws.sized c x.memory a);
          }
        where
          all : List C
          all = s.earlier ++ calls_of es

          here : memory_after on all b ≡ x.memory
          here = along es ∙ sym s.memory

      looked : (c : C) → on.kind c ≡ lookup → Stands m (journaled_of (on.leaves c x.memory) x.journal) es
      looked c q = rw (laws.looks c x.memory q) s

      taken_back : (k : B) → 0 < steps_in on es → TakesBack on by k (last on by x) x.memory
          → Stands m (journaled_of (by.back_leaves k (last on by x) x.memory) x.journal) (without_last on es)
      taken_back k some a =
          let (e, held) = (last_found some).taken k (rw (sym s.memory) a) in
          record {
            earlier = s.earlier;
            is = s.is;
            fresh = s.fresh;
            zeroed = s.zeroed;
            memory = ap (by.back_leaves k (last on by x)) s.memory ∙ e;
            held = held;
            long = s.long ∙ sym (laws.back-sized k (last on by x) x.memory a);
          }

      -- the last step among them, and what a step back makes of it
      last_of : 0 < steps_in on es → LastStep on by b x es
      unfolding moves
      last_of some =
          record {
            earlier = s.earlier ++ calls_of f.earlier;
            step = f.step.call;
            since = calls_of f.since;
            before = s.earlier;
            rest = calls_of f.earlier;
            parted = refl;
            standing = ap calls_of f.is ∙ calls-parted on [] f.since f.step f.earlier;
            memory = s.memory ∙ ap (λ (l : List (Event C)). reached on l m) f.is ∙ sym (along (f.since ++ (f.step ∷ f.earlier)))
                ∙ ap (λ (cs : List C). memory_after on cs b) (calls-parted on s.earlier f.since f.step f.earlier);
            accepts = rw (along f.earlier) (f.forwards, there on by laws m f.step f.earlier x.journal f.holds);
            asides = f.asides;
            answers = λ k.
                says_back x s.long k ∙ ap (by.back_says k (last on by x)) s.memory ∙ f.answers k ∙ rw (along f.earlier, f.words) refl;
            restores = λ k a. left-moved (back_call k) x a ∙ ap (λ (n : M). journaled_of n x.journal) (restored k (rw (says_back x s.long k) at a));
          }
        where
          f : Found on by laws m es x.journal (last on by x)
          f = last_found some

          restored : (k : B) → TakesBack on by k (last on by x) x.memory
              → by.back_leaves k (last on by x) x.memory ≡ memory_after on ((s.earlier ++ calls_of f.earlier) ++ calls_of f.since) b
          restored k a =
              (taken_back k some a).memory
              ∙ ap (λ (l : List (Event C)). reached on l m) f.without
              ∙ sym (along (f.since ++ f.earlier))
              ∙ ap (λ (cs : List C). memory_after on cs b) (calls-over on s.earlier f.since f.earlier)

    -- "accepted steps .. less those taken back"
    abbrev Steps : Past → Type 0
    Steps past = steps_in J past ≡ steps_in on (stands_of on by past) + backs_in J past

    steps-made : (c : C) (x : Journaled M) (past : Past) → Steps past → Steps (after (made c) x past)
    unfolding accepted_of recalled began standing below
    steps-made c x past n = go (on.kind c) (accepted_said (says on by (made c) x)) refl refl
      where
        go : (k : Kind) (a : Bool) → on.kind c ≡ k → accepted_said (says on by (made c) x) ≡ a → Steps (cond (began_by k a) [] (event (made c) x past ∷ past))
        go beginning true q a = omega arith
        go beginning false q a = rw (q, a) n
        go forward true q a = rw (q, a) (rw (q, a) (omega (arith, n)))
        go forward false q a = rw (q, a) n
        go back f q a = absurd (laws.onward c q)
        go aside true q a = rw (q, a) (rw q n)
        go aside false q a = rw (q, a) n
        go lookup true q a = rw (q, a) n
        go lookup false q a = rw (q, a) n

    steps_back : (k : B) (x : Journaled M) (past : Past)
        → (accepted_said (says on by (back_call k) x) ≡ true → steps_in on (stands_of on by past) ≡ suc (steps_in on (without_last on (stands_of on by past))))
        → Steps past → Steps (after (back_call k) x past)
    unfolding accepted_of recalled began standing below
    steps_back k x past fewer n = go (accepted_said (says on by (back_call k) x)) refl
      where
        go : (a : Bool) → accepted_said (says on by (back_call k) x) ≡ a → Steps (event (back_call k) x past ∷ past)
        go true a = rw (a, below-without (standing J past)) (omega (arith, n, fewer a))
        go false a = rw a n

    -- the lists that the last begin left, where it left y before this call
    abbrev next_begun : WithBack C B → Journaled M → Journaled M → Journaled M
    next_begun c x y = cond (began J (event_of J c x)) (leaves on by c x) y

    made-stands : (c : C) (x y : Journaled M) (past : Past) → Stands y.memory x (stands_of on by past)
        → Stands (next_begun (made c) x y).memory (leaves on by (made c) x) (stands_of on by (after (made c) x past))
    unfolding began moves below
    made-stands c x y past s = go (accepted_said (says on by (made c) x)) refl (on.kind c) refl
      where
        same : says on by (made c) x ≡ on.says c x.memory
        same = says-made x s.long c

        kinds : (k : Kind) → on.kind c ≡ k → accepted_said (on.says c x.memory) ≡ true
            → Stands (cond (began_by k true) (journaled_of (on.leaves c x.memory) (journal_by on by k c x)) y).memory
            (journaled_of (on.leaves c x.memory) (journal_by on by k c x)) (below (stood_by J k (event (made c) x past) (standing J past)))
        kinds beginning q a = begun-anew y.memory x (stands_of on by past) s c (q, a)
        kinds forward q a = rw same (stepped y.memory x (stands_of on by past) s c (q, a))
        kinds back q a = absurd (laws.onward c q)
        kinds aside q a =
            rw same (pushed y.memory x (stands_of on by past) s c x.journal (inr q) a refl s.held (λ z. let e = sym q ∙ z in unequal cc))
        kinds lookup q a = looked y.memory x (stands_of on by past) s c q

        unbegun : (k : Kind) → began_by k false ≡ false
        unbegun beginning = refl
        unbegun forward = refl
        unbegun back = refl
        unbegun aside = refl
        unbegun lookup = refl

        go : (a : Bool) → accepted_said (says on by (made c) x) ≡ a → (k : Kind) → on.kind c ≡ k
            → Stands (cond (began_by k a) (leaves on by (made c) x) y).memory (leaves on by (made c) x) (stands_of on by (after (made c) x past))
        go true a k q = rw (left-moved (made c) x a, stands-accepted (made c) x past a, q) (kinds k q (rw same at a))
        go false a k q = rw (left-same (made c) x a, stands-refused (made c) x past a, unbegun k) s

    back-stands : (k : B) (x : Journaled M) (m : M) (past : Past)
        → (accepted_said (says on by (back_call k) x) ≡ true → 0 < steps_in on (stands_of on by past)) → Stands m x (stands_of on by past)
        → Stands m (leaves on by (back_call k) x) (stands_of on by (after (back_call k) x past))
    unfolding moves
    back-stands k x m past some s = go (accepted_said (says on by (back_call k) x)) refl
      where
        go : (a : Bool) → accepted_said (says on by (back_call k) x) ≡ a → Stands m (leaves on by (back_call k) x) (stands_of on by (after (back_call k) x past))
        go true a =
            rw (left-moved (back_call k) x a, stands-accepted (back_call k) x past a, below-without (standing J past))
            (taken_back m x (stands_of on by past) s k (some a) (rw (says_back x s.long k) at a))
        go false a = rw (left-same (back_call k) x a, stands-refused (back_call k) x past a) s

    -- after each call
    abbrev Inv : Journaled M → Journaled M → Past → Type 0
    Inv y x past = Stands y.memory x (stands_of on by past) × Steps past

    each : (c : WithBack C B) (y x : Journaled M) (past : Past)
        → (kind_of on by c ≡ back → accepted_said (says on by c x) ≡ true → 0 < steps_in on (stands_of on by past)) → Inv y x past
        → Inv (next_begun c x y) (leaves on by c x) (after c x past)
    unfolding began
    each (made c) y x past some (s, n) = (made-stands c x y past s, steps-made c x past n)
    each (back_call k) y x past some (s, n) =
        (back-stands k x y.memory past (some refl) s, steps_back k x past (λ a. (last_found y.memory x (stands_of on by past) s (some refl a)).fewer) n)

    -- where b counts no step, and none stands, a step back is refused
    some-stand : (c : WithBack C B) (m : M) (x : Journaled M) (past : Past) → ◌≡◌ {A = ℕ} (by.count b) 0 → Stands m x (stands_of on by past)
        → kind_of on by c ≡ back → accepted_said (says on by c x) ≡ true → 0 < steps_in on (stands_of on by past)
    some-stand (made c) m x past z s q a = absurd (laws.onward c q)
    some-stand (back_call k) m x past z s q a = go (steps_in on (stands_of on by past)) (steps-in m x (stands_of on by past) s z)
      where
        go : (n : ℕ) → by.count x.memory ≡ n → 0 < n
        go zero e = true-and-false (rw (says_back x s.long k) at a) (laws.none k (last on by x) x.memory e)
        go (suc n) e = omega arith

    -- or the calls take back no step but their own
    own-stand : (k : Kind) (a : Bool) (past : Past) → only_own_by on by k a past ≡ true → k ≡ back → a ≡ true → 0 < steps_in on (stands_of on by past)
    own-stand back true past o q a = ltb-true 0 (steps_in on (stands_of on by past)) o
    own-stand back false past o q a = unequal cc
    own-stand beginning f past o q a = unequal cc
    own-stand forward f past o q a = unequal cc
    own-stand aside f past o q a = unequal cc
    own-stand lookup f past o q a = unequal cc

    abbrev Backed : List (WithBack C B) → Journaled M → Past → Type 0
    Backed cs x past = (◌≡◌ {A = ℕ} (by.count b) 0) ⊎ (only_own on by cs x past ≡ true)

    every_call : (cs : List (WithBack C B)) (y x : Journaled M) (past : Past) → Backed cs x past → Inv y x past
        → Inv (begun_in J cs x y) (memory_after J cs x) (events_after J cs x past)
    unfolding memory_after events_after begun_in only_own
    every_call [] y x past o i = i
    every_call (c ∷ cs) y x past o i = go o (every_call cs (next_begun c x y) (leaves on by c x) (after c x past))
      where
        End : Type 0
        End = Inv (begun_in J cs (leaves on by c x) (next_begun c x y)) (memory_after J cs (leaves on by c x)) (events_after J cs (leaves on by c x) (after c x past))

        go : Backed (c ∷ cs) x past → (Backed cs (leaves on by c x) (after c x past) → Inv (next_begun c x y) (leaves on by c x) (after c x past) → End) → End
        go (inl z) later = later (inl z) (each c y x past (some-stand c y.memory x past z i.0) i)
        go (inr o) later =
            let (first, rest) = and-true (only_own_by on by (kind_of on by c) (accepted_said (says on by c x)) past) (only_own on by cs (leaves on by c x) _) o in
            later (inr rest) (each c y x past (own-stand (kind_of on by c) (accepted_said (says on by c x)) past first) i)

    -- From b and a journal of the stated length on.
    module _ (j : List ℕ) (long : length j ≡ by.size b) (cs : List (WithBack C B)) where
      abbrev first : Journaled M
      first = journaled_of b j

      abbrev lists : Journaled M
      lists = memory_after J cs first

      abbrev events : Past
      events = events_after J cs first []

      abbrev begun : M
      begun = (begun_in J cs first first).memory

      throughout : Backed cs first [] → Stands begun lists (stands_of on by events) × Steps events
      unfolding Held reached memory_after events_after standing below accepted_of
      throughout o =
          every_call cs first first [] o
          (record { earlier = []; is = refl; fresh = refl; zeroed = λ z. z; memory = refl; held = tt; long = long }, omega arith)

      net-by : Backed cs first [] → Net on by b begun lists events
      net-by o =
          let (s, n) = throughout o in
          record {
            calls = s.earlier ++ calls_of (stands_of on by events);
            memory = s.memory ∙ sym (along begun lists (stands_of on by events) s (stands_of on by events));
            events = sym (events-in begun lists (stands_of on by events) s);
            since = s.memory ∙ sym (reached-is on (stands_of on by events) begun);
            steps = n;
            long = s.long;
          }

      -- PROMISE: where b counts no step, as begin leaves it
      pub net : ◌≡◌ {A = ℕ} (by.count b) 0 → Net on by b begun lists events
      net z = net-by (inl z)

      -- PROMISE: from any memory on, where the calls take back no step but their own
      pub net-own : only_own on by cs first [] ≡ true → Net on by b begun lists events
      net-own o = net-by (inr o)

      -- PROMISE: where the accepted word isn't 0 there is a last step, and a step back answers as right after it and takes it back
      pub last_step : ◌≡◌ {A = ℕ} (by.count b) 0 → ¬ (◌≡◌ {A = ℕ} (by.count lists.memory) 0) → LastStep on by b lists (stands_of on by events)
      last_step z n =
          let s = (throughout (inl z)).0 in
          last_of begun lists (stands_of on by events) s (omega (arith, n, steps-in begun lists (stands_of on by events) s z))
