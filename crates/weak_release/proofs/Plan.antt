-- The copy that is picked, and the plan that it comes to.
use Prim.Native.Nat.{ℕ, ◌+◌, ◌*◌, ◌%◌, ◌≤◌, ◌<◌}
use mathlib.Core.Path.{◌≡◌, refl, sym, ap, subst, ◌∙◌}
use mathlib.Core.Bool.{Bool, true, false, cond, not}
use mathlib.Core.List.{List}
use native.Mathlib.Omega.{arith}
use lib.ListN.{length, get_or}
use lib.Dec.{eqb, ltb}
use lib.IntN.{ℤ}
use borrow.Author.Tests.{ltb-true, eq-eqb, ne_eqb, le-leb, lt-leb, lt-ltb, le-ltb, not-true, not-false}
use Rattle.std.specs.Prelude.{Ok, Err}
use Rattle.task.specs.declared.refusal.Refusal.{Refusal}
use Rattle.task.specs.declared.refusal.Refusal.TheVariants.{Damaged, RingsFull}
use Rattle.task.specs.declared.refusal.Damaged as broken
use Rattle.lists.proofs.Told.{Told, told-true, told-false}
use Rattle.lists.proofs.Apart.{true-and-false, unequal}
use Rattle.lists.proofs.Places.{place-lt}
use Rattle.lists.specs.Lists.{all_of}
use Rattle.lists.specs.Circles.{around}
use Rattle.task.specs.Types.{engine}
use Rattle.task.specs.declared.Ends.{Ends}
use Rattle.task.specs.declared.TaskId.{TaskId}
use Rattle.task.specs.declared.WorkerId.{WorkerId}
use Rattle.weak_task.specs.Types.{task_copy}
use Rattle.weak_task.specs.declared.TaskCopy.{TaskCopy}
use Rattle.weak_task.specs.declared.WeakRow.{WeakRow}
use Rattle.weak_task.specs.declared.WeakOutcome.TheVariants.{Placed}
use Rattle.ring.specs.Ring.{Sound, Full, sound, full, ends_at}
use Rattle.ring.proofs.Ends.{sound-told, full-told}
use Rattle.choice.specs.Least.{load, least}
use Rattle.choice.specs.Search.{Found, unsound, at, search}
use Rattle.plans.specs.Forms.{own}
use Rattle.plans.proofs.Searches.{Looked, search-looked}
use Rattle.weak_rules.specs.Memory.{Mem, edges, ring_number, successor, fixed_in, made_copy}
use Rattle.weak_rules.specs.Words.{counters_fit, weight_fits, fixed_fits}
use Rattle.weak_rules.specs.Plans.{Plan, refuse, accept, refuse_if, checked, with_count}
use Rattle.weak_rules.specs.Steps.{find_room, release_to, release_first, release_later, release_rule}
use Rattle.weak_admission.specs.Count.{Counted, count_of}
use Rattle.weak_admission.proofs.Rows.{count-refused, count-accepted}
use Rattle.release_plan.specs.Reach as reach
use Rattle.release_plan.specs.Reach.{Reached, Successor, successor_of, reach_of}
use Rattle.release_plan.specs.Owners as owner
use Rattle.release_plan.specs.Owners.{Owner, room_from, owner_of, Owned}
use Rattle.release_plan.proofs.Reach.{Reaches, reach-known, reach_in, planned, planned-refused, planned-at, reach-plan}
use Rattle.release_plan.proofs.Owners.{room-refused, room_at}
use Rattle.weak_release.specs.Plan.{CopyPick, PickFirst, PickLater, WeakPlan, First, Later, release_by, fixed_of, Shows, Next, CursorAt, Picks, PicksCopy, first_updates, later_updates, join_first, Counts, Ended, Stands, KeepsFirst, PlansFirst, Joins, KeepsLater, PlansLater, Writable, Copied, Sized, Reads, PlansRelease}

-- tests that pass and tests that don't
passes : (b : Bool) (rest : Plan) → b ≡ true → checked b rest ≡ rest
passes b rest e = rw e

fails : (b : Bool) (rest : Plan) → b ≡ false → checked b rest ≡ refuse Damaged
fails b rest e = rw e

refuses : (b : Bool) (why : Refusal) (rest : Plan) → b ≡ true → refuse_if b why rest ≡ refuse why
refuses b why rest e = rw e

lets : (b : Bool) (why : Refusal) (rest : Plan) → b ≡ false → refuse_if b why rest ≡ rest
lets b why rest e = rw e

-- The worker that the successor is fixed to.
module _ (p : ℕ) (fixed : List ℕ) (t done : TaskId) (count : ℕ) where
  abbrev word : ℕ
  word = get_or fixed t.0 0

  pub fixed-damaged : p ≤ word → ¬ (word ≡ 65535) → Err Damaged ≡ fixed_of p fixed t done count
  unfolding fixed_of
  fixed-damaged l n = rw (ne_eqb word 65535 n, le-ltb word p l) refl

  pub fixed-first : word ≡ 65535 → PickFirst t done count ≡ fixed_of p fixed t done count
  unfolding fixed_of
  fixed-first e = rw (eq-eqb word 65535 e) refl

  pub fixed_later : p ≤ engine.workers → word < p → PickLater t done count (record { 0 = word }) ≡ fixed_of p fixed t done count
  unfolding fixed_of
  fixed_later few l =
      let other : ¬ (word ≡ 65535) = λ e. omega (arith, e, few, l) in
      rw (ne_eqb word 65535 other, lt-ltb word p l) refl

-- The copy, by the lists that it is found in.
module _ (p i : ℕ) (r : WeakRow) (ss s f b : List ℕ) where
  abbrev reached : Reached
  reached = reach_of i (length f) r.read r.write r.cursor ss s b

  -- where the rule goes on once the successor is known, by the word of its worker
  abbrev onward : Plan → ℕ → Mem → ℕ → Plan
  onward first k m w = checked (fixed_fits p w) (cond (eqb w 65535) first (release_later p k i m w))

  reach-is : (m : Mem) → Shows i r ss s f b m → reach_in i m ≡ reached
  reach-is m v = simp (v.tasks, v.row, v.succ_starts, v.succs, v.buffers)

  by-lists : (first : Plan) (k : ℕ) (m : Mem) → Shows i r ss s f b m
      → release_by first p k i m ≡ planned reached (onward first k m (fixed_in m (successor m i)))
  unfolding release_by
  by-lists first k m v =
      reach-plan i m lengths (onward first k m (fixed_in m (successor m i)))
      ∙ ap (λ (x : Reached). planned x (onward first k m (fixed_in m (successor m i)))) (reach-is m v)
    where
      lengths : edges m ≡ length m.succs
      lengths = rw v.succs v.edges

  module _ (z : Reached) (hz : z ≡ reached) where
    pub pick-none : (why : Refusal) → z ≡ Err why → PicksCopy p i r ss s f b (Err why)
    pick-none why e first k m v = by-lists first k m v ∙ planned-refused reached _ why (sym hz ∙ e)

    module _ (y : Successor) (e : z ≡ reach.At y.task y.completed y.count) where
      abbrev worker : ℕ
      worker = get_or f y.task.0 0

      known : Reaches i (length f) r.read r.write r.cursor ss s b y
      known = reach-known i (length f) r.read r.write r.cursor ss s b y (sym hz ∙ e)

      cursor-at : CursorAt r y.task.0 y.count (length f)
      cursor-at = record { task = known.task; place = known.place; cursor = known.inside }

      next : (m : Mem) → Shows i r ss s f b m → Next i y.task.0 y.completed.0 y.count m
      next m v =
          record {
            task = rw known.is (simp (v.tasks, v.row, v.succ_starts, v.succs, v.buffers));
            completed = rw known.is (simp (v.tasks, v.row, v.buffers));
            count = rw known.is (simp (v.tasks, v.row, v.succ_starts, v.buffers));
          }

      fixed_word : (m : Mem) → Shows i r ss s f b m → fixed_in m (successor m i) ≡ worker
      fixed_word m v = rw ((next m v).task, v.fixed) refl

      goes : (first : Plan) (k : ℕ) (m : Mem) → Shows i r ss s f b m → release_by first p k i m ≡ onward first k m worker
      goes first k m v =
          by-lists first k m v ∙ planned-at reached (onward first k m (fixed_in m (successor m i))) y (sym hz ∙ e)
          ∙ ap (onward first k m) (fixed_word m v)

      picked : PicksCopy p i r ss s f b (fixed_of p f y.task y.completed y.count)
      unfolding fixed_of
      picked = go (eqb worker 65535) (ltb worker p) refl refl
        where
          go : (a c : Bool) → eqb worker 65535 ≡ a → ltb worker p ≡ c
              → PicksCopy p i r ss s f b
              (cond a (PickFirst y.task y.completed y.count)
              (cond c (PickLater y.task y.completed y.count (record { 0 = worker })) (Err Damaged)))
          go true c h l = record { at = cursor-at; next = next; follows = λ first k m v. goes first k m v ∙ rw h refl }
          go false true h l = (
            record { at = cursor-at; next = next; follows = λ first k m v. goes first k m v ∙ rw (h, l) refl },
            ltb-true worker p l,
          )
          go false false h l = λ first k m v. goes first k m v ∙ rw (h, l) refl

    pub pick-inside : (t done : TaskId) (count : ℕ) → z ≡ reach.At t done count → t.0 < length f
    pick-inside t done count e = (known (successor_of t done count) e).task

    pub pick_at : (t done : TaskId) (count : ℕ) → z ≡ reach.At t done count → (w : CopyPick) → w ≡ fixed_of p f t done count
        → PicksCopy p i r ss s f b w
    pick_at t done count e w h = subst (PicksCopy p i r ss s f b) (sym h) (picked (successor_of t done count) e)

-- the copy that is made is that at the cursor
copy_is : (i : ℕ) (t done : TaskId) (count : ℕ) (m : Mem) → Next i t.0 done.0 count m
    → task_copy (made_copy m i) ≡ record { task = t; predecessor = done }
copy_is i t done count m v = rw (v.task, v.completed) refl

-- A first copy, once its owner is found.
module _ (e : ℕ) (t done : TaskId) (count : ℕ) (o : WorkerId) (both : Ends) (weights run : List ℕ) where
  abbrev weight : ℕ
  weight = get_or weights t.0 0

  pub first-heavy : 65535 < weight → PlansFirst e t done count o both weights run (Err Damaged)
  unfolding PlansFirst join_first
  first-heavy h = ((λ p k i m s g. fails (weight_fits m (successor m i)) _ (rw (s.next.task, g) (lt-leb weight 65535 h))), tt)

  module _ (light : weight ≤ 65535) (c : Counted) (hc : c ≡ count_of (length weights) e run) where
    fits : (i : ℕ) (m : Mem) → Stands i (length weights) e t.0 done.0 count run m → m.weights ≡ weights
        → weight_fits m (successor m i) ≡ true
    fits i m s g = rw (s.next.task, g) (le-leb weight 65535 light)

    pub first-damaged : (d : broken.Damaged) → c ≡ Err d → PlansFirst e t done count o both weights run (Err Damaged)
    unfolding PlansFirst join_first
    first-damaged d v = (
      (λ p k i m s g. passes _ _ (fits i m s g)
          ∙ count-refused (length weights) e m (s.tasks, s.edges) _ _ d (rw s.words (sym hc ∙ v))),
      tt,
    )

    pub first-planned : (a : ℕ) → c ≡ Ok a
        → PlansFirst e t done count o both weights run (First t done count o both weight a)
    unfolding PlansFirst join_first
    first-planned a v = (
      (λ p k i m s g. passes _ _ (fits i m s g)
          ∙ count-accepted (length weights) e m (s.tasks, s.edges) _ _ a (rw s.words (sym hc ∙ v))
          ∙ ap (λ (x : TaskCopy). accept (Placed x o) (with_count m (first_updates p k i o.0 m))) (copy_is i t done count m s.next)),
      ((refl, (refl, (refl, (refl, refl)))), (refl, (light, sym hc ∙ v))),
    )

-- A later copy: ring q is that of owner o filled by worker i, `both` are its ends.
module _ (p k i n e : ℕ) (t done : TaskId) (count : ℕ) (o : WorkerId) (l : o.0 < p) (ends run : List ℕ) (q : ℕ) (hq : q ≡ o.0 * p + i) (both : Ends)
    (hb : both ≡ ends_at ends q) (s : Bool) (hs : s ≡ sound k both) where
  reads : both ≡ ends_at ends (ring_number p o.0 i)
  reads = rw (← hq) hb

  ends-are : (m : Mem) → m.ends ≡ ends → ends_at m.ends (ring_number p o.0 i) ≡ both
  ends-are m g = rw g (sym reads)

  pub later-unsound : not s ≡ true → PlansLater p k i n e t done count o ends run (Err Damaged)
  unfolding PlansLater release_later
  later-unsound f = ((λ m st g. fails _ _ (ap (sound k) (ends-are m g) ∙ sym hs ∙ not-true s f)), tt)

  module _ (f : not s ≡ false) (u : Bool) (hu : u ≡ full k both) where
    there : (m : Mem) → m.ends ≡ ends → sound k (ends_at m.ends (ring_number p o.0 i)) ≡ true
    there m g = ap (sound k) (ends-are m g) ∙ sym hs ∙ not-false s f

    pub later-full : u ≡ true → PlansLater p k i n e t done count o ends run (Err (RingsFull t.0))
    unfolding PlansLater release_later
    later-full v = (
      (λ m st g. passes _ _ (there m g) ∙ refuses _ _ _ (ap (full k) (ends-are m g) ∙ sym hu ∙ v) ∙ rw st.next.task refl),
      tt,
    )

    module _ (v : u ≡ false) (c : Counted) (hc : c ≡ count_of n e run) where
      free : (m : Mem) → m.ends ≡ ends → full k (ends_at m.ends (ring_number p o.0 i)) ≡ false
      free m g = ap (full k) (ends-are m g) ∙ sym hu ∙ v

      pub later-damaged : (d : broken.Damaged) → c ≡ Err d → PlansLater p k i n e t done count o ends run (Err Damaged)
      unfolding PlansLater release_later
      later-damaged d w = (
        (λ m st g. passes _ _ (there m g) ∙ lets _ _ _ (free m g)
            ∙ count-refused n e m (st.tasks, st.edges) _ _ d (rw st.words (sym hc ∙ w))),
        tt,
      )

      sound-is : Sound k both
      sound-is = go (sound-told k both)
        where
          go : Told (sound k both) (Sound k both) (¬ (Sound k both)) → Sound k both
          go (told-true h y) = y
          go (told-false h y) = true-and-false (not-false s f) (hs ∙ h)

      room-is : ¬ (Full k both)
      room-is = go (full-told k both)
        where
          go : Told (full k both) (Full k both) (¬ (Full k both)) → ¬ (Full k both)
          go (told-true h y) = true-and-false h (sym hu ∙ v)
          go (told-false h y) = y

      pub later-planned : (a : ℕ) → c ≡ Ok a
          → PlansLater p k i n e t done count o ends run (Later t done count o both a)
      unfolding PlansLater release_later
      later-planned a w = (
        (λ m st g. passes _ _ (there m g) ∙ lets _ _ _ (free m g)
            ∙ count-accepted n e m (st.tasks, st.edges) _ _ a (rw st.words (sym hc ∙ w))
            ∙ ap (λ (x : TaskCopy). accept (Placed x o) (with_count m (later_updates p k i o.0 m))) (copy_is i t done count m st.next)),
        (
          (refl, (refl, (refl, refl))),
          record { owner = l; reads = reads; sound = sound-is; free = room-is; counts = sym hc ∙ w },
        ),
      )

-- The first copy looks for its owner: the rule goes on with what the search finds.
first-room : (p k i : ℕ) (m : Mem) → release_first (own p m) p k i m ≡ release_to (own p m) p k i m (room_from p k i m.ends m.counters)
unfolding release_first find_room room_from release_to
first-room p k i m = go (counters_fit m.counters) _
  where
    go : (b : Bool) (f : Found) → checked b (release_to (own p m) p k i m f) ≡ release_to (own p m) p k i m (cond b f unsound)
    go true f = refl
    go false f = refl

-- with an owner that is found it comes to this
to-owner : (p k i : ℕ) (m : Mem) (o : ℕ) → release_to (own p m) p k i m (at o) ≡ join_first p k i m o
unfolding release_to join_first
to-owner p k i m o = refl

-- the ring that is found isn't full
room-free : (p k i o : ℕ) (ends : List ℕ) (counters : List ℤ) → room_from p k i ends counters ≡ at o → ¬ (Full k (ends_at ends (ring_number p o i)))
unfolding room_from
room-free p k i o ends counters e = go (counters_fit counters) e
  where
    j : ℕ
    j = least (all_of p) (load p counters)

    stops : Looked p k (Full k) (λ d. ends_at ends (ring_number p ((j + d) % p) i)) j (at o) → ¬ (Full k (ends_at ends (ring_number p o i)))
    stops (d, s, q) = rw q s.stops

    go : (b : Bool)
        → cond b (search (λ o. sound k (ends_at ends (ring_number p o i))) (λ o. not (full k (ends_at ends (ring_number p o i)))) (around p j)) unsound ≡ at o
        → ¬ (Full k (ends_at ends (ring_number p o i)))
    go true h =
        stops (subst (Looked p k (Full k) (λ d. ends_at ends (ring_number p ((j + d) % p) i)) j) h
        (search-looked p k j (Full k) (full k) (full-told k) (λ o. ends_at ends (ring_number p o i))))
    go false h = unequal cc

-- The whole rule.
module _ (p k i e : ℕ) (row : WeakRow) (weights ss s f ends : List ℕ) (counters : List ℤ) (b run : List ℕ)
    (z : Sized p k i e weights ss s f ends counters b run) where
  pub pick-asks : (length ss ≡ length f + 1) × ((i * length f + length f ≤ length b) × (p ≤ engine.workers))
  pick-asks = rw z.all_fixed (z.all_starts, (z.own_buffer, z.few_workers))

  counts : Counts (length weights) e run
  counts = record { all_words = z.all_words; few_tasks = z.few_tasks; few_edges = z.few_edges }

  module _ (x : CopyPick) (hx : PicksCopy p i row ss s f b x) where
    -- the rule, by what it comes to for a first copy
    by_first : (m : Mem) → release_rule (own p m) p k i m ≡ release_by (release_first (own p m) p k i m) p k i m
    unfolding release_rule release_by
    by_first m = refl

    pub plan-none : (why : Refusal) → x ≡ Err why → PlansRelease p k i e row weights ss s f ends counters b run (Err why)
    unfolding PlansRelease
    plan-none why v = (
      (λ m y. (by_first m ∙ subst (PicksCopy p i row ss s f b) v hx (release_first (own p m) p k i m) k m y.shows, tt)),
      tt,
    )

    module _ (t done : TaskId) (count : ℕ) where
      stands : (rest : Plan → ℕ → Mem → Plan) → Picks p i row ss s f b t.0 done.0 count rest
          → (m : Mem) → Reads i e row weights ss s f ends counters b run m → Stands i (length weights) e t.0 done.0 count run m
      stands rest picks m y =
          record { tasks = ap length y.weights; edges = y.edges; next = picks.next m y.shows; words = y.words }

      module _ (v : x ≡ PickFirst t done count) where
        first-picks : Picks p i row ss s f b t.0 done.0 count (λ first k m. first)
        first-picks = subst (PicksCopy p i row ss s f b) v hx

        first-at : CursorAt row t.0 count (length weights)
        first-at = rw (← z.all_fixed) first-picks.at

        module _ (r : Owner) (told : r ≡ owner_of p k i t.0 ends counters) where
          to_room : (m : Mem) → Reads i e row weights ss s f ends counters b run m
              → release_rule (own p m) p k i m ≡ release_to (own p m) p k i m (room_from p k i ends counters)
          to_room m y =
              by_first m ∙ first-picks.follows (release_first (own p m) p k i m) k m y.shows ∙ first-room p k i m
              ∙ ap (release_to (own p m) p k i m) (simp (y.ends, y.counters))

          pub first-none : (why : Refusal) → r ≡ Err why → PlansRelease p k i e row weights ss s f ends counters b run (Err why)
          unfolding PlansRelease release_to
          first-none why g = (
            (λ m y. (
              to_room m y
                  ∙ room-refused p k i t.0 ends counters r told (release_to (own p m) p k i m) refl
                  (rw (first-picks.next m y.shows).task refl) why g,
              tt,
            )),
            tt,
          )

          pub first-asks : Counts (length weights) e run × (t.0 < length weights)
          first-asks = (counts, first-at.task)

          module _ (owned : Owned p k i t.0 ends counters r) (o : WorkerId) (both : Ends) (g : r ≡ owner.At o both) where
            takes : Owned p k i t.0 ends counters (owner.At o both)
            takes = subst (Owned p k i t.0 ends counters) g owned

            joins : (accepted : ℕ) → count_of (length weights) e run ≡ Ok accepted
                → Joins p k i (length weights) e o.0 ends run both accepted
            joins accepted h =
                record {
                  owner = takes.0.owner;
                  reads = takes.1;
                  sound = rw takes.1 takes.0.sound;
                  free = rw takes.1 (room-free p k i o.0 ends counters (room_at p k i t.0 ends counters r told o both g));
                  counts = h;
                }

            ring-inside : ring_number p o.0 i < length counters
            ring-inside = omega (arith, place-lt p p o.0 i takes.0.owner z.worker, z.all_counters)

            writable : (plan : WeakPlan) → KeepsFirst e t done count o both weights run plan → Writable p k i e row weights ends counters run plan
            writable (Err why) kept = tt
            writable (First t' done' count' o' both' w' accepted) ((a, (b', (c, (d, h)))), (w, (light, q))) =
                rw (a, c, d, h)
                (first-at, (joins accepted q, record { weighs = w; light = light; counter = takes.0.counters (ring_number p o.0 i) ring-inside }))
            writable (Later t' done' count' o' both' accepted) kept = absurd kept

            copied : (m : Mem) → Next i t.0 done.0 count m → (plan : WeakPlan) → KeepsFirst e t done count o both weights run plan → Copied i m plan
            copied m y (Err why) kept = tt
            copied m y (First t' done' count' o' both' w' accepted) ((a, (b', (c, (d, h)))), kept) = rw (a, b', c) y
            copied m y (Later t' done' count' o' both' accepted) kept = absurd kept

            pub first-plans : (plan : WeakPlan) → PlansFirst e t done count o both weights run plan
                → PlansRelease p k i e row weights ss s f ends counters b run plan
            unfolding PlansFirst PlansRelease
            first-plans plan plans = (
              (λ m y. (
                to_room m y ∙ ap (release_to (own p m) p k i m) (room_at p k i t.0 ends counters r told o both g) ∙ to-owner p k i m o.0
                    ∙ plans.0 p k i m (stands (λ first k m. first) first-picks m y) y.weights,
                copied m (first-picks.next m y.shows) plan plans.1,
              )),
              writable plan plans.1,
            )

      module _ (o : WorkerId) (v : x ≡ PickLater t done count o) where
        later-picks : Picks p i row ss s f b t.0 done.0 count (λ first k m. release_later p k i m o.0) × (o.0 < p)
        later-picks = subst (PicksCopy p i row ss s f b) v hx

        later-at : CursorAt row t.0 count (length weights)
        later-at = rw (← z.all_fixed) later-picks.0.at

        pub later-asks : Counts (length weights) e run × (Ended p k i ends × (o.0 < p))
        later-asks = (counts, (record { worker = z.worker; few_workers = z.few_workers; all_ends = z.all_ends }, later-picks.1))

        later-writable : (plan : WeakPlan) → KeepsLater p k i (length weights) e t done count o ends run plan
            → Writable p k i e row weights ends counters run plan
        later-writable (Err why) kept = tt
        later-writable (First t' done' count' o' both' w' accepted) kept = absurd kept
        later-writable (Later t' done' count' o' both' accepted) ((a, (b', (c, d))), joined) = rw (a, c, d) (later-at, joined)

        later-copied : (m : Mem) → Next i t.0 done.0 count m → (plan : WeakPlan)
            → KeepsLater p k i (length weights) e t done count o ends run plan → Copied i m plan
        later-copied m y (Err why) kept = tt
        later-copied m y (First t' done' count' o' both' w' accepted) kept = absurd kept
        later-copied m y (Later t' done' count' o' both' accepted) ((a, (b', (c, d))), joined) = rw (a, b', c) y

        pub later-plans : (plan : WeakPlan) → PlansLater p k i (length weights) e t done count o ends run plan
            → PlansRelease p k i e row weights ss s f ends counters b run plan
        unfolding PlansLater PlansRelease
        later-plans plan plans = (
          (λ m y. (
            by_first m ∙ later-picks.0.follows (release_first (own p m) p k i m) k m y.shows
                ∙ plans.0 m (stands (λ first k m. release_later p k i m o.0) later-picks.0 m y) y.ends,
            later-copied m (later-picks.0.next m y.shows) plan plans.1,
          )),
          later-writable plan plans.1,
        )
