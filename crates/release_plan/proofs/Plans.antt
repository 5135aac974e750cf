-- How what was picked and found makes up the plan of a Release.
use Prim.Native.Nat.{ℕ, ◌≤◌, ◌<◌}
use mathlib.Core.Path.{◌≡◌, refl, sym, ap, subst, ◌∙◌}
use mathlib.Core.Bool.{Bool, true, false, cond}
use mathlib.Core.List.{List}
use native.Mathlib.Omega.{arith}
use native.Mathlib.Nat.{mul-le-mul_right, suc-mul}
use lib.ListN.{length, get_or}
use lib.Dec.{ltb, leb}
use lib.IntN.{ℤ}
use borrow.Author.Tests.{leb-true, ltb-true, le-leb, lt-leb, lt-ltb, le-ltb}
use Rattle.std.specs.Prelude.{Err}
use Rattle.task.specs.declared.refusal.Refusal.{Refusal}
use Rattle.task.specs.declared.refusal.Refusal.TheVariants.{Damaged}
use Rattle.task.specs.declared.Ends.{Ends}
use Rattle.task.specs.declared.Row.{Row}
use Rattle.task.specs.declared.TaskId.{TaskId}
use Rattle.task.specs.declared.WorkerId.{WorkerId}
use Rattle.ring.specs.Ring.{ends_at}
use Rattle.choice.specs.Search.{at}
use Rattle.plans.specs.Forms.{own}
use Rattle.rules.specs.Memory.{Mem, ring_number, successor}
use Rattle.rules.specs.Words.{accepted_fits, weight_fits}
use Rattle.rules.specs.Plans.{counted}
use Rattle.rules.specs.Steps.{release_to, release_ready, release_rule}
use Rattle.release_plan.specs.Picks.{Pick, Waiting, Ready, release_by, Readies, Picked}
use Rattle.release_plan.specs.Owners.{Owner, Takes, Owned}
use Rattle.release_plan.specs.Owners as owner
use Rattle.release_plan.specs.Plans.{ReleasePlan, Lower, Place, release_at, place_of, plan_of, Meets, Lists, Measures, Holds, Plans, Writable, Decides}

-- A task that joins a ring.
module _ (a : ℕ) (t : TaskId) (count : ℕ) (o : WorkerId) (both : Ends) (w run : List ℕ) where
  abbrev weight : ℕ
  weight = get_or w t.0 0

  pub place-heavy : 65535 < weight → Err Damaged ≡ place_of a t count o both w run
  unfolding place_of
  place-heavy h = rw (lt-leb weight 65535 h) refl

  module _ (light : weight ≤ 65535) where
    pub place-full : a ≤ get_or run 1 0 → Err Damaged ≡ place_of a t count o both w run
    unfolding place_of
    place-full h = rw (le-leb weight 65535 light, le-ltb (get_or run 1 0) a h) refl

    pub place-made : get_or run 1 0 < a
        → Place t count o both weight (get_or run 1 0) ≡ place_of a t count o both w run
    unfolding place_of
    place-made h = rw (le-leb weight 65535 light, lt-ltb (get_or run 1 0) a h) refl

  -- the rule goes on with it, whatever the form
  module _ (p k i : ℕ) (r : Row) (c : List ℤ) (m : Mem) (v : Meets p i a r t.0 count o.0 both w c run m) where
    counted-by : accepted_fits m ≡ ltb (get_or run 1 0) a
    counted-by = rw (v.steps, v.run) refl

    weighed-by : weight_fits m (successor m i) ≡ leb weight 65535
    weighed-by = rw (v.next.task, v.weights) refl

    pub place-follows : release_at p k i o.0 m ≡ plan_of p k i r c (place_of a t count o both w run)
    unfolding place_of release_at counted
    place-follows = go (leb weight 65535) (ltb (get_or run 1 0) a) refl refl
      where
        go : (b₁ b₂ : Bool) → leb weight 65535 ≡ b₁ → ltb (get_or run 1 0) a ≡ b₂
            → release_at p k i o.0 m
            ≡ plan_of p k i r c
            (cond b₁ (cond b₂ (Place t count o both weight (get_or run 1 0)) (Err Damaged)) (Err Damaged))
        go false b₂ e f = rw (weighed-by ∙ e) refl
        go true false e f = rw (weighed-by ∙ e, counted-by ∙ f) refl
        go true true e f =
            rw (weighed-by ∙ e, counted-by ∙ f, v.ends, v.next.task, v.next.count, v.row, v.weights, v.counters, v.run) refl

-- The plan.
module _ (p k i a : ℕ) (r : Row) (x : Lists) (z : Pick)
    (picked : Picked i a r x.succ_starts x.succs x.degrees x.buffers x.run z) where
  known : (z' : Pick) → z ≡ z' → Picked i a r x.succ_starts x.succs x.degrees x.buffers x.run z'
  known z' e = subst (Picked i a r x.succ_starts x.succs x.degrees x.buffers x.run) e picked

  -- the rule with the form `own`
  by-own : (m : Mem) → release_rule (own p m) p k i m ≡ release_by (release_ready (own p m) p k i m) i m
  unfolding release_rule release_by
  by-own m = refl

  pub decide-none : (why : Refusal) → z ≡ Err why → Decides p k i a r x (Err why)
  unfolding Decides
  decide-none why e = (λ m v. by-own m ∙ known (Err why) e _ m v.shows, tt)

  pub decide-lower : (t : TaskId) (count left accepted : ℕ) → z ≡ Waiting t count left accepted
      → Decides p k i a r x (Lower t count left accepted)
  unfolding Decides
  decide-lower t count left accepted e =
      let waits = known (Waiting t count left accepted) e in
      (λ m v. by-own m ∙ waits.follows _ m v.shows, waits.lowers)

  module _ (t : TaskId) (count : ℕ) (e : z ≡ Ready t count) where
    readied : Readies i a r x.succ_starts x.succs x.degrees x.buffers x.run t count
    readied = known (Ready t count) e

    pub ready-inside : Measures p k i x → t.0 < length x.weights
    ready-inside s = omega (arith, s.weights, readied.at.task)

    -- what was found is told of a memory with these lists
    module _ (f : Owner) (told : Owned p k i t.0 x.ends x.counters f) where
      reaches : (m : Mem) → Holds i a r x m → release_rule (own p m) p k i m ≡ release_ready (own p m) p k i m
      reaches m v = by-own m ∙ readied.follows _ m v.shows

      found : (f' : Owner) → f ≡ f' → Owned p k i t.0 x.ends x.counters f'
      found f' q = subst (Owned p k i t.0 x.ends x.counters) q told

      pub decide-nowhere : (why : Refusal) → f ≡ Err why → Decides p k i a r x (Err why)
      unfolding Decides
      decide-nowhere why q = (
        λ m v. reaches m v
            ∙ found (Err why) q m (record { task = (readied.next m v.shows).task; ends = v.ends; counters = v.counters }),
        tt,
      )

      module _ (o : WorkerId) (both : Ends) (q : f ≡ owner.At o both) where
        takes : Takes p k i t.0 x.ends x.counters o.0
        takes = (found (owner.At o both) q).0

        ends-are : both ≡ ends_at x.ends (ring_number p o.0 i)
        ends-are = (found (owner.At o both) q).1

        goes_at : (m : Mem) → release_to (own p m) p k i m (at o.0) ≡ release_at p k i o.0 m
        unfolding release_to release_at
        goes_at m = refl

        meets : (m : Mem) → Holds i a r x m → Meets p i a r t.0 count o.0 both x.weights x.counters x.run m
        meets m v =
            record {
              next = readied.next m v.shows;
              row = v.shows.row;
              ends = ap (λ l. ends_at l (ring_number p o.0 i)) v.ends ∙ sym ends-are;
              weights = v.weights;
              counters = v.counters;
              run = v.shows.run;
              steps = v.shows.steps;
            }

        plans : Plans p k i a r x (place_of a t count o both x.weights x.run)
        plans m v =
            reaches m v
            ∙ takes.follows m (record { task = (readied.next m v.shows).task; ends = v.ends; counters = v.counters })
            ∙ goes_at m
            ∙ place-follows a t count o both x.weights x.run p k i r x.counters m (meets m v)

        writable : ring_number p o.0 i < length x.counters → Writable p k i a r x (place_of a t count o both x.weights x.run)
        unfolding place_of
        writable h = go (leb (get_or x.weights t.0 0) 65535) (ltb (get_or x.run 1 0) a) refl refl
          where
            go : (b₁ b₂ : Bool) → leb (get_or x.weights t.0 0) 65535 ≡ b₁ → ltb (get_or x.run 1 0) a ≡ b₂
                → Writable p k i a r x
                (cond b₁ (cond b₂ (Place t count o both (get_or x.weights t.0 0) (get_or x.run 1 0)) (Err Damaged))
                (Err Damaged))
            go false b₂ u w = tt
            go true false u w = tt
            go true true u w =
                record {
                  at = readied.at;
                  owner = takes.owner;
                  ends = ends-are;
                  sound = rw ends-are takes.sound;
                  room = rw ends-are takes.room;
                  counter = takes.counters (ring_number p o.0 i) h;
                  weight = refl;
                  light = leb-true (get_or x.weights t.0 0) 65535 u;
                  counts = record { word = refl; room = ltb-true (get_or x.run 1 0) a w };
                }

        pub decide-place : Measures p k i x → (y : ReleasePlan) → y ≡ place_of a t count o both x.weights x.run → Decides p k i a r x y
        unfolding Decides
        decide-place s y h =
            rw h (
              plans,
              writable (omega (arith, mul-le-mul_right p takes.owner, suc-mul o.0 p, s.counters, s.worker)),
            )
