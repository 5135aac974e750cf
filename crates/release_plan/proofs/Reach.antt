-- The tests up to the successor, in their order; what is known of a successor reached; and the plans, of any family, that begin with these tests.
use Prim.Native.Nat.{ℕ, ◌-◌, ◌≤◌, ◌<◌}
use mathlib.Core.Path.{◌≡◌, refl, sym, ap, ◌∙◌}
use mathlib.Core.Bool.{Bool, true, false, cond, ◌&&◌}
use mathlib.Core.List.{List}
use native.Mathlib.Omega.{arith}
use lib.ListN.{length}
use lib.Dec.{ltb, leb, eqb}
use borrow.Author.Tests.{leb-true, ltb-true, eqb-false, le-leb, lt-leb, lt-ltb, le-ltb, eq-eqb, ne_eqb}
use Rattle.std.specs.Prelude.{Err}
use Rattle.task.specs.declared.refusal.Refusal.{Refusal}
use Rattle.task.specs.declared.refusal.Refusal.TheVariants.{Damaged, NothingThere}
use Rattle.lists.proofs.Apart.{unequal}
use Rattle.lists.proofs.Told.{and-true, and-false}
use Rattle.task.specs.declared.TaskId.{TaskId}
use Rattle.memory.specs.Family.{Family}
use Rattle.memory.specs.Memory.{Mem}
use Rattle.plans.specs.Memory.{tasks, edges, places_in, oldest, successor, first_succ, past_succ}
use Rattle.plans.specs.Words.{task_fits, places_fit, cursor_fits, range_fits}
use Rattle.plans.specs.Plans.{Plan, refuse, refuse_if, checked}
use Rattle.release_plan.specs.Reach.{Reached, At, Successor, successor_of, within, reach_of, successor_at}
use Rattle.release_plan.specs.Reach as words

-- both parts of a test that passed, and a test of which both parts pass
both : (a b c d : ℕ) → (leb a b && leb c d) ≡ true → (a ≤ b) × (c ≤ d)
both a b c d e = (leb-true a b (and-true (leb a b) (leb c d) e).0, leb-true c d (and-true (leb a b) (leb c d) e).1)

hold : (a b c d : ℕ) → a ≤ b → c ≤ d → (leb a b && leb c d) ≡ true
hold a b c d e f = rw (le-leb a b e, le-leb c d f) refl

fail : (a b c d : ℕ) → (a ≤ b → d < c) → (leb a b && leb c d) ≡ false
fail a b c d f = and-false (leb a b) (leb c d) (λ e. lt-leb c d (f (leb-true a b e)))

-- the successor that was reached
abbrev successor_in : Successor → Reached → Successor
successor_in y (Err why) = y
successor_in y (At t done count) = successor_of t done count

module _ (i n read write cursor : ℕ) (ss s b : List ℕ) where
  abbrev t : ℕ
  t = words.completed i n read write cursor ss s b

  abbrev first : ℕ
  first = words.first i n read write cursor ss s b

  abbrev past : ℕ
  past = words.past i n read write cursor ss s b

  abbrev x : ℕ
  x = words.next i n read write cursor ss s b

  abbrev reached : Reached
  reached = reach_of i n read write cursor ss s b

  -- the tests that have two parts
  abbrev places : Bool
  places = leb read write && leb write n

  abbrev range : Bool
  range = leb first past && leb past (length s)

  abbrev there : Successor
  there = successor_at i n read write cursor ss s b

  pub reach-write : n < write → Err Damaged ≡ reached
  unfolding reach_of
  reach-write e = rw (fail read write write n (λ q. e)) refl

  pub reach-places : write < read → Err Damaged ≡ reached
  unfolding reach_of
  reach-places e = rw (fail read write write n (λ q. absurd (omega arith))) refl

  module _ (w : write ≤ n) where
    pub reach-empty : read ≡ write → Err NothingThere ≡ reached
    unfolding reach_of
    reach-empty e = rw (hold read write write n (omega arith) w, eq-eqb read write e) refl

    module _ (f : read < write) where
      pub reach-task : n ≤ t → Err Damaged ≡ reached
      unfolding reach_of
      reach-task e = rw (hold read write write n (omega arith) w, ne_eqb read write (λ q. absurd (omega arith)), le-ltb t n e) refl

      module _ (h : t < n) where
        -- the tests up to the range passed
        up-to-range : reached ≡ within range (within (ltb cursor (past - first)) (within (ltb x n) (At there.task there.completed there.count)))
        unfolding reach_of
        up-to-range = rw (hold read write write n (omega arith) w, ne_eqb read write (λ q. absurd (omega arith)), lt-ltb t n h) refl

        pub reach-past : length s < past → Err Damaged ≡ reached
        reach-past e = sym (up-to-range ∙ rw (fail first past past (length s) (λ q. e)) refl)

        pub reach-first : past < first → Err Damaged ≡ reached
        reach-first e = sym (up-to-range ∙ rw (fail first past past (length s) (λ q. absurd (omega arith))) refl)

        module _ (g : past ≤ length s) (l : first ≤ past) where
          pub reach-cursor : past - first ≤ cursor → Err Damaged ≡ reached
          reach-cursor e = sym (up-to-range ∙ rw (hold first past past (length s) l g, le-ltb cursor (past - first) e) refl)

          module _ (c : cursor < past - first) where
            pub reach-word : n ≤ x → Err Damaged ≡ reached
            reach-word e =
                sym (up-to-range ∙ rw (hold first past past (length s) l g, lt-ltb cursor (past - first) c, le-ltb x n e) refl)

            pub reach-at : x < n → At there.task there.completed there.count ≡ reached
            reach-at e =
                sym (up-to-range ∙ rw (hold first past past (length s) l g, lt-ltb cursor (past - first) c, lt-ltb x n e) refl)

  -- what is known of a successor reached
  pub record Reaches (y : Successor) : Type 0 where
    pub is : y ≡ successor_at i n read write cursor ss s b
    pub place : read < write
    pub inside : cursor < y.count
    pub task : y.task.0 < n

  pub reach-known : (y : Successor) → reached ≡ At y.task y.completed y.count → Reaches y
  unfolding reach_of
  reach-known y v = go places (eqb read write) (ltb t n) range (ltb cursor (past - first)) (ltb x n) refl refl refl refl v
    where
      same : At there.task there.completed there.count ≡ At y.task y.completed y.count → y ≡ there
      same q = sym (ap (successor_in y) q)

      known : places ≡ true → eqb read write ≡ false → ltb cursor (past - first) ≡ true → ltb x n ≡ true → y ≡ there → Reaches y
      known p e c w q =
          record {
            is = q;
            place = omega (arith, both read write write n p, eqb-false read write e);
            inside = rw q (ltb-true cursor (past - first) c);
            task = rw q (ltb-true x n w);
          }

      go : (b₁ b₂ b₃ b₄ b₅ b₆ : Bool) → places ≡ b₁ → eqb read write ≡ b₂ → ltb cursor (past - first) ≡ b₅ → ltb x n ≡ b₆
          → within b₁
          (cond b₂ (Err NothingThere) (within b₃ (within b₄ (within b₅ (within b₆ (At there.task there.completed there.count))))))
          ≡ At y.task y.completed y.count
          → Reaches y
      go false b₂ b₃ b₄ b₅ b₆ p e c w q = unequal cc
      go true true b₃ b₄ b₅ b₆ p e c w q = unequal cc
      go true false false b₄ b₅ b₆ p e c w q = unequal cc
      go true false true false b₅ b₆ p e c w q = unequal cc
      go true false true true false b₆ p e c w q = unequal cc
      go true false true true true false p e c w q = unequal cc
      go true false true true true true p e c w q = known p e c w (same q)

  pub reach-inside : (z : Reached) → z ≡ reached → (u done : TaskId) (count : ℕ) → z ≡ At u done count → u.0 < n
  reach-inside z h u done count e = (reach-known (successor_of u done count) (sym h ∙ e)).task

-- a plan that goes on once a successor is reached
abbrev pub planned : {O U : Type 0} → Reached → Plan O U → Plan O U
planned (Err why) rest = refuse why
planned (At t done count) rest = rest

pub planned-refused : {O U : Type 0} (z : Reached) (rest : Plan O U) (why : Refusal) → z ≡ Err why → planned z rest ≡ refuse why
planned-refused z rest why e = rw e refl

pub planned-at : {O U : Type 0} (z : Reached) (rest : Plan O U) (y : Successor) → z ≡ At y.task y.completed y.count → planned z rest ≡ rest
planned-at z rest y e = rw e refl

module _ {F : Family} (i : ℕ) (m : Mem F) where
  -- the successor at worker i's cursor in a memory
  abbrev pub reach_in : Reached
  reach_in =
      reach_of i (tasks m) (places_in m i).read (places_in m i).write (places_in m i).cursor m.succ_starts m.succs m.buffers

  -- the tests with which the Release of every family begins
  pub reach-plan : {O U : Type 0} → edges m ≡ length m.succs → (rest : Plan O U)
      → checked (places_fit m (places_in m i).read (places_in m i).write)
      (refuse_if (eqb (places_in m i).read (places_in m i).write) NothingThere
      (checked (task_fits m (oldest m i))
      (checked (range_fits m (oldest m i))
      (checked (cursor_fits m (oldest m i) (places_in m i).cursor)
      (checked (task_fits m (successor m i)) rest)))))
      ≡ planned reach_in rest
  unfolding reach_of
  reach-plan {O} {U} h rest =
      rw h
      (go (places_fit m (places_in m i).read (places_in m i).write) (eqb (places_in m i).read (places_in m i).write) (task_fits m (oldest m i))
      (leb (first_succ m (oldest m i)) (past_succ m (oldest m i)) && leb (past_succ m (oldest m i)) (length m.succs))
      (cursor_fits m (oldest m i) (places_in m i).cursor) (task_fits m (successor m i))
      (successor_at i (tasks m) (places_in m i).read (places_in m i).write (places_in m i).cursor m.succ_starts m.succs m.buffers))
    where
      go : (b₁ b₂ b₃ b₄ b₅ b₆ : Bool) (y : Successor)
          → checked b₁ (refuse_if b₂ NothingThere (checked b₃ (checked b₄ (checked b₅ (checked b₆ rest)))))
          ≡ planned (within b₁ (cond b₂ (Err NothingThere) (within b₃ (within b₄ (within b₅ (within b₆ (At y.task y.completed y.count))))))) rest
      go false b₂ b₃ b₄ b₅ b₆ y = refl
      go true true b₃ b₄ b₅ b₆ y = refl
      go true false false b₄ b₅ b₆ y = refl
      go true false true false b₅ b₆ y = refl
      go true false true true false b₆ y = refl
      go true false true true true false y = refl
      go true false true true true true y = refl
