-- "A worker's counters add up to the weight of the tasks fixed to it and not complete.": after each step of Algorithm 1 of source document 000 if they did
-- before, and after an accepted begin. The weight joins a counter where a task's thread ID is set, and leaves one where its degree falls to 0.
use Prim.Native.Nat.{ℕ, zero, suc, ◌+◌, ◌-◌, ◌≤◌, ◌<◌}
use mathlib.Core.Path.{◌≡◌, refl, sym, ap, ◌∙◌}
use mathlib.Core.Bool.{Bool, true, false, cond, not, ◌&&◌}
use mathlib.Core.List.{List, [], ◌∷◌}
use native.Mathlib.Omega.{arith}
use native.Mathlib.Decide.{ℕ_discrete, dec_lt}
use borrow.Author.Tests.{eq-eqb, ne_eqb}
use lib.Dec.{eqb}
use lib.ListN.{length, get_or, set, get_or-eq_default}
use lib.Seq.{get_or-set_same, get_or-set_other}
use lib.IntN.{ℤ, pos, neg_ℤ, ◌+ℤ◌, +ℤ_assoc, +ℤ_idr, +ℤ_invl}
use Rattle.lists.specs.Lists.{occ_of}
use Rattle.lists.specs.Sums.{sum_to, sum_of}
use Rattle.lists.proofs.Decided.{stable}
use Rattle.lists.proofs.Integers.{+ℤ-cancel}
use Rattle.lists.proofs.Occurrences.{occ-at, at-occ}
use Rattle.lists.proofs.Squares.{even-put, cell_other}
use Rattle.lists.proofs.Sums.{sum_same, sum-at, sum_of-nil, sum_of-single, sum_of-joined}
use Rattle.lists.proofs.SumsZ.{sum_z-same, sum_z-add}
use Rattle.task.specs.Types.{nil}
use Rattle.task.specs.Entries.{Entry}
use Rattle.task.specs.declared.Step.{Step}
use Rattle.task.specs.declared.Step.TheVariants.{Fetch, Start, Complete, Release}
use Rattle.weak_task.specs.declared.WeakOutcome.{WeakOutcome}
use Rattle.graph.specs.Graph.{Graph}
use Rattle.graph.specs.Conditions.{Sound}
use Rattle.system.proofs.Records.{missing-none}
use Rattle.copies.specs.Copies.{Copy, same_copy, task_copies}
use Rattle.copies.proofs.Copies.{copies-among, some-copies}
use Rattle.split_lists.specs.Items.{weight_of, degree_of, counter_of, workload}
use Rattle.split_lists.proofs.Memories.{first-lt}
use Rattle.weak_algorithm.specs.State.{no_item, State, thread_of, tid_of}
use Rattle.weak_algorithm.specs.Algorithm.{Fetches, Starts, CompletesCopy, CompletesTask, AllocatesFirst, AllocatesLater, copies, completes, first, later, Lines, Does}
use Rattle.runs.proofs.Invariant.{tasks_of}
use Rattle.runs.proofs.Meaning.{length-tasks}
use Rattle.weak_runs.proofs.Invariant.{done_of, none, Sane, Fixed, open_in, AddsUp}
use Rattle.weak_runs.proofs.Fixed.{place-each, unfixed-task}

-- What a task adds, with its thread ID, its degree and its weight: to a worker's open weight, to the weight that is fixed, and to the weight that is
-- complete.
unfoldable pub open_share : ℕ → ℕ → ℕ → ℕ → ℕ
open_share i tid degree weight = cond (eqb tid i && not (eqb degree 0)) weight 0

unfoldable pub fixed_share : ℕ → ℕ → ℕ
fixed_share tid weight = cond (eqb tid nil.0) 0 weight

unfoldable pub done_share : ℕ → ℕ → ℕ
done_share degree weight = cond (eqb degree 0) weight 0

module _ (i tid degree weight : ℕ) where
  open_own : tid ≡ i → ¬ (◌≡◌ {A = ℕ} degree 0) → open_share i tid degree weight ≡ weight
  unfolding open_share
  open_own e n = rw (eq-eqb tid i e, ne_eqb degree 0 n) refl

  open-other : ¬ (tid ≡ i) → open_share i tid degree weight ≡ 0
  unfolding open_share
  open-other n = rw (ne_eqb tid i n) refl

  open-complete : ◌≡◌ {A = ℕ} degree 0 → open_share i tid degree weight ≡ 0
  unfolding open_share
  open-complete e = go (eqb tid i)
    where
      go : (b : Bool) → cond (b && not (eqb degree 0)) weight 0 ≡ 0
      go true = rw e refl
      go false = refl

  open-alike : (degree' : ℕ) → ¬ (◌≡◌ {A = ℕ} degree 0) → ¬ (◌≡◌ {A = ℕ} degree' 0) → open_share i tid degree' weight ≡ open_share i tid degree weight
  unfolding open_share
  open-alike degree' n n' = rw (ne_eqb degree 0 n, ne_eqb degree' 0 n') refl

fixed-none : (tid weight : ℕ) → tid ≡ nil.0 → fixed_share tid weight ≡ 0
unfolding fixed_share
fixed-none tid weight e = rw (eq-eqb tid nil.0 e) refl

fixed-some : (tid weight : ℕ) → ¬ (tid ≡ nil.0) → fixed_share tid weight ≡ weight
unfolding fixed_share
fixed-some tid weight n = rw (ne_eqb tid nil.0 n) refl

done_all : (degree weight : ℕ) → ◌≡◌ {A = ℕ} degree 0 → done_share degree weight ≡ weight
unfolding done_share
done_all degree weight e = rw (eq-eqb degree 0 e) refl

done_none : (degree weight : ℕ) → ¬ (◌≡◌ {A = ℕ} degree 0) → done_share degree weight ≡ 0
unfolding done_share
done_none degree weight n = rw (ne_eqb degree 0 n) refl

-- the weight of the tasks fixed to worker i and not complete, of those fixed, and of those complete
unfoldable pub open_weight : Graph → State → ℕ → ℕ
open_weight g s i = sum_to g.tasks (λ t. open_share i (tid_of s t) (degree_of s.lists t) (weight_of s.lists t))

unfoldable pub fixed_weight : Graph → State → ℕ
fixed_weight g s = sum_to g.tasks (λ t. fixed_share (tid_of s t) (weight_of s.lists t))

unfoldable pub done_weight : Graph → State → ℕ
done_weight g s = sum_to g.tasks (λ t. done_share (degree_of s.lists t) (weight_of s.lists t))

pub open-weight : (g : Graph) (s : State) (i : ℕ) → sum_of (weight_of s.lists) (open_in g s i) ≡ open_weight g s i
unfolding open_in open_weight open_share
open-weight g s i =
    sum_of-joined (weight_of s.lists) g.tasks (λ t. cond (test t) (t ∷ []) [])
    ∙ sum_same g.tasks (λ t. cond (test t) (weight_of s.lists t) 0) _ (λ t h. one (test t) t)
  where
    test : ℕ → Bool
    test t = eqb (tid_of s t) i && not (eqb (degree_of s.lists t) 0)

    one : (b : Bool) (t : ℕ) → sum_of (weight_of s.lists) (cond b (t ∷ []) []) ≡ cond b (weight_of s.lists t) 0
    one true t = sum_of-single (weight_of s.lists) t
    one false t = sum_of-nil (weight_of s.lists)

-- from s to s' one counter of an owner changes, by the weight that joins and the weight that leaves
pub record Changes (g : Graph) (p : ℕ) (s s' : State) : Type 0 where
  pub owner : ℕ
  pub counter : ℕ
  pub owner_below : owner < p
  pub counter_below : counter < p
  pub joins : ℕ
  pub leaves : ℕ
  pub amount : ℤ
  pub balance : amount +ℤ pos leaves ≡ pos joins
  pub counter_own : counter_of s'.lists owner counter ≡ counter_of s.lists owner counter +ℤ amount
  pub counter_other : (h x : ℕ) → ¬ ((h ≡ owner) × (x ≡ counter)) → counter_of s'.lists h x ≡ counter_of s.lists h x
  pub own : open_weight g s' owner + leaves ≡ open_weight g s owner + joins
  pub others : (h : ℕ) → h < p → ¬ (h ≡ owner) → open_weight g s' h ≡ open_weight g s h
  pub fixes : fixed_weight g s' ≡ fixed_weight g s + joins
  pub completes : done_weight g s' ≡ done_weight g s + leaves

-- the counters still add up
module _ {g : Graph} {p : ℕ} {s s' : State} (c : Changes g p s s') where
  -- what joins less what leaves
  pub amount-balances : (x : ℤ) → (x +ℤ c.amount) +ℤ pos c.leaves ≡ x +ℤ pos c.joins
  amount-balances x = +ℤ_assoc x c.amount (pos c.leaves) ∙ ap (λ (y : ℤ). x +ℤ y) c.balance

  workload-own : workload p s'.lists c.owner ≡ workload p s.lists c.owner +ℤ c.amount
  workload-own =
      sum_z-add p (counter_of s.lists c.owner) (counter_of s'.lists c.owner) c.counter c.amount c.counter_below c.counter_own
      (λ x lx n. c.counter_other c.owner x (λ e. n e.1))

  workload-other : (h : ℕ) → ¬ (h ≡ c.owner) → workload p s'.lists h ≡ workload p s.lists h
  workload-other h n = sum_z-same p (counter_of s.lists h) (counter_of s'.lists h) (λ x lx. c.counter_other h x (λ e. n e.0))

  pub changes-adds-up : AddsUp g p s → AddsUp g p s'
  changes-adds-up sums = record { worker = λ h l. rw (open-weight g s' h) (at h l (ℕ_discrete h c.owner)) }
    where
      before : (h : ℕ) → h < p → workload p s.lists h ≡ pos (open_weight g s h)
      before h l = rw (open-weight g s h) at (sums.worker h l)

      own : workload p s'.lists c.owner ≡ pos (open_weight g s' c.owner)
      own =
          +ℤ-cancel (workload p s'.lists c.owner) (pos (open_weight g s' c.owner)) (pos c.leaves)
          (ap (λ (x : ℤ). x +ℤ pos c.leaves) workload-own
          ∙ amount-balances (workload p s.lists c.owner)
          ∙ ap (λ (x : ℤ). x +ℤ pos c.joins) (before c.owner c.owner_below)
          ∙ ap pos (sym c.own))

      at : (h : ℕ) → h < p → Dec (h ≡ c.owner) → workload p s'.lists h ≡ pos (open_weight g s' h)
      at h l (yes q) = rw q own
      at h l (no n) = workload-other h n ∙ before h l ∙ ap pos (sym (c.others h l n))

-- the record's items are those of its entries
pub task-at : {A : Type 0} (es : List (Entry A)) (x : ℕ) (d : Entry A) → get_or (tasks_of es) x d.item ≡ (get_or es x d).item
unfolding tasks_of
task-at [] x d = refl
task-at (e ∷ es) zero d = refl
task-at (e ∷ es) (suc x) d = task-at es x d

-- a task without a thread ID isn't complete: none of its copies is recorded
pub unfixed-open : {g : Graph} {p : ℕ} {s : State} → Sound g → Sane g p s → Fixed g p s → p ≤ nil.0 → (t : ℕ) → t < g.tasks → tid_of s t ≡ nil.0
    → ¬ (◌≡◌ {A = ℕ} (degree_of s.lists t) 0)
unfixed-open {g} {p} {s} sound sane fixed few t below e z =
    let (x, h, q) = occ-at same_copy no_item c (done_of s) recorded in
    omega (
      arith,
      few,
      e,
      fixed.named x (omega (arith, h, length-tasks s.lists.executed)),
      fixed.recorded x (omega (arith, h, length-tasks s.lists.executed)),
      ap (λ (a : Copy). tid_of s a.task) (sym (task-at s.lists.executed x none) ∙ q),
      ap (tid_of s) (copies-among g c t among).0,
    )
  where
    c : Copy
    c = get_or (task_copies g t) 0 no_item

    among : 0 < occ_of same_copy c (task_copies g t)
    among = at-occ same_copy no_item (task_copies g t) 0 (some-copies g sound t below)

    recorded : 0 < occ_of same_copy c (done_of s)
    recorded = missing-none same_copy (task_copies g t) (done_of s) c (sym (sane.left t below) ∙ z) among

module _ {g : Graph} {p i : ℕ} {s : State} (sane : Sane g p s) (fixed : Fixed g p s) (worker : i < p) where
  -- neither a counter nor a thread ID changes, and no task becomes complete
  kept-changes : (s' : State) → s'.lists.weights ≡ s.lists.weights → s'.lists.counters ≡ s.lists.counters → s'.tids ≡ s.tids
      → ((h t : ℕ) → open_share h (tid_of s t) (degree_of s'.lists t) (weight_of s.lists t) ≡ open_share h (tid_of s t) (degree_of s.lists t) (weight_of s.lists t))
      → ((t : ℕ) → done_share (degree_of s'.lists t) (weight_of s.lists t) ≡ done_share (degree_of s.lists t) (weight_of s.lists t))
      → Changes g p s s'
  unfolding open_weight fixed_weight done_weight
  kept-changes s' weights counters tids left done =
      record {
        owner = i;
        counter = i;
        owner_below = worker;
        counter_below = worker;
        joins = 0;
        leaves = 0;
        amount = pos 0;
        balance = refl;
        counter_own = rw counters (sym (+ℤ_idr (counter_of s.lists i i)));
        counter_other = λ h x n. rw counters refl;
        own = ap (λ (n : ℕ). n + 0) (same i);
        others = λ h l n. same h;
        fixes = rw (weights, tids) (omega arith);
        completes = omega (arith, complete);
      }
    where
      same : (h : ℕ) → open_weight g s' h ≡ open_weight g s h
      same h = rw (weights, tids) (sum_same g.tasks _ _ (λ t l. left h t))

      complete : done_weight g s' ≡ done_weight g s
      complete = rw weights (sum_same g.tasks _ _ (λ t l. done t))

  fetch-changes : {s' : State} {o : WeakOutcome} → Fetches p i s s' o → Changes g p s s'
  fetch-changes f = rw f.after (kept-changes _ refl refl refl (λ h t. refl) (λ t. refl))

  start-changes : {s' : State} {o : WeakOutcome} → Starts i s s' o → Changes g p s s'
  start-changes f = rw f.after (kept-changes _ refl refl refl (λ h t. refl) (λ t. refl))

  -- a later copy: "no counter, no weight"
  later-changes : {capacity : ℕ} {s' : State} {o : WeakOutcome} → AllocatesLater p capacity i s s' o → Changes g p s s'
  later-changes f = rw f.after (kept-changes _ refl refl refl (λ h t. refl) (λ t. refl))

  -- a task whose degree isn't 0 has one
  degree-there : (t : ℕ) → 1 ≤ degree_of s.lists t → t < g.tasks
  degree-there t h =
      stable (dec_lt t g.tasks) (λ n. omega (arith, h, get_or-eq_default s.lists.degrees 0 {n = t} (omega (arith, n, sane.degrees))))

  -- a copy that isn't the last: the task is as little complete as before
  copy-changes : {s' : State} {o : WeakOutcome} → CompletesCopy i s s' o → Changes g p s s'
  copy-changes f =
      rw f.after
      (kept-changes _ refl refl refl
      (λ h t. place-each (λ t d. open_share h (tid_of s t) d (w t) ≡ open_share h (tid_of s t) (degree_of s.lists t) (w t)) s.lists.degrees T less 0 there
      (open-alike h (tid_of s T) (degree_of s.lists T) (w T) less (λ z. omega (arith, z, f.waits)) f.some) t refl)
      (λ t. place-each (λ t d. done_share d (w t) ≡ done_share (degree_of s.lists t) (w t)) s.lists.degrees T less 0 there
      (done_none less (w T) f.some ∙ sym (done_none (degree_of s.lists T) (w T) (λ z. omega (arith, z, f.waits)))) t refl))
    where
      T : ℕ
      T = (thread_of s i).held.task

      w : ℕ → ℕ
      w = weight_of s.lists

      less : ℕ
      less = degree_of s.lists T - 1

      there : T < length s.lists.degrees
      there = rw sane.degrees (degree-there T f.waits)

  -- the last copy: the task's weight leaves its worker's own counter
  task-changes : {s' : State} {o : WeakOutcome} → CompletesTask i s s' o → Changes g p s s'
  unfolding open_weight fixed_weight done_weight
  task-changes f =
      rw f.after (record {
        owner = i;
        counter = i;
        owner_below = worker;
        counter_below = worker;
        joins = 0;
        leaves = w T;
        amount = neg_ℤ (pos (w T));
        balance = +ℤ_invl (pos (w T));
        counter_own = even-put sane.shaped.counters i i _ (pos 0) worker worker;
        counter_other = λ h x n. cell_other s.lists.counters i i _ (pos 0) h x n;
        own =
            omega (
              arith,
              sum-at g.tasks (λ t. open_share i (tid_of s t) (degree_of s.lists t) (w t)) (λ t. open_share i (tid_of s t) (get_or fewer t 0) (w t)) T below
                  (λ t n. ap (λ (d : ℕ). open_share i (tid_of s t) d (w t)) (degree-other t n)),
              open_own i (tid_of s T) (degree_of s.lists T) (w T) mine (λ z. omega (arith, z, f.waits)),
              open-complete i (tid_of s T) (get_or fewer T 0) (w T) done,
            );
        others = λ h l n.
            sum_same g.tasks (λ t. open_share h (tid_of s t) (degree_of s.lists t) (w t)) (λ t. open_share h (tid_of s t) (get_or fewer t 0) (w t))
            (λ t lt. place-each (λ t d. open_share h (tid_of s t) d (w t) ≡ open_share h (tid_of s t) (degree_of s.lists t) (w t)) s.lists.degrees T less 0 there
            (open-other h (tid_of s T) less (w T) (λ e. n (sym e ∙ mine)) ∙ sym (open-other h (tid_of s T) (degree_of s.lists T) (w T) (λ e. n (sym e ∙ mine))))
            t refl);
        fixes = omega arith;
        completes =
            omega (
              arith,
              sum-at g.tasks (λ t. done_share (degree_of s.lists t) (w t)) (λ t. done_share (get_or fewer t 0) (w t)) T below
                  (λ t n. ap (λ (d : ℕ). done_share d (w t)) (degree-other t n)),
              done_none (degree_of s.lists T) (w T) (λ z. omega (arith, z, f.waits)),
              done_all (get_or fewer T 0) (w T) done,
            );
      })
    where
      T : ℕ
      T = (thread_of s i).held.task

      w : ℕ → ℕ
      w = weight_of s.lists

      less : ℕ
      less = degree_of s.lists T - 1

      fewer : List ℕ
      fewer = set s.lists.degrees T less

      below : T < g.tasks
      below = degree-there T f.waits

      there : T < length s.lists.degrees
      there = rw sane.degrees below

      -- the caller is the task's worker
      mine : tid_of s T ≡ i
      mine = fixed.in_hand i worker (λ z. omega (arith, z, f.phase))

      degree-other : (t : ℕ) → ¬ (t ≡ T) → get_or fewer t 0 ≡ degree_of s.lists t
      degree-other t n = get_or-set_other s.lists.degrees T t less 0 n

      done : ◌≡◌ {A = ℕ} (get_or fewer T 0) 0
      done = get_or-set_same s.lists.degrees T less 0 there ∙ f.zero

  -- a first copy: the task's weight joins the counter of the worker that it is fixed to
  first-changes : {C : ℕ → Type 0} {W : ℕ → ℤ} {capacity : ℕ} {s' : State} {o : WeakOutcome} → Sound g → p ≤ nil.0 → AllocatesFirst C W p capacity i s s' o → Changes g p s s'
  unfolding open_weight fixed_weight done_weight
  first-changes sound few f =
      rw f.after (record {
        owner = f.owner;
        counter = i;
        owner_below = target;
        counter_below = worker;
        joins = w T;
        leaves = 0;
        amount = pos (w T);
        balance = ap pos (omega arith);
        counter_own = even-put sane.shaped.counters f.owner i _ (pos 0) target worker;
        counter_other = λ h x n. cell_other s.lists.counters f.owner i _ (pos 0) h x n;
        own =
            omega (
              arith,
              sum-at g.tasks (λ t. open_share f.owner (tid_of s t) (degree_of s.lists t) (w t))
                  (λ t. open_share f.owner (get_or tids t 0) (degree_of s.lists t) (w t)) T below
                  (λ t n. ap (λ (x : ℕ). open_share f.owner x (degree_of s.lists t) (w t)) (tid-other t n)),
              open-other f.owner (tid_of s T) (degree_of s.lists T) (w T) (λ e. omega (arith, e, few, target, f.unfixed)),
              open_own f.owner (get_or tids T 0) (degree_of s.lists T) (w T) now (unfixed-open sound sane fixed few T below f.unfixed),
            );
        others = λ h l n.
            sum_same g.tasks (λ t. open_share h (tid_of s t) (degree_of s.lists t) (w t)) (λ t. open_share h (get_or tids t 0) (degree_of s.lists t) (w t))
            (λ t lt. place-each (λ t x. open_share h x (degree_of s.lists t) (w t) ≡ open_share h (tid_of s t) (degree_of s.lists t) (w t)) s.tids T f.owner 0 there
            (open-other h f.owner (degree_of s.lists T) (w T) (λ e. n (sym e))
            ∙ sym (open-other h (tid_of s T) (degree_of s.lists T) (w T) (λ e. omega (arith, e, few, l, f.unfixed))))
            t refl);
        fixes =
            omega (
              arith,
              sum-at g.tasks (λ t. fixed_share (tid_of s t) (w t)) (λ t. fixed_share (get_or tids t 0) (w t)) T below
                  (λ t n. ap (λ (x : ℕ). fixed_share x (w t)) (tid-other t n)),
              fixed-none (tid_of s T) (w T) f.unfixed,
              fixed-some (get_or tids T 0) (w T) (λ e. omega (arith, e, now, few, target)),
            );
        completes = omega arith;
      })
    where
      T : ℕ
      T = f.task

      w : ℕ → ℕ
      w = weight_of s.lists

      target : f.owner < p
      target = first-lt f.room

      tids : List ℕ
      tids = set s.tids T f.owner

      below : T < g.tasks
      below = unfixed-task sane fixed worker few T f.owner f.unfixed target

      there : T < length s.tids
      there = rw sane.tids below

      tid-other : (t : ℕ) → ¬ (t ≡ T) → get_or tids t 0 ≡ tid_of s t
      tid-other t n = get_or-set_other s.tids T t f.owner 0 n

      now : get_or tids T 0 ≡ f.owner
      now = get_or-set_same s.tids T f.owner 0 there

module _ {g : Graph} {p capacity i : ℕ} {step : Step} {s s' : State} {o : WeakOutcome} (sound : Sound g) (sane : Sane g p s) (fixed : Fixed g p s)
    (d : Does p capacity i step s s' o) where
  pub does-changes : Changes g p s s'
  does-changes = go step d.lines
    where
      go : (step : Step) → Lines p capacity i step s s' o → Changes g p s s'
      go Fetch f = fetch-changes sane fixed d.thread f
      go Start f = start-changes sane fixed d.thread f
      go Complete (copies f) = copy-changes sane fixed d.thread f
      go Complete (completes f) = task-changes sane fixed d.thread f
      go Release (first f) = first-changes sane fixed d.thread sound d.few f
      go Release (later f) = later-changes sane fixed d.thread f

  -- "Weight joins with the first copy and leaves when the last copy completes"
  pub does-adds-up : AddsUp g p s → AddsUp g p s'
  does-adds-up sums = changes-adds-up does-changes sums
