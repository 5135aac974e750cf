-- The split counters of a worker and the weight of the items that wait for it and of the one in its hand, the items being of any type: both change
-- alike where an item joins one of the worker's lists and where one is completed, and neither where one goes from a list into the hand.
use Prim.Native.Nat.{ℕ, ◌+◌, ◌<◌}
use mathlib.Core.Path.{◌≡◌, refl, sym, ap, ◌∙◌}
use mathlib.Core.List.{List, [], ◌∷◌, ◌++◌, append-nil}
use native.Mathlib.Omega.{arith}
use native.Mathlib.Decide.{ℕ_discrete}
use lib.IntN.{ℤ, pos, neg_ℤ, ◌+ℤ◌, +ℤ_assoc, +ℤ_idr, +ℤ_invl}
use Rattle.lists.specs.Squares.{with_cell}
use Rattle.lists.specs.Sums.{sum_of}
use Rattle.lists.proofs.Integers.{+ℤ-cancel}
use Rattle.lists.proofs.Squares.{even-put, cell_other}
use Rattle.lists.proofs.Sums.{sum_of-append, sum_of-snoc, sum_of-joined}
use Rattle.lists.proofs.SumsZ.{sum_z-same, sum_z-add, sum_z-pos}
use Rattle.task.specs.Entries.{entry_of}
use Rattle.algorithm1.specs.Items.{Thread, State, queue_of, counter_of, thread_of, workload, waiting_for}
use Rattle.system.specs.Stages.{Hand, in_hand}
use Rattle.runs.specs.Items.{hand_of, tasks_at, tasks_at_all, charged, AddsUp}
use Rattle.runs.proofs.Invariant.{tasks_of, Shaped}
use Rattle.runs.proofs.Hands.{hand_weight, idle-weight, busy-weight}
use Rattle.runs.proofs.Waiting.{waiting-other, waiting-own}
use Rattle.runs.proofs.Meaning.{tasks-snoc, Acts, hand-moves, hand-stays}

-- the weight that has left the counters, that of the recorded items
unfoldable pub left : {A : Type 0} → (A → ℕ) → State A → ℕ
left w s = sum_of w (tasks_of s.executed)

-- from s to s' what an owner has waiting and in hand changes, and one of its counters
pub record Changes {A : Type 0} (none : A) (w : A → ℕ) (p : ℕ) (s s' : State A) : Type 0 where
  pub owner : ℕ
  pub counter : ℕ
  pub owner_below : owner < p
  pub counter_below : counter < p
  -- the weight that joins one of the owner's lists, that goes from one into its hand, and that leaves the hand for the record
  pub joins : ℕ
  pub goes : ℕ
  pub leaves : ℕ
  pub waiting : sum_of w (waiting_for p s' owner) + goes ≡ sum_of w (waiting_for p s owner) + joins
  pub in_hand : hand_weight w (thread_of none s' owner) + leaves ≡ hand_weight w (thread_of none s owner) + goes
  pub recorded : left w s' ≡ left w s + leaves
  -- the others' items stay where they are
  pub others_waiting : (h : ℕ) → ¬ (h ≡ owner) → waiting_for p s' h ≡ waiting_for p s h
  pub others_in_hand : (h : ℕ) → ¬ (h ≡ owner) → hand_of (thread_of none s' h) ≡ hand_of (thread_of none s h)
  -- the counter changes by what joins and what leaves; the other counters stay
  pub amount : ℤ
  pub balance : amount +ℤ pos leaves ≡ pos joins
  pub counter_own : counter_of s' owner counter ≡ counter_of s owner counter +ℤ amount
  pub counter_other : (h x : ℕ) → ¬ ((h ≡ owner) × (x ≡ counter)) → counter_of s' h x ≡ counter_of s h x

module _ {A : Type 0} (none : A) where
  -- the items whose weight the counters carry are those that wait and the one in hand
  pub charged-items : (p : ℕ) (s : State A) (i : ℕ) → tasks_at_all none p s i charged ≡ waiting_for p s i ++ in_hand (hand_of (thread_of none s i))
  unfolding tasks_at_all tasks_at
  charged-items p s i = ap (λ (l : List A). waiting_for p s i ++ l) (append-nil (in_hand (hand_of (thread_of none s i))))

  module _ (w : A → ℕ) (p : ℕ) (s : State A) where
    abbrev carried : ℕ → ℕ
    carried h = sum_of w (waiting_for p s h) + hand_weight w (thread_of none s h)

    carried-weight : (h : ℕ) → sum_of w (tasks_at_all none p s h charged) ≡ carried h
    carried-weight h = ap (sum_of w) (charged-items p s h) ∙ sum_of-append w (waiting_for p s h) (in_hand (hand_of (thread_of none s h)))

    adds-up-of : ((h : ℕ) → h < p → workload p s h ≡ pos (carried h)) → AddsUp none w p s
    adds-up-of f = record { worker = λ h l. rw (carried-weight h) (f h l) }

    adds-up-at : AddsUp none w p s → (h : ℕ) → h < p → workload p s h ≡ pos (carried h)
    adds-up-at sums h l = rw (carried-weight h) at (sums.worker h l)

-- the counters still add up to the weight that they carry
module _ {A : Type 0} {none : A} {w : A → ℕ} {p : ℕ} {s s' : State A} (c : Changes none w p s s') where
  workload-own : workload p s' c.owner ≡ workload p s c.owner +ℤ c.amount
  workload-own =
      sum_z-add p (counter_of s c.owner) (counter_of s' c.owner) c.counter c.amount c.counter_below c.counter_own
      (λ x lx n. c.counter_other c.owner x (λ e. n e.1))

  workload-other : (h : ℕ) → ¬ (h ≡ c.owner) → workload p s' h ≡ workload p s h
  workload-other h n = sum_z-same p (counter_of s h) (counter_of s' h) (λ x lx. c.counter_other h x (λ e. n e.0))

  carried-own : carried none w p s c.owner + c.joins ≡ carried none w p s' c.owner + c.leaves
  carried-own = omega (arith, c.waiting, c.in_hand)

  carried_other : (h : ℕ) → ¬ (h ≡ c.owner) → carried none w p s h ≡ carried none w p s' h
  carried_other h n = omega (arith, ap (sum_of w) (c.others_waiting h n), ap (λ (x : Hand A). sum_of w (in_hand x)) (c.others_in_hand h n))

  -- what joins less what leaves
  pub amount-balances : (x : ℤ) → (x +ℤ c.amount) +ℤ pos c.leaves ≡ x +ℤ pos c.joins
  amount-balances x = +ℤ_assoc x c.amount (pos c.leaves) ∙ ap (λ (y : ℤ). x +ℤ y) c.balance

  pub changes-adds-up : AddsUp none w p s → AddsUp none w p s'
  changes-adds-up sums = adds-up-of none w p s' (λ h lh. at h lh (ℕ_discrete h c.owner))
    where
      own : workload p s' c.owner ≡ pos (carried none w p s' c.owner)
      own =
          +ℤ-cancel (workload p s' c.owner) (pos (carried none w p s' c.owner)) (pos c.leaves)
          (ap (λ (x : ℤ). x +ℤ pos c.leaves) workload-own
          ∙ amount-balances (workload p s c.owner)
          ∙ ap (λ (x : ℤ). x +ℤ pos c.joins) (adds-up-at none w p s sums c.owner c.owner_below)
          ∙ ap pos carried-own)

      at : (h : ℕ) → h < p → Dec (h ≡ c.owner) → workload p s' h ≡ pos (carried none w p s' h)
      at h lh (yes q) = rw q own
      at h lh (no n) = workload-other h n ∙ adds-up-at none w p s sums h lh ∙ ap pos (carried_other h n)

-- What a thread does that becomes r.
module _ {A : Type 0} {none : A} (w : A → ℕ) {p i : ℕ} {s s' : State A} {r : Thread A} (shaped : Shaped p s) (a : Acts none p i s s' r) where
  abbrev was : Thread A
  was = thread_of none s i

  hand-others : (h : ℕ) → ¬ (h ≡ i) → hand_of (thread_of none s' h) ≡ hand_of (thread_of none s h)
  hand-others = (hand-moves a refl refl).place.others

  hand-own : hand_weight w (thread_of none s' i) ≡ hand_weight w r
  hand-own = ap (hand_weight w) a.own

  -- what is in hand keeps its weight; neither a list nor a counter changes
  pub kept-changes : hand_weight w r ≡ hand_weight w was → s'.queues ≡ s.queues → s'.counters ≡ s.counters → s'.executed ≡ s.executed
      → Changes none w p s s'
  unfolding waiting_for left
  kept-changes eh eq ec ex =
      record {
        owner = i;
        counter = i;
        owner_below = a.worker;
        counter_below = a.worker;
        joins = 0;
        goes = 0;
        leaves = 0;
        waiting = rw eq;
        in_hand = omega (arith, hand-own, eh);
        recorded = rw ex (omega arith);
        others_waiting = λ h n. rw eq;
        others_in_hand = hand-others;
        amount = pos 0;
        balance = refl;
        counter_own = rw ec (sym (+ℤ_idr (counter_of s i i)));
        counter_other = λ h x n. rw ec;
      }

  -- an idle thread takes the first item of one of its lists: no counter changes
  pub taken-changes : (j : ℕ) → j < p → (rest : List A) → ◌≡◌ {A = ℕ} was.phase 0 → ¬ (◌≡◌ {A = ℕ} r.phase 0)
      → queue_of s i j ≡ r.held ∷ rest → s'.queues ≡ with_cell s.queues i j rest → s'.counters ≡ s.counters → s'.executed ≡ s.executed
      → Changes none w p s s'
  unfolding left sum_of
  taken-changes j below rest idle busy head eq ec ex =
      record {
        owner = i;
        counter = i;
        owner_below = a.worker;
        counter_below = a.worker;
        joins = 0;
        goes = w r.held;
        leaves = 0;
        waiting =
            omega (arith, waiting-own p i j a.worker s s' rest eq below shaped (sum_of w) (sum_of-joined w p), ap (sum_of w) head);
        in_hand = omega (arith, hand-own, idle-weight w was idle, busy-weight w r busy);
        recorded = rw ex (omega arith);
        others_waiting = (waiting-other p i j a.worker s s' rest eq).others;
        others_in_hand = hand-others;
        amount = pos 0;
        balance = refl;
        counter_own = rw ec (sym (+ℤ_idr (counter_of s i i)));
        counter_other = λ h x n. rw ec;
      }

  -- what was in hand joins the record, and its weight leaves a counter
  pub completed-changes : (j : ℕ) → j < p → ¬ (◌≡◌ {A = ℕ} was.phase 0) → ◌≡◌ {A = ℕ} r.phase 0
      → s'.queues ≡ s.queues → s'.counters ≡ with_cell s.counters i j (counter_of s i j +ℤ neg_ℤ (pos (w was.held)))
      → s'.executed ≡ s.executed ++ (entry_of was.held i ∷ []) → Changes none w p s s'
  unfolding waiting_for left
  completed-changes j below busy idle eq ec ex =
      record {
        owner = i;
        counter = j;
        owner_below = a.worker;
        counter_below = below;
        joins = 0;
        goes = 0;
        leaves = w was.held;
        waiting = rw eq;
        in_hand = omega (arith, hand-own, busy-weight w was busy, idle-weight w r idle);
        recorded =
            rw ex
            (ap (sum_of w) (tasks-snoc s.executed (entry_of was.held i)) ∙ sum_of-snoc w (tasks_of s.executed) was.held);
        others_waiting = λ h n. rw eq;
        others_in_hand = hand-others;
        amount = neg_ℤ (pos (w was.held));
        balance = +ℤ_invl (pos (w was.held));
        counter_own = rw ec (even-put shaped.counters i j _ (pos 0) a.worker below);
        counter_other = λ h x n. rw ec (cell_other s.counters i j _ (pos 0) h x n);
      }

  -- an item joins the list of an owner that the thread fills, and its weight the owner's counter
  pub joined-changes : (o j : ℕ) → o < p → j < p → (x : A) → hand_of r ≡ hand_of was
      → s'.queues ≡ with_cell s.queues o j (queue_of s o j ++ (x ∷ [])) → s'.counters ≡ with_cell s.counters o j (counter_of s o j +ℤ pos (w x))
      → s'.executed ≡ s.executed → Changes none w p s s'
  unfolding left
  joined-changes o j owner below x eh eq ec ex =
      record {
        owner = o;
        counter = j;
        owner_below = owner;
        counter_below = below;
        joins = w x;
        goes = 0;
        leaves = 0;
        waiting =
            omega (
              arith,
              waiting-own p o j owner s s' (queue_of s o j ++ (x ∷ [])) eq below shaped (sum_of w) (sum_of-joined w p),
              sum_of-snoc w (queue_of s o j) x,
            );
        in_hand = ap (λ (h : Hand A). sum_of w (in_hand h) + 0) (hand-stays a eh o);
        recorded = rw ex (omega arith);
        others_waiting = (waiting-other p o j owner s s' (queue_of s o j ++ (x ∷ [])) eq).others;
        others_in_hand = λ h n. hand-stays a eh h;
        amount = pos (w x);
        balance = ap pos (omega arith);
        counter_own = rw ec (even-put shaped.counters o j _ (pos 0) owner below);
        counter_other = λ h y n. rw ec (cell_other s.counters o j _ (pos 0) h y n);
      }

-- each counter is the weight of its own list, and every hand is empty
pub record OwnWeights {A : Type 0} (none : A) (w : A → ℕ) (p : ℕ) (s : State A) : Type 0 where
  pub counter : (i j : ℕ) → i < p → j < p → counter_of s i j ≡ pos (sum_of w (queue_of s i j))
  pub idle : (i : ℕ) → i < p → ◌≡◌ {A = ℕ} (thread_of none s i).phase 0

pub own-adds-up : {A : Type 0} (none : A) (w : A → ℕ) (p : ℕ) (s : State A) → OwnWeights none w p s → AddsUp none w p s
unfolding waiting_for
own-adds-up none w p s f = adds-up-of none w p s at
  where
    weight : ℕ → ℕ → ℕ
    weight h j = sum_of w (queue_of s h j)

    at : (h : ℕ) → h < p → workload p s h ≡ pos (carried none w p s h)
    at h l =
        sum_z-same p (λ j. pos (weight h j)) (counter_of s h) (λ j lj. f.counter h j l lj)
        ∙ sum_z-pos p (weight h)
        ∙ ap pos (omega (arith, sum_of-joined w p (queue_of s h), idle-weight w (thread_of none s h) (f.idle h l)))
