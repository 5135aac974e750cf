-- The rule of weak jobs: what has fallen due are the successors of the complete tasks, in the end all E; and a weak Complete is one of the system.
use Prim.Native.Nat.{ℕ, suc, ◌+◌, ◌≤◌, ◌<◌}
use mathlib.Core.Path.{◌≡◌, refl, sym, ap, ◌∙◌}
use mathlib.Core.Bool.{Bool, true, false, cond}
use mathlib.Core.List.{List, [], ◌∷◌, ◌++◌}
use native.Mathlib.Omega.{arith}
use native.Mathlib.Decide.{ℕ_discrete, dec_lt}
use lib.ListN.{length, length-map}
use Rattle.lists.specs.Decided.{holds}
use Rattle.lists.specs.Lists.{occ_of}
use Rattle.lists.specs.Sums.{sum_to}
use Rattle.lists.proofs.Decided.{stable, yes-holds, no-holds}
use Rattle.lists.proofs.Occurrences.{occ-nil}
use Rattle.lists.proofs.Sums.{sum_same, sum-zero, sum-at, sum-le, length-joined}
use Rattle.graph.specs.Graph.{Graph, edge_count}
use Rattle.graph.specs.Conditions.{Sound}
use Rattle.graph.specs.Successors.{succs_of, succ_words}
use Rattle.graph.proofs.Reversed.{length-succ_words}
use Rattle.system.specs.System.{State, missing, Invariant, Completes}
use Rattle.system.proofs.Kept.{running-fresh}
use Rattle.system.proofs.Records.{missing-nil, missing-snoc, missing-find}
use Rattle.copies.specs.Copies.{Copy, copy, same_copy, task_copies, next_copies, is_copy, copies_of, NoneTwice}
use Rattle.copies.specs.Weak.{all_recorded, last_due, owed, CompletesCopy}
use Rattle.copies.proofs.Copies.{if_any-some, copies-other, copies-among, some-copies, copy-task, preds-are, copies-reversed}

length-cond : {A : Type 0} (b : Bool) (l : List A) → length (cond b l []) ≡ cond b (length l) 0
length-cond true l = refl
length-cond false l = refl

cond-le : (b : Bool) (n : ℕ) → cond b n 0 ≤ n
cond-le true n = omega arith
cond-le false n = omega arith

module _ (g : Graph) where
  -- what t adds to `owed`
  share : List Copy → ℕ → ℕ
  share done t = cond (all_recorded g done t) (length (succs_of g t)) 0

  share-none : (done : List Copy) (t : ℕ) → 0 < missing same_copy (task_copies g t) done → share done t ≡ 0
  unfolding share all_recorded
  share-none done t h =
      ap (λ (b : Bool). cond b (length (succs_of g t)) 0) (no-holds (ℕ_discrete (missing same_copy (task_copies g t) done) 0) (λ e. omega (arith, h, e)))

  share-full : (done : List Copy) (t : ℕ) → missing same_copy (task_copies g t) done ≡ 0 → share done t ≡ length (succs_of g t)
  unfolding share all_recorded
  share-full done t e =
      ap (λ (b : Bool). cond b (length (succs_of g t)) 0) (yes-holds (ℕ_discrete (missing same_copy (task_copies g t) done) 0) e)

  -- a copy that joins the record leaves the other tasks as they were
  share_other : (done : List Copy) (c : Copy) → occ_of same_copy c done ≡ 0 → (t : ℕ) → ¬ (t ≡ c.task) → share (done ++ (c ∷ [])) t ≡ share done t
  unfolding share all_recorded
  share_other done c fresh t n =
      ap (λ (m : ℕ). cond (holds (ℕ_discrete m 0)) (length (succs_of g t)) 0)
      (omega (arith, missing-snoc same_copy (task_copies g t) done c fresh, copies-other g c t (λ e. n (sym e))))

  -- and its own task misses one copy less
  pub missing-less : (done : List Copy) (c : Copy) → is_copy g c ≡ 1 → occ_of same_copy c done ≡ 0
      → missing same_copy (task_copies g c.task) done ≡ suc (missing same_copy (task_copies g c.task) (done ++ (c ∷ [])))
  unfolding is_copy
  missing-less done c e fresh = omega (arith, e, missing-snoc same_copy (task_copies g c.task) done c fresh)

  -- where every copy is recorded, every task is complete
  pub none-missing : (done : List Copy) → ((c : Copy) → occ_of same_copy c done ≡ is_copy g c) → (t : ℕ) → missing same_copy (task_copies g t) done ≡ 0
  none-missing done each t =
      stable (ℕ_discrete (missing same_copy (task_copies g t) done) 0)
      (λ n. found (missing-find same_copy (task_copies g t) done (omega (arith, n))))
    where
      found : (c : Copy) × (0 < occ_of same_copy c (task_copies g t)) × (occ_of same_copy c done ≡ 0) → ⊥
      found (c, h, z) = omega (arith, z, each c, (copies-among g c t h).1)

  -- what falls due with a copy: all that its task makes, or nothing
  pub due-last : (done : List Copy) (c : Copy) → missing same_copy (task_copies g c.task) (done ++ (c ∷ [])) ≡ 0 → last_due g done c ≡ (copies_of g).succs c
  unfolding last_due all_recorded
  due-last done c e =
      ap (λ (b : Bool). cond b ((copies_of g).succs c) []) (yes-holds (ℕ_discrete (missing same_copy (task_copies g c.task) (done ++ (c ∷ []))) 0) e)

  pub due-early : (done : List Copy) (c : Copy) → ¬ (missing same_copy (task_copies g c.task) (done ++ (c ∷ [])) ≡ 0) → last_due g done c ≡ []
  unfolding last_due all_recorded
  due-early done c n =
      ap (λ (b : Bool). cond b ((copies_of g).succs c) []) (no-holds (ℕ_discrete (missing same_copy (task_copies g c.task) (done ++ (c ∷ []))) 0) n)

  share-due : (done : List Copy) (c : Copy) → is_copy g c ≡ 1 → length (last_due g done c) ≡ share (done ++ (c ∷ [])) c.task
  unfolding share last_due copies_of next_copies
  share-due done c e =
      length-cond last ((copies_of g).succs c)
      ∙ ap (λ (l : List Copy). cond last (length l) 0) (if_any-some (is_copy g c) (next_copies g c.task) (omega (arith, e)))
      ∙ ap (λ (n : ℕ). cond last n 0) (length-map (succs_of g c.task) (λ x. copy x c.task))
    where
      last : Bool
      last = all_recorded g (done ++ (c ∷ [])) c.task

  module _ (sound : Sound g) where
    -- every task has a copy, so none is complete at first
    pub owed-nil : owed g [] ≡ 0
    unfolding owed share
    owed-nil =
        sum-zero g.tasks (share []) (λ t h. share-none [] t (omega (arith, missing-nil same_copy (task_copies g t), some-copies g sound t h)))

    pub owed_more : (done : List Copy) (c : Copy) → is_copy g c ≡ 1 → occ_of same_copy c done ≡ 0
        → owed g (done ++ (c ∷ [])) ≡ length (last_due g done c) + owed g done
    unfolding owed share
    owed_more done c e fresh =
        omega (
          arith,
          sum-at g.tasks (share done) (share (done ++ (c ∷ []))) c.task (copy-task g sound c (omega (arith, e))) (share_other done c fresh),
          share-none done c.task (omega (arith, missing-less done c e fresh)),
          share-due done c e,
        )

    all-successors : sum_to g.tasks (λ t. length (succs_of g t)) ≡ edge_count g
    unfolding succ_words
    all-successors = sym (length-joined g.tasks (succs_of g)) ∙ length-succ_words g sound

    pub owed-few : (done : List Copy) → owed g done ≤ edge_count g
    unfolding owed share
    owed-few done =
        omega (
          arith,
          sum-le g.tasks (share done) (λ t. length (succs_of g t)) (λ t h. cond-le (all_recorded g done t) (length (succs_of g t))),
          all-successors,
        )

    pub owed_all : (done : List Copy) → ((c : Copy) → occ_of same_copy c done ≡ is_copy g c) → owed g done ≡ edge_count g
    unfolding owed share
    owed_all done each =
        sum_same g.tasks (λ t. length (succs_of g t)) (share done) (λ t h. share-full done t (none-missing done each t)) ∙ all-successors

    module _ (once : NoneTwice g) (P : ℕ) where
      -- what falls due is the copy's own, and nothing becomes free: where a copy that isn't the last completes, those that wait for it wait for another
      pub completes-copy : {i : ℕ} {c : Copy} {s s' : State Copy} → Invariant same_copy (copies_of g) P s → CompletesCopy g P i c s s'
          → Completes same_copy (copies_of g) P i c s s'
      completes-copy {i} {c} {s} {s'} v f =
          record {
            finishes = f.finishes;
            due = last_due g s.stages.done c;
            within = λ x. own x (ℕ_discrete left 0);
            old = f.old;
            pending = f.pending;
            degree = f.degree;
            blocked = λ x h. waits x h (ℕ_discrete left 0) (dec_lt 0 (occ_of same_copy c ((copies_of g).preds x)));
            steps = f.steps;
            dues = f.dues;
          }
        where
          -- the copies of its task that are then still missing
          left : ℕ
          left = missing same_copy (task_copies g c.task) (s.stages.done ++ (c ∷ []))

          own : (x : Copy) → Dec (left ≡ 0) → occ_of same_copy x (last_due g s.stages.done c) ≤ occ_of same_copy x ((copies_of g).succs c)
          own x (yes e) = rw (due-last s.stages.done c e) (omega arith)
          own x (no n) = rw (due-early s.stages.done c n) (omega (arith, occ-nil same_copy x))

          fresh : occ_of same_copy c s.stages.done ≡ 0
          fresh = (running-fresh same_copy (copies_of g) P (copies-reversed g sound once) f.finishes v).1

          waits : (x : Copy) → 0 < s.degree x → Dec (left ≡ 0) → Dec (0 < occ_of same_copy c ((copies_of g).preds x)) → 0 < s'.degree x
          waits x h (yes e) d = omega (arith, h, f.degree x, ap (occ_of same_copy x) (due-last s.stages.done c e))
          waits x h (no n) (yes m) =
              omega (
                arith,
                n,
                f.degree x,
                v.degree x,
                ap (occ_of same_copy x) (due-early s.stages.done c n),
                occ-nil same_copy x,
                (copies-reversed g sound once).reverse c x,
                missing-snoc same_copy ((copies_of g).preds x) s.stages.done c fresh,
                ap (λ (l : List Copy). missing same_copy l (s.stages.done ++ (c ∷ []))) (preds-are g sound c x m),
              )
          waits x h (no n) (no m) = omega (arith, h, m, f.degree x, (copies-reversed g sound once).reverse c x)

      pub copy-due : {i : ℕ} {c : Copy} {s s' : State Copy} (v : Invariant same_copy (copies_of g) P s) (f : CompletesCopy g P i c s s')
          → (completes-copy v f).due ≡ last_due g s.stages.done c
      unfolding completes-copy
      copy-due v f = refl
