-- The copies of a graph are items of the system: none is wanted twice, predecessors and successors are each the other's reverse; and there are E + R.
use Prim.Native.Nat.{ℕ, zero, suc, ◌+◌, ◌≤◌, ◌<◌, min}
use mathlib.Core.Path.{◌≡◌, refl, sym, ap, ◌∙◌}
use mathlib.Core.List.{List, [], ◌∷◌, map}
use native.Mathlib.Omega.{arith}
use native.Mathlib.Decide.{ℕ_discrete, dec_le, dec_lt}
use lib.ListN.{length, replicate, length-append, length-map, length-replicate}
use Rattle.lists.specs.Lists.{occ, occ_of, joined}
use Rattle.lists.specs.Sums.{sum_to}
use Rattle.lists.proofs.Decided.{stable, tally-yes, tally-no, tally-le-one}
use Rattle.lists.proofs.Occurrences.{occ-nil, occ-hit, occ-miss, occ-append, occ-joined, occ-replicate, occ-replicate-other}
use Rattle.lists.proofs.Sums.{sum_same, sum-zero, sum-only, length-joined}
use Rattle.task.specs.Types.{nil}
use Rattle.graph.specs.Graph.{Among, Graph, edge_count, preds_of, Edge}
use Rattle.graph.specs.Conditions.{Sound}
use Rattle.graph.specs.Successors.{succs_of, succ_words, roots}
use Rattle.graph.proofs.Parts.{preds-none, edge_of}
use Rattle.graph.proofs.Reversed.{reversed-all, length-succ_words, occ-roots, roots-are}
use Rattle.system.specs.System.{Reversed}
use Rattle.copies.specs.Copies.{Copy, copy, same_copy, task_copies, next_copies, is_copy, if_any, copies_of, Before, root_copies, all_copies, NoneTwice}

-- occurrences among what a function makes of a list's members
module _ {A B : Type 0} (same : Discrete A) (other : Discrete B) (f : A → B) where
  pub occ-map : ((x y : A) → f x ≡ f y → x ≡ y) → (a : A) (l : List A) → occ_of other (f a) (map f l) ≡ occ_of same a l
  occ-map one a [] = omega (arith, occ-nil other (f a), occ-nil same a)
  occ-map one a (x ∷ l) = go (same a x) (occ-map one a l)
    where
      go : Dec (a ≡ x) → occ_of other (f a) (map f l) ≡ occ_of same a l → occ_of other (f a) (map f (x ∷ l)) ≡ occ_of same a (x ∷ l)
      go (yes e) r = omega (arith, r, occ-hit other (f a) (f x) (map f l) (ap f e), occ-hit same a x l e)
      go (no n) r = omega (arith, r, occ-miss other (f a) (f x) (map f l) (λ q. n (one a x q)), occ-miss same a x l n)

  pub occ-unmade : (b : B) → ((x : A) → ¬ (b ≡ f x)) → (l : List A) → occ_of other b (map f l) ≡ 0
  occ-unmade b n [] = occ-nil other b
  occ-unmade b n (x ∷ l) = omega (arith, occ-unmade b n l, occ-miss other b (f x) (map f l) (n x))

pub if_any-some : {A : Type 0} (n : ℕ) (l : List A) → 0 < n → if_any n l ≡ l
if_any-some zero l h = absurd (omega arith)
if_any-some (suc n) l h = refl

if_any-none : {A : Type 0} (n : ℕ) (l : List A) → n ≡ 0 → if_any n l ≡ []
if_any-none zero l h = refl
if_any-none (suc n) l h = absurd (omega arith)

module _ {A : Type 0} (same : Discrete A) where
  occ-if_any : (a : A) (n : ℕ) (l : List A) → occ_of same a (if_any n l) ≤ occ_of same a l
  occ-if_any a zero l = omega (arith, occ-nil same a)
  occ-if_any a (suc n) l = omega arith

same-task : {a b : Copy} → a ≡ b → a.task ≡ b.task
same-task e = ap (λ (c : Copy). c.task) e

same-predecessor : {a b : Copy} → a ≡ b → a.predecessor ≡ b.predecessor
same-predecessor e = ap (λ (c : Copy). c.predecessor) e

module _ (g : Graph) where
  -- how often a copy stands among a task's, and among those that a task makes
  from-own : (t u : ℕ) → occ_of same_copy (copy t u) (map (copy t) (preds_of g t)) ≡ occ u (preds_of g t)
  from-own t u = occ-map ℕ_discrete same_copy (copy t) (λ x y e. same-predecessor e) u (preds_of g t)

  pub copies-other : (c : Copy) (t : ℕ) → ¬ (c.task ≡ t) → occ_of same_copy c (task_copies g t) ≡ 0
  unfolding task_copies
  copies-other c t n =
      omega (
        arith,
        occ-append same_copy c (map (copy t) (preds_of g t)) (replicate (occ t (roots g)) (copy t nil.0)),
        occ-unmade ℕ_discrete same_copy (copy t) c (λ x e. n (same-task e)) (preds_of g t),
        occ-replicate-other same_copy c (copy t nil.0) (occ t (roots g)) (λ e. n (same-task e)),
      )

  pub copies-own : (c : Copy) (t : ℕ) → c.task ≡ t → occ_of same_copy c (task_copies g t) ≡ is_copy g c
  unfolding is_copy
  copies-own c t e = ap (λ u. occ_of same_copy c (task_copies g u)) (sym e)

  -- so what stands among a task's copies is a copy of that task
  pub copies-among : (c : Copy) (t : ℕ) → 0 < occ_of same_copy c (task_copies g t) → (c.task ≡ t) × (0 < is_copy g c)
  copies-among c t h = go (ℕ_discrete c.task t)
    where
      go : Dec (c.task ≡ t) → (c.task ≡ t) × (0 < is_copy g c)
      go (yes e) = (e, omega (arith, h, copies-own c t e))
      go (no n) = absurd (omega (arith, h, copies-other c t n))

  -- (t, u) is a copy as often as u is a predecessor of t
  pub copy-edge : (t u : ℕ) → ¬ (u ≡ nil.0) → is_copy g (copy t u) ≡ occ u (preds_of g t)
  unfolding task_copies is_copy
  copy-edge t u n =
      omega (
        arith,
        occ-append same_copy (copy t u) (map (copy t) (preds_of g t)) (replicate (occ t (roots g)) (copy t nil.0)),
        from-own t u,
        occ-replicate-other same_copy (copy t u) (copy t nil.0) (occ t (roots g)) (λ e. n (same-predecessor e)),
      )

  next-own : (x t : ℕ) → occ_of same_copy (copy x t) (next_copies g t) ≡ occ x (succs_of g t)
  unfolding next_copies
  next-own x t = occ-map ℕ_discrete same_copy (λ y. copy y t) (λ y z e. same-task e) x (succs_of g t)

  next-other : (c : Copy) (t : ℕ) → ¬ (c.predecessor ≡ t) → occ_of same_copy c (next_copies g t) ≡ 0
  unfolding next_copies
  next-other c t n = occ-unmade ℕ_discrete same_copy (λ y. copy y t) c (λ y e. n (same-predecessor e)) (succs_of g t)

  root-other : (c : Copy) → ¬ (c.predecessor ≡ nil.0) → occ_of same_copy c (root_copies g) ≡ 0
  unfolding root_copies
  root-other c n = occ-unmade ℕ_discrete same_copy (λ r. copy r nil.0) c (λ x q. n (same-predecessor q)) (roots g)

  -- a task has as many copies as predecessors, a root one
  pub length-copies : (t : ℕ) → length (task_copies g t) ≡ length (preds_of g t) + occ t (roots g)
  unfolding task_copies
  length-copies t =
      omega (
        arith,
        length-append (map (copy t) (preds_of g t)) (replicate (occ t (roots g)) (copy t nil.0)),
        length-map (preds_of g t) (copy t),
        length-replicate (occ t (roots g)) (copy t nil.0),
      )

  module _ (sound : Sound g) where
    pub some-copies : (t : ℕ) → t < g.tasks → 0 < length (task_copies g t)
    some-copies t h = omega (arith, length-copies t, occ-roots g sound t, tally-yes (dec_lt t g.tasks) h)

    -- NIL is no task: it is nobody's predecessor, and has no copies
    below-nil : (t : ℕ) → t < g.tasks → ¬ (t ≡ nil.0)
    below-nil t h e = omega (arith, h, e, sound.sized.tasks)

    nil-preds : (t : ℕ) → occ nil.0 (preds_of g t) ≡ 0
    nil-preds t = stable (ℕ_discrete (occ nil.0 (preds_of g t)) 0) (λ n. among (omega (arith, n)))
      where
        among : Among nil.0 (preds_of g t) → ⊥
        among m = below-nil nil.0 ((sound.good t (edge_of sound nil.0 t m).task).below nil.0 m) refl

    -- (t, NIL) is a copy where t is a root
    pub copy-root : (t : ℕ) → is_copy g (copy t nil.0) ≡ occ t (roots g)
    unfolding task_copies is_copy
    copy-root t =
        omega (
          arith,
          occ-append same_copy (copy t nil.0) (map (copy t) (preds_of g t)) (replicate (occ t (roots g)) (copy t nil.0)),
          from-own t nil.0,
          nil-preds t,
          occ-replicate same_copy (copy t nil.0) (copy t nil.0) (occ t (roots g)) refl,
        )

    root-task : (t : ℕ) → 0 < occ t (roots g) → t < g.tasks
    root-task t h = ((roots-are g t).0 h).0

    -- a copy is one of a task
    pub copy-task : (c : Copy) → 0 < is_copy g c → c.task < g.tasks
    copy-task c h = go (ℕ_discrete c.predecessor nil.0)
      where
        go : Dec (c.predecessor ≡ nil.0) → c.task < g.tasks
        go (yes e) = root-task c.task (omega (arith, h, copy-root c.task, ap (λ u. is_copy g (copy c.task u)) e))
        go (no n) = (edge_of sound c.predecessor c.task (omega (arith, h, copy-edge c.task c.predecessor n))).task

    root-own : (c : Copy) → c.predecessor ≡ nil.0 → occ_of same_copy c (root_copies g) ≡ is_copy g c
    unfolding root_copies
    root-own c e =
        ap (λ u. occ_of same_copy (copy c.task u) (root_copies g)) e
        ∙ occ-map ℕ_discrete same_copy (λ r. copy r nil.0) (λ x y q. same-task q) c.task (roots g)
        ∙ sym (ap (λ u. is_copy g (copy c.task u)) e ∙ copy-root c.task)

    -- the list of all copies holds each once
    pub each_copy : (c : Copy) → occ_of same_copy c (all_copies g) ≡ is_copy g c
    unfolding all_copies
    each_copy c = occ-append same_copy c (root_copies g) (joined g.tasks (next_copies g)) ∙ go (ℕ_discrete c.predecessor nil.0)
      where
        parts : occ_of same_copy c (joined g.tasks (next_copies g)) ≡ sum_to g.tasks (λ t. occ_of same_copy c (next_copies g t))
        parts = occ-joined same_copy c g.tasks (next_copies g)

        beyond : g.tasks ≤ c.predecessor → occ_of same_copy c (joined g.tasks (next_copies g)) ≡ 0
        beyond h = parts ∙ sum-zero g.tasks (λ t. occ_of same_copy c (next_copies g t)) (λ t l. next-other c t (λ e. omega (arith, l, h, e)))

        made : Dec (c.predecessor < g.tasks) → occ_of same_copy c (joined g.tasks (next_copies g)) ≡ occ c.predecessor (preds_of g c.task)
        made (yes h) =
            parts
            ∙ sum-only g.tasks (λ t. occ_of same_copy c (next_copies g t)) c.predecessor h (λ t n. next-other c t (λ e. n (sym e)))
            ∙ next-own c.task c.predecessor ∙ reversed-all g sound c.predecessor c.task
        made (no n) = omega (arith, beyond (omega (arith, n)), none)
          where
            none : occ c.predecessor (preds_of g c.task) ≡ 0
            none =
                stable (ℕ_discrete (occ c.predecessor (preds_of g c.task)) 0)
                (λ m. let h : Among c.predecessor (preds_of g c.task) = omega (arith, m) in
                n ((sound.good c.task (edge_of sound c.predecessor c.task h).task).below c.predecessor h))

        go : Dec (c.predecessor ≡ nil.0)
            → occ_of same_copy c (root_copies g) + occ_of same_copy c (joined g.tasks (next_copies g)) ≡ is_copy g c
        go (yes e) =
            omega (
              arith,
              beyond (omega (arith, e, sound.sized.tasks)),
              root-own c e,
            )
        go (no n) =
            omega (
              arith,
              made (dec_lt c.predecessor g.tasks),
              root-other c n,
              copy-edge c.task c.predecessor n,
            )

    -- there are E + R
    pub count-copies : length (all_copies g) ≡ edge_count g + length (roots g)
    unfolding root_copies all_copies next_copies succ_words
    count-copies =
        omega (
          arith,
          length-append (root_copies g) (joined g.tasks (next_copies g)),
          length-map (roots g) (λ r. copy r nil.0),
          length-joined g.tasks (next_copies g),
          sum_same g.tasks (λ t. length (succs_of g t)) (λ t. length (next_copies g t)) (λ t h. length-map (succs_of g t) (λ x. copy x t)),
          length-joined g.tasks (succs_of g),
          length-succ_words g sound,
        )

    -- where begin finds no predecessor twice
    module _ (once : NoneTwice g) where
      pub one-copy : (c : Copy) → is_copy g c ≤ 1
      one-copy c = go (ℕ_discrete c.predecessor nil.0) (dec_lt c.task g.tasks)
        where
          go : Dec (c.predecessor ≡ nil.0) → Dec (c.task < g.tasks) → is_copy g c ≤ 1
          go (yes e) d =
              omega (
                arith,
                ap (λ u. is_copy g (copy c.task u)) e,
                copy-root c.task,
                occ-roots g sound c.task,
                tally-le-one (dec_lt c.task g.tasks),
              )
          go (no n) (yes h) = omega (arith, copy-edge c.task c.predecessor n, once c.task c.predecessor h)
          go (no n) (no m) = stable (dec_le (is_copy g c) 1) (λ k. m (copy-task c (omega (arith, k))))

      -- (x, t) is among the copies made of (t, u) exactly if (t, u) is among those that (x, t) waits for
      reverse-copies : (a b : Copy) → occ_of same_copy b ((copies_of g).succs a) ≡ occ_of same_copy a ((copies_of g).preds b)
      unfolding copies_of
      reverse-copies a b = go (ℕ_discrete a.task b.predecessor) (dec_lt 0 (is_copy g a)) (dec_lt 0 (is_copy g b))
        where
          -- where b's predecessor is a's task
          made : a.task ≡ b.predecessor → 0 < is_copy g a → occ_of same_copy b (next_copies g a.task) ≡ is_copy g b
          made e h =
              ap (λ t. occ_of same_copy b (next_copies g t)) e
              ∙ next-own b.task b.predecessor
              ∙ reversed-all g sound b.predecessor b.task
              ∙ sym (copy-edge b.task b.predecessor (λ q. below-nil a.task (copy-task a h) (e ∙ q)))

          go : Dec (a.task ≡ b.predecessor) → Dec (0 < is_copy g a) → Dec (0 < is_copy g b)
              → occ_of same_copy b ((copies_of g).succs a) ≡ occ_of same_copy a ((copies_of g).preds b)
          go (no n) p q =
              omega (
                arith,
                occ-if_any same_copy b (is_copy g a) (next_copies g a.task),
                next-other b a.task (λ e. n (sym e)),
                occ-if_any same_copy a (is_copy g b) (task_copies g b.predecessor),
                copies-other a b.predecessor n,
              )
          go (yes e) (no n) q =
              omega (
                arith,
                n,
                ap (occ_of same_copy b) (if_any-none (is_copy g a) (next_copies g a.task) (omega (arith, n))),
                occ-nil same_copy b,
                occ-if_any same_copy a (is_copy g b) (task_copies g b.predecessor),
                copies-own a b.predecessor e,
              )
          go (yes e) (yes h) (no n) =
              omega (
                arith,
                n,
                occ-if_any same_copy b (is_copy g a) (next_copies g a.task),
                made e h,
                ap (occ_of same_copy a) (if_any-none (is_copy g b) (task_copies g b.predecessor) (omega (arith, n))),
                occ-nil same_copy a,
              )
          go (yes e) (yes h) (yes k) =
              omega (
                arith,
                h,
                k,
                ap (occ_of same_copy b) (if_any-some (is_copy g a) (next_copies g a.task) h),
                ap (occ_of same_copy a) (if_any-some (is_copy g b) (task_copies g b.predecessor) k),
                made e h,
                copies-own a b.predecessor e,
                one-copy a,
                one-copy b,
              )

      pub copies-reversed : Reversed same_copy (copies_of g)
      unfolding copies_of
      copies-reversed = record { one = one-copy; reverse = reverse-copies }

      -- begin: a root's copy waits for nothing, every other copy for something
      pub roots-free : (c : Copy) → min 1 (length ((copies_of g).preds c)) + occ_of same_copy c (root_copies g) ≡ is_copy g c
      unfolding copies_of
      roots-free c = go (dec_lt 0 (is_copy g c)) (ℕ_discrete c.predecessor nil.0)
        where
          none : length (task_copies g nil.0) ≡ 0
          none =
              omega (
                arith,
                length-copies nil.0,
                ap length (preds-none sound nil.0 (omega (arith, sound.sized.tasks))),
                occ-roots g sound nil.0,
                tally-no (dec_lt nil.0 g.tasks) (λ h. below-nil nil.0 h refl),
              )

          go : Dec (0 < is_copy g c) → Dec (c.predecessor ≡ nil.0)
              → min 1 (length ((copies_of g).preds c)) + occ_of same_copy c (root_copies g) ≡ is_copy g c
          go (no n) (yes e) =
              omega (arith, n, root-own c e, ap length (if_any-none (is_copy g c) (task_copies g c.predecessor) (omega (arith, n))))
          go (no n) (no m) =
              omega (arith, n, root-other c m, ap length (if_any-none (is_copy g c) (task_copies g c.predecessor) (omega (arith, n))))
          go (yes h) (yes e) =
              omega (
                arith,
                root-own c e,
                none,
                ap (λ u. length (task_copies g u)) e,
                ap length (if_any-some (is_copy g c) (task_copies g c.predecessor) h),
              )
          go (yes h) (no m) =
              let p : Edge g c.predecessor c.task = edge_of sound c.predecessor c.task (omega (arith, h, copy-edge c.task c.predecessor m)) in
              omega (
                arith,
                h,
                one-copy c,
                root-other c m,
                some-copies c.predecessor ((sound.good c.task p.task).below c.predecessor p.predecessor),
                ap length (if_any-some (is_copy g c) (task_copies g c.predecessor) h),
              )

    -- what a copy waits for is all copies of its predecessor
    pub preds-before : (b c : Copy) → 0 < occ_of same_copy b ((copies_of g).preds c) → Before g b c
    unfolding copies_of
    preds-before b c h = go (dec_lt 0 (is_copy g c))
      where
        among : (b.task ≡ c.predecessor) × (0 < is_copy g b)
        among = copies-among b c.predecessor (omega (arith, h, occ-if_any same_copy b (is_copy g c) (task_copies g c.predecessor)))

        go : Dec (0 < is_copy g c) → Before g b c
        go (yes k) = record { earlier = among.1; later = k; predecessor = among.0 }
        go (no n) =
            absurd (omega (arith, h, occ-nil same_copy b, ap (occ_of same_copy b) (if_any-none (is_copy g c) (task_copies g c.predecessor) (omega (arith, n)))))

    pub before-edge : {b c : Copy} → Before g b c → Edge g b.task c.task
    before-edge {b} {c} e =
        edge_of sound b.task c.task
        (omega (
          arith,
          e.later,
          ap (λ u. occ u (preds_of g c.task)) e.predecessor,
          copy-edge c.task c.predecessor (λ q. below-nil b.task (copy-task b e.earlier) (e.predecessor ∙ q)),
        ))

    -- two copies that wait for the same copy wait for the same copies
    pub preds-are : (b c : Copy) → 0 < occ_of same_copy b ((copies_of g).preds c) → (copies_of g).preds c ≡ task_copies g b.task
    unfolding copies_of
    preds-are b c h =
        if_any-some (is_copy g c) (task_copies g c.predecessor) (preds-before b c h).later ∙ ap (task_copies g) (sym (preds-before b c h).predecessor)

    pub before-preds : {b c : Copy} → Before g b c → 0 < occ_of same_copy b ((copies_of g).preds c)
    unfolding copies_of
    before-preds {b} {c} e =
        omega (
          arith,
          e.earlier,
          copies-own b c.predecessor e.predecessor,
          ap (occ_of same_copy b) (if_any-some (is_copy g c) (task_copies g c.predecessor) e.later),
        )
