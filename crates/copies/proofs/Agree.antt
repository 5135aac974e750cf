-- Graphs with the same tasks and edges have the same copies, in the same order.
use Prim.Native.Nat.{ℕ, ◌<◌, min}
use mathlib.Core.Path.{◌≡◌, sym, ap, ◌∙◌}
use mathlib.Core.Logic.{◌↔◌}
use native.Mathlib.Omega.{arith}
use native.Mathlib.Decide.{ℕ_discrete, dec_lt}
use lib.ListN.{length}
use Rattle.lists.specs.Lists.{occ}
use Rattle.lists.proofs.Decided.{tally-yes, tally-no}
use Rattle.lists.proofs.Sums.{sum_same, length-occ}
use Rattle.task.specs.Types.{nil}
use Rattle.graph.specs.Graph.{Graph, Edge, preds_of}
use Rattle.graph.specs.Conditions.{Sound}
use Rattle.graph.specs.Successors.{roots}
use Rattle.graph.proofs.Parts.{edge_of}
use Rattle.graph.proofs.Reversed.{occ-roots}
use Rattle.copies.specs.Copies.{Copy, copy, is_copy, Before, NoneTwice}
use Rattle.copies.proofs.Copies.{copy-edge, copy-root}

module _ {g g' : Graph} (sound : Sound g) (sound' : Sound g') (once : NoneTwice g) (once' : NoneTwice g') (tasks : g.tasks ≡ g'.tasks)
    (edges : (u t : ℕ) → Edge g u t ↔ Edge g' u t) where
  same-preds : (t u : ℕ) → occ u (preds_of g t) ≡ occ u (preds_of g' t)
  same-preds t u = go (dec_lt 0 (occ u (preds_of g t))) (dec_lt 0 (occ u (preds_of g' t)))
    where
      go : Dec (0 < occ u (preds_of g t)) → Dec (0 < occ u (preds_of g' t)) → occ u (preds_of g t) ≡ occ u (preds_of g' t)
      go (yes a) (yes b) = omega (arith, a, b, once t u (edge_of sound u t a).task, once' t u (edge_of sound' u t b).task)
      go (yes a) (no n) = absurd (n ((edges u t).0 (edge_of sound u t a)).predecessor)
      go (no n) (yes b) = absurd (n ((edges u t).1 (edge_of sound' u t b)).predecessor)
      go (no n) (no m) = omega (arith, n, m)

  -- each predecessor stands in a task's range once, so as many stand in both
  same_count : (t : ℕ) → t < g.tasks → length (preds_of g t) ≡ length (preds_of g' t)
  same_count t h =
      length-occ g.tasks (preds_of g t) (sound.good t h).below
      ∙ sum_same g.tasks (λ u. occ u (preds_of g' t)) (λ u. occ u (preds_of g t)) (λ u l. same-preds t u)
      ∙ sym (length-occ g.tasks (preds_of g' t) (rw tasks (sound'.good t (omega (arith, h, tasks))).below))

  same-roots : (t : ℕ) → occ t (roots g) ≡ occ t (roots g')
  same-roots t = go (dec_lt t g.tasks)
    where
      go : Dec (t < g.tasks) → occ t (roots g) ≡ occ t (roots g')
      go (yes h) =
          omega (
            arith,
            occ-roots g sound t,
            occ-roots g' sound' t,
            ap (λ (n : ℕ). min 1 n) (same_count t h),
            tally-yes (dec_lt t g.tasks) h,
            tally-yes (dec_lt t g'.tasks) (omega (arith, h, tasks)),
          )
      go (no n) =
          omega (
            arith,
            occ-roots g sound t,
            occ-roots g' sound' t,
            tally-no (dec_lt t g.tasks) n,
            tally-no (dec_lt t g'.tasks) (λ h. n (omega (arith, h, tasks))),
          )

  pub same-copies : (c : Copy) → is_copy g c ≡ is_copy g' c
  same-copies c = go (ℕ_discrete c.predecessor nil.0)
    where
      go : Dec (c.predecessor ≡ nil.0) → is_copy g c ≡ is_copy g' c
      go (yes e) =
          ap (λ (u : ℕ). is_copy g (copy c.task u)) e
          ∙ copy-root g sound c.task
          ∙ same-roots c.task
          ∙ sym (ap (λ (u : ℕ). is_copy g' (copy c.task u)) e ∙ copy-root g' sound' c.task)
      go (no n) =
          copy-edge g c.task c.predecessor n
          ∙ same-preds c.task c.predecessor
          ∙ sym (copy-edge g' c.task c.predecessor n)

  pub same-before : {b c : Copy} → Before g b c → Before g' b c
  same-before {b} {c} e =
      record {
        earlier = omega (arith, e.earlier, same-copies b);
        later = omega (arith, e.later, same-copies c);
        predecessor = e.predecessor;
      }
