-- Laws of the walk back from a task: it begins, takes one task from the queue, and ends with every task that leads to t.
use Prim.Native.Nat.{ℕ, ◌+◌, ◌≤◌, ◌<◌}
use mathlib.Core.Path.{◌≡◌, ap, ◌∙◌}
use mathlib.Core.Logic.{◌⊎◌, inl, inr, ◌↔◌}
use mathlib.Core.List.{List}
use native.Mathlib.Omega.{arith}
use native.Mathlib.Decide.{ℕ_discrete, dec_lt}
use lib.ListN.{take, get_or, replicate, length-replicate}
use Rattle.lists.specs.Lists.{occ}
use Rattle.lists.specs.Decided.{tally}
use Rattle.lists.proofs.Decided.{tally-pos}
use Rattle.lists.proofs.Prefixes.{zeros, occ-more, occ-early, take_same}
use Rattle.lists.proofs.Occurrences.{occ-nil}
use Rattle.graph.specs.Graph.{Among, Graph, preds_of, Edge, Leads, edge, via}
use Rattle.graph.specs.Conditions.{Sound}
use Rattle.graph.proofs.Parts.{leads-from}
use Rattle.cycles.specs.Marks.{Has, Marked, Grown, Walked}

-- nothing is marked in fresh tables
pub fresh : Marked (replicate 1024 0) (replicate 1024 0) 0
fresh =
    record {
      seen_size = length-replicate {A = ℕ} 1024 0;
      queue-size = length-replicate {A = ℕ} 1024 0;
      tail-fits = omega arith;
      flags = λ u. omega (arith, zeros 1024 u);
      once = λ u. omega (arith, occ-nil ℕ_discrete u, zeros 1024 u);
    }

-- nothing is marked where nothing is queued
unmarked : {seen queue : List ℕ} → Marked seen queue 0 → (u : ℕ) → ¬ (Has seen u)
unmarked m u h = omega (arith, m.once u, occ-nil ℕ_discrete u)

module _ {g : Graph} (s : Sound g) where
  pub walk_begins : {seen₀ queue₀ seen queue : List ℕ} {tail : ℕ} (t : ℕ) → t < g.tasks → Marked seen₀ queue₀ 0 → Grown (preds_of g t) seen₀ queue₀ 0 seen queue tail → Walked g t seen queue 0 tail
  walk_begins {seen₀} {queue₀} {seen} {queue} t h m f =
      record {
        marked = f.marked;
        passed = omega arith;
        leads = λ u k. lead u (f.only u k);
        direct = λ u e. f.added u e.predecessor;
        closed = λ u v k e. absurd (omega (arith, occ-nil ℕ_discrete v));
      }
    where
      lead : (u : ℕ) → Has seen₀ u ⊎ Among u (preds_of g t) → Leads (Edge g) u t
      lead u (inl k) = absurd (unmarked m u k)
      lead u (inr k) = edge (record { task = h; predecessor = k })

  module _ {t : ℕ} {seen queue : List ℕ} {head tail : ℕ} (w : Walked g t seen queue head tail) where
    module _ (l : head < tail) where
      -- the next of the queue leads to t, and so is a task
      next-leads : Leads (Edge g) (get_or queue head 0) t
      next-leads =
          w.leads (get_or queue head 0) (omega (arith, w.marked.once (get_or queue head 0), occ-early queue tail head l (omega (arith, w.marked.tail-fits, w.marked.queue-size))))

      pub next-task : get_or queue head 0 < g.tasks
      next-task = leads-from s next-leads

      pub walk_more : {seen' queue' : List ℕ} {tail' : ℕ} → Grown (preds_of g (get_or queue head 0)) seen queue tail seen' queue' tail' → Walked g t seen' queue' (head + 1) tail'
      walk_more {seen'} {queue'} {tail'} f =
          record {
            marked = f.marked;
            passed = omega (arith, f.longer);
            leads = λ u k. lead u (f.only u k);
            direct = λ u e. f.kept u (w.direct u e);
            closed = λ u v k e. close u v k e (dec_lt 0 (occ v (take head queue)));
          }
        where
          lead : (u : ℕ) → Has seen u ⊎ Among u (preds_of g (get_or queue head 0)) → Leads (Edge g) u t
          lead u (inl k) = w.leads u k
          lead u (inr k) = via (record { task = next-task; predecessor = k }) next-leads

          both : (v : ℕ) → occ v (take (head + 1) queue') ≡ occ v (take head queue) + tally (ℕ_discrete v (get_or queue head 0))
          both v =
              ap (occ v) (take_same queue' queue (head + 1) tail (omega arith) f.front)
              ∙ occ-more queue head (omega (arith, w.marked.tail-fits, w.marked.queue-size)) v

          close : (u v : ℕ) → Among v (take (head + 1) queue') → Edge g u v → Dec (0 < occ v (take head queue)) → Has seen' u
          close u v k e (yes h) = f.kept u (w.closed u v h e)
          close u v k e (no n) = f.added u (rw (tally-pos (ℕ_discrete v (get_or queue head 0)) (omega (arith, both v))) at e.predecessor)

    -- at the queue's end all that lead to t are marked
    module _ (l : tail ≤ head) where
      reached : {u : ℕ} → Leads (Edge g) u t → Has seen u
      reached {u} (edge e) = w.direct u e
      reached {u} (via {v = v} e p) = w.closed u v (omega (arith, same, w.marked.once v, reached p)) e
        where
          ends : head ≡ tail
          ends = omega (arith, w.passed)

          same : occ v (take head queue) ≡ occ v (take tail queue)
          same = ap (λ (k : ℕ). occ v (take k queue)) ends

      pub walk_ends : (u : ℕ) → Has seen u ↔ Leads (Edge g) u t
      walk_ends u = (w.leads u, reached)
