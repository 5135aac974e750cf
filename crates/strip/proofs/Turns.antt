-- What holds at each turn of the stripping, that each turn keeps it, and what it says where the queue is used up.
use Prim.Native.Nat.{ℕ, zero, suc, ◌+◌, ◌≤◌, ◌<◌}
use mathlib.Core.Path.{◌≡◌, refl, sym, ap, ◌∙◌}
use mathlib.Core.Logic.{◌↔◌}
use mathlib.Core.List.{List, [], ◌∷◌}
use native.Mathlib.Omega.{arith}
use native.Mathlib.Decide.{ℕ_discrete, dec_lt}
use lib.ListN.{length, get_or, take, drop, length-append}
use lib.Seq.{length-take-le, get_or-take, take-take, get_or-append_seam, take-append_seam}
use Rattle.lists.specs.Lists.{occ}
use Rattle.lists.specs.Sums.{sum_of}
use Rattle.lists.proofs.Decided.{stable, tally-yes}
use Rattle.lists.proofs.Sums.{sum-zero, sum-prefix, sum_of-nil, sum_of-single, sum_of-append, sum_of-other, sum_of-missing}
use Rattle.lists.proofs.Prefixes.{occ-snoc, take_more, occ-more-hit, occ-take-le, occ-early, take_same}
use Rattle.graph.specs.Graph.{Graph, Among, preds_of, Edge}
use Rattle.graph.specs.Conditions.{Sound, ToCycle}
use Rattle.graph.specs.Stripping.{Strips, Whole, Left, Sink, keep_if, sink?, sinks_below, sinks_of, HandsOut}
use Rattle.graph.proofs.Parts.{occ-preds, preds-beyond}
use Rattle.graph.proofs.Stripping.{last-task, strips-short, strip-leaves}
use Rattle.strip.specs.Queue.{queued_at, nones_below, Falling, Emptied, Lowered}
use Rattle.strip.proofs.Queue.{stripped-none, stripped-le, queued-once, queued-none, stripped-some, keep_same, falling-all, falling-emptied}

-- how many of u's edges lead to the tasks of a list
abbrev pub edges_to : Graph → ℕ → List ℕ → ℕ
edges_to g u l = sum_of (λ t. occ u (preds_of g t)) l

-- the tasks before head took their edges away; the queued tasks are those without one left, in an order of stripping
pub record Stripping (g : Graph) (left queue : List ℕ) (head tail : ℕ) : Type 0 where
  pub emptied : Emptied g.tasks left queue tail
  pub reached : head ≤ tail
  pub counts : (u : ℕ) → get_or left u 0 + edges_to g u (take head queue) ≡ occ u g.preds
  pub behind : (k t : ℕ) → k < tail → Edge g (get_or queue k 0) t → Among t (take k queue)
  pub some : length (sinks_of g) ≤ tail
  pub first : take (length (sinks_of g)) queue ≡ sinks_of g

module _ (g : Graph) (sound : Sound g) (left queue : List ℕ) where
  -- the counts at the start: none exactly for a task without successors
  module _ (e : (u : ℕ) → get_or left u 0 ≡ occ u g.preds) where
    none-sink : (u : ℕ) → get_or left u 0 ≡ 0 → Sink g u
    none-sink u z t d = omega (arith, e u, occ-preds sound u, sum-prefix g.tasks (λ t. occ u (preds_of g t)) t d.task, d.predecessor)

    sink-none : (u : ℕ) → Sink g u → get_or left u 0 ≡ 0
    sink-none u s = e u ∙ occ-preds sound u ∙ sum-zero g.tasks (λ t. occ u (preds_of g t)) (λ t h. stable (ℕ_discrete (occ u (preds_of g t)) 0) (λ n. s t (record { task = h; predecessor = omega arith })))

    nones-sinks : (n : ℕ) → nones_below left n ≡ sinks_below g n
    unfolding nones_below sinks_below
    nones-sinks zero = refl
    nones-sinks (suc u) = keep_same (ℕ_discrete (get_or left u 0) 0) (sink? g u) u (nones_below left u) (none-sink u) (sink-none u) ∙ ap (λ (l : List ℕ). keep_if (sink? g u) u l) (nones-sinks u)

    pub strip-starts : (queue₀ : List ℕ) (tail : ℕ) → length left ≡ 1024 → Falling 0 g.tasks left queue₀ queue tail → Stripping g left queue 0 tail
    strip-starts queue₀ tail l f =
        record {
          emptied = m;
          reached = omega arith;
          counts = λ u. omega (arith, e u, sum_of-nil (λ t. occ u (preds_of g t)));
          behind = λ k t h d. absurd (none-sink (get_or queue k 0) (queued-none left queue tail m.queued (get_or queue k 0) (occ-early queue tail k h (omega (arith, m.queued.short, m.queued.room)))) t d);
          some = omega (arith, size);
          first = ap (λ (k : ℕ). take k queue) size ∙ all;
        }
      where
        m : Emptied g.tasks left queue tail
        m = falling-emptied g.tasks left queue₀ queue tail f sound.sized.tasks l

        all : take tail queue ≡ sinks_of g
        all = falling-all g.tasks left queue₀ queue tail f ∙ nones-sinks g.tasks

        size : length (sinks_of g) ≡ tail
        size = ap length (sym all) ∙ length-take-le tail queue (omega (arith, m.queued.short, m.queued.room))

  module _ (head tail : ℕ) (s : Stripping g left queue head tail) where
    queue-length : tail ≤ length queue
    queue-length = omega (arith, s.emptied.queued.short, s.emptied.queued.room)

    -- a queued task is a task
    queued-below : (u : ℕ) → Among u (take tail queue) → u < g.tasks
    queued-below u h = stable (dec_lt u g.tasks) (λ m. omega (arith, s.emptied.beyond u (omega arith)))

    module _ (k : ℕ) (k≤tail : k ≤ tail) where
      part-below : (u : ℕ) → Among u (take k queue) → u < g.tasks
      part-below u h = queued-below u (omega (arith, occ-take-le queue k tail u k≤tail))

      part-once : (u : ℕ) → occ u (take k queue) ≤ 1
      part-once u = omega (arith, occ-take-le queue k tail u k≤tail, queued-once left queue tail s.emptied.queued u)

      -- edges to some of the queued tasks and to another task
      other-edges : (u t : ℕ) → t < g.tasks → occ t (take k queue) ≡ 0 → edges_to g u (take k queue) + occ u (preds_of g t) ≤ occ u g.preds
      other-edges u t h z =
          omega (arith, occ-preds sound u, sum_of-other (λ x. occ u (preds_of g x)) g.tasks (take k queue) part-below part-once t h z)

      -- a task whose last successor goes: all of them are queued
      last_goes : (u : ℕ) → occ u g.preds ≡ edges_to g u (take k queue) → (t : ℕ) → Edge g u t → Among t (take k queue)
      last_goes u e t d = stable (dec_lt 0 (occ t (take k queue))) (λ n. omega (arith, other-edges u t d.task (omega arith), d.predecessor))

    module _ (more : head < tail) where
      next-queued : Among (get_or queue head 0) (take tail queue)
      next-queued = occ-early queue tail head more queue-length

      next-new : occ (get_or queue head 0) (take head queue) ≡ 0
      next-new = omega (arith, occ-more-hit queue head (omega (arith, queue-length)) (get_or queue head 0) refl, part-once (head + 1) (omega arith) (get_or queue head 0))

      -- the next of the queue is a task
      pub next-task : get_or queue head 0 < g.tasks
      next-task = queued-below (get_or queue head 0) next-queued

      -- its predecessors have as many successors left as it takes
      pub next-counts : (u : ℕ) → occ u (preds_of g (get_or queue head 0)) ≤ get_or left u 0
      next-counts u = omega (arith, s.counts u, other-edges head s.reached u (get_or queue head 0) next-task next-new)

      edges_more : (u : ℕ) → edges_to g u (take (head + 1) queue) ≡ edges_to g u (take head queue) + occ u (preds_of g (get_or queue head 0))
      edges_more u =
          ap (edges_to g u) (take_more queue head (omega (arith, queue-length)))
          ∙ sum_of-append (λ t. occ u (preds_of g t)) (take head queue) (get_or queue head 0 ∷ [])
          ∙ ap (λ (m : ℕ). edges_to g u (take head queue) + m) (sum_of-single (λ t. occ u (preds_of g t)) (get_or queue head 0))

      module _ (left' queue' : List ℕ) (tail' : ℕ) (l : Lowered (preds_of g (get_or queue head 0)) left left' queue queue' tail tail') where
        same-front : (k : ℕ) → k ≤ tail → take k queue' ≡ take k queue
        same-front k h = take_same queue' queue k tail h l.front

        counts-next : (u : ℕ) → get_or left' u 0 + edges_to g u (take (head + 1) queue) ≡ occ u g.preds
        counts-next u = omega (arith, l.counts u, s.counts u, edges_more u)

        pub strip-next : Stripping g left' queue' (head + 1) tail'
        strip-next =
            record {
              emptied = record {
                queued = l.queued;
                looked = λ u h. omega (arith, l.joins u, s.emptied.looked u h);
                beyond = λ u h. outside u h;
              };
              reached = omega (arith, l.longer);
              counts = λ u. rw (same-front (head + 1) (omega arith)) (counts-next u);
              behind = λ k t h d. after k t h d (dec_lt k tail);
              some = omega (arith, s.some, l.longer);
              first = same-front (length (sinks_of g)) s.some ∙ s.first;
            }
          where
            -- beyond the tasks nothing is counted
            outside : (u : ℕ) → g.tasks ≤ u → queued_at queue' tail' u ≡ 0
            outside u h = omega (arith, l.joins u, s.emptied.beyond u h, stripped-none left u (omega (arith, s.counts u, preds-beyond sound u h)), stripped-le left' u)

            -- a task keeps its place; behind them all joins only one whose successors are all before head
            after : (k t : ℕ) → k < tail' → Edge g (get_or queue' k 0) t → Dec (k < tail) → Among t (take k queue')
            after k t h d (yes m) = rw (same-front k (omega arith)) (s.behind k t m (rw (kept k m) at d))
              where
                kept : (k : ℕ) → k < tail → get_or queue' k 0 ≡ get_or queue k 0
                kept k m = sym (get_or-take tail queue' k 0 m) ∙ ap (λ (x : List ℕ). get_or x k 0) l.front ∙ get_or-take tail queue k 0 m
            after k t h d (no n) =
                omega (
                  arith,
                  last_goes (head + 1) (omega arith) (get_or queue' k 0) (omega (arith, counts-next (get_or queue' k 0), queued-none left' queue' tail' l.queued (get_or queue' k 0) (occ-early queue' tail' k h (omega (arith, l.queued.short, l.queued.room))))) t d,
                  ap (occ t) (same-front (head + 1) (omega arith)),
                  occ-take-le queue' (head + 1) k t (omega arith),
                )

    -- the queued tasks, as an order of stripping
    queue-strips : Strips g (take tail queue)
    queue-strips =
        record {
          tasks = queued-below;
          once = part-once tail (omega arith);
          behind = λ k t h d. at k t (omega (arith, length-take-le tail queue queue-length)) d;
        }
      where
        at : (k t : ℕ) → k < tail → Edge g (get_or (take tail queue) k 0) t → Among t (take k (take tail queue))
        at k t h d = rw (take-take k tail queue (omega arith)) (s.behind k t h (rw (get_or-take tail queue k 0 h) at d))

    module _ (end : tail ≤ head) where
      -- a task all of whose successors are queued has none left, and so is queued
      queue-whole : Whole g (take tail queue)
      queue-whole t p = omega (arith, p.once t, occ-snoc t t (take tail queue), tally-yes (ℕ_discrete t t) refl, queued)
        where
          after : (v : ℕ) → Edge g t v → Among v (take tail queue)
          after v d =
              rw (take-append_seam (take tail queue) (t ∷ []))
              at (p.behind (length (take tail queue)) v (omega (arith, length-append (take tail queue) (t ∷ []))) (rw (get_or-append_seam (take tail queue) t [] 0) d))

          missing : (v : ℕ) × (v < g.tasks) × (0 < occ t (preds_of g v)) × (occ v (take head queue) ≡ 0) → ⊥
          missing w = omega (arith, w.3, occ-take-le queue tail head w.0 end, after w.0 (record { task = w.1; predecessor = w.2 }))

          none : get_or left t 0 ≡ 0
          none =
              stable (ℕ_discrete (get_or left t 0) 0) (λ n. missing
              (sum_of-missing (λ v. occ t (preds_of g v)) g.tasks (take head queue) (part-below head s.reached) (omega (arith, s.counts t, occ-preds sound t))))

          queued : 0 < occ t (take tail queue)
          queued = omega (arith, s.emptied.looked t (last-task g (take tail queue) t p), stripped-none left t none)

      pub strip-ends : (queue₀ : List ℕ) → drop tail queue ≡ drop tail queue₀ → HandsOut g queue₀ queue tail × ((t : ℕ) → t < g.tasks → (0 < get_or left t 0) ↔ ToCycle g t)
      strip-ends queue₀ rest = (
        record {
          few = omega (arith, strips-short queue-strips, length-take-le tail queue queue-length);
          order = record { strips = queue-strips; whole = queue-whole; sinks = take-take (length (sinks_of g)) tail queue s.some ∙ s.first };
          behind = rest;
        },
        λ t h. (λ m. (strip-leaves queue-strips queue-whole t h).0 (some_left t h m), λ c. left-some t h ((strip-leaves queue-strips queue-whole t h).1 c)),
      )
        where
          some_left : (t : ℕ) → t < g.tasks → 0 < get_or left t 0 → Left (take tail queue) t
          some_left t h m = omega (arith, s.emptied.looked t h, stripped-some left t m)

          left-some : (t : ℕ) → t < g.tasks → Left (take tail queue) t → 0 < get_or left t 0
          left-some t h z = stable (dec_lt 0 (get_or left t 0)) (λ n. omega (arith, s.emptied.looked t h, stripped-none left t (omega arith)))
