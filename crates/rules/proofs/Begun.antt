-- PROMISE: what the lent memory holds after an accepted begin, from any words.
use Prim.Native.Nat.{ℕ, ◌*◌, ◌%◌, ◌≤◌, ◌<◌}
use mathlib.Core.Path.{◌≡◌, refl, ap, ◌∙◌}
use mathlib.Core.Bool.{cond}
use mathlib.Core.List.{List, []}
use native.Mathlib.Omega.{arith}
use lib.Dec.{eqb}
use lib.IntN.{pos}
use lib.ListN.{length, get_or, length-replicate}
use Rattle.lists.specs.Lists.{occ, Rising}
use Rattle.lists.proofs.Prefixes.{get_d-equals, zeros}
use Rattle.task.specs.Types.{idle}
use Rattle.task.specs.Refusals.{answer_says, accepted}
use Rattle.task.specs.declared.Limits.{Limits}
use Rattle.task.specs.declared.Row.{Row}
use Rattle.graph.specs.Graph.{part}
use Rattle.graph.specs.Conditions.{Good, Sound}
use Rattle.graph.specs.Successors.{roots}
use Rattle.graph.proofs.Accepted.{fits-sound}
use Rattle.graph.proofs.Reversed.{succ-part, table-reversed, table-good, succs-rise, length-succ_starts, length-succ_words, length-degrees, length-roots}
use Rattle.ring.specs.Ring.{capacity}
use Rattle.ring.proofs.Ends.{capacity-is}
use Rattle.memory.specs.Field.{Field}
use Rattle.memory.specs.Field as list
use Rattle.memory.specs.Memory.{get}
use Rattle.memory.specs.Shape.{length_of, lends, IfLent}
use Rattle.memory.specs.Updates.{updated, written, spares}
use Rattle.plans.proofs.Begin.{accepted-leaves}
use Rattle.plans.proofs.Dealt.{to-fits}
use Rattle.plans.proofs.Joins.{map-itself}
use Rattle.plans.proofs.Laid.{Filled, Blank, blank-filled, filled-laid, laid-keeps, laid-own, laid-empty, laid-own-counter, laid-other-counter, laid-head, laid-tail, laid-count, laid-slot}
use Rattle.rules.specs.Memory.{plain, Mem, tasks, edges, graph_in, row_in}
use Rattle.rules.specs.Sizes.{Lengths}
use Rattle.rules.specs.Steps.{join}
use Rattle.rules.specs.Begin.{cleared, begun, begin_answer, begin}
use Rattle.rules.specs.Begun.{roots_of, LaidDown, to_ring}
use Rattle.rules.proofs.Begin.{begin-accepted}

-- a root's item is the root itself
abbrev itself : ℕ → plain.Item
itself t = t

module _ (p k : ℕ) (m : Mem) (lengths : Lengths p k m) (sound : Sound (graph_in m)) (slots : 0 < k) where
  cleared-lengths : Lengths p k (cleared m)
  unfolding cleared
  cleared-lengths = record { list = long }
    where
      long : (f : Field) → IfLent (lends plain f) (length (get f (cleared m)) ≡ length_of plain p k (tasks m) (edges m) f)
      long list.weights = refl
      long list.pred_starts = lengths.list list.pred_starts
      long list.preds = refl
      long list.succ_starts = length-succ_starts (graph_in m)
      long list.succs = length-succ_words (graph_in m) sound
      long list.degrees = length-degrees (graph_in m)
      long list.fixed = tt
      long list.rings = length-replicate _ _ ∙ lengths.list list.rings
      long list.ends = length-replicate _ _ ∙ lengths.list list.ends
      long list.counters = length-replicate _ _ ∙ lengths.list list.counters
      long list.buffers = length-replicate _ _ ∙ lengths.list list.buffers
      long list.executed = length-replicate _ _ ∙ lengths.list list.executed
      long list.run = length-replicate _ _ ∙ lengths.list list.run
      long list.rows = length-replicate _ _ ∙ lengths.list list.rows

  cleared-blank : Blank (cleared m)
  unfolding cleared
  cleared-blank =
      record {
        rings = zeros (length m.rings);
        ends = zeros (length m.ends);
        counters = λ q. get_d-equals (length m.counters) q (pos 0);
      }

  cleared-filled : Filled itself p k m.weights (λ q. []) (cleared m)
  unfolding cleared
  cleared-filled = blank-filled itself p k slots m.weights (cleared m) cleared-lengths refl cleared-blank

  module _ (one : 1 ≤ p) (few : length (roots (graph_in m)) ≤ p * capacity k) where
    abbrev rs : List ℕ
    rs = roots (graph_in m)

    abbrev b : Mem
    b = begun p k m

    begun-filled : Filled itself p k m.weights (λ q. to_ring p q 0 rs) b
    unfolding begun spares
    begun-filled =
        filled-laid itself p k m.weights (λ n t. []) (λ n t. record { weights = refl; rings = refl; ends = refl; counters = refl }) 0 rs
        (λ q. []) (cleared m) one
        (λ q h. omega (arith, to-fits p one k q rs few))
        cleared-filled

    keeps : {A : Type 0} (f : Mem → A) → ((o t : ℕ) (m : Mem) → f (written (join p k o o t m) m) ≡ f m) → f b ≡ f (cleared m)
    unfolding begun
    keeps f h = laid-keeps itself p k (λ n t. []) f (λ n t m. h (n % p) t m) 0 rs (cleared m)

    begun-laid-down : LaidDown p k m b
    unfolding cleared written updated
    begun-laid-down =
        record {
          weights = keeps (λ m. m.weights) (λ o t m. refl);
          pred_starts = keeps (λ m. m.pred_starts) (λ o t m. refl);
          preds = keeps (λ m. m.preds) (λ o t m. refl);
          succ_starts = keeps (λ m. m.succ_starts) (λ o t m. refl);
          succs = keeps (λ m. m.succs) (λ o t m. refl);
          degrees = keeps (λ m. m.degrees) (λ o t m. refl);
          own = λ i h. laid-own itself p k slots m.weights one rs b begun-filled i h ∙ map-itself (roots_of p i m);
          empty = laid-empty itself p k slots m.weights one rs b begun-filled;
          own_counter = laid-own-counter itself p k slots m.weights one rs b begun-filled;
          other_counter = laid-other-counter itself p k slots m.weights one rs b begun-filled;
          head = laid-head itself p k slots m.weights one rs b begun-filled;
          tail = laid-tail itself p k slots m.weights one rs b begun-filled;
          count = laid-count itself p k slots m.weights one rs b begun-filled;
          slot = λ i j x hi hj hx.
              laid-slot itself p k slots m.weights one rs b begun-filled i j x hi hj hx
              ∙ ap (λ (l : List ℕ). cond (eqb i j) (get_or l x 0) 0) (map-itself (roots_of p i m));
          buffers = keeps (λ m. m.buffers) (λ o t m. refl);
          executed = keeps (λ m. m.executed) (λ o t m. refl);
          run = keeps (λ m. m.run) (λ o t m. refl);
          rows = keeps (λ m. m.rows) (λ o t m. refl);
          lengths = begun-filled.lengths;
        }

-- what is laid down: the same graph, idle rows, and run words that are 0
module _ {p k : ℕ} {m b : Mem} (laid : LaidDown p k m b) where
  pub laid-graph : graph_in b ≡ graph_in m
  laid-graph = rw (laid.weights, laid.pred_starts, laid.preds)

  pub laid-row : (i : ℕ) → row_in b i ≡ idle
  laid-row i = ap (λ (rows : List Row). get_or rows i idle) laid.rows ∙ get_d-equals (length m.rows) i idle

  pub laid-run : (x : ℕ) → ◌≡◌ {A = ℕ} (get_or b.run x 0) 0
  laid-run x = ap (λ (run : List ℕ). get_or run x 0) laid.run ∙ zeros (length m.run) x

module _ (limits : Limits) (p k : ℕ) (m : Mem) (e : answer_says (begin limits p k m).answer ≡ accepted) where
  -- the memory that it leaves
  abbrev pub left : Mem
  left = (begin limits p k m).memory

  pub laid-down : LaidDown p k m left
  unfolding begin
  laid-down =
      let (f, g, few) = (begin-accepted limits p k m).0 e in
      rw (accepted-leaves (begin_answer limits p k m) (begun p k m) m e) (begun-laid-down p k m f.lengths (fits-sound g) (omega (arith, f.limits.two_slots)) f.limits.one_worker (rw (length-roots (graph_in m), capacity-is k) few))

  -- the successor table is the predecessor table reversed, "each task's successors rising": t is among u's successors exactly as often as u is among t's
  -- predecessors, each successor is a task, and u's successors rise
  pub begun-reversed : (u : ℕ) → u < tasks left
      → ((t : ℕ) → t < tasks left → occ t (part left.succ_starts left.succs u) ≡ occ u (part left.pred_starts left.preds t))
      × Good (tasks left) left.succ_starts left.succs u
      × Rising (part left.succ_starts left.succs u)
  begun-reversed =
      let d : LaidDown p k m left = laid-down in
      rw (d.weights, d.pred_starts, d.preds, d.succ_starts, d.succs)
      (λ u h. (
        λ t l. table-reversed (graph_in m) u t h l,
        table-good (graph_in m) u h,
        rw (succ-part (graph_in m) u h) (succs-rise (graph_in m) ((begin-accepted limits p k m).0 e).1.graph u),
      ))
