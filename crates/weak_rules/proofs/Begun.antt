-- PROMISE: what the lent memory of a weak job holds after an accepted begin, from any words.
use Prim.Native.Nat.{ℕ, zero, suc, ◌*◌, ◌%◌, ◌≤◌, ◌<◌, max}
use mathlib.Core.Path.{◌≡◌, refl, ap, ◌∙◌}
use mathlib.Core.Logic.{◌⊎◌, inl, inr}
use mathlib.Core.List.{List, [], ◌++◌}
use native.Mathlib.Omega.{arith}
use native.Mathlib.Decide.{ℕ_discrete, dec_lt}
use native.Mathlib.Nat.{max-eq_left, max-eq_right}
use lib.IntN.{pos}
use lib.ListN.{length, get_or, replicate, length-replicate, length-set, get_or-replicate}
use Rattle.lists.specs.Decided.{tally}
use Rattle.lists.specs.Lists.{occ, Rising}
use Rattle.lists.proofs.Blocks.{length-tabulate, get_d_tabulate}
use Rattle.lists.proofs.Decided.{tally-le-one}
use Rattle.lists.proofs.Prefixes.{get_d-equals, zeros}
use Rattle.lists.proofs.Sums.{sum-prefix, sum-find, sum-most}
use Rattle.task.specs.Refusals.{answer_says, accepted}
use Rattle.task.specs.declared.Limits.{Limits}
use Rattle.weak_task.specs.Types.{copy, idle, unfixed}
use Rattle.weak_task.specs.declared.WeakRow.{WeakRow}
use Rattle.graph.specs.Graph.{preds_of, part}
use Rattle.graph.specs.Conditions.{Good, Sound}
use Rattle.graph.specs.Successors.{roots}
use Rattle.graph.proofs.Accepted.{fits-sound}
use Rattle.graph.proofs.Reversed.{succ-part, table-reversed, table-good, succs-rise, length-succ_starts, length-succ_words, roots-are, occ-roots, length-roots}
use Rattle.ring.specs.Ring.{capacity}
use Rattle.ring.proofs.Ends.{capacity-is}
use Rattle.memory.specs.Field.{Field}
use Rattle.memory.specs.Field as list
use Rattle.memory.specs.Memory.{get}
use Rattle.memory.specs.Shape.{length_of, lends, IfLent}
use Rattle.memory.specs.Updates.{updated, written, spares}
use Rattle.plans.specs.Sizes.{Lengths}
use Rattle.plans.specs.Laying.{join_ring, dealt, to_ring}
use Rattle.plans.proofs.Begin.{accepted-leaves}
use Rattle.plans.proofs.Dealt.{to-fits, occ-dealt}
use Rattle.plans.proofs.Laid.{Filled, Blank, blank-filled, filled-laid, laid-keeps, laid-own, laid-empty, laid-own-counter, laid-other-counter, laid-head, laid-tail, laid-count, laid-slot}
use Rattle.weak_rules.specs.Memory.{weak, Mem, tasks, edges, graph_in, degree_in, fixed_in, roots_word, row_in}
use Rattle.weak_rules.specs.Begin.{weak_degrees, cleared, begun, begin_answer, begin}
use Rattle.weak_rules.specs.Begun.{roots_of, LaidDown}
use Rattle.weak_rules.specs.Tables.{root_count}
use Rattle.weak_rules.proofs.Begin.{begin-accepted}
use Rattle.weak_rules.proofs.Fixed.{root_copy, fixing, fix_all, laid-fixed, fixed-other, fixed-dealt}

module _ (p k : ℕ) (m : Mem) (lengths : Lengths p k m) (sound : Sound (graph_in m)) (slots : 0 < k) where
  cleared-lengths : Lengths p k (cleared m)
  unfolding cleared weak_degrees
  cleared-lengths = record { list = long }
    where
      long : (f : Field) → IfLent (lends weak f) (length (get f (cleared m)) ≡ length_of weak p k (tasks m) (edges m) f)
      long list.weights = refl
      long list.pred_starts = lengths.list list.pred_starts
      long list.preds = refl
      long list.succ_starts = length-succ_starts (graph_in m)
      long list.succs = length-succ_words (graph_in m) sound
      long list.degrees = length-tabulate (tasks m) _
      long list.fixed = length-replicate _ _ ∙ lengths.list list.fixed
      long list.rings = length-replicate _ _ ∙ lengths.list list.rings
      long list.ends = length-replicate _ _ ∙ lengths.list list.ends
      long list.counters = length-replicate _ _ ∙ lengths.list list.counters
      long list.buffers = length-replicate _ _ ∙ lengths.list list.buffers
      long list.executed = length-replicate _ _ ∙ lengths.list list.executed
      long list.run = length-set (replicate (length m.run) 0) 2 (length (roots (graph_in m))) ∙ length-replicate _ _ ∙ lengths.list list.run
      long list.rows = length-replicate _ _ ∙ lengths.list list.rows

  cleared-blank : Blank (cleared m)
  unfolding cleared
  cleared-blank =
      record {
        rings = λ x. get_d-equals (length m.rings) x (copy 0 0);
        ends = zeros (length m.ends);
        counters = λ q. get_d-equals (length m.counters) q (pos 0);
      }

  cleared-filled : Filled root_copy p k m.weights (λ q. []) (cleared m)
  unfolding cleared
  cleared-filled = blank-filled root_copy p k slots m.weights (cleared m) cleared-lengths refl cleared-blank

  module _ (one : 1 ≤ p) (few : length (roots (graph_in m)) ≤ p * capacity k) where
    abbrev rs : List ℕ
    rs = roots (graph_in m)

    abbrev b : Mem
    b = begun p k m

    begun-filled : Filled root_copy p k m.weights (λ q. to_ring p q 0 rs) b
    unfolding begun spares
    begun-filled =
        filled-laid root_copy p k m.weights (fixing p) (λ n t. record { weights = refl; rings = refl; ends = refl; counters = refl }) 0 rs
        (λ q. []) (cleared m) one
        (λ q h. omega (arith, to-fits p one k q rs few))
        cleared-filled

    -- what no root's updates touch is as it was cleared
    keeps : {A : Type 0} (f : Mem → A)
        → ((n t : ℕ) (m : Mem) → f (written (fixing p n t ++ join_ring p k (n % p) (n % p) (root_copy t) t m) m) ≡ f m) → f b ≡ f (cleared m)
    unfolding begun
    keeps f h = laid-keeps root_copy p k (fixing p) f h 0 rs (cleared m)

    -- "a root being begun with degree 1", another task with its number of predecessors
    degree-max : (t : ℕ) → t < tasks m → degree_in b t ≡ max 1 (length (preds_of (graph_in m) t))
    unfolding cleared weak_degrees written updated
    degree-max t h =
        ap (λ (l : List ℕ). get_or l t 0) (keeps (λ m. m.degrees) (λ n t m. refl))
        ∙ get_d_tabulate (tasks m) (λ t. max 1 (length (preds_of (graph_in m) t))) 0 t h

    -- the fixed words, as the roots are fixed one after the other
    fixed-words : b.fixed ≡ fix_all p 0 rs (replicate (length m.fixed) unfixed.0)
    unfolding begun cleared
    fixed-words = laid-fixed p k 0 rs (cleared m)

    once : (t : ℕ) → occ t rs ≤ 1
    once t = omega (arith, occ-roots (graph_in m) sound t, tally-le-one (dec_lt t (tasks m)))

    fixed-long : length (replicate (length m.fixed) unfixed.0) ≡ tasks m
    fixed-long = length-replicate _ _ ∙ lengths.list list.fixed

    fixed-root : (i t : ℕ) → i < p → 0 < occ t (roots_of p i m) → fixed_in b t ≡ i
    fixed-root i t h among =
        ap (λ (l : List ℕ). get_or l t 0) fixed-words
        ∙ fixed-dealt p one i t h 0 rs (replicate (length m.fixed) unfixed.0) (once t) (omega (arith, fixed-long, task)) among
      where
        task : t < tasks m
        task = ((roots-are (graph_in m) t).0 (omega (arith, among, occ-dealt p one t 0 rs, sum-prefix p (λ j. occ t (dealt p j 0 rs)) i h))).0

    fixed-none : (t : ℕ) → t < tasks m → 0 < length (preds_of (graph_in m) t) → fixed_in b t ≡ unfixed.0
    fixed-none t h inner =
        ap (λ (l : List ℕ). get_or l t 0) fixed-words
        ∙ fixed-other p 0 rs (replicate (length m.fixed) unfixed.0) t 0 (omega (arith, inner, occ-roots (graph_in m) sound t, tally-le-one (dec_lt t (tasks m))))
        ∙ get_or-replicate (length m.fixed) t unfixed.0 0 (omega (arith, h, lengths.list list.fixed))

    begun-laid-down : LaidDown p k m b
    unfolding cleared written updated
    begun-laid-down =
        record {
          weights = keeps (λ m. m.weights) (λ n t m. refl);
          pred_starts = keeps (λ m. m.pred_starts) (λ n t m. refl);
          preds = keeps (λ m. m.preds) (λ n t m. refl);
          succ_starts = keeps (λ m. m.succ_starts) (λ n t m. refl);
          succs = keeps (λ m. m.succs) (λ n t m. refl);
          degree = λ t h inner. degree-max t h ∙ max-eq_right (omega (arith, inner));
          root_degree = λ t h none. degree-max t h ∙ max-eq_left (omega (arith, none));
          fixed_root = fixed-root;
          fixed_none = fixed-none;
          own = laid-own root_copy p k slots m.weights one rs b begun-filled;
          empty = laid-empty root_copy p k slots m.weights one rs b begun-filled;
          own_counter = laid-own-counter root_copy p k slots m.weights one rs b begun-filled;
          other_counter = laid-other-counter root_copy p k slots m.weights one rs b begun-filled;
          head = laid-head root_copy p k slots m.weights one rs b begun-filled;
          tail = laid-tail root_copy p k slots m.weights one rs b begun-filled;
          count = laid-count root_copy p k slots m.weights one rs b begun-filled;
          slot = laid-slot root_copy p k slots m.weights one rs b begun-filled;
          buffers = keeps (λ m. m.buffers) (λ n t m. refl);
          executed = keeps (λ m. m.executed) (λ n t m. refl);
          run = keeps (λ m. m.run) (λ n t m. refl) ∙ rw (lengths.list list.run);
          rows = keeps (λ m. m.rows) (λ n t m. refl);
          lengths = begun-filled.lengths;
        }

-- what is laid down: the same graph, idle rows, no entry and no step counted, and the number of roots
module _ {p k : ℕ} {m b : Mem} (laid : LaidDown p k m b) where
  pub laid-graph : graph_in b ≡ graph_in m
  laid-graph = rw (laid.weights, laid.pred_starts, laid.preds)

  pub laid-row : (i : ℕ) → row_in b i ≡ idle
  laid-row i = ap (λ (rows : List WeakRow). get_or rows i idle) laid.rows ∙ get_d-equals (length m.rows) i idle

  pub laid-run : (x : ℕ) → x < 2 → ◌≡◌ {A = ℕ} (get_or b.run x 0) 0
  laid-run zero h = ap (λ (run : List ℕ). get_or run 0 0) laid.run
  laid-run (suc zero) h = ap (λ (run : List ℕ). get_or run 1 0) laid.run
  laid-run (suc (suc x)) h = absurd (omega (arith, h))

  -- "A third run word .. keeps R"
  pub laid-roots : roots_word b ≡ root_count m
  laid-roots = ap (λ (run : List ℕ). get_or run 2 0) laid.run ∙ length-roots (graph_in m)

  -- and "over N is damaged"
  pub laid-roots-few : roots_word b ≤ tasks b
  laid-roots-few =
      omega (
        arith,
        laid-roots,
        ap length laid.weights,
        sum-most (tasks m) (λ t. tally (ℕ_discrete (length (preds_of (graph_in m) t)) 0)) 1 (λ t h. tally-le-one (ℕ_discrete (length (preds_of (graph_in m) t)) 0)),
      )

  -- every fixed word is as a Release may read it: "65,535 before, else below P"
  pub laid-fixes : 1 ≤ p → (t : ℕ) → t < tasks m → (fixed_in b t ≡ unfixed.0) ⊎ (fixed_in b t < p)
  laid-fixes one t h = go (ℕ_discrete (length (preds_of (graph_in m) t)) 0)
    where
      rs : List ℕ
      rs = roots (graph_in m)

      at : (i : ℕ) × (i < p) × (0 < occ t (dealt p i 0 rs)) → fixed_in b t < p
      at (i, l, among) = rw (laid.fixed_root i t l among) l

      go : Dec (length (preds_of (graph_in m) t) ≡ 0) → (fixed_in b t ≡ unfixed.0) ⊎ (fixed_in b t < p)
      go (yes none) =
          inr (at (sum-find p (λ i. occ t (dealt p i 0 rs)) (omega (arith, (roots-are (graph_in m) t).1 (h, none), occ-dealt p one t 0 rs))))
      go (no inner) = inl (laid.fixed_none t h (omega (arith, inner)))

module _ (limits : Limits) (p k : ℕ) (m : Mem) (e : answer_says (begin limits p k m).answer ≡ accepted) where
  -- the memory that it leaves
  abbrev pub left : Mem
  left = (begin limits p k m).memory

  pub laid-down : LaidDown p k m left
  unfolding begin
  laid-down =
      let (f, g, few) = (begin-accepted limits p k m).0 e in
      rw (accepted-leaves (begin_answer limits p k m) (begun p k m) m e)
      (begun-laid-down p k m f.lengths (fits-sound g) (omega (arith, f.limits.two_slots)) f.limits.one_worker
      (rw (length-roots (graph_in m), capacity-is k) few))

  -- the successor table is the predecessor table reversed, "each task's successors rising": t is among u's successors exactly as often as u is among t's
  -- predecessors, each successor is a task, and u's successors rise
  pub begun-reversed : (u : ℕ) → u < tasks left
      → ((t : ℕ) → t < tasks left → occ t (part left.succ_starts left.succs u) ≡ occ u (part left.pred_starts left.preds t))
      × Good (tasks left) left.succ_starts left.succs u
      × Rising (part left.succ_starts left.succs u)
  begun-reversed =
      let d : LaidDown p k m left = laid-down in
      rw (d.weights, d.pred_starts, d.preds, d.succ_starts, d.succs)
      (λ u h. (
        λ t l. table-reversed (graph_in m) u t h l,
        table-good (graph_in m) u h,
        rw (succ-part (graph_in m) u h) (succs-rise (graph_in m) ((begin-accepted limits p k m).0 e).1.graph u),
      ))
