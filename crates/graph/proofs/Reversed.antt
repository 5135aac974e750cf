-- PROMISES: the successor table is the predecessor table read the other way round, each task's successors rising; and the roots are the tasks
-- without predecessors.
use Prim.Native.Nat.{ℕ, ◌+◌, ◌-◌, ◌≤◌, ◌<◌, min}
use mathlib.Core.Path.{◌≡◌, refl, sym, ap, ◌∙◌}
use mathlib.Core.List.{List, [], ◌∷◌}
use mathlib.Core.Bool.{cond}
use mathlib.Core.Logic.{◌↔◌}
use native.Mathlib.Omega.{arith}
use native.Mathlib.Numerals.{add-one}
use native.Mathlib.Decide.{ℕ_discrete, dec_lt}
use lib.ListN.{length, get_or, take, drop, replicate, length-replicate, get_or-eq_default}
use Rattle.lists.specs.Decided.{holds, tally}
use Rattle.lists.specs.Lists.{occ, all_of, Rising}
use Rattle.lists.specs.Sums.{sum_to, sum_of}
use Rattle.lists.proofs.Appends.{no-members}
use Rattle.lists.proofs.Decided.{stable}
use Rattle.lists.proofs.Occurrences.{occ-nil, occ-hit, occ-miss, occ-joined, occ-replicate, occ-replicate-other}
use Rattle.lists.proofs.Sums.{sum-find, sum_same, sum-zero, sum-only, sum-suc, sum-prefix, length-joined, length-occ, sum_of-all}
use Rattle.lists.proofs.Blocks.{length-tabulate, get_d_tabulate, block_at, occ-all, joined-rises}
use Rattle.graph.specs.Graph.{Among, part, Graph, graph_of, edge_count, preds_of}
use Rattle.graph.specs.Conditions.{Good, Acceptable, Sound}
use Rattle.graph.specs.Successors.{succs_below, succs_of, succ_start, succ_starts_of, succ_words, degree_list, roots}
use Rattle.graph.specs.Lookup.{lent_of, starts_on, words_on, LookupFits}
use Rattle.task.specs.declared.Side.{Side}
use Rattle.task.specs.declared.Side.TheVariants.{Predecessors, Successors}
use Rattle.graph.proofs.Parts.{occ-preds, preds-below, preds-beyond, preds-none}

module _ (g : Graph) where
  -- t is among u's successors below n as often as u is among t's predecessors
  occ-below : (n u t : ℕ) → t < n → occ t (succs_below g n u) ≡ occ u (preds_of g t)
  unfolding succs_below
  occ-below n u t h =
      occ-joined ℕ_discrete t n (λ s. replicate (occ u (preds_of g s)) s)
      ∙ sum-only n (λ s. occ t (replicate (occ u (preds_of g s)) s)) t h (λ s m. occ-replicate-other ℕ_discrete t s (occ u (preds_of g s)) (λ e. m (sym e)))
      ∙ occ-replicate ℕ_discrete t t (occ u (preds_of g t)) refl

  occ-above : (n u t : ℕ) → n ≤ t → occ t (succs_below g n u) ≡ 0
  unfolding succs_below
  occ-above n u t h =
      occ-joined ℕ_discrete t n (λ s. replicate (occ u (preds_of g s)) s)
      ∙ sum-zero n (λ s. occ t (replicate (occ u (preds_of g s)) s)) (λ s l. occ-replicate-other ℕ_discrete t s (occ u (preds_of g s)) (λ e. omega arith))

  -- t is among u's successors exactly as often as u is among t's predecessors
  reversed : (u t : ℕ) → t < g.tasks → occ t (succs_of g u) ≡ occ u (preds_of g t)
  reversed u t h = occ-below g.tasks u t h

  -- a successor is a task
  succs-below : (u t : ℕ) → Among t (succs_of g u) → t < g.tasks
  succs-below u t h = go (dec_lt t g.tasks)
    where
      go : Dec (t < g.tasks) → t < g.tasks
      go (yes l) = l
      go (no m) = absurd (omega (arith, occ-above g.tasks u t (omega arith)))

  pub length-succs_below : (n u : ℕ) → length (succs_below g n u) ≡ sum_to n (λ t. occ u (preds_of g t))
  unfolding succs_below
  length-succs_below n u =
      length-joined n (λ s. replicate (occ u (preds_of g s)) s) ∙ sum_same n (λ t. occ u (preds_of g t)) (λ t. length (replicate (occ u (preds_of g t)) t)) (λ t l. length-replicate (occ u (preds_of g t)) t)

  -- u's part of the successor table is u's successors
  pub succ-part : (u : ℕ) → u < g.tasks → part (succ_starts_of g) (succ_words g) u ≡ succs_of g u
  unfolding part succ_starts_of succ_words succ_start
  succ-part u h =
      let a : get_or (succ_starts_of g) u 0 ≡ succ_start g u = get_d_tabulate (g.tasks + 1) (succ_start g) 0 u (omega arith) in
      let b : get_or (succ_starts_of g) (u + 1) 0 ≡ succ_start g (u + 1) = get_d_tabulate (g.tasks + 1) (succ_start g) 0 (u + 1) (omega arith) in
      let c : succ_start g (u + 1) ≡ succ_start g u + length (succs_of g u) = ap (succ_start g) (add-one u) ∙ sum-suc u (λ v. length (succs_of g v)) in
      let w : get_or (succ_starts_of g) (u + 1) 0 - get_or (succ_starts_of g) u 0 ≡ length (succs_of g u) = omega (arith, a, b, c) in
      ap (λ (k : ℕ). take k (drop (get_or (succ_starts_of g) u 0) (succ_words g))) w
      ∙ ap (λ (k : ℕ). take (length (succs_of g u)) (drop k (succ_words g))) a
      ∙ block_at (succs_of g) g.tasks u h

  start-at : (u : ℕ) → u ≤ g.tasks → get_or (succ_starts_of g) u 0 ≡ succ_start g u
  unfolding succ_starts_of
  start-at u h = get_d_tabulate (g.tasks + 1) (succ_start g) 0 u (omega arith)

  -- the same of the table itself
  pub table-reversed : (u t : ℕ) → u < g.tasks → t < g.tasks → occ t (part (succ_starts_of g) (succ_words g) u) ≡ occ u (preds_of g t)
  table-reversed u t h k = ap (occ t) (succ-part u h) ∙ reversed u t k

  -- the table is sound: its ranges rise inside it and its words are tasks
  pub table-good : (u : ℕ) → u < g.tasks → Good g.tasks (succ_starts_of g) (succ_words g) u
  unfolding succ_start succ_words
  table-good u h =
      let c : succ_start g (u + 1) ≡ succ_start g u + length (succs_of g u) = ap (succ_start g) (add-one u) ∙ sum-suc u (λ v. length (succs_of g v)) in
      record {
        rises = omega (arith, start-at u (omega arith), start-at (u + 1) (omega arith), c);
        inside = omega (arith, start-at (u + 1) (omega arith), c, sum-prefix g.tasks (λ v. length (succs_of g v)) u h, length-joined g.tasks (succs_of g));
        below = λ t k. succs-below u t (rw (succ-part u h) at k);
      }

  pub length-succ_starts : length (succ_starts_of g) ≡ g.tasks + 1
  unfolding succ_starts_of
  length-succ_starts = length-tabulate (g.tasks + 1) (succ_start g)

  pub length-degrees : length (degree_list g) ≡ g.tasks
  unfolding degree_list
  length-degrees = length-tabulate g.tasks (λ t. length (preds_of g t))

  module _ (s : Sound g) where
    -- u has as many successors as it is a predecessor
    pub length-succs : (u : ℕ) → length (succs_of g u) ≡ occ u g.preds
    length-succs u = length-succs_below g.tasks u ∙ sym (occ-preds s u)

    -- what is no task has no successors
    pub succs-none : (u : ℕ) → g.tasks ≤ u → succs_of g u ≡ []
    succs-none u h = no-members (succs_of g u) (length-succs u ∙ preds-beyond s u h)

    -- so of any two numbers one is the other's successor as often as that is its predecessor
    pub reversed-all : (u t : ℕ) → occ t (succs_of g u) ≡ occ u (preds_of g t)
    reversed-all u t = go (dec_lt t g.tasks)
      where
        go : Dec (t < g.tasks) → occ t (succs_of g u) ≡ occ u (preds_of g t)
        go (yes h) = reversed u t h
        go (no m) =
            occ-above g.tasks u t (omega arith) ∙ sym (ap (occ u) (preds-none s t (omega arith)) ∙ occ-nil ℕ_discrete u)

    -- the table of degrees, read anywhere
    pub degree-read : (t : ℕ) → get_or (degree_list g) t 0 ≡ length (preds_of g t)
    unfolding degree_list
    degree-read t = go (dec_lt t g.tasks)
      where
        go : Dec (t < g.tasks) → get_or (degree_list g) t 0 ≡ length (preds_of g t)
        go (yes h) = get_d_tabulate g.tasks (λ u. length (preds_of g u)) 0 t h
        go (no m) =
            get_or-eq_default (degree_list g) 0 {n = t} (omega (arith, length-degrees)) ∙ sym (ap length (preds-none s t (omega arith)))

    -- there are as many successors as predecessors
    pub length-succ_words : length (succ_words g) ≡ edge_count g
    unfolding succ_words
    length-succ_words =
        length-joined g.tasks (succs_of g)
        ∙ sum_same g.tasks (λ u. occ u g.preds) (λ u. length (succs_of g u)) (λ u l. length-succs u)
        ∙ sym (length-occ g.tasks g.preds (preds-below s))

    -- as many as the graph has edges: the successors of all tasks together
    pub all_edges : sum_of (λ u. length (succs_of g u)) (all_of g.tasks) ≡ edge_count g
    unfolding succ_words
    all_edges =
        sum_of-all (λ u. length (succs_of g u)) g.tasks (all_of g.tasks) (occ-all g.tasks)
        ∙ sym (length-joined g.tasks (succs_of g)) ∙ length-succ_words

    -- and it runs from 0 to E
    pub table-ends : (◌≡◌ {A = ℕ} (get_or (succ_starts_of g) 0 0) 0) × (get_or (succ_starts_of g) g.tasks 0 ≡ edge_count g)
    unfolding succ_start sum_to succ_words
    table-ends = (start-at 0 (omega arith), start-at g.tasks (omega arith) ∙ sym (length-joined g.tasks (succs_of g)) ∙ length-succ_words)

  -- "each task's successors rising"
  module _ (a : Acceptable g) where
    pub succs-rise : (u : ℕ) → Rising (succs_of g u)
    unfolding succs_below
    succs-rise u =
        joined-rises g.tasks (λ t. replicate (occ u (preds_of g t)) t) (λ t h. omega (arith, a.once t u h, length-replicate (occ u (preds_of g t)) t))
        (λ t v h k. stable (ℕ_discrete v t) (λ n. omega (arith, occ-replicate-other ℕ_discrete v t (occ u (preds_of g t)) n)))

-- a number that is kept or not
module _ {A : Type 0} (k : ℕ) where
  kept-own : (d : Dec A) (u : ℕ) → Among u (cond (holds d) (k ∷ []) []) → (u ≡ k) × A
  kept-own (yes a) u h = (stable (ℕ_discrete u k) (λ n. omega (arith, occ-miss ℕ_discrete u k [] n, occ-nil ℕ_discrete u)), a)
  kept-own (no n) u h = absurd (omega (arith, occ-nil ℕ_discrete u))

  kept-one : (d : Dec A) → length (cond (holds d) (k ∷ []) []) ≤ 1
  kept-one (yes a) = omega arith
  kept-one (no n) = omega arith

  kept-tally : (d : Dec A) → length (cond (holds d) (k ∷ []) []) ≡ tally d
  kept-tally (yes a) = refl
  kept-tally (no n) = refl

  kept-has : (d : Dec A) → A → Among k (cond (holds d) (k ∷ []) [])
  kept-has (yes a) b = omega (arith, occ-hit ℕ_discrete k k [] refl)
  kept-has (no n) b = absurd (n b)

  kept-other : (d : Dec A) (u : ℕ) → ¬ (u ≡ k) → occ u (cond (holds d) (k ∷ []) []) ≡ 0
  kept-other d u m = stable (ℕ_discrete (occ u (cond (holds d) (k ∷ []) [])) 0) (λ n. m (kept-own d u (omega (arith, n))).0)

-- where t isn't kept, the count n isn't 0
kept-or : (n : ℕ) (d : Dec (n ≡ 0)) (t : ℕ) → min 1 n + occ t (cond (holds d) (t ∷ []) []) ≡ 1
kept-or n (yes e) t = omega (arith, occ-hit ℕ_discrete t t [] refl, occ-nil ℕ_discrete t)
kept-or n (no m) t = omega (arith, occ-nil ℕ_discrete t)

module _ (g : Graph) where
  root? : (t : ℕ) → Dec (length (preds_of g t) ≡ 0)
  root? t = ℕ_discrete (length (preds_of g t)) 0

  -- "The roots (degree 0) are taken rising"
  pub roots-rise : Rising (roots g)
  unfolding roots root?
  roots-rise = joined-rises g.tasks (λ t. cond (holds (root? t)) (t ∷ []) []) (λ t h. kept-one t (root? t)) (λ t u h k. (kept-own t (root? t) u k).0)

  -- how often t is among them
  kept : ℕ → ℕ → ℕ
  kept t k = occ t (cond (holds (root? k)) (k ∷ []) [])

  roots-total : (t : ℕ) → occ t (roots g) ≡ sum_to g.tasks (kept t)
  unfolding roots root? kept
  roots-total t = occ-joined ℕ_discrete t g.tasks (λ k. cond (holds (root? k)) (k ∷ []) [])

  -- and they are the tasks without predecessors
  pub roots-are : (t : ℕ) → Among t (roots g) ↔ ((t < g.tasks) × (length (preds_of g t) ≡ 0))
  unfolding root? kept
  roots-are t = (
    λ h. to (sum-find g.tasks (kept t) (omega (arith, roots-total t))),
    λ p. omega (arith, roots-total t, sum-prefix g.tasks (kept t) t p.0, kept-has t (root? t) p.1),
  )
    where
      to : (k : ℕ) × (k < g.tasks) × (0 < kept t k) → (t < g.tasks) × (length (preds_of g t) ≡ 0)
      to w = let p = kept-own w.0 (root? w.0) t w.2 in rw p.0 (w.1, p.1)

  -- a task is a root or it has predecessors
  pub occ-roots : Sound g → (t : ℕ) → min 1 (length (preds_of g t)) + occ t (roots g) ≡ tally (dec_lt t g.tasks)
  unfolding root? kept
  occ-roots s t = go (dec_lt t g.tasks)
    where
      go : (d : Dec (t < g.tasks)) → min 1 (length (preds_of g t)) + occ t (roots g) ≡ tally d
      go (yes h) =
          omega (
            arith,
            roots-total t,
            sum-only g.tasks (kept t) t h (λ u m. kept-other u (root? u) t (λ e. m (sym e))),
            kept-or (length (preds_of g t)) (root? t) t,
          )
      go (no m) =
          omega (
            arith,
            roots-total t,
            sum-zero g.tasks (kept t) (λ u h. kept-other u (root? u) t (λ e. omega arith)),
            ap length (preds-none s t (omega arith)),
          )

  -- each of them once
  pub length-roots : length (roots g) ≡ sum_to g.tasks (λ t. tally (ℕ_discrete (length (preds_of g t)) 0))
  unfolding roots
  length-roots =
      length-joined g.tasks (λ t. cond (holds (ℕ_discrete (length (preds_of g t)) 0)) (t ∷ []) [])
      ∙ sum_same g.tasks (λ t. tally (ℕ_discrete (length (preds_of g t)) 0)) (λ t. length (cond (holds (ℕ_discrete (length (preds_of g t)) 0)) (t ∷ []) []))
      (λ t h. kept-tally t (ℕ_discrete (length (preds_of g t)) 0))

-- beside a sound graph's successor table every task's neighbours can be looked up on both sides
pub table-lookup : (weights starts preds : List ℕ) → Sound (graph_of (length weights) starts preds) → (side : Side) (t : ℕ) → t < length weights
    → LookupFits side (lent_of weights starts preds (succ_starts_of (graph_of (length weights) starts preds)) (succ_words (graph_of (length weights) starts preds))) t
table-lookup weights starts preds s side t h =
    record {
      tasks = s.sized.tasks;
      edges = s.sized.edges;
      pred_starts = s.sized.starts;
      succ_starts = length-succ_starts (graph_of (length weights) starts preds);
      succs = length-succ_words (graph_of (length weights) starts preds) s;
      task = h;
      good = on side;
    }
  where
    on : (d : Side) → Good (length weights) (starts_on d (lent_of weights starts preds (succ_starts_of (graph_of (length weights) starts preds)) (succ_words (graph_of (length weights) starts preds)))) (words_on d (lent_of weights starts preds (succ_starts_of (graph_of (length weights) starts preds)) (succ_words (graph_of (length weights) starts preds)))) t
    on Predecessors = s.good t h
    on Successors = table-good (graph_of (length weights) starts preds) t h
