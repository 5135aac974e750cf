-- The cases of begin of a weak job: refused, and the lists stay; accepted, and what the check has shown lets them be laid down.
use Prim.Native.Nat.{ℕ, ◌+◌, ◌*◌, ◌≤◌}
use mathlib.Core.Path.{◌≡◌, sym, ap, ◌∙◌}
use mathlib.Core.List.{List, append-nil}
use native.Mathlib.Omega.{arith}
use lib.IntN.{ℤ, pos}
use lib.ListN.{length, replicate, set, length-replicate}
use lib.Seq.{drop-length}
use Rattle.std.specs.Prelude.{Err, Ok}
use Rattle.task.specs.declared.refusal.Refusal.{Refusal}
use Rattle.task.specs.Types.{engine, capped}
use Rattle.task.specs.Refusals.{answer_says, Answer}
use Rattle.task.specs.declared.Limits.{Limits}
use Rattle.weak_task.specs.Types.{copy, idle}
use Rattle.weak_task.specs.declared.WeakRow.{WeakRow}
use Rattle.graph.specs.Graph.{Graph, graph_of}
use Rattle.graph.specs.Conditions.{Sound, GraphFits}
use Rattle.graph.specs.Successors.{succ_starts_of, succ_words, degree_list, roots}
use Rattle.graph.proofs.Accepted.{fits-sound}
use Rattle.graph.proofs.Reversed.{length-degrees, length-roots}
use Rattle.ring.specs.Ring.{ring_words, end_words}
use Rattle.ring.proofs.Ends.{capacity-is}
use Rattle.memory.specs.Field as list
use Rattle.plans.specs.Sizes.{Lengths, Fits}
use Rattle.weak_rules.specs.Memory.{Mem, mem_of}
use Rattle.weak_rules.specs.Tables.{root_count}
use Rattle.weak_rules.specs.Plans.{result_of}
use Rattle.weak_rules.specs.Begin.{cleared, begun, begin_answer, begin_result, begin}
use Rattle.weak_rules.proofs.Begin.{begin-accepted}
use Rattle.weak_rows.specs.Rows.{cleared_rows}
use Rattle.weak_rows.specs.Copies.{copies_of}
use Rattle.weak_rows.proofs.Copies.{length-copies}
use Rattle.weak_admission.specs.Admission.{sizes_of}
use Rattle.weak_admission.specs.declared.WeakSizes.{WeakSizes}
use Rattle.weak_admission.proofs.Laws.{blank}
use Rattle.roots.specs.Laying.{Job, Room}
use Rattle.roots.proofs.Laying.{roots-below}
use Rattle.weak_roots.specs.Laying.{Placed, Raised}
use Rattle.weak_roots.proofs.Degrees.{raised-degrees}
use Rattle.weak_begin_check.specs.Judging.{read_in, Judges}
use Rattle.weak_begin.specs.Begin.{Begins}

rows-cleared : (p : ℕ) (rs : List WeakRow) → length rs ≡ p → cleared_rows p rs ≡ replicate (length rs) idle
unfolding cleared_rows
rows-cleared p rs e = rw (← e, drop-length rs) (append-nil (replicate (length rs) idle))

-- the lent lengths in the memory's order, as the lists are below; the first three are those of the lists that are read
abbrev lent : (w s e : List ℕ) (ss sc d f r n c b x u rows : ℕ) → WeakSizes
lent w s e ss sc d f r n c b x u rows =
    record {
      weights = length w;
      pred_starts = length s;
      preds = length e;
      succ_starts = ss;
      succs = sc;
      degrees = d;
      fixed = f;
      rings = r;
      ends = n;
      counters = c;
      buffers = b;
      executed = x;
      run = u;
      rows = rows;
    }

-- what an accepted begin shows of the lengths and of the graph
module _ (limits : Limits) (p k : ℕ) (w s e : List ℕ) (ss sc d f r n c b x u rows : ℕ) (a : Answer)
    (judged : Judges limits p k (lent w s e ss sc d f r n c b x u rows) w s e a) (q : a ≡ (Ok tt)) where
  abbrev g : Graph
  g = graph_of (length w) s e

  -- the answer is that of any memory of these lengths
  abbrev some : Mem
  some = read_in (blank (lent w s e ss sc d f r n c b x u rows)) w s e

  some-sizes : sizes_of some ≡ lent w s e ss sc d f r n c b x u rows
  some-sizes = simp length-replicate

  fits : Fits limits p k some × GraphFits limits w s e × (root_count some ≤ p * k)
  unfolding begin
  fits = (begin-accepted limits p k some).0 (ap (λ (z : Answer). answer_says (begin_result z (begun p k some) some).answer) (sym (judged some some-sizes) ∙ q))

  lengths : Lengths p k some
  lengths = fits.0.lengths

  pub fillable : Sound g × ((ss ≡ length w + 1) × ((sc ≡ length e) × (d ≡ length w)))
  fillable = (
    fits-sound fits.1,
    (sym (length-replicate ss 0) ∙ lengths.list list.succ_starts, (sym (length-replicate sc 0) ∙ lengths.list list.succs, sym (length-replicate d 0) ∙ lengths.list list.degrees)),
  )

  fixed-are : f ≡ length w
  fixed-are = sym (length-replicate f 0) ∙ lengths.list list.fixed

  rings-are : r ≡ p * p * ring_words k
  rings-are = sym (length-replicate r (copy 0 0)) ∙ lengths.list list.rings

  ends-are : n ≡ p * p * end_words
  ends-are = sym (length-replicate n 0) ∙ lengths.list list.ends

  counters-are : c ≡ p * p
  counters-are = sym (length-replicate c (pos 0)) ∙ lengths.list list.counters

  rows_are : rows ≡ p
  rows_are = sym (length-replicate rows idle) ∙ lengths.list list.rows

  pub layable : (d' : List ℕ) (fixed : ℕ) (rings : List (List ℕ)) (ends : List ℕ) (counters : List ℤ) → d' ≡ degree_list g
      → fixed ≡ f → length rings ≡ r → length ends ≡ n → length counters ≡ c
      → Job p k w d' × (Room p k (copies_of rings) ends counters × (fixed ≡ length d'))
  unfolding capped
  layable d' fixed rings ends counters hd hf hr hn hc = (
    record {
      one_worker = fits.0.limits.one_worker;
      few_workers = omega (arith, fits.0.limits.few_workers);
      one_slot = omega (arith, fits.0.limits.two_slots);
      few_slots = omega (arith, fits.0.limits.few_slots);
      few_tasks = omega (arith, fits.0.limits.few_tasks, ap length hd, length-degrees g);
      weighed = sym (ap length hd ∙ length-degrees g);
      light = fits.1.light;
      few = rw (hd, roots-below g, length-roots g, capacity-is k) fits.2;
    },
    (
      record { rings = length-copies rings ∙ hr ∙ rings-are; ends = hn ∙ ends-are; counters = hc ∙ counters-are },
      hf ∙ fixed-are ∙ sym (ap length hd ∙ length-degrees g),
    ),
  )

  pub countable : (run : ℕ) → run ≡ u → (length w ≤ engine.tasks) × ((length s ≡ length w + 1) × (run ≡ 3))
  unfolding capped
  countable run h = (
    omega (arith, fits.0.limits.few_tasks),
    (lengths.list list.pred_starts, h ∙ sym (length-replicate u 0) ∙ lengths.list list.run),
  )

module _ (limits : Limits) (p k rows : ℕ) (w s e ss sc d f : List ℕ) (r : List (List ℕ)) (n : List ℕ) (c : List ℤ) (b x u : List ℕ) (a : Answer)
    (judged : Judges limits p k
    (lent w s e (length ss) (length sc) (length d) (length f) (length r) (length n) (length c) (length b) (length x) (length u) rows) w s e a) where
  abbrev before : List WeakRow → Mem
  before rs = mem_of w s e ss sc d f (copies_of r) n c b x u rs

  answer-is : (rs : List WeakRow) → length rs ≡ rows → begin_answer limits p k (before rs) ≡ a
  answer-is rs h = sym (judged (before rs) (rw (h, length-copies r)))

  pub begin-refused : (why : Refusal) → a ≡ Err why → Begins limits p k rows before before (record { answer = a; rows = 0 })
  unfolding begin cleared_rows
  begin-refused why q = (λ rs h. rw (answer-is rs h, q), omega arith)

  module _ (q : a ≡ (Ok tt)) (ss' sc' d₀ d' f' : List ℕ) (r' : List (List ℕ)) (n' : List ℕ) (c' : List ℤ) (b' x' u' : List ℕ)
      (hs : ss' ≡ succ_starts_of (graph_of (length w) s e)) (hw : sc' ≡ succ_words (graph_of (length w) s e)) (hd : d₀ ≡ degree_list (graph_of (length w) s e))
      (placed : Placed p k w d₀ (length d₀) f' (copies_of r') n' c') (raised : Raised d₀ d')
      (hb : b' ≡ replicate (length b) 0) (hx : x' ≡ replicate (length x) 0)
      (hu : (preds : List ℕ) → Sound (graph_of (length w) s preds) → u' ≡ set (replicate (length u) 0) 2 (length (roots (graph_of (length w) s preds)))) where
    abbrev after : List WeakRow → Mem
    after rs = mem_of w s e ss' sc' d' f' (copies_of r') n' c' b' x' u' rs

    rows_fit : rows ≡ p
    rows_fit = rows_are limits p k w s e _ _ _ _ _ _ _ _ _ _ _ a judged q

    fixed-fit : length (degree_list (graph_of (length w) s e)) ≡ length f
    fixed-fit = length-degrees (graph_of (length w) s e) ∙ sym (fixed-are limits p k w s e _ _ _ _ _ _ _ _ _ _ _ a judged q)

    laid-down : (rs : List WeakRow) → length rs ≡ rows → after (cleared_rows p rs) ≡ begun p k (before rs)
    unfolding begun cleared
    laid-down rs h =
        placed (after (cleared_rows p rs))
        ∙ rw (
          hs,
          hw,
          raised-degrees (graph_of (length w) s e) d₀ d' hd raised,
          hb,
          hx,
          hu e (fillable limits p k w s e _ _ _ _ _ _ _ _ _ _ _ a judged q).0,
          hd,
          roots-below (graph_of (length w) s e),
          fixed-fit,
          length-copies r,
          ← rings-are limits p k w s e _ _ _ _ _ _ _ _ _ _ _ a judged q,
          ← ends-are limits p k w s e _ _ _ _ _ _ _ _ _ _ _ a judged q,
          ← counters-are limits p k w s e _ _ _ _ _ _ _ _ _ _ _ a judged q,
          rows-cleared p rs (h ∙ rows_fit),
        )

    pub begin-laid : Begins limits p k rows before after (record { answer = a; rows = p })
    unfolding begin
    begin-laid = (λ rs h. rw (answer-is rs h, q) (ap (result_of (Ok tt)) (laid-down rs h)), omega (arith, rows_fit))
