-- How a weak step is made up, its slots and rows lent as cells: the lengths of the lent lists, and a step by value between the load and the
-- store of the worker's row, over all lists.
use Prim.Native.Nat.{ℕ, ◌<◌}
use mathlib.Core.Path.{◌≡◌, refl, sym, ap, subst, ◌∙◌}
use mathlib.Core.List.{List}
use native.Mathlib.Omega.{arith}
use lib.ListN.{length, get_or}
use lib.IntN.{ℤ}
use Rattle.std.specs.Prelude.{Err, Ok}
use Rattle.task.specs.Refusals.{Answer}
use Rattle.task.specs.declared.refusal.Refusal.{Refusal}
use Rattle.task.specs.declared.Limits.{Limits}
use Rattle.task.specs.declared.Step.{Step}
use Rattle.task.specs.declared.Step.TheVariants.{Fetch, Start, Complete, Release}
use Rattle.weak_task.specs.Types.{Copy, idle}
use Rattle.weak_task.specs.declared.WeakRow.{WeakRow}
use Rattle.weak_task.specs.declared.WeakOutcome.{WeakOutcome}
use Rattle.weak_task.specs.Says.{WeakAnswer}
use Rattle.memory.specs.Field as list
use Rattle.memory.specs.Memory.{put}
use Rattle.weak_rules.specs.Memory.{Mem}
use Rattle.weak_rules.specs.Plans.{result_of}
use Rattle.weak_rules.specs.Steps.{step}
use Rattle.weak_rows.specs.Rows.{rows_of, with_next, with_cursor, changed}
use Rattle.weak_rows.specs.Copies.{copies_of}
use Rattle.weak_rows.proofs.Laws.{length-rows, one-changed, two-changed}
use Rattle.weak_rows.proofs.Copies.{length-copies}
use Rattle.weak_admission.specs.Admission.{sizes_of, Judges, Knows, answer_of, rows_after, WeakStepped}
use Rattle.weak_admission.specs.declared.WeakSizes.{WeakSizes}
use Rattle.weak_admission.proofs.Rows.{refused-result}
use Rattle.weak_fetch.specs.Fetch.{Fetches}
use Rattle.weak_start.specs.Start.{Starts}
use Rattle.weak_complete.specs.Complete.{Completes}
use Rattle.weak_release.specs.Release.{tables_of, words_of, Lent, Releases}
use Rattle.weak_engine_cells.specs.Cells.{weak_cell_mem}

-- where 2, 1 and 7 pass, the worker has a row
pub row-there : (p k i : ℕ) (sizes : WeakSizes) (j : Answer) → Knows p k i sizes j → j ≡ (Ok tt) → (rows : ℕ) → sizes.rows ≡ rows → i < rows
row-there p k i sizes j known v rows e = let f = subst (Knows p k i sizes) v known in omega (arith, f.lengths.list list.rows, f.worker)

module _ (w ps p' ss s d f : List ℕ) (slots : List (List ℕ)) (e : List ℕ) (c : List ℤ) (b x n : List ℕ) (cells : List (List ℕ)) where
  abbrev lent : Mem
  lent = weak_cell_mem w ps p' ss s d f slots e c b x n cells

  -- a slot is two words, a row is seven
  pub sizes-made :
      record {
        weights = length w;
        pred_starts = length ps;
        preds = length p';
        succ_starts = length ss;
        succs = length s;
        degrees = length d;
        fixed = length f;
        rings = length slots;
        ends = length e;
        counters = length c;
        buffers = length b;
        executed = length x;
        run = length n;
        rows = length cells;
      }
      ≡ sizes_of lent
  sizes-made = rw (length-rows cells, length-copies slots)

  module _ (sizes : WeakSizes) (measured : sizes ≡ sizes_of lent) where
    -- as many rows as cells
    pub there : sizes.rows ≡ length cells
    there = ap (λ (z : WeakSizes). z.rows) measured ∙ length-rows cells

    -- the lengths of the lists that a step is lent
    pub start-lent : length n ≡ sizes.run
    start-lent = rw measured

    pub fetch-lent : (length slots ≡ sizes.rings) × ((length e ≡ sizes.ends) × (length n ≡ sizes.run))
    fetch-lent = rw measured (sym (length-copies slots), (refl, refl))

    pub complete-lent : (length w ≡ sizes.weights)
        × ((length ss ≡ sizes.succ_starts) × ((length d ≡ sizes.degrees) × ((length c ≡ sizes.counters)
        × ((length b ≡ sizes.buffers) × ((length x ≡ sizes.executed) × (length n ≡ sizes.run))))))
    complete-lent = rw measured (refl, (refl, (refl, (refl, (refl, (refl, refl))))))

    pub release-lent : Lent sizes (tables_of w ss s b) (words_of f (copies_of slots) e c n)
    release-lent =
        rw measured
        (record {
          weights = refl;
          succ_starts = refl;
          succs = refl;
          buffers = refl;
          fixed = refl;
          rings = refl;
          ends = refl;
          counters = refl;
          run = refl;
        })

    module _ (limits : Limits) (p k i : ℕ) (j : Answer) (judges : Judges limits p k i sizes j) where
      pub judged-made : (step-name : Step) (why : Refusal) → j ≡ Err why → result_of (Err why) lent ≡ step limits p k i step-name lent
      judged-made step-name why v =
          refused-result limits p k i step-name lent why (subst (Judges limits p k i sizes) v judges step-name lent (sym measured))

      module _ (rows' : List WeakRow) (row : WeakRow) (a : WeakStepped) (y : WeakAnswer) (loaded : row ≡ get_or (rows_of cells) i idle)
          (ended : (y ≡ answer_of a) × (rows' ≡ rows_after (rows_of cells) i a)) where
        pub start-made : (n' : List ℕ) → Starts p k i sizes j row n n' a
            → result_of y (put list.run n' (put list.rows rows' lent)) ≡ step limits p k i Start lent
        unfolding Starts
        start-made n' t = rw (ended.0, ended.1) (t limits lent judges (sym measured) (sym loaded))

        pub fetch-made : (e' n' : List ℕ) → Fetches p k i sizes j row (copies_of slots) e e' n n' a
            → result_of y (put list.ends e' (put list.run n' (put list.rows rows' lent))) ≡ step limits p k i Fetch lent
        unfolding Fetches
        fetch-made e' n' t = rw (ended.0, ended.1) (t limits lent judges (sym measured) (sym loaded))

        pub complete-made : (d' : List ℕ) (c' : List ℤ) (b' x' n' : List ℕ) → Completes p k i sizes j row w ss d d' c c' b b' x x' n n' a
            → result_of y (put list.degrees d' (put list.counters c' (put list.buffers b' (put list.executed x' (put list.run n' (put list.rows rows' lent))))))
            ≡ step limits p k i Complete lent
        unfolding Completes
        complete-made d' c' b' x' n' t = rw (ended.0, ended.1) (t limits lent judges (sym measured) (sym loaded))

        pub release-made : (f' : List ℕ) (r' : List Copy) (e' : List ℕ) (c' : List ℤ) (n' : List ℕ)
            → Releases p k i sizes j row (tables_of w ss s b) (words_of f (copies_of slots) e c n) (words_of f' r' e' c' n') a
            → result_of y (put list.fixed f' (put list.rings r' (put list.ends e' (put list.counters c' (put list.run n' (put list.rows rows' lent))))))
            ≡ step limits p k i Release lent
        unfolding Releases
        release-made f' r' e' c' n' t = rw (ended.0, ended.1) (t limits lent judges (sym measured) (sym loaded))

-- the end of an accepted step, whose row is stored by one part or two
module _ (cells : List (List ℕ)) (i : ℕ) (row : WeakRow) (h : i < length cells) (loaded : row ≡ get_or (rows_of cells) i idle)
    (a : WeakStepped) (o : WeakOutcome) (after : WeakRow) (v : a ≡ Ok (o, after)) where
  pub one-stored : (f : WeakRow → WeakRow) → after ≡ f row → (last : List WeakRow) → last ≡ changed f i (rows_of cells)
      → (Ok o ≡ answer_of a) × (last ≡ rows_after (rows_of cells) i a)
  one-stored f kept last l = rw v (refl, l ∙ one-changed (rows_of cells) i row loaded f f after kept)

  -- where the read place stays the cursor alone is stored
  pub cursor-stored : after ≡ with_next after.read after.cursor row → after.read ≡ row.read → (last : List WeakRow)
      → last ≡ changed (with_cursor after.cursor) i (rows_of cells) → (Ok o ≡ answer_of a) × (last ≡ rows_after (rows_of cells) i a)
  cursor-stored kept same = one-stored (with_cursor after.cursor) (kept ∙ ap (λ (n : ℕ). with_next n after.cursor row) same)

  pub two-stored : (f g : WeakRow → WeakRow) → after ≡ g (f row) → (mid last : List WeakRow) → mid ≡ changed f i (rows_of cells) → last ≡ changed g i mid
      → (Ok o ≡ answer_of a) × (last ≡ rows_after (rows_of cells) i a)
  two-stored f g kept mid last m l =
      rw v (refl, rw (l, m) (two-changed (rows_of cells) i row loaded f g after (rw (length-rows cells) h) kept))
