-- How a call is made up, in either form of the rows: a step by value between the load and the store of the worker's row, and begin before the
-- rows are cleared, over all lists.
use Prim.Native.Nat.{ℕ, ◌<◌}
use mathlib.Core.Path.{◌≡◌, refl, sym, subst}
use mathlib.Core.List.{List}
use native.Mathlib.Omega.{arith}
use lib.ListN.{length, get_or}
use lib.IntN.{ℤ}
use Rattle.std.specs.Prelude.{Err, Ok}
use Rattle.task.specs.declared.refusal.Refusal.{Refusal}
use Rattle.task.specs.Refusals.{StepAnswer, Answer}
use Rattle.task.specs.Types.{idle}
use Rattle.task.specs.declared.Limits.{Limits}
use Rattle.task.specs.declared.Row.{Row}
use Rattle.task.specs.declared.Step.{Step}
use Rattle.task.specs.declared.Step.TheVariants.{Fetch, Start, Complete, Release}
use Rattle.rows.specs.Rows.{cleared_rows}
use Rattle.memory.specs.Field as list
use Rattle.memory.specs.Memory.{put}
use Rattle.rules.specs.Memory.{Mem, mem_of}
use Rattle.rules.specs.Plans.{result_of}
use Rattle.rules.specs.Begin.{begin}
use Rattle.rules.specs.Steps.{step}
use Rattle.admission.specs.Admission.{sizes_of, Judges, Knows, answer_of, rows_after, Stepped}
use Rattle.admission.specs.declared.Sizes.{Sizes}
use Rattle.admission.proofs.Rows.{refused-result}
use Rattle.fetch.specs.Fetch.{Fetches}
use Rattle.start.specs.Start.{Starts}
use Rattle.complete.specs.Complete.{Completes}
use Rattle.release.specs.Release.{tables_of, words_of, Lent, Releases}
use Rattle.begin.specs.Begin.{Begins}
use Rattle.begin.specs.declared.Begun.{Begun}

-- where 2, 1 and 7 pass, the worker has a row
pub row-there : (p k i : ℕ) (sizes : Sizes) (j : Answer) → Knows p k i sizes j → j ≡ (Ok tt) → (rows : ℕ) → sizes.rows ≡ rows → i < rows
row-there p k i sizes j known v rows e = let f = subst (Knows p k i sizes) v known in omega (arith, f.lengths.list list.rows, f.worker)

module _ (w ps p' ss s d r e : List ℕ) (c : List ℤ) (b x n : List ℕ) (rows : List Row) where
  abbrev lent : Mem
  lent = mem_of w ps p' ss s d r e c b x n rows

  module _ (sizes : Sizes) (measured : sizes ≡ sizes_of lent) where
    -- the lengths of the lists that a step is lent
    pub start-lent : length n ≡ sizes.run
    start-lent = rw measured

    pub fetch-lent : (length r ≡ sizes.rings) × ((length e ≡ sizes.ends) × (length n ≡ sizes.run))
    fetch-lent = rw measured (refl, (refl, refl))

    pub complete-lent : (length w ≡ sizes.weights)
        × ((length ss ≡ sizes.succ_starts) × ((length c ≡ sizes.counters)
        × ((length b ≡ sizes.buffers) × ((length x ≡ sizes.executed) × (length n ≡ sizes.run)))))
    complete-lent = rw measured (refl, (refl, (refl, (refl, (refl, refl)))))

    pub release-lent : Lent sizes (tables_of w ss s b) (words_of d r e c n)
    release-lent =
        rw measured
        (record {
          weights = refl;
          succ_starts = refl;
          succs = refl;
          buffers = refl;
          degrees = refl;
          rings = refl;
          ends = refl;
          counters = refl;
          run = refl;
        })

    module _ (limits : Limits) (p k i : ℕ) (j : Answer) (judges : Judges limits p k i sizes j) where
      pub judged-made : (step-name : Step) (why : Refusal) → j ≡ Err why → result_of (Err why) lent ≡ step limits p k i step-name lent
      judged-made step-name why v =
          refused-result limits p k i step-name lent why (subst (Judges limits p k i sizes) v judges step-name lent (sym measured))

      module _ (rows' : List Row) (row : Row) (a : Stepped) (y : StepAnswer) (loaded : row ≡ get_or rows i idle)
          (ended : (y ≡ answer_of a) × (rows' ≡ rows_after rows i a)) where
        pub start-made : (n' : List ℕ) → Starts p k i sizes j row n n' a
            → result_of y (put list.run n' (put list.rows rows' lent)) ≡ step limits p k i Start lent
        unfolding Starts
        start-made n' f = rw (ended.0, ended.1) (f limits lent judges (sym measured) (sym loaded))

        pub fetch-made : (e' n' : List ℕ) → Fetches p k i sizes j row r e e' n n' a
            → result_of y (put list.ends e' (put list.run n' (put list.rows rows' lent))) ≡ step limits p k i Fetch lent
        unfolding Fetches
        fetch-made e' n' f = rw (ended.0, ended.1) (f limits lent judges (sym measured) (sym loaded))

        pub complete-made : (c' : List ℤ) (b' x' n' : List ℕ) → Completes p k i sizes j row w ss c c' b b' x x' n n' a
            → result_of y (put list.counters c' (put list.buffers b' (put list.executed x' (put list.run n' (put list.rows rows' lent)))))
            ≡ step limits p k i Complete lent
        unfolding Completes
        complete-made c' b' x' n' f = rw (ended.0, ended.1) (f limits lent judges (sym measured) (sym loaded))

        pub release-made : (d' r' e' : List ℕ) (c' : List ℤ) (n' : List ℕ)
            → Releases p k i sizes j row (tables_of w ss s b) (words_of d r e c n) (words_of d' r' e' c' n') a
            → result_of y (put list.degrees d' (put list.rings r' (put list.ends e' (put list.counters c' (put list.run n' (put list.rows rows' lent))))))
            ≡ step limits p k i Release lent
        unfolding Releases
        release-made d' r' e' c' n' f = rw (ended.0, ended.1) (f limits lent judges (sym measured) (sym loaded))

  pub begin-made : (limits : Limits) (p k : ℕ) (rows' : List Row) (a : Begun) (ss' s' d' r' e' : List ℕ) (c' : List ℤ) (b' x' n' : List ℕ) (count : ℕ) → length rows ≡ count
      → rows' ≡ cleared_rows a.rows rows
      → Begins limits p k count (mem_of w ps p' ss s d r e c b x n) (mem_of w ps p' ss' s' d' r' e' c' b' x' n') a
      → result_of a.answer (mem_of w ps p' ss' s' d' r' e' c' b' x' n' rows') ≡ begin limits p k lent
  begin-made limits p k rows' a ss' s' d' r' e' c' b' x' n' count counted cleared f = rw cleared (f.0 rows counted)
