-- What Release of a weak job by value does to the memory whose lists it is lent: worker i's row goes in and comes back.
use Rattle.std.specs.Prelude.{ℕ, ◌≡◌, List, length, ℤ, Err, Ok}
use Rattle.task.specs.Refusals.{Answer}
use Rattle.task.specs.declared.Limits.{Limits}
use Rattle.task.specs.declared.Step.TheVariants as step-name
use Rattle.weak_task.specs.Types.{Copy}
use Rattle.weak_task.specs.Rows.{with_places}
use Rattle.weak_task.specs.declared.WeakRow.{WeakRow}
use Rattle.memory.specs.Field as list
use Rattle.memory.specs.Memory.{put}
use Rattle.weak_rules.specs.Memory.{Mem, row_in}
use Rattle.weak_rules.specs.Plans.{result_of}
use Rattle.weak_rules.specs.Steps.{step}
use Rattle.weak_admission.specs.Admission.{sizes_of, Judges, answer_of, rows_after, WeakStepped}
use Rattle.weak_admission.specs.declared.WeakSizes.{WeakSizes}

-- the lists that Release reads alone
pub record Tables : Type 0 where
  pub weights : List ℕ
  pub succ_starts : List ℕ
  pub succs : List ℕ
  pub buffers : List ℕ

abbrev pub tables_of : List ℕ → List ℕ → List ℕ → List ℕ → Tables
tables_of w ss s b = record { weights = w; succ_starts = ss; succs = s; buffers = b }

-- those that it writes
pub record Words : Type 0 where
  pub fixed : List ℕ
  pub rings : List Copy
  pub ends : List ℕ
  pub counters : List ℤ
  pub run : List ℕ

abbrev pub words_of : List ℕ → List Copy → List ℕ → List ℤ → List ℕ → Words
words_of f r e c n = record { fixed = f; rings = r; ends = e; counters = c; run = n }

-- a memory with these lists
abbrev pub lent : Mem → Tables → Words → List WeakRow → Mem
lent m t x rows =
    put list.weights t.weights
    (put list.succ_starts t.succ_starts
    (put list.succs t.succs
    (put list.fixed x.fixed
    (put list.rings x.rings
    (put list.ends x.ends
    (put list.counters x.counters
    (put list.buffers t.buffers
    (put list.run x.run
    (put list.rows rows m)))))))))

-- whatever the other lists hold
unfoldable pub Releases : ℕ → ℕ → ℕ → WeakSizes → Answer → WeakRow → Tables → Words → Words → WeakStepped → Type 0
Releases p k i sizes judged row t x x' r =
    (limits : Limits) (m : Mem) → Judges limits p k i sizes judged → sizes_of (lent m t x m.rows) ≡ sizes → row_in m i ≡ row
    → result_of (answer_of r) (lent m t x' (rows_after m.rows i r)) ≡ step limits p k i step-name.Release (lent m t x m.rows)

-- the row keeps its words but the read place and the cursor: Release leads to the phase that it suits
abbrev pub ReadAndCursor : WeakRow → WeakStepped → Type 0
ReadAndCursor row (Err why) = Unit {0}
ReadAndCursor row (Ok (o, after)) = after ≡ with_places after.read row.write after.cursor row

-- the lists are of the lengths that `sizes` has for them
pub record Lent (sizes : WeakSizes) (t : Tables) (x : Words) : Type 0 where
  pub weights : length t.weights ≡ sizes.weights
  pub succ_starts : length t.succ_starts ≡ sizes.succ_starts
  pub succs : length t.succs ≡ sizes.succs
  pub buffers : length t.buffers ≡ sizes.buffers
  pub fixed : length x.fixed ≡ sizes.fixed
  pub rings : length x.rings ≡ sizes.rings
  pub ends : length x.ends ≡ sizes.ends
  pub counters : length x.counters ≡ sizes.counters
  pub run : length x.run ≡ sizes.run
