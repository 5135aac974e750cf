-- Words that several weak steps read, of a job of n tasks and e edges.
use Rattle.std.specs.Prelude.{ℕ, ◌+◌, ◌*◌, Bool, cond, ◌&&◌, ◌||◌, List, get_or, leb, ltb, eqb, Result, Ok, Err}
use Rattle.task.specs.Types.{nil}
use Rattle.task.specs.declared.refusal.Damaged.{Damaged}
use Rattle.weak_task.specs.Types.{Copy}

-- the rules' `copy_fits`, for n tasks
abbrev pub copy_within : ℕ → Copy → Bool
copy_within n c = ltb c.task n && (eqb c.predecessor nil.0 || ltb c.predecessor n)

-- the accepted word, unless it or R is damaged
abbrev pub Counted : Type 0
Counted = Result ℕ Damaged

-- "the accepted word is read last of all", R "just before": the accepted word, where both are in their ranges
unfoldable pub count_of : ℕ → ℕ → List ℕ → Counted
count_of n e run = cond (leb (get_or run 2 0) n) (cond (ltb (get_or run 1 0) (4 * e + 3 * get_or run 2 0)) (Ok (get_or run 1 0)) (Err (record {}))) (Err (record {}))
