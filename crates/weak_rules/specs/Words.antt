-- "Damaged, for a word the rule reads": the ranges of the words that a weak job alone has, as the test that a read passes.
use Rattle.std.specs.Prelude.{ℕ, Bool, ◌&&◌, ◌||◌, ltb, leb, eqb}
use Rattle.task.specs.Types.{nil}
use Rattle.weak_task.specs.Types.{Copy, unfixed}
use Rattle.weak_rules.specs.Memory.{Mem, tasks, roots_word, all_steps, all_entries, entries_in, accepted_in}
pub use Rattle.plans.specs.Words.{ends_fit, task_fits, phase_fits, pointer_fits, counter_fits, degree_fits, places_fit, join_fits, cursor_fits, range_fits, weight_fits}
unfoldable pub use Rattle.plans.specs.Words.{counters_fit}

-- "a predecessor word neither NIL nor below N is damaged"
abbrev pub predecessor_fits : Mem → ℕ → Bool
predecessor_fits m word = eqb word nil.0 || ltb word (tasks m)

-- "ring .. held .. word ≥ N", and the predecessor beside it
abbrev pub copy_fits : Mem → Copy → Bool
copy_fits m c = ltb c.task (tasks m) && predecessor_fits m c.predecessor

-- "65,535 before, else below P or damaged"
abbrev pub fixed_fits : ℕ → ℕ → Bool
fixed_fits p word = eqb word unfixed.0 || ltb word p

-- "keeps R (over N is damaged)"
abbrev pub roots_fit : Mem → Bool
roots_fit m = leb (roots_word m) (tasks m)

-- entries over E + R
abbrev pub entries_fit : Mem → Bool
entries_fit m = leb (entries_in m) (all_entries m)

-- accepted word 4E + 3R or more
abbrev pub accepted_fits : Mem → Bool
accepted_fits m = ltb (accepted_in m) (all_steps m)
