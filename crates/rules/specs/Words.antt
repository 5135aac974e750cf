-- "Damaged, for a word the rule reads": the range of each word, as the test that a read passes. Those of the run words are a plain job's own.
use Rattle.std.specs.Prelude.{Bool, ltb, leb}
use Rattle.rules.specs.Memory.{Mem, all_steps, all_entries, entries_in, accepted_in}
pub use Rattle.plans.specs.Words.{ends_fit, task_fits, phase_fits, pointer_fits, counter_fits, degree_fits, places_fit, join_fits, cursor_fits, range_fits, weight_fits}
unfoldable pub use Rattle.plans.specs.Words.{counters_fit}

-- "entries over N"
abbrev pub entries_fit : Mem → Bool
entries_fit m = leb (entries_in m) (all_entries m)

-- "accepted word 3N+E or more"
abbrev pub accepted_fits : Mem → Bool
accepted_fits m = ltb (accepted_in m) (all_steps m)
