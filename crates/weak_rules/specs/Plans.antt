-- A step of a weak job reads and checks everything, and then it writes: a plan says which.
use Rattle.std.specs.Prelude.{◌+◌, List, ◌∷◌, Err, Ok}
use Rattle.weak_task.specs.Says.{WeakAnswer}
use Rattle.weak_task.specs.declared.WeakOutcome.{WeakOutcome}
use Rattle.memory.specs.Updates.{written}
use Rattle.plans.specs.Plans as plans
pub use Rattle.plans.specs.Plans.{refuse, accept, require, refuse_if, checked, suited, result_of}
use Rattle.weak_rules.specs.Memory.{Mem, accepted_in}
use Rattle.weak_rules.specs.Words.{roots_fit, accepted_fits}
use Rattle.weak_rules.specs.Updates.{Update, put_accepted}

abbrev pub Plan : Type 0
Plan = plans.Plan WeakOutcome Update

-- "Each accepted step adds 1 to the accepted word"
abbrev pub with_count : Mem → List Update → List Update
with_count m us = put_accepted (accepted_in m + 1) ∷ us

-- "the accepted word is read last of all"; R is "read just before either other"
unfoldable pub counted : Mem → WeakOutcome → List Update → Plan
counted m o us = checked (roots_fit m) (checked (accepted_fits m) (accept o (with_count m us)))

-- a call's answer, and the memory that it leaves
abbrev pub Result : Type 0 → Type 0
Result A = plans.Result Mem A

-- "Answer: the number and a detail; all lent memory keeps its words."
unfoldable pub carried_out : Plan → Mem → Result WeakAnswer
carried_out (refuse why) m = record { answer = Err why; memory = m }
carried_out (accept o us) m = record { answer = Ok o; memory = written us m }
