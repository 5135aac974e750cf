-- The row is the phase's, and the entry is the rule's.
use mathlib.Core.Path.{◌≡◌}
use native.Mathlib.Omega.{arith}
use Rattle.task.specs.declared.Step.TheVariants.{Fetch, Start, Complete, Release}
use Rattle.task.proofs.PhaseTable.{row_of, row-of, no_row, column-of}
use Rattle.task.proofs.next_phase.Goals as goal
use Rattle.task.proofs.next_phase.Goals.{Joined-phase, in-0, in-1, in-2, in_default}

row_is : (m : Joined-phase) → m.match-phase.row ≡ row_of m.args.phase
row_is m = elim m.match-phase.branch [
  | in-0 w ↦ row-of _ _ 0 (omega arith) (omega arith) w.row-is
  | in-1 w ↦ row-of _ _ 1 (omega arith) (omega arith) w.row-is
  | in-2 w ↦ row-of _ _ 2 (omega arith) (omega arith) w.row-is
  | in_default w ↦ no_row _ _ (omega arith) w.row-is
]

pub returns-in-Fetch : goal.returns-in-Fetch
returns-in-Fetch c = column-of _ _ _ (row_is (goal.at.returns-in-Fetch c).Joined-phase) Fetch c.in-Fetch.is

pub returns-in-Start : goal.returns-in-Start
returns-in-Start c = column-of _ _ _ (row_is (goal.at.returns-in-Start c).Joined-phase) Start c.in-Start.is

pub returns-in-Complete : goal.returns-in-Complete
returns-in-Complete c = column-of _ _ _ (row_is (goal.at.returns-in-Complete c).Joined-phase) Complete c.in-Complete.is

pub returns-in-Release : goal.returns-in-Release
returns-in-Release c = column-of _ _ _ (row_is (goal.at.returns-in-Release c).Joined-phase) Release c.in-Release.is
