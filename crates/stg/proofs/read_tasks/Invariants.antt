-- The tables hold the tasks of the lines before, and the verdict is that over the rest of the text.
use mathlib.Core.List.{[]}
use lib.ListN.{drop}
use Rattle.layout.specs.Scan.{due_from}
use Rattle.layout.proofs.TableLaws.{SoFar}
use Rattle.stg.proofs.read_tasks.Given as goal

abbrev pub invariant-loop-t : goal.invariant-loop-t
invariant-loop-t l =
    SoFar (due_from (drop l.at_first l.text) l.line_first l.n []) l.text l.n l.weights l.starts l.preds l.at l.line l.t l.e
