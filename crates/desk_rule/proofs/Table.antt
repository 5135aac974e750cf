-- PROMISE: "Proved together as one table about the definitions: the table's examples 3 to 6, 9 to 11, both edges N 0 (0 steps, begun is finished) and
-- two roots with P 2, K 2 (accepted), and the diamond above.", the diamond from its input lines to its printed lines.
use mathlib.Core.Path.{◌≡◌}
use Rattle.layout.specs.Layout.{Spells}
use Rattle.layout.specs.Tasks.{tables}
use Rattle.layout.proofs.Examples.{diamond_text}
use Rattle.layout.proofs.Examples as texts
use Rattle.rules.proofs.Examples.{diamond}
use Rattle.runs.proofs.Examples.{WholeTable, whole-table}
use Rattle.desk_rule.specs.Output.{desk_output}
use Rattle.desk_rule.proofs.Examples.{diamond_lines, examples}

pub record PaperTable : Type 0 where
  -- the examples of numbers, both edges, and the diamond's begin, its 16 steps and every word that they leave
  pub calls : WholeTable
  -- "Input lines `2`, `0 0 0`, `1 5 1 0`, `2 3 1 0`, `3 0 2 1 2`" spell that diamond's weights and predecessor tables
  pub spelled : Spells diamond_text (tables diamond.weights diamond.pred_starts diamond.preds)
  -- and "give in whole: `4 16`, `0 0`, `2 1`, `1 0`, `3 0`"
  pub printed : desk_output diamond_text ≡ diamond_lines

pub paper-table : PaperTable
paper-table = record { calls = whole-table; spelled = texts.diamond; printed = examples.diamond }
