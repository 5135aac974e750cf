-- PROMISE: "all lent memory keeps its words", as a host reads it: an exported weak call whose reply has a number of 1 or more leaves every word of every
-- lent list, whatever these hold. A slot is lent as a cell of two words and a row as one of seven, as the types of the lists say.
use mathlib.Core.Path.{◌≡◌, ap, ◌∙◌}
use mathlib.Core.List.{List}
use Prim.Native.Nat.{ℕ}
use Rattle.weak_rules.specs.Memory.{Mem}
use Rattle.weak_rows.proofs.Cells.{CellsOf}
use Rattle.weak_rows.proofs.Laws.{rows_words}
use Rattle.weak_rows.proofs.Copies.{copies-words}
use Rattle.weak_runs.proofs.Calls.{weak-laws}
use Rattle.hosts.proofs.Made.{refused-made}
use Rattle.weak_hosts.specs.Heard.{step_heard}
use Rattle.weak_hosts.specs.Exports.{Export, Contract, Refuses}
use Rattle.weak_hosts.specs.Lists.{Lists, memory_from}
use Rattle.weak_hosts.proofs.Heard.{step-heard-refused}
use Rattle.weak_hosts.proofs.Exports.{linked}

-- of the memory that they are: begin, the four steps and the lookup's judging call, with any limits, and the calls that write nothing
pub refused-export : (m m' : Mem) (c : Export) → Contract m c m' → Refuses c → m' ≡ m
refused-export = refused-made weak-laws step_heard Contract linked (λ r. r.number) (λ r. r.detail) step-heard-refused

-- lists as the types say
pub record Celled (l : Lists) : Type 0 where
  pub slots : CellsOf 2 l.rings
  pub rows : CellsOf 7 l.rows

-- of the lists themselves: at exit they are what they were at entry
pub untouched : (before after : Lists) → Celled before → Celled after → (c : Export)
    → Contract (memory_from before) c (memory_from after) → Refuses c → after ≡ before
untouched before after cells cells' c contract refuses =
    ap (λ m. lists_with m after.rings after.rows) same
    ∙ ap (λ slots. lists_with (memory_from before) slots after.rows)
    (copies-words after.rings before.rings cells'.slots cells.slots (ap (λ (m : Mem). m.rings) same))
    ∙ ap (lists_with (memory_from before) before.rings)
    (rows_words after.rows before.rows cells'.rows cells.rows (ap (λ (m : Mem). m.rows) same))
  where
    same : memory_from after ≡ memory_from before
    same = refused-export (memory_from before) (memory_from after) c contract refuses

    lists_with : Mem → List (List ℕ) → List (List ℕ) → Lists
    lists_with m slots cells =
        record {
          weights = m.weights;
          pred_starts = m.pred_starts;
          preds = m.preds;
          succ_starts = m.succ_starts;
          succs = m.succs;
          degrees = m.degrees;
          fixed = m.fixed;
          rings = slots;
          ends = m.ends;
          counters = m.counters;
          buffers = m.buffers;
          executed = m.executed;
          run = m.run;
          rows = cells;
        }
