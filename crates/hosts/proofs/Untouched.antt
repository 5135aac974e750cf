-- PROMISE: "all lent memory keeps its words", as a host reads it: an exported call whose reply has a number of 1 or more leaves every word of every lent
-- list, whatever these hold. A row is lent as a cell of six words, as the type of the list says.
use mathlib.Core.Path.{◌≡◌, ap, ◌∙◌}
use mathlib.Core.List.{List}
use Prim.Native.Nat.{ℕ}
use Rattle.rules.specs.Memory.{Mem}
use Rattle.rows.proofs.Laws.{Sixes, rows_words}
use Rattle.runs.proofs.Calls.{plain-laws}
use Rattle.hosts.specs.Heard.{step_heard}
use Rattle.hosts.specs.Exports.{Export, Contract, Refuses}
use Rattle.hosts.specs.Lists.{Lists, memory_from}
use Rattle.hosts.proofs.Heard.{step-heard-refused}
use Rattle.hosts.proofs.Made.{refused-made}
use Rattle.hosts.proofs.Exports.{linked}

-- of the memory that they are: begin, the four steps and the lookup's judging call, with any limits, and the calls that write nothing
pub refused-export : (m m' : Mem) (c : Export) → Contract m c m' → Refuses c → m' ≡ m
refused-export = refused-made plain-laws step_heard Contract linked (λ r. r.number) (λ r. r.detail) step-heard-refused

-- of the lists themselves: at exit they are what they were at entry
pub untouched : (before after : Lists) → Sixes before.rows → Sixes after.rows → (c : Export)
    → Contract (memory_from before) c (memory_from after) → Refuses c → after ≡ before
untouched before after six six' c contract refuses =
    ap (λ m. lists_with m after.rows) same
    ∙ ap (lists_with (memory_from before)) (rows_words after.rows before.rows six' six (ap (λ (m : Mem). m.rows) same))
  where
    same : memory_from after ≡ memory_from before
    same = refused-export (memory_from before) (memory_from after) c contract refuses

    lists_with : Mem → List (List ℕ) → Lists
    lists_with m cells =
        record {
          weights = m.weights;
          pred_starts = m.pred_starts;
          preds = m.preds;
          succ_starts = m.succ_starts;
          succs = m.succs;
          degrees = m.degrees;
          rings = m.rings;
          ends = m.ends;
          counters = m.counters;
          buffers = m.buffers;
          executed = m.executed;
          run = m.run;
          rows = cells;
        }
