-- PROMISE: "Proved together as one table about the definitions: the table's examples 3 to 6, 9 to 11, both edges N 0 (0 steps, begun is finished) and
-- two roots with P 2, K 2 (accepted), and the diamond above."; 6, 11 and the roots as document 02's No. 5 has them: "four roots are accepted and five
-- refused; the example of 11 gains an edge 0→3". The rules' table has all of it but for "begun is finished", which is said of runs, and for the
-- diamond's input lines and printed lines: with these it stands in `crates/desk_rule/proofs/Table.antt`.
use Prim.Native.Nat.{ℕ}
use mathlib.Core.Path.{◌≡◌, refl}
use mathlib.Core.List.{[]}
use Rattle.task.specs.Types.{engine}
use Rattle.task.specs.Refusals.{accepted}
use Rattle.rules.proofs.Examples.{begin_says, nothing, Examples, examples}
use Rattle.runs.specs.Calls.{Run, events_of, view_of}
use Rattle.runs.specs.Demand.{accepted_steps, Finished}
use Rattle.runs.proofs.Corollaries.{nothing-finished}

-- the run on N 0, begun and not called
abbrev pub begun_alone : begin_says 1 2 nothing ≡ accepted → Run
begun_alone accepts = record { limits = engine; workers = 1; slots = 2; lent = nothing; accepts = accepts; calls = [] }

pub record WholeTable : Type 0 where
  -- 3 `three`, 4 `four`, 5 `five`, 6 `six`, 9 `nine`, 10 `ten`, 11 `eleven`, N 0 `no_steps` to `no_tasks`, two roots `rooted` and `roots_fetched`, four
  -- `four_rooted` and `four_fetched`, the diamond on lent lists `sixteen`, `listing`, `whole` and `steps`; and the other numbers of the table that
  -- steps and begin answer
  pub rows : Examples
  -- N 0: "0 steps, begun is finished"
  pub begun_finished : Finished (view_of (begun_alone rows.no_tasks.begins))
  pub no_steps : ◌≡◌ {A = ℕ} (accepted_steps (events_of (begun_alone rows.no_tasks.begins))) 0

pub whole-table : WholeTable
whole-table =
    record {
      rows = examples;
      begun_finished = (nothing-finished (begun_alone examples.no_tasks.begins) refl).0;
      no_steps = (nothing-finished (begun_alone examples.no_tasks.begins) refl).1;
    }
