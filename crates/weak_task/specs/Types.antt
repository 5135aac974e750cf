-- "copies (task, predecessor), two words each, an empty hand NIL twice; a root has one copy with NIL"; the word of a worker that isn't fixed.
use Rattle.std.specs.Prelude.{ℕ}
use Rattle.task.specs.Types.{nil}
use Rattle.task.specs.declared.WorkerId.{WorkerId}
use Rattle.weak_task.specs.declared.TaskCopy.{TaskCopy}
use Rattle.weak_task.specs.declared.WeakRow.{WeakRow}

-- a copy by its two numbers
pub record Copy : Type 0 where
  pub task : ℕ
  pub predecessor : ℕ

abbrev pub copy : ℕ → ℕ → Copy
copy t u = record { task = t; predecessor = u }

-- as the code has it, and back
abbrev pub copy_of : TaskCopy → Copy
copy_of c = copy c.task.0 c.predecessor.0

abbrev pub task_copy : Copy → TaskCopy
task_copy c = record { task = record { 0 = c.task }; predecessor = record { 0 = c.predecessor } }

abbrev pub no_copy : TaskCopy
no_copy = record { task = nil; predecessor = nil }

-- what a task's fixed word holds as long as it has no worker: "65,535 before"
abbrev pub unfixed : WorkerId
unfixed = record { 0 = 65535 }

-- a worker's row as begin leaves it
abbrev pub idle : WeakRow
idle = record { phase = 0; held = no_copy; pointer = record { 0 = 0 }; read = 0; write = 0; cursor = 0 }
