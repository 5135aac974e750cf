use Rattle.std.specs.Prelude.{min}
use Rattle.task.specs.declared.TaskId.{TaskId}
use Rattle.task.specs.declared.Row.{Row}
use Rattle.task.specs.declared.Limits.{Limits}

-- "The mark NIL, 65,535, stands for "no task" in a worker's row"
abbrev pub nil : TaskId
nil = record { 0 = 65535 }

-- a worker's row as begin leaves it: "Everything is zeroed ..; held tasks become NIL"
abbrev pub idle : Row
idle = record { phase = 0; held = nil; pointer = record { 0 = 0 }; read = 0; write = 0; cursor = 0 }

-- "N at most 1,024. E edges, at most 8,192. .. P from 1 to 16. Each ring has K slots, K from 2 to 64"
abbrev pub engine : Limits
engine = record { tasks = 1024; edges = 8192; workers = 16; slots = 64 }

-- "takes N to 128, E to 512, P to 4, K to 8"
abbrev pub preview : Limits
preview = record { tasks = 128; edges = 512; workers = 4; slots = 8 }

-- a limit above the engine's counts as the engine's
unfoldable pub capped : Limits → Limits
capped l =
    record {
      tasks = min l.tasks engine.tasks;
      edges = min l.edges engine.edges;
      workers = min l.workers engine.workers;
      slots = min l.slots engine.slots;
    }
