-- "Lent memory, in 32-bit words", and how its words are found.
use Rattle.std.specs.Prelude.{ℕ, ◌+◌, ◌*◌, false, List, [], ℤ}
use Rattle.task.specs.Types.{idle}
use Rattle.task.specs.declared.Row.{Row}
use Rattle.task.specs.declared.TaskId.{TaskId}
use Rattle.memory.specs.Family.{Family, Shape, Places}
use Rattle.memory.specs.Memory as memory
use Rattle.plans.specs.Memory as words
pub use Rattle.plans.specs.Memory.{tasks, edges, graph_in, ring_number, ends_in, rings_in, counter_in, weight_in, degree_in, first_succ, past_succ, succ_count, buffer_at, row_in, held, pointer_in, entries_in, accepted_in, oldest, successor}

-- a row with another phase and held task, another pointer, other buffer places and cursor
abbrev pub with_hand : ℕ → TaskId → Row → Row
with_hand phase held r =
    record { phase = phase; held = held; pointer = r.pointer; read = r.read; write = r.write; cursor = r.cursor }

abbrev pub with_pointer : ℕ → Row → Row
with_pointer pointer r =
    record { phase = r.phase; held = r.held; pointer = record { 0 = pointer }; read = r.read; write = r.write; cursor = r.cursor }

abbrev pub with_places : ℕ → ℕ → ℕ → Row → Row
with_places read write cursor r =
    record { phase = r.phase; held = r.held; pointer = r.pointer; read = read; write = write; cursor = cursor }

-- the row with these places
abbrev pub moved_to : Places → Row → Row
moved_to to r = with_places to.read to.write to.cursor r

-- "Execution record 2N (task, worker). Two run words"; the record has an entry for each task
abbrev pub plain_shape : Shape
plain_shape = record { entry_words = 2; entries = λ n e. n; run_words = 2; steps = λ n e. 3 * n + e; fixes = false }

-- a plain job: its items are its tasks, by their numbers
abbrev pub plain : Family
plain =
    record {
      Item = ℕ;
      Row = Row;
      hand = λ r. record { phase = r.phase; held = r.held.0 };
      with_hand = λ h r. with_hand h.phase (record { 0 = h.held }) r;
      pointer = λ r. r.pointer.0;
      with_pointer = λ x r. with_pointer x r;
      places = λ r. record { read = r.read; write = r.write; cursor = r.cursor };
      with_places = λ x r. moved_to x r;
      no_item = 0;
      no_row = idle;
      shape = plain_shape;
    }

-- the lent lists of a plain job
abbrev pub Mem : Type 0
Mem = memory.Mem plain

abbrev pub mem_of : List ℕ → List ℕ → List ℕ → List ℕ → List ℕ → List ℕ → List ℕ → List ℕ → List ℤ → List ℕ → List ℕ → List ℕ → List Row → Mem
mem_of w ps p ss s d r e c b x n rows = memory.mem_of w ps p ss s d [] r e c b x n rows

-- how many steps a run has, and how many entries its record
unfoldable pub all_steps : Mem → ℕ
all_steps m = plain_shape.steps (tasks m) (edges m)

unfoldable pub all_entries : Mem → ℕ
all_entries m = plain_shape.entries (tasks m) (edges m)

-- the word at the head of ring q
abbrev pub head_word : ℕ → Mem → ℕ → ℕ
head_word k m q = words.head_item k m q
