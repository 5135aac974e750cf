-- The lent memory of a weak job (document 02, No. 6), and how the words that it alone has are found.
use Rattle.std.specs.Prelude.{ℕ, ◌+◌, ◌*◌, true, List, get_or, ℤ}
use Rattle.weak_task.specs.Types.{Copy, copy, copy_of, task_copy, idle}
use Rattle.weak_task.specs.declared.WeakRow.{WeakRow}
use Rattle.memory.specs.Family.{Family, Shape}
use Rattle.memory.specs.Memory as memory
pub use Rattle.plans.specs.Memory.{tasks, edges, graph_in, ring_number, ends_in, rings_in, head_item, counter_in, weight_in, degree_in, first_succ, past_succ, succ_count, buffer_at, row_in, held, pointer_in, entries_in, accepted_in, oldest, successor}

-- "Records have three words per copy (task, predecessor, worker), length 3(E + N)", "A third run word"; at most N roots, so "4E + 3R accepted
-- steps" are at most 4E + 3N; "the task's worker (N lent words ..)"
abbrev pub weak_shape : Shape
weak_shape = record { entry_words = 3; entries = λ n e. e + n; run_words = 3; steps = λ n e. 4 * e + 3 * n; fixes = true }

-- "Its rings and hands hold copies (task, predecessor)"
abbrev pub weak : Family
weak =
    record {
      Item = Copy;
      Row = WeakRow;
      hand = λ r. record { phase = r.phase; held = copy_of r.held };
      with_hand = λ h r.
          record { phase = h.phase; held = task_copy h.held; pointer = r.pointer; read = r.read; write = r.write; cursor = r.cursor };
      pointer = λ r. r.pointer.0;
      with_pointer = λ x r.
          record { phase = r.phase; held = r.held; pointer = record { 0 = x }; read = r.read; write = r.write; cursor = r.cursor };
      places = λ r. record { read = r.read; write = r.write; cursor = r.cursor };
      with_places = λ x r.
          record { phase = r.phase; held = r.held; pointer = r.pointer; read = x.read; write = x.write; cursor = x.cursor };
      no_item = copy 0 0;
      no_row = idle;
      shape = weak_shape;
    }

-- the lent lists of a weak job
abbrev pub Mem : Type 0
Mem = memory.Mem weak

abbrev pub mem_of : List ℕ → List ℕ → List ℕ → List ℕ → List ℕ → List ℕ → List ℕ → List Copy → List ℕ → List ℤ → List ℕ → List ℕ → List ℕ → List WeakRow
    → Mem
mem_of w ps p ss s d f r e c b x n rows = memory.mem_of w ps p ss s d f r e c b x n rows

-- the worker that task t is fixed to, or 65,535
abbrev pub fixed_in : Mem → ℕ → ℕ
fixed_in m t = get_or m.fixed t 0

-- "A third run word, of weak jobs alone, keeps R"
abbrev pub roots_word : Mem → ℕ
roots_word m = get_or m.run 2 0

-- "E + R copies used; 12, the finish and the limits of the entries and accepted words follow these counts", "4E + 3R accepted steps"
unfoldable pub all_entries : Mem → ℕ
all_entries m = edges m + roots_word m

unfoldable pub all_steps : Mem → ℕ
all_steps m = 4 * edges m + 3 * roots_word m

-- the copy that Release makes: the successor at the cursor, of the oldest task in i's buffer
abbrev pub made_copy : Mem → ℕ → Copy
made_copy m i = copy (successor m i) (oldest m i)
