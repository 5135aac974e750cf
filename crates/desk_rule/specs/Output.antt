-- "It prints N and the accepted word, then per entry task and worker. A refusal by the reader or by begin prints one line alone, "refused",
-- number, detail, parted by single spaces; refused steps print nothing."
use Rattle.std.specs.Prelude.{ℕ, zero, suc, ◌+◌, ◌*◌, List, [], ◌∷◌, ◌++◌, length, get_or, take, replicate, pos, Err, Ok}
use Rattle.task.specs.Types.{engine}
use Rattle.task.specs.declared.Row.{Row}
use Rattle.task.specs.Refusals.{Answer, ReadAnswer, refusal_number, refusal_detail}
use Rattle.layout.specs.Marks.{space}
use Rattle.layout.specs.Reader.{Read, read_text}
use Rattle.rules.specs.Memory.{Mem, mem_of, tasks, entries_in, accepted_in}
use Rattle.rules.specs.Begin.{begin}
use Rattle.rules.specs.Desk.{desk_run}
use Rattle.desk_rule.specs.Printed.{pair_line}

-- "refused"
abbrev pub refused_word : List ℕ
refused_word = 114 ∷ 101 ∷ 102 ∷ 117 ∷ 115 ∷ 101 ∷ 100 ∷ []

unfoldable pub refused_line : ℕ → ℕ → List ℕ
refused_line n d = refused_word ++ (space ∷ pair_line n d)

-- the lines of n entries of the record, from entry x on: "task and worker"
unfoldable pub entry_lines : (executed : List ℕ) (n x : ℕ) → List ℕ
entry_lines executed zero x = []
entry_lines executed (suc n) x = pair_line (get_or executed (2 * x) 0) (get_or executed (2 * x + 1) 0) ++ entry_lines executed n (x + 1)

-- "N and the accepted word, then per entry task and worker"
unfoldable pub run_lines : Mem → List ℕ
run_lines m = pair_line (tasks m) (accepted_in m) ++ entry_lines m.executed (entries_in m) 0

-- begin's answer is printed where it refuses, else the desk's run
abbrev pub begun_output : Answer → Mem → List ℕ
begun_output (Err why) m = refused_line (refusal_number why) (refusal_detail why)
begun_output (Ok u) m = run_lines (desk_run m)

unfoldable pub graph_output : Mem → List ℕ
graph_output m = begun_output (begin engine 2 4 m).answer (begin engine 2 4 m).memory

-- a row of the desk's own list before begin: six words 0
abbrev pub blank_row : Row
blank_row = record { phase = 0; held = record { 0 = 0 }; pointer = record { 0 = 0 }; read = 0; write = 0; cursor = 0 }

-- the memory that the desk lends beside weights and predecessor tables, for P 2 and K 4: lists of exact lengths, whose words begin doesn't judge
unfoldable pub desk_memory : (weights pred_starts preds : List ℕ) → Mem
desk_memory w ps p =
    mem_of w ps p (replicate (length w + 1) 0) (replicate (length p) 0) (replicate (length w) 0) (replicate 16 0) (replicate 12 0)
    (replicate 4 (pos 0))
    (replicate (2 * length w) 0)
    (replicate (2 * length w) 0)
    (replicate 2 0)
    (replicate 2 blank_row)

-- the reader's answer likewise
abbrev pub read_output : ReadAnswer → Read → List ℕ
read_output (Err why) r = refused_line (refusal_number why) (refusal_detail why)
read_output (Ok (n, e)) r = graph_output (desk_memory (take n r.weights) (take (n + 1) r.starts) (take e r.preds))

-- "The reader is lent 1,024, 1,025 and 8,192 words"
unfoldable pub desk_read : List ℕ → Read
desk_read text = read_text text (replicate 1024 0) (replicate 1025 0) (replicate 8192 0)

-- what the desk program prints for a text
unfoldable pub desk_output : List ℕ → List ℕ
desk_output text = read_output (desk_read text).answer (desk_read text)
