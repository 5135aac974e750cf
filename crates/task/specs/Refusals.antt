-- The numbers of document 01's table of refused calls, and what each answer says in the paper's terms.
use Rattle.std.specs.Prelude.{ℕ, Bool, cond, List, [], ◌∷◌, get_or, Result, Ok, Err}
use Rattle.task.specs.declared.refusal.Refusal.{Refusal}
use Rattle.task.specs.declared.refusal.Refusal.TheVariants.{WrongLength, BeyondLimit, BadTable, Duplicate, Cycle, TooManyRoots, NoSuchWorker, Damaged, WrongPhase, NothingThere, RingsFull, RecordFull, BrokenLayout, NoDummies, BadWindow}
use Rattle.task.specs.declared.ReleaseOutcome.{ReleaseOutcome}
use Rattle.task.specs.declared.ReleaseOutcome.TheVariants.{DegreeLeft, Placed}
use Rattle.task.specs.declared.StepOutcome.{StepOutcome}
use Rattle.task.specs.declared.StepOutcome.TheVariants.{Moved, Fetched, Released}

-- "a lent length isn't the stated one"; of the writer "a buffer too small"
abbrev pub wrong_length : ℕ
wrong_length = 1

-- "N, E, P, K or (begin) a weight beyond its limit; text over 65,536 bytes"
abbrev pub beyond_limit : ℕ
beyond_limit = 2

-- "start t ≤ start t+1 ≤ E fails, or a predecessor ≥ N; start 0 not 0 or start N not E; .."
abbrev pub bad_table : ℕ
bad_table = 3

-- "a predecessor twice in one task"
abbrev pub duplicate : ℕ
duplicate = 4

-- "a cycle, a loop on one task included"
abbrev pub cycle : ℕ
cycle = 5

-- more roots than P·K: "The roots' limit becomes P·K."
abbrev pub too_many_roots : ℕ
too_many_roots = 6

-- "worker ≥ P"
abbrev pub no_such_worker : ℕ
no_such_worker = 7

-- "a damaged word"
abbrev pub damaged : ℕ
damaged = 8

-- "step doesn't suit the phase"
abbrev pub wrong_phase : ℕ
wrong_phase = 9

-- "Fetch: all P rings empty; Release: buffer empty"
abbrev pub nothing_there : ℕ
nothing_there = 10

-- "Release: degree would be 0 and all P rings filled by this worker are full"
abbrev pub rings_full : ℕ
rings_full = 11

-- "Complete with N entries recorded"
abbrev pub record_full : ℕ
record_full = 12

-- "text breaks the layout"
abbrev pub broken_layout : ℕ
broken_layout = 13

-- "when N is under 2, task 0 has weight or predecessors, or the last task has weight"
abbrev pub no_dummies : ℕ
no_dummies = 14

-- "m zero or above the entries recorded"
abbrev pub bad_window : ℕ
bad_window = 15

-- the row of the table that a refusal is, and its detail: "A later refusal without a stated detail has detail 0."
abbrev pub refusal_number : Refusal → ℕ
refusal_number WrongLength = wrong_length
refusal_number BeyondLimit = beyond_limit
refusal_number (BadTable d) = bad_table
refusal_number (Duplicate d) = duplicate
refusal_number (Cycle d) = cycle
refusal_number (TooManyRoots d) = too_many_roots
refusal_number (NoSuchWorker d) = no_such_worker
refusal_number Damaged = damaged
refusal_number (WrongPhase d) = wrong_phase
refusal_number NothingThere = nothing_there
refusal_number (RingsFull d) = rings_full
refusal_number RecordFull = record_full
refusal_number (BrokenLayout d) = broken_layout
refusal_number NoDummies = no_dummies
refusal_number BadWindow = bad_window

abbrev pub refusal_detail : Refusal → ℕ
refusal_detail WrongLength = 0
refusal_detail BeyondLimit = 0
refusal_detail (BadTable d) = d
refusal_detail (Duplicate d) = d
refusal_detail (Cycle d) = d
refusal_detail (TooManyRoots d) = d
refusal_detail (NoSuchWorker d) = d
refusal_detail Damaged = 0
refusal_detail (WrongPhase d) = d
refusal_detail NothingThere = 0
refusal_detail (RingsFull d) = d
refusal_detail RecordFull = 0
refusal_detail (BrokenLayout d) = d
refusal_detail NoDummies = 0
refusal_detail BadWindow = 0

-- what the calls answer: acceptance with what it answers, or why they are refused
abbrev pub Answer : Type 0
Answer = Result (Unit {0}) Refusal

abbrev pub ReadAnswer : Type 0
ReadAnswer = Result (ℕ × ℕ) Refusal

abbrev pub WriteAnswer : Type 0
WriteAnswer = Result ℕ Refusal

abbrev pub StepAnswer : Type 0
StepAnswer = Result StepOutcome Refusal

-- what an answer says: a refusal's number and detail, or acceptance with the numbers that the call answers; what they are, the kind tells
pub data Said : Type 0 where
  refused : (number detail : ℕ) → Said
  answered : (kind : ℕ) (values : List ℕ) → Said

-- "Begin, Start and Complete answer acceptance alone"
abbrev pub accepted : Said
accepted = answered 0 []

-- "An accepted Fetch answers the task"
abbrev pub task_fetched : (task : ℕ) → Said
task_fetched t = answered 1 (t ∷ [])

-- "a Release answers either the degree left or the task with its new owner"
abbrev pub degree_left : (degree : ℕ) → Said
degree_left d = answered 2 (d ∷ [])

abbrev pub task_placed : (task owner : ℕ) → Said
task_placed t w = answered 3 (t ∷ w ∷ [])

-- "the reader N and E"
abbrev pub graph_read : (tasks edges : ℕ) → Said
graph_read n e = answered 4 (n ∷ e ∷ [])

-- the writer "says how many bytes it used"
abbrev pub bytes_used : (used : ℕ) → Said
bytes_used b = answered 5 (b ∷ [])

-- the number and the detail alone, 0 and 0 where accepted
abbrev pub number_of : Said → ℕ
number_of (refused n d) = n
number_of (answered k vs) = 0

abbrev pub detail_of : Said → ℕ
detail_of (refused n d) = d
detail_of (answered k vs) = 0

-- the kind, and the value at a place; 0 where refused
abbrev pub kind_of : Said → ℕ
kind_of (refused n d) = 0
kind_of (answered k vs) = k

abbrev pub value_at : ℕ → Said → ℕ
value_at i (refused n d) = 0
value_at i (answered k vs) = get_or vs i 0

-- "Answer: the number and a detail"
abbrev pub refusal_says : Refusal → Said
refusal_says why = refused (refusal_number why) (refusal_detail why)

abbrev pub answer_says : Answer → Said
answer_says (Err why) = refusal_says why
answer_says (Ok u) = accepted

abbrev pub read_says : ReadAnswer → Said
read_says (Err why) = refusal_says why
read_says (Ok (n, e)) = graph_read n e

abbrev pub write_says : WriteAnswer → Said
write_says (Err why) = refusal_says why
write_says (Ok b) = bytes_used b

abbrev pub release_says : ReleaseOutcome → Said
release_says (DegreeLeft d) = degree_left d
release_says (Placed t w) = task_placed t.0 w.0

abbrev pub outcome_says : StepOutcome → Said
outcome_says Moved = accepted
outcome_says (Fetched t) = task_fetched t.0
outcome_says (Released o) = release_says o

abbrev pub step_says : StepAnswer → Said
step_says (Err why) = refusal_says why
step_says (Ok o) = outcome_says o

-- a test that refuses, and what is answered where it doesn't
abbrev pub refused_if : Bool → Refusal → Answer → Answer
refused_if test why rest = cond test (Err why) rest

-- the second answer where the first accepts
abbrev pub and_then : Answer → Answer → Answer
and_then (Err why) b = Err why
and_then (Ok u) b = b
