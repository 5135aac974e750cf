-- The table of refused calls for the steps of a weak job, and with `begin_rows` for begin: per call its rows in the call's order. A row counts only
-- where no earlier one holds. No row looks at a plan or at a checked read: its condition speaks of the lent words alone.
use Rattle.std.specs.Prelude.{ℕ, ◌+◌, ◌*◌, ◌≤◌, ◌<◌, ◌≡◌, ◌⊎◌, List, [], ◌∷◌}
use Rattle.task.specs.Types.{nil}
use Rattle.task.specs.Refusals.{damaged, nothing_there, rings_full, record_full}
use Rattle.task.specs.Rows.{Refusal, row, only}
use Rattle.task.specs.declared.Limits.{Limits}
use Rattle.task.specs.declared.Step.{Step}
use Rattle.task.specs.declared.Step.TheVariants.{Fetch, Start, Complete, Release}
use Rattle.weak_task.specs.Types.{Copy, unfixed}
use Rattle.ring.specs.Ring.{Sound, Empty, Full}
use Rattle.choice.specs.Form.{Form}
use Rattle.plans.specs.Forms.{own, BadOffered, AllFull, BadUsed}
use Rattle.plans.specs.Tables.{headed_rows}
pub use Rattle.plans.specs.Tables.{BeyondPK, root_count, begin_rows, Beyond2^30, BadCounter, BadPlaces, BadRange, GoesOn, BadEnds, StopsAt, scanned, scanned_ends, offered_ends}
use Rattle.weak_rules.specs.Memory.{Mem, tasks, edges, ring_number, ends_in, head_item, counter_in, weight_in, degree_in, fixed_in, roots_word, succ_count, row_in, held, pointer_in, entries_in, accepted_in, oldest, successor}

-- "a predecessor word neither NIL nor below N is damaged"
abbrev pub BadPredecessor : Mem → ℕ → Type 0
BadPredecessor m word = ¬ (word ≡ nil.0) × (tasks m ≤ word)

-- a copy with a damaged word: its task ≥ N, or its predecessor
abbrev pub BadCopy : Mem → Copy → Type 0
BadCopy m c = (tasks m ≤ c.task) ⊎ BadPredecessor m c.predecessor

-- "keeps R (over N is damaged)"
abbrev pub BadRoots : Mem → Type 0
BadRoots m = tasks m < roots_word m

-- the last rows of every step: R, "read just before" the accepted word, and that word, 4E + 3R or more
abbrev pub count_rows : Mem → List Refusal
count_rows m = row damaged (only 0 (BadRoots m)) ∷ row damaged (only 0 (4 * edges m + 3 * roots_word m ≤ accepted_in m)) ∷ []

-- c is the copy at the head of "the first ring that isn't empty"
abbrev pub NextCopy : ℕ → ℕ → ℕ → Mem → Copy → Type 0
NextCopy p k i m c = (e : ℕ) × StopsAt p k Empty (scanned_ends p i m) e × (head_item k m (scanned p i m e) ≡ c)

abbrev pub fetch_rows : ℕ → ℕ → ℕ → Mem → List Refusal
fetch_rows p k i m =
    -- 8: "pointer ≥ P"
    row damaged (only 0 (p ≤ pointer_in m i))
    -- 8: damaged ends, the rings before it being empty
    ∷ row damaged (only 0 (BadEnds p k Empty (scanned_ends p i m)))
    -- 10: "Fetch: all P rings empty"
    ∷ row nothing_there (only 0 (GoesOn k Empty (scanned_ends p i m) p))
    -- 8: "ring .. word ≥ N", "a predecessor word neither NIL nor below N"
    ∷ row damaged (only 0 ((c : Copy) × NextCopy p k i m c × BadCopy m c))
    -- 8: R and the accepted word, last
    ∷ count_rows m

abbrev pub start_rows : Mem → List Refusal
start_rows m = count_rows m

-- "the last one completes the task": the degree is 1
abbrev pub LastCopy : Mem → ℕ → Type 0
LastCopy m i = ◌≡◌ {A = ℕ} (degree_in m (held m i).task) 1

-- and the task has successors, so it "must join" the buffer
abbrev pub MustJoin : Mem → ℕ → Type 0
MustJoin m i = LastCopy m i × (0 < succ_count m (held m i).task)

abbrev pub complete_rows : ℕ → ℕ → Mem → List Refusal
complete_rows p i m =
    -- 8: R, "read just before either other" run word
    row damaged (only 0 (BadRoots m))
    -- 8: entries over E + R
    ∷ row damaged (only 0 (edges m + roots_word m < entries_in m))
    -- 12: E + R entries recorded; "Complete meets 12 before its other words"
    ∷ row record_full (only 0 (entries_in m ≡ edges m + roots_word m))
    -- 8: the held copy
    ∷ row damaged (only 0 (BadCopy m (held m i)))
    -- 8: "degree to be lowered outside 1..N"
    ∷ row damaged (only 0 ((degree_in m (held m i).task < 1) ⊎ (tasks m < degree_in m (held m i).task)))
    -- 8: of the last copy "weight over 65,535"
    ∷ row damaged (only 0 (LastCopy m i × (65535 < weight_in m (held m i).task)))
    -- 8: "counter beyond ±2^30", of counter (i, i), from which the weight leaves
    ∷ row damaged (only 0 (LastCopy m i × Beyond2^30 (counter_in m (ring_number p i i))))
    -- 8: its successor range
    ∷ row damaged (only 0 (LastCopy m i × BadRange m (held m i).task))
    -- 8: the buffer places, where they are read
    ∷ row damaged (only 0 (MustJoin m i × BadPlaces m i))
    -- 8: "or write N where a task must join"
    ∷ row damaged (only 0 (MustJoin m i × ((row_in m i).write ≡ tasks m)))
    -- 8: R and the accepted word, last
    ∷ count_rows m

-- the successor's first copy: it is fixed to no worker yet
abbrev pub FirstCopy : Mem → ℕ → Type 0
FirstCopy m i = fixed_in m (successor m i) ≡ unfixed.0

-- or a later one: it is fixed to worker o
abbrev pub LaterCopy : ℕ → Mem → ℕ → ℕ → Type 0
LaterCopy p m i o = (fixed_in m (successor m i) ≡ o) × (o < p)

-- of a Release by form f
abbrev pub release_rows : Form → ℕ → ℕ → ℕ → Mem → List Refusal
release_rows f p k i m =
    -- 8: the buffer places
    row damaged (only 0 (BadPlaces m i))
    -- 10: "Release: buffer empty"
    ∷ row nothing_there (only 0 ((row_in m i).read ≡ (row_in m i).write))
    -- 8: "buffer .. word ≥ N"
    ∷ row damaged (only 0 (tasks m ≤ oldest m i))
    -- 8: its successor range
    ∷ row damaged (only 0 (BadRange m (oldest m i)))
    -- 8: "cursor not below the successor count"
    ∷ row damaged (only 0 (succ_count m (oldest m i) ≤ (row_in m i).cursor))
    -- 8: "successor word ≥ N"
    ∷ row damaged (only 0 (tasks m ≤ successor m i))
    -- 8: the fixed word, "65,535 before, else below P or damaged"
    ∷ row damaged (only 0 (¬ (FirstCopy m i) × (p ≤ fixed_in m (successor m i))))
    -- 8: a word that is read for the first copy's target: of document 01's form "counter beyond ±2^30", of all P·P
    ∷ row damaged (only 0 (FirstCopy m i × f.Damaged))
    -- 8: damaged ends, the rings before it, from the target's on, being full
    ∷ row damaged (only 0 (FirstCopy m i × BadOffered f p k i m))
    -- 8: of a later copy, damaged ends of "that worker's ring"
    ∷ row damaged (only 0 ((o : ℕ) × LaterCopy p m i o × ¬ (Sound k (ends_in m (ring_number p o i)))))
    -- 11: all P rings filled by this worker are full, or of a later copy "exactly if that ring is full"; "the successor"
    ∷ row rings_full (only (successor m i)
    ((FirstCopy m i × AllFull f p k i m)
    ⊎ ((o : ℕ) × LaterCopy p m i o × Full k (ends_in m (ring_number p o i)))))
    -- 8: the counter of the ring really used, where it is read here (of document 01's form never: it was read for the target)
    ∷ row damaged (only 0 (FirstCopy m i × BadUsed f p k i m))
    -- 8: "weight over 65,535", of the successor whose first copy is placed
    ∷ row damaged (only 0 (FirstCopy m i × (65535 < weight_in m (successor m i))))
    -- 8: R and the accepted word, last
    ∷ count_rows m

abbrev pub own_rows : Step → ℕ → ℕ → ℕ → Mem → List Refusal
own_rows Fetch p k i m = fetch_rows p k i m
own_rows Start p k i m = start_rows m
own_rows Complete p k i m = complete_rows p i m
own_rows Release p k i m = release_rows (own p m) p k i m

-- "In a step: 2, 1, 7, phase word (8), 9; then the step's rule is followed from its first sentence"
abbrev pub step_rows : Limits → ℕ → ℕ → ℕ → Step → Mem → List Refusal
step_rows limits p k i s m = headed_rows limits p k i s m (own_rows s p k i m)
