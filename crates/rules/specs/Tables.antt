-- Document 01's table of refused calls for the steps of a plain job, and with `begin_rows` for begin: per call its rows in the call's order. A row
-- counts only where no earlier one holds. No row looks at a plan or at a checked read: its condition speaks of the lent words alone. Where a word
-- stands is Memory's to say; what an accepted call answers and writes isn't said here.
use Rattle.std.specs.Prelude.{ℕ, ◌+◌, ◌*◌, ◌≤◌, ◌<◌, ◌≡◌, ◌⊎◌, List, [], ◌∷◌}
use Rattle.task.specs.Refusals.{damaged, nothing_there, rings_full, record_full}
use Rattle.task.specs.Rows.{Refusal, row, only}
use Rattle.task.specs.declared.Limits.{Limits}
use Rattle.task.specs.declared.Step.{Step}
use Rattle.task.specs.declared.Step.TheVariants.{Fetch, Start, Complete, Release}
use Rattle.ring.specs.Ring.{Empty}
use Rattle.choice.specs.Form.{Form}
use Rattle.plans.specs.Tables.{headed_rows}
use Rattle.plans.specs.Forms.{own, BadOffered, AllFull, BadUsed}
pub use Rattle.plans.specs.Tables.{BeyondPK, root_count, begin_rows, Beyond2^30, BadCounter, BadPlaces, BadRange, GoesOn, BadEnds, StopsAt, scanned, scanned_ends, offered_ends}
use Rattle.rules.specs.Memory.{Mem, tasks, edges, ring_number, head_word, counter_in, weight_in, degree_in, succ_count, row_in, held, pointer_in, entries_in, accepted_in, oldest, successor}

-- "accepted word 3N+E or more"
abbrev pub BadAccepted : Mem → Type 0
BadAccepted m = 3 * tasks m + edges m ≤ accepted_in m

-- t is the word at the head of "the first ring that isn't empty"
abbrev pub NextTask : ℕ → ℕ → ℕ → Mem → ℕ → Type 0
NextTask p k i m t = (e : ℕ) × StopsAt p k Empty (scanned_ends p i m) e × (head_word k m (scanned p i m e) ≡ t)

abbrev pub fetch_rows : ℕ → ℕ → ℕ → Mem → List Refusal
fetch_rows p k i m =
    -- 8: "pointer ≥ P"
    row damaged (only 0 (p ≤ pointer_in m i))
    -- 8: damaged ends, the rings before it being empty
    ∷ row damaged (only 0 (BadEnds p k Empty (scanned_ends p i m)))
    -- 10: "Fetch: all P rings empty"
    ∷ row nothing_there (only 0 (GoesOn k Empty (scanned_ends p i m) p))
    -- 8: "ring .. word ≥ N"
    ∷ row damaged (only 0 ((t : ℕ) × NextTask p k i m t × (tasks m ≤ t)))
    -- 8: "the accepted word is read last of all, after 10 to 12"
    ∷ row damaged (only 0 (BadAccepted m))
    ∷ []

abbrev pub start_rows : Mem → List Refusal
start_rows m =
    -- 8: the accepted word, which is all that Start reads beside the phase
    row damaged (only 0 (BadAccepted m)) ∷ []

-- the held task has successors, so it "must join" the buffer
abbrev pub HasSuccessors : Mem → ℕ → Type 0
HasSuccessors m i = 0 < succ_count m (held m i)

abbrev pub complete_rows : ℕ → ℕ → Mem → List Refusal
complete_rows p i m =
    -- 8: "entries over N"
    row damaged (only 0 (tasks m < entries_in m))
    -- 12: "Complete with N entries recorded"; "Complete meets 12 before its other words"
    ∷ row record_full (only 0 (entries_in m ≡ tasks m))
    -- 8: "held .. word ≥ N"
    ∷ row damaged (only 0 (tasks m ≤ held m i))
    -- 8: "weight over 65,535", of the held task, whose weight leaves
    ∷ row damaged (only 0 (65535 < weight_in m (held m i)))
    -- 8: "counter beyond ±2^30", of "counter (i, i)"
    ∷ row damaged (only 0 (Beyond2^30 (counter_in m (ring_number p i i))))
    -- 8: its successor range
    ∷ row damaged (only 0 (BadRange m (held m i)))
    -- 8: the buffer places, where they are read
    ∷ row damaged (only 0 (HasSuccessors m i × BadPlaces m i))
    -- 8: "or write N where a task must join"
    ∷ row damaged (only 0 (HasSuccessors m i × ((row_in m i).write ≡ tasks m)))
    -- 8: the accepted word, last
    ∷ row damaged (only 0 (BadAccepted m))
    ∷ []

-- "degree would be 0": it is 1
abbrev pub Ready : Mem → ℕ → Type 0
Ready m i = ◌≡◌ {A = ℕ} (degree_in m (successor m i)) 1

-- of a Release by form f
abbrev pub release_rows : Form → ℕ → ℕ → ℕ → Mem → List Refusal
release_rows f p k i m =
    -- 8: the buffer places
    row damaged (only 0 (BadPlaces m i))
    -- 10: "Release: buffer empty"
    ∷ row nothing_there (only 0 ((row_in m i).read ≡ (row_in m i).write))
    -- 8: "buffer .. word ≥ N"
    ∷ row damaged (only 0 (tasks m ≤ oldest m i))
    -- 8: its successor range
    ∷ row damaged (only 0 (BadRange m (oldest m i)))
    -- 8: "cursor not below the successor count"
    ∷ row damaged (only 0 (succ_count m (oldest m i) ≤ (row_in m i).cursor))
    -- 8: "successor word ≥ N"
    ∷ row damaged (only 0 (tasks m ≤ successor m i))
    -- 8: "degree to be lowered outside 1..N"
    ∷ row damaged (only 0 ((degree_in m (successor m i) < 1) ⊎ (tasks m < degree_in m (successor m i))))
    -- 8: a word that is read for the target, since one is sought: of document 01's form "counter beyond ±2^30", of all P·P
    ∷ row damaged (only 0 (Ready m i × f.Damaged))
    -- 8: damaged ends, the rings before it, from the target's on, being full
    ∷ row damaged (only 0 (Ready m i × BadOffered f p k i m))
    -- 11: "Release: degree would be 0 and all P rings filled by this worker are full", "the successor"; "11 comes after the words
    -- that it reads"
    ∷ row rings_full (only (successor m i) (Ready m i × AllFull f p k i m))
    -- 8: the counter of the ring really used, where it is read here (of document 01's form never: it was read for the target)
    ∷ row damaged (only 0 (Ready m i × BadUsed f p k i m))
    -- 8: "weight over 65,535", of the successor that is placed
    ∷ row damaged (only 0 (Ready m i × (65535 < weight_in m (successor m i))))
    -- 8: the accepted word, last
    ∷ row damaged (only 0 (BadAccepted m))
    ∷ []

abbrev pub own_rows : Step → ℕ → ℕ → ℕ → Mem → List Refusal
own_rows Fetch p k i m = fetch_rows p k i m
own_rows Start p k i m = start_rows m
own_rows Complete p k i m = complete_rows p i m
own_rows Release p k i m = release_rows (own p m) p k i m

abbrev pub step_rows : Limits → ℕ → ℕ → ℕ → Step → Mem → List Refusal
step_rows limits p k i s m = headed_rows limits p k i s m (own_rows s p k i m)
