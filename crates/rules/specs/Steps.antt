-- The four steps, each as its sentences go: P workers, K slots, worker i. A definition stands above what uses it, so a step is read from
-- its rule (`fetch_rule`, `start_rule`, `complete_rule`, `release_rule`) upward.
use Rattle.task.specs.declared.refusal.Refusal.TheVariants.{Damaged, NothingThere, RecordFull, RingsFull}
use Rattle.std.specs.Prelude.{ℕ, ◌+◌, ◌-◌, cond, List, [], ◌∷◌, eqb, pos, ◌-ℤ◌}
use Rattle.lists.specs.Circles.{after}
use Rattle.task.specs.Types.{nil}
use Rattle.task.specs.Phases.{leads_to}
use Rattle.task.specs.Refusals.{StepAnswer}
use Rattle.task.specs.declared.Limits.{Limits}
use Rattle.task.specs.declared.Row.{Row}
use Rattle.task.specs.declared.Step.{Step}
use Rattle.task.specs.declared.Step.TheVariants.{Fetch, Start, Complete, Release}
use Rattle.task.specs.declared.StepOutcome.TheVariants.{Moved, Fetched, Released}
use Rattle.task.specs.declared.ReleaseOutcome.TheVariants.{DegreeLeft, Placed}
use Rattle.ring.specs.Ring.{head_on}
use Rattle.choice.specs.Form.{Form}
use Rattle.choice.specs.Search.{Found, unsound, none, at}
use Rattle.memory.specs.Family.{Places}
use Rattle.plans.specs.Headed.{headed}
use Rattle.plans.specs.Laying.{join_ring}
unfoldable pub use Rattle.plans.specs.Searches.{scan, find_room}
use Rattle.plans.specs.Forms.{target_by, own}
use Rattle.rules.specs.Memory.{Mem, all_entries, ring_number, ends_in, head_word, counter_in, weight_in, degree_in, succ_count, buffer_at, row_in, held, pointer_in, entries_in, oldest, successor}
use Rattle.rules.specs.Words.{task_fits, pointer_fits, counter_fits, degree_fits, places_fit, join_fits, cursor_fits, range_fits, weight_fits, entries_fit}
use Rattle.rules.specs.Updates.{Update, put_degree, put_ends, put_counter, put_buffer, put_entry, put_entries, put_hand, put_pointer, put_places}
use Rattle.rules.specs.Plans.{Plan, refuse, refuse_if, checked, counted, Result, carried_out}

-- "Take its head, which becomes the held task; the slot's word stays. .. The pointer becomes the ring after, modulo P." Neither weight nor
-- counter is read: document 02's No. 3 has the weight leave at Complete
unfoldable pub fetch_task : ℕ → ℕ → ℕ → Mem → ℕ → ℕ → Plan
fetch_task p k i m j t =
    checked (task_fits m t)
    (counted m (Fetched (record { 0 = t }))
    (put_ends (ring_number p i j) (head_on k (ends_in m (ring_number p i j))) ∷ put_hand i (leads_to Fetch) t ∷ put_pointer i (after p j) ∷ []))

-- 10: "Fetch: all P rings empty"
unfoldable pub fetch_from : ℕ → ℕ → ℕ → Mem → Found → Plan
fetch_from p k i m unsound = refuse Damaged
fetch_from p k i m none = refuse NothingThere
fetch_from p k i m (at j) = fetch_task p k i m j (head_word k m (ring_number p i j))

unfoldable pub fetch_rule : ℕ → ℕ → ℕ → Mem → Plan
fetch_rule p k i m = checked (pointer_fits p (pointer_in m i)) (fetch_from p k i m (scan p k i m))

-- "Start: the phase alone."
unfoldable pub start_rule : ℕ → Mem → Plan
start_rule i m = counted m Moved (put_hand i (leads_to Start) (held m i) ∷ [])

-- "held becomes NIL"
abbrev pub let_go : ℕ → Update
let_go i = put_hand i (leads_to Complete) nil.0

-- "From now on the weight leaves counter (i, i) at Complete."; it "may go below zero"
abbrev pub leave : ℕ → ℕ → Mem → Update
leave p i m = put_counter (ring_number p i i) (counter_in m (ring_number p i i) -ℤ pos (weight_in m (held m i)))

-- "(task, i) joins the record"
abbrev pub record_entry : ℕ → Mem → List Update
record_entry i m = put_entry (entries_in m) (held m i) i ∷ put_entries (entries_in m + 1) ∷ []

-- the held task is a sink: it has no successors
unfoldable pub complete_sink : ℕ → ℕ → Mem → Plan
complete_sink p i m = counted m Moved (leave p i m ∷ let_go i ∷ record_entry i m)

-- "the task joins i's completed buffer if it has successors", at the write place
unfoldable pub complete_inner : ℕ → ℕ → Mem → Plan
complete_inner p i m =
    checked (places_fit m (row_in m i).read (row_in m i).write)
    (checked (join_fits m (row_in m i).write)
    (counted m Moved
    (put_buffer (buffer_at m i (row_in m i).write) (held m i)
    ∷ leave p i m
    ∷ let_go i
    ∷ put_places i (record { read = (row_in m i).read; write = (row_in m i).write + 1; cursor = (row_in m i).cursor })
    ∷ record_entry i m)))

-- 12: "Complete with N entries recorded"; "Complete meets 12 before its other words"
unfoldable pub complete_rule : ℕ → ℕ → Mem → Plan
complete_rule p i m =
    checked (entries_fit m)
    (refuse_if (eqb (entries_in m) (all_entries m)) RecordFull
    (checked (task_fits m (held m i))
    (checked (weight_fits m (held m i))
    (checked (counter_fits (counter_in m (ring_number p i i)))
    (checked (range_fits m (held m i))
    (cond (eqb (succ_count m (held m i)) 0) (complete_sink p i m) (complete_inner p i m)))))))

-- "The cursor advances; after the last successor it returns to 0 and the read place advances."
unfoldable pub advanced : ℕ → Row → Places
advanced count r =
    cond (eqb (r.cursor + 1) count) (record { read = r.read + 1; write = r.write; cursor = 0 })
    (record { read = r.read; write = r.write; cursor = r.cursor + 1 })

abbrev pub advance : ℕ → Mem → Update
advance i m = put_places i (advanced (succ_count m (oldest m i)) (row_in m i))

-- a task joins the ring of owner o filled by worker i, and "The weight joins the counter of the ring really used."
abbrev pub join : ℕ → ℕ → ℕ → ℕ → ℕ → Mem → List Update
join p k o i s m = join_ring p k o i s s m

-- 11: "Release: degree would be 0 and all P rings filled by this worker are full"; its detail is "the successor". Else the weight joins the counter of
-- the ring found, which is read here by a form of Release that didn't read it for the target
unfoldable pub release_to : Form → ℕ → ℕ → ℕ → Mem → Found → Plan
release_to f p k i m unsound = refuse Damaged
release_to f p k i m none = refuse (RingsFull (successor m i))
release_to f p k i m (at o) =
    checked (f.fits_at (ring_number p o i))
    (checked (weight_fits m (successor m i))
    (counted m (Released (Placed (record { 0 = successor m i }) (record { 0 = o })))
    (put_degree (successor m i) 0 ∷ advance i m ∷ join p k o i (successor m i) m)))

-- "At zero, target j is the worker with the least sum of its P counters", all of which are read; "s is appended to the first ring
-- filled by i that isn't full, owners taken j, j+1, … modulo P": the candidates, the sums and the owners offered are the form's
unfoldable pub release_ready : Form → ℕ → ℕ → ℕ → Mem → Plan
release_ready f p k i m = checked f.fits (release_to f p k i m (find_room p k i m (f.offered (target_by f))))

-- above zero, nothing more is read
unfoldable pub release_waiting : ℕ → Mem → Plan
release_waiting i m =
    counted m (Released (DegreeLeft (degree_in m (successor m i) - 1)))
    (put_degree (successor m i) (degree_in m (successor m i) - 1) ∷ advance i m ∷ [])

-- 10: "Release: buffer empty"; else "the oldest task in i's buffer, its successor s at the cursor. The degree of s falls by one."
unfoldable pub release_rule : Form → ℕ → ℕ → ℕ → Mem → Plan
release_rule f p k i m =
    checked (places_fit m (row_in m i).read (row_in m i).write)
    (refuse_if (eqb (row_in m i).read (row_in m i).write) NothingThere
    (checked (task_fits m (oldest m i))
    (checked (range_fits m (oldest m i))
    (checked (cursor_fits m (oldest m i) (row_in m i).cursor)
    (checked (task_fits m (successor m i))
    (checked (degree_fits m (degree_in m (successor m i)))
    (cond (eqb (degree_in m (successor m i)) 1) (release_ready f p k i m) (release_waiting i m))))))))

unfoldable pub rule_of : Step → ℕ → ℕ → ℕ → Mem → Plan
rule_of Fetch p k i m = fetch_rule p k i m
rule_of Start p k i m = start_rule i m
rule_of Complete p k i m = complete_rule p i m
rule_of Release p k i m = release_rule (own p m) p k i m

-- "In a step: 2, 1, 7, phase word (8), 9; then the step's rule is followed from its first sentence"
unfoldable pub step_plan : Limits → ℕ → ℕ → ℕ → Step → Mem → Plan
step_plan limits p k i step m = headed limits p k i step m (rule_of step p k i m)

unfoldable pub step : Limits → ℕ → ℕ → ℕ → Step → Mem → Result StepAnswer
step limits p k i s m = carried_out (step_plan limits p k i s m) m
