-- The four steps of a weak job, each as its sentences go: P workers, K slots, worker i. A definition stands above what uses it, so a step is
-- read from its rule (`fetch_rule`, `start_rule`, `complete_rule`, `release_rule`) upward. Where document 02's No. 6 says nothing, a step is document
-- 01's.
use Rattle.task.specs.declared.refusal.Refusal.TheVariants.{Damaged, NothingThere, RecordFull, RingsFull}
use Rattle.std.specs.Prelude.{ℕ, ◌+◌, ◌-◌, cond, List, [], ◌∷◌, eqb, pos, ◌-ℤ◌}
use Rattle.lists.specs.Circles.{after}
use Rattle.task.specs.Types.{nil}
use Rattle.task.specs.Phases.{leads_to}
use Rattle.task.specs.declared.Limits.{Limits}
use Rattle.task.specs.declared.Step.{Step}
use Rattle.task.specs.declared.Step.TheVariants.{Fetch, Start, Complete, Release}
use Rattle.weak_task.specs.Says.{WeakAnswer}
use Rattle.weak_task.specs.Types.{Copy, copy, task_copy, unfixed}
use Rattle.weak_task.specs.declared.WeakRow.{WeakRow}
use Rattle.weak_task.specs.declared.WeakOutcome.TheVariants.{Moved, Fetched, Placed}
use Rattle.ring.specs.Ring.{full, head_on}
use Rattle.choice.specs.Form.{Form}
use Rattle.plans.specs.Forms.{target_by, own}
use Rattle.choice.specs.Search.{Found, unsound, none, at}
use Rattle.memory.specs.Family.{Places}
use Rattle.plans.specs.Headed.{headed}
use Rattle.plans.specs.Laying.{append, join_ring}
unfoldable pub use Rattle.plans.specs.Searches.{scan, find_room}
use Rattle.weak_rules.specs.Memory.{Mem, all_entries, ring_number, ends_in, head_item, counter_in, weight_in, degree_in, fixed_in, succ_count, buffer_at, row_in, held, pointer_in, entries_in, oldest, successor, made_copy}
use Rattle.weak_rules.specs.Words.{ends_fit, task_fits, copy_fits, pointer_fits, counter_fits, degree_fits, fixed_fits, places_fit, join_fits, cursor_fits, range_fits, weight_fits, roots_fit, entries_fit}
use Rattle.weak_rules.specs.Updates.{Update, put_degree, put_fixed, put_ends, put_counter, put_buffer, put_entry, put_entries, put_hand, put_pointer, put_places}
use Rattle.weak_rules.specs.Plans.{Plan, refuse, refuse_if, checked, counted, Result, carried_out}

-- "Take its head, which becomes the held" copy, "the slot's" words stay. ".. The pointer becomes the ring after, modulo P.", and "Fetch answers the
-- copy"
unfoldable pub fetch_copy : ℕ → ℕ → ℕ → Mem → ℕ → Copy → Plan
fetch_copy p k i m j c =
    checked (copy_fits m c)
    (counted m (Fetched (task_copy c))
    (put_ends (ring_number p i j) (head_on k (ends_in m (ring_number p i j))) ∷ put_hand i (leads_to Fetch) c ∷ put_pointer i (after p j) ∷ []))

-- 10: "Fetch: all P rings empty"
unfoldable pub fetch_from : ℕ → ℕ → ℕ → Mem → Found → Plan
fetch_from p k i m unsound = refuse Damaged
fetch_from p k i m none = refuse NothingThere
fetch_from p k i m (at j) = fetch_copy p k i m j (head_item k m (ring_number p i j))

unfoldable pub fetch_rule : ℕ → ℕ → ℕ → Mem → Plan
fetch_rule p k i m = checked (pointer_fits p (pointer_in m i)) (fetch_from p k i m (scan p k i m))

-- "Start: the phase alone."
unfoldable pub start_rule : ℕ → Mem → Plan
start_rule i m = counted m Moved (put_hand i (leads_to Start) (held m i) ∷ [])

-- "an empty hand NIL twice"
abbrev pub let_go : ℕ → Update
let_go i = put_hand i (leads_to Complete) (copy nil.0 nil.0)

-- "Weight .. leaves when the last copy completes", from counter (i, i) as No. 3 has it
abbrev pub leave : ℕ → ℕ → Mem → Update
leave p i m = put_counter (ring_number p i i) (counter_in m (ring_number p i i) -ℤ pos (weight_in m (held m i).task))

-- "A copy's Complete alone lowers the degree"
abbrev pub lower : ℕ → Mem → Update
lower i m = put_degree (held m i).task (degree_in m (held m i).task - 1)

-- the copy and i join the record
abbrev pub record_entry : ℕ → Mem → List Update
record_entry i m = put_entry (entries_in m) (held m i) i ∷ put_entries (entries_in m + 1) ∷ []

-- a copy that isn't its task's last: counters and buffers are left alone
unfoldable pub complete_copy : ℕ → Mem → Plan
complete_copy i m = counted m Moved (lower i m ∷ let_go i ∷ record_entry i m)

-- "the last one completes the task": a sink, which has no successors
unfoldable pub complete_sink : ℕ → ℕ → Mem → Plan
complete_sink p i m = counted m Moved (lower i m ∷ leave p i m ∷ let_go i ∷ record_entry i m)

-- or a task that "joins i's completed buffer", since "it has successors", at the write place
unfoldable pub complete_inner : ℕ → ℕ → Mem → Plan
complete_inner p i m =
    checked (places_fit m (row_in m i).read (row_in m i).write)
    (checked (join_fits m (row_in m i).write)
    (counted m Moved
    (put_buffer (buffer_at m i (row_in m i).write) (held m i).task
    ∷ lower i m
    ∷ leave p i m
    ∷ let_go i
    ∷ put_places i (record { read = (row_in m i).read; write = (row_in m i).write + 1; cursor = (row_in m i).cursor })
    ∷ record_entry i m)))

-- the task's last copy: its weight, the worker's own counter and the successor range are read
unfoldable pub complete_last : ℕ → ℕ → Mem → Plan
complete_last p i m =
    checked (weight_fits m (held m i).task)
    (checked (counter_fits (counter_in m (ring_number p i i)))
    (checked (range_fits m (held m i).task)
    (cond (eqb (succ_count m (held m i).task) 0) (complete_sink p i m) (complete_inner p i m))))

-- R is "read just before" the entries word; 12 at E + R entries, "before its other words"
unfoldable pub complete_rule : ℕ → ℕ → Mem → Plan
complete_rule p i m =
    checked (roots_fit m)
    (checked (entries_fit m)
    (refuse_if (eqb (entries_in m) (all_entries m)) RecordFull
    (checked (copy_fits m (held m i))
    (checked (degree_fits m (degree_in m (held m i).task))
    (cond (eqb (degree_in m (held m i).task) 1) (complete_last p i m) (complete_copy i m))))))

-- "The cursor advances; after the last successor it returns to 0 and the read place advances."
unfoldable pub advanced : ℕ → WeakRow → Places
advanced count r =
    cond (eqb (r.cursor + 1) count) (record { read = r.read + 1; write = r.write; cursor = 0 })
    (record { read = r.read; write = r.write; cursor = r.cursor + 1 })

abbrev pub advance : ℕ → Mem → Update
advance i m = put_places i (advanced (succ_count m (oldest m i)) (row_in m i))

-- 11: all P rings filled by this worker are full; its detail is "the successor". Else the copy joins the ring found, "Weight joins with the first copy",
-- and the owner of the ring really used is "the task's worker"
unfoldable pub release_to : Form → ℕ → ℕ → ℕ → Mem → Found → Plan
release_to f p k i m unsound = refuse Damaged
release_to f p k i m none = refuse (RingsFull (successor m i))
release_to f p k i m (at o) =
    checked (f.fits_at (ring_number p o i))
    (checked (weight_fits m (successor m i))
    (counted m (Placed (task_copy (made_copy m i)) (record { 0 = o }))
    (put_fixed (successor m i) o ∷ advance i m ∷ join_ring p k o i (made_copy m i) (successor m i) m)))

-- "The first copy of a task picks its ring as in document 01": "target j is the worker with the least sum of its P counters", all of which are
-- read; "appended to the first ring filled by i that isn't full, owners taken j, j+1, … modulo P": candidates, sums and owners are the form's
unfoldable pub release_first : Form → ℕ → ℕ → ℕ → Mem → Plan
release_first f p k i m = checked f.fits (release_to f p k i m (find_room p k i m (f.offered (target_by f))))

-- "later copies go only to that worker's ring, and 11 is given exactly if that ring is full"
unfoldable pub release_later : ℕ → ℕ → ℕ → Mem → ℕ → Plan
release_later p k i m o =
    checked (ends_fit k m (ring_number p o i))
    (refuse_if (full k (ends_in m (ring_number p o i))) (RingsFull (successor m i))
    (counted m (Placed (task_copy (made_copy m i)) (record { 0 = o })) (advance i m ∷ append p k o i (made_copy m i) m)))

-- 10: "Release: buffer empty"; else "the oldest task in i's buffer, its successor s at the cursor", and the worker that s is fixed to. The degree isn't
-- read: "A copy's Complete alone lowers the degree"
unfoldable pub release_rule : Form → ℕ → ℕ → ℕ → Mem → Plan
release_rule f p k i m =
    checked (places_fit m (row_in m i).read (row_in m i).write)
    (refuse_if (eqb (row_in m i).read (row_in m i).write) NothingThere
    (checked (task_fits m (oldest m i))
    (checked (range_fits m (oldest m i))
    (checked (cursor_fits m (oldest m i) (row_in m i).cursor)
    (checked (task_fits m (successor m i))
    (checked (fixed_fits p (fixed_in m (successor m i)))
    (cond (eqb (fixed_in m (successor m i)) unfixed.0) (release_first f p k i m) (release_later p k i m (fixed_in m (successor m i))))))))))

unfoldable pub rule_of : Step → ℕ → ℕ → ℕ → Mem → Plan
rule_of Fetch p k i m = fetch_rule p k i m
rule_of Start p k i m = start_rule i m
rule_of Complete p k i m = complete_rule p i m
rule_of Release p k i m = release_rule (own p m) p k i m

-- "In a step: 2, 1, 7, phase word (8), 9; then the step's rule is followed from its first sentence"
unfoldable pub step_plan : Limits → ℕ → ℕ → ℕ → Step → Mem → Plan
step_plan limits p k i step m = headed limits p k i step m (rule_of step p k i m)

unfoldable pub step : Limits → ℕ → ℕ → ℕ → Step → Mem → Result WeakAnswer
step limits p k i s m = carried_out (step_plan limits p k i s m) m
