-- Laws over plain lists and numbers that the functions' proofs cite: the rule's stages, each with its test.
use Prim.Native.Nat.{ℕ, ◌+◌, ◌*◌, ◌%◌, ◌≤◌, ◌<◌}
use mathlib.Core.Path.{◌≡◌, refl, sym, ap, subst, ◌∙◌}
use mathlib.Core.List.{List, [], ◌∷◌}
use native.Mathlib.Omega.{arith}
use native.Mathlib.Nat.{mod-lt}
use borrow.Author.Tests.{lt-ltb, le-ltb}
use lib.ListN.{length, get_or, set}
use Rattle.std.specs.Prelude.{Some, None, Ok, Err}
use Rattle.task.specs.Refusals.{Answer}
use Rattle.task.specs.declared.refusal.Refusal.{Refusal}
use Rattle.task.specs.declared.refusal.Refusal.TheVariants.{Damaged, NothingThere}
use Rattle.lists.specs.Circles.{after}
use Rattle.lists.proofs.Places.{place_end}
use Rattle.task.specs.Types.{idle, engine}
use Rattle.task.specs.Phases.{leads_to}
use Rattle.task.specs.declared.Ends.{Ends}
use Rattle.task.specs.declared.Limits.{Limits}
use Rattle.task.specs.declared.Row.{Row}
use Rattle.task.specs.declared.Step.TheVariants.{Fetch}
use Rattle.task.specs.declared.StepOutcome.TheVariants.{Fetched}
use Rattle.task.specs.declared.TaskId.{TaskId}
use Rattle.task.specs.declared.WorkerId.{WorkerId}
use Rattle.ring.specs.Ring.{end_words, Sound, Empty, empty, slot_at, ends_at, store_ends, head_on}
use Rattle.ring.proofs.Ends.{empty-told}
use Rattle.choice.specs.Search as rules
use Rattle.memory.specs.Field as list
use Rattle.memory.specs.Updates.{updated, written}
use Rattle.memory.proofs.Fields.{set-again}
use Rattle.rules.specs.Memory.{Mem, all_steps, ring_number, row_in, with_hand, with_pointer, pointer_in}
use Rattle.rules.specs.Updates.{Update, put_ends, put_hand, put_pointer}
use Rattle.rules.specs.Plans.{accept, with_count, counted, result_of, carried_out}
use Rattle.rules.specs.Steps.{scan, fetch_task, fetch_from, fetch_rule, rule_of}
use Rattle.plans.proofs.Searches.{Looked, search-looked}
use Rattle.searches.specs.Searches.{Found, found_of, Reads}
use Rattle.task.specs.declared.refusal.Damaged as word
use Rattle.admission.specs.Admission.{Measured, Knows, entered, Admits, Enters, Admitted, Stepped}
use Rattle.admission.specs.declared.Sizes.{Sizes}
use Rattle.admission.proofs.Rows.{admission-measured, admission-refused, admission-entered, admission-enters, few-steps, refused-result, rule-refused, rule-accepted}
use Rattle.fetch.specs.Fetch.{lent, Extent, FetchesFound, FetchesAdmitted, Fetches, HandAndPointer}
use Rattle.fetch.specs.Plan.{FetchPlan, Readable, Sized, scan_of, Fetchable, PlansTask, Reachable, Scanned, Finds, PlansFound, Takes, PlansFetch, Takeable, fetched_row, taken_by}
use Rattle.fetch.specs.declared.Head.{Head}

-- a memory before the step
abbrev old : List ℕ → List ℕ → List ℕ → Mem → Mem
old rings ends run m = lent m rings ends run m.rows

-- Task t, of the ring filled by j, with these ends.
module _ (n steps : ℕ) (run : List ℕ) (j : ℕ) (both : Ends) (t : ℕ) where
  pub task-unknown : n ≤ t → PlansTask n steps run j both t (Err Damaged)
  unfolding PlansTask fetch_task
  task-unknown a p k i rings ends m e = rw (e.0, le-ltb t n a)

  module _ (a : t < n) where
    pub task-counted : steps ≤ get_or run 1 0 → PlansTask n steps run j both t (Err Damaged)
    unfolding PlansTask fetch_task counted all_steps
    task-counted b p k i rings ends m e = rw (e.1, e.0, lt-ltb t n a, le-ltb (get_or run 1 0) steps b)

    pub task-fetchable : get_or run 1 0 < steps → (filler : WorkerId) (task : TaskId) → filler.0 ≡ j → task.0 ≡ t
        → PlansTask n steps run j both t (Ok (record { filler = filler; ends = both; task = task; accepted = get_or run 1 0 }))
    unfolding PlansTask
    task-fetchable b filler task e f = (e, (refl, (f, record { known = rw f a; counts = refl; accepted = b })))

-- Where the scan stops.
module _ (p k i pointer : ℕ) (ends : List ℕ) (x : Found) (hx : found_of x ≡ scan_of p k i pointer ends)
    (reads : Reads (λ j. ends_at ends (ring_number p i j)) x) (j : WorkerId) (both : Ends) (v : x ≡ Ok (Some (j, both))) where
  found_at : scan_of p k i pointer ends ≡ rules.at j.0
  found_at = sym hx ∙ ap found_of v

  ends_found : both ≡ ends_at ends (ring_number p i j.0)
  ends_found = subst (Reads (λ j. ends_at ends (ring_number p i j))) v reads

  pub scan-stops : pointer < p → (j.0 < p) × (Sound k both × ¬ (Empty both))
  scan-stops h =
      go (subst (Looked p k Empty (λ d. ends_at ends (ring_number p i ((pointer + d) % p))) pointer) found_at
      (search-looked p k pointer Empty empty empty-told (λ j. ends_at ends (ring_number p i j))))
    where
      go : Looked p k Empty (λ d. ends_at ends (ring_number p i ((pointer + d) % p))) pointer (rules.at j.0)
          → (j.0 < p) × (Sound k both × ¬ (Empty both))
      go (d, s, q) = rw (ends_found, q) (mod-lt (pointer + d) (omega arith), (s.sound, s.stops))

-- from the pointer on
goes_on : (p k i pointer : ℕ) (rings ends run : List ℕ) → pointer < p
    → (f : rules.Found) → f ≡ scan_of p k i pointer ends → (m : Mem) → pointer_in m i ≡ pointer
    → fetch_rule p k i (old rings ends run m) ≡ fetch_from p k i (old rings ends run m) f
unfolding fetch_rule scan
goes_on p k i pointer rings ends run h f hf m q = rw (hf, q, lt-ltb pointer p h)

-- What comes after a scan.
module _ (p k i n steps : ℕ) (rings run : List ℕ) (x : Found) where
  pub found-unsound : (d : word.Damaged) → x ≡ Err d → PlansFound p k i n steps rings run x (Err Damaged)
  unfolding PlansFound fetch_from
  found-unsound d v ends m e reads = rw v refl

  pub found_none : x ≡ Ok None → PlansFound p k i n steps rings run x (Err NothingThere)
  unfolding PlansFound fetch_from
  found_none v ends m e reads = rw v refl

  module _ (j : WorkerId) (both : Ends) (v : x ≡ Ok (Some (j, both))) where
    pub found_inside : Reachable p k x → (j.0 < p) × Sound k both
    found_inside told = rw v at told

    -- the task is the word at the head of ring q, which is the ring found
    module _ (q : ℕ) (hq : q ≡ ring_number p i j.0) (t : ℕ) (ht : t ≡ get_or rings (slot_at k q both.head) 0) where
      task-at : t ≡ get_or rings (slot_at k (ring_number p i j.0) both.head) 0
      task-at = rw (← hq) ht

      pub found-takes : (r : FetchPlan) → PlansTask n steps run j.0 both t r → PlansFound p k i n steps rings run x r
      unfolding PlansTask PlansFound fetch_from
      found-takes (Err why) plans =
          λ ends m e reads. rw v (rw (← subst (Reads (λ j. ends_at ends (ring_number p i j))) v reads, ← task-at) (plans p k i rings ends m e))
      found-takes (Ok head) (a, (b, (c, f))) =
          record {
            is = v ∙ ap (λ (z : ℕ). Ok (Some (record { 0 = z }, both))) (sym a) ∙ ap (λ (z : Ends). Ok (Some (head.filler, z))) (sym b);
            first = rw (a, ap (λ (z : Ends). z.head) b, c) task-at;
            task = f;
          }

-- The whole rule, with the pointer of worker i.
module _ (p k i n steps pointer : ℕ) (rings ends run : List ℕ) where
  pub pointer-damaged : p ≤ pointer → PlansFetch p k i n steps pointer rings ends run (Err Damaged)
  unfolding PlansFetch fetch_rule
  pointer-damaged h m e q = rw (q, le-ltb pointer p h)

  module _ (h : pointer < p) (x : Found) (hx : found_of x ≡ scan_of p k i pointer ends) where
    follows : (y : Found) → x ≡ y → (m : Mem) → pointer_in m i ≡ pointer
        → fetch_rule p k i (old rings ends run m) ≡ fetch_from p k i (old rings ends run m) (found_of y)
    follows y v m q = rw (← v) (goes_on p k i pointer rings ends run h (found_of x) hx m q)

    module _ (reads : Reads (λ j. ends_at ends (ring_number p i j)) x) where
      pub scan-reachable : Reachable p k x
      scan-reachable = go x refl
        where
          go : (y : Found) → x ≡ y → Reachable p k y
          go (Err d) v = tt
          go (Ok None) v = tt
          go (Ok (Some (j, both))) v = let stops = scan-stops p k i pointer ends x hx reads j both v h in (stops.0, stops.1.0)

      pub scan-plans : (r : FetchPlan) → PlansFound p k i n steps rings run x r → PlansFetch p k i n steps pointer rings ends run r
      unfolding PlansFound PlansFetch
      scan-plans (Err why) plans = λ m e w. follows x refl m w ∙ plans ends m e reads
      scan-plans (Ok head) f =
          let stops = scan-stops p k i pointer ends x hx reads head.filler head.ends f.is h in
          record {
            points = h;
            found = found_at p k i pointer ends x hx reads head.filler head.ends f.is;
            filler = stops.0;
            reads = ends_found p k i pointer ends x hx reads head.filler head.ends f.is;
            sound = stops.1.0;
            waits = stops.1.1;
            first = f.first;
            task = f.task;
          }

pub sized-readable : (p k i : ℕ) (rings ends run : List ℕ) → Sized p k i rings ends run → Readable p k i rings run
sized-readable p k i rings ends run s =
    record { few_workers = s.ready.few_workers; worker = s.ready.worker; all_rings = s.all_rings; both_words = s.ready.both_words }

-- what is needed to read the head of ring q
pub head-ready : (p k i : ℕ) (rings run : List ℕ) → Readable p k i rings run
    → (q : ℕ) → q < p * p → (both : Ends) → Sound k both → (q * k + k ≤ length rings) × Sound k both
head-ready p k i rings run s q h both f = (rw s.all_rings (place_end k (p * p) q h), f)

-- what is needed to write the ends of ring q, the one that j fills
pub ends-ready : (p k i : ℕ) (ends run : List ℕ) (j : ℕ) (both : Ends) (accepted : ℕ) → Takeable p k i ends run j both accepted
    → (q : ℕ) → (q ≡ ring_number p i j) × (q < p * p)
    → (q * end_words + end_words ≤ length ends) × ((both ≡ ends_at ends q) × (Sound k both × ((k ≤ engine.slots) × ¬ (Empty both))))
ends-ready p k i ends run j both accepted s q h =
    (omega (arith, s.ready.all_ends, h.1), (rw h.0 s.reads, (s.sound, (s.ready.few_slots, s.waits))))

pub row-taken : (p j : ℕ) (task : TaskId) (row : Row) (next : WorkerId) → next.0 ≡ after p j
    → ◌≡◌ {A = Stepped} (Ok (Fetched task, with_pointer next.0 (with_hand row.phase task row))) (Ok (Fetched task, fetched_row p j task row))
row-taken p j task row next e = rw e refl

-- what is stored as the ends of ring q are those of the ring filled by j
pub stored_at : (ends new : List ℕ) (q r : ℕ) (both : Ends) → q ≡ r → new ≡ store_ends ends q both → new ≡ store_ends ends r both
stored_at ends new q r both e h = rw (← e) h

-- The head of a ring is taken: the rule's plan, and the memory that its writes leave.
module _ (p k i : ℕ) where
  abbrev updates : Head → List ℕ → List ℕ → List ℕ → Mem → List Update
  updates head rings ends run m =
      with_count (old rings ends run m)
      (put_ends (ring_number p i head.filler.0) (head_on k (ends_at ends (ring_number p i head.filler.0)))
      ∷ put_hand i (leads_to Fetch) head.task.0
      ∷ put_pointer i (after p head.filler.0)
      ∷ [])

  head-planned : (n steps : ℕ) (rings ends run : List ℕ) (head : Head) → head.ends ≡ ends_at ends (ring_number p i head.filler.0)
      → head.task.0 ≡ get_or rings (slot_at k (ring_number p i head.filler.0) head.ends.head) 0 → Fetchable n steps run head
      → (m : Mem) → Extent n steps m
      → fetch_from p k i (old rings ends run m) (rules.at head.filler.0) ≡ accept (Fetched head.task) (updates head rings ends run m)
  unfolding fetch_from fetch_task counted all_steps
  head-planned n steps rings ends run head reads first f m e =
      rw (
        ← reads,
        ← first,
        e.1,
        e.0,
        lt-ltb head.task.0 n f.known,
        lt-ltb (get_or run 1 0) steps (rw (← f.counts) f.accepted),
      )

  head-taken : (rings ends run : List ℕ) (head : Head) → head.ends ≡ ends_at ends (ring_number p i head.filler.0) → head.accepted ≡ get_or run 1 0
      → (row : Row) (m : Mem) → row ≡ entered Fetch (row_in m i)
      → lent m rings (store_ends ends (ring_number p i head.filler.0) (head_on k head.ends)) (set run 1 (head.accepted + 1))
      (set m.rows i (fetched_row p head.filler.0 head.task row))
      ≡ written (updates head rings ends run m) (old rings ends run m)
  unfolding written updated
  head-taken rings ends run head reads counts row m l =
      rw (
        l,
        reads,
        counts,
        ← set-again m.rows i (with_hand (leads_to Fetch) head.task (row_in m i)) idle (with_pointer (after p head.filler.0)),
      )
      refl

-- A plan that takes.
module _ (p k i n steps pointer : ℕ) (rings ends run : List ℕ) (x : FetchPlan)
    (hx : PlansFetch p k i n steps pointer rings ends run x) (head : Head) (v : x ≡ Ok head) where
  takes_of : Takes p k i n steps pointer rings ends run head
  unfolding PlansFetch
  takes_of = subst (PlansFetch p k i n steps pointer rings ends run) v hx

  pub fetch-ready : Sized p k i rings ends run → steps ≤ 65535
      → Takeable p k i ends run head.filler.0 head.ends head.accepted
  fetch-ready s l =
      record {
        ready = s.ready;
        filler = takes_of.filler;
        reads = takes_of.reads;
        sound = takes_of.sound;
        waits = takes_of.waits;
        few = omega (arith, takes_of.task.accepted);
      }

-- A plan carried out, for a worker with this row.
module _ (p k i n steps : ℕ) (row : Row) (rings ends run : List ℕ) (x : FetchPlan)
    (hx : PlansFetch p k i n steps row.pointer.0 rings ends run x) where
  abbrev before : Mem → Mem
  before = old rings ends run

  -- Fetch sets out from the pointer that stands in the worker's row
  points-at : (limits : Limits) (m : Mem) → Enters limits p k i Fetch (before m) row → pointer_in m i ≡ row.pointer.0
  points-at limits m enters = sym (ap (λ (r : Row). r.pointer.0) enters.leads)

  pub fetch-refused : (why : Refusal) → x ≡ Err why
      → FetchesAdmitted n steps p k i row rings ends ends run run (Err why)
  unfolding FetchesAdmitted PlansFetch rule_of
  fetch-refused why v limits m e enters =
      rule-refused limits p k i Fetch (before m) row enters why
      (subst (PlansFetch p k i n steps row.pointer.0 rings ends run) v hx m e (points-at limits m enters))

  module _ (head : Head) (v : x ≡ Ok head) where
    takes : Takes p k i n steps row.pointer.0 rings ends run head
    takes = takes_of p k i n steps row.pointer.0 rings ends run x hx head v

    planned : (m : Mem) → Extent n steps m → pointer_in m i ≡ row.pointer.0
        → fetch_rule p k i (before m) ≡ accept (Fetched head.task) (updates p k i head rings ends run m)
    planned m e h =
        goes_on p k i row.pointer.0 rings ends run takes.points (rules.at head.filler.0) (sym takes.found) m h
        ∙ head-planned p k i n steps rings ends run head takes.reads takes.first takes.task m e

    pub fetch-taken : (new-ends new-run : List ℕ) (r : Stepped)
        → (new-ends ≡ store_ends ends (ring_number p i head.filler.0) (head_on k head.ends)) × (new-run ≡ set run 1 (head.accepted + 1))
        → r ≡ taken_by p head row
        → FetchesAdmitted n steps p k i row rings ends new-ends run new-run r × HandAndPointer row r
    unfolding FetchesAdmitted rule_of
    fetch-taken new-ends new-run r (a, b) f = (
      λ limits m e enters. rw (f, a, b)
          (ap (result_of (Ok (Fetched head.task)))
          (head-taken p k i rings ends run head takes.reads takes.task.counts row m enters.leads)
          ∙ rule-accepted limits p k i Fetch (before m) row enters (Fetched head.task) (updates p k i head rings ends run m)
          (planned m e (points-at limits m enters))),
      rw f refl,
    )

-- The same from the end of a scan on.
module _ (p k i n steps : ℕ) (row : Row) (rings ends run : List ℕ) (x : Found) (scanned : Scanned p k i ends x) where
  pub scanned-reachable : Reachable p k x
  scanned-reachable = go x scanned
    where
      go : (y : Found) → Scanned p k i ends y → Reachable p k y
      go (Err d) s = tt
      go (Ok None) s = tt
      go (Ok (Some (j, both))) (h, (e, (f, w))) = (h, f)

  module _ (z : FetchPlan) (hz : PlansFound p k i n steps rings run x z) where
    pub found-refused : (why : Refusal) → z ≡ Err why
        → FetchesFound n steps p k i row rings ends ends run run x (Err why)
    unfolding FetchesFound PlansFound carried_out
    found-refused why v m e l = rw (subst (PlansFound p k i n steps rings run x) v hz ends m e (reads x scanned)) refl
      where
        reads : (y : Found) → Scanned p k i ends y → Reads (λ j. ends_at ends (ring_number p i j)) y
        reads (Err d) s = tt
        reads (Ok None) s = tt
        reads (Ok (Some (j, both))) (h, (q, (f, w))) = q

    module _ (head : Head) (v : z ≡ Ok head) where
      finds : Finds p k i n steps rings run x head
      unfolding PlansFound
      finds = subst (PlansFound p k i n steps rings run x) v hz

      there : Scanned p k i ends (Ok (Some (head.filler, head.ends)))
      there = subst (Scanned p k i ends) finds.is scanned

      pub found-ready : Sized p k i rings ends run → steps ≤ 65535 → Takeable p k i ends run head.filler.0 head.ends head.accepted
      found-ready s l =
          record {
            ready = s.ready;
            filler = there.0;
            reads = there.1.0;
            sound = there.1.1.0;
            waits = there.1.1.1;
            few = omega (arith, finds.task.accepted);
          }

      pub found-taken : (new-ends new-run : List ℕ) (r : Stepped)
          → (new-ends ≡ store_ends ends (ring_number p i head.filler.0) (head_on k head.ends)) × (new-run ≡ set run 1 (head.accepted + 1))
          → r ≡ taken_by p head row
          → FetchesFound n steps p k i row rings ends new-ends run new-run x r × HandAndPointer row r
      unfolding FetchesFound carried_out
      found-taken new-ends new-run r (a, b) f = (
        λ m e l. rw (f, a, b, finds.is, head-planned p k i n steps rings ends run head there.1.0 finds.first finds.task m e)
            (ap (result_of (Ok (Fetched head.task)))
            (head-taken p k i rings ends run head there.1.0 finds.task.counts row m l)),
        rw f refl,
      )

-- What is known of the numbers and of the lengths, once the step is admitted.
module _ (p k i : ℕ) (sizes : Sizes) (judged : Answer) (known : Knows p k i sizes judged) (row : Row) (x : Admitted)
    (told : Admits row Fetch judged x) (row' : Row) (v : x ≡ Ok row') where
  measured : Measured p k i sizes
  measured = admission-measured p k i sizes row Fetch judged known x told row' v

  pub row-steps : 3 * sizes.weights + sizes.preds ≤ 11264
  row-steps = few-steps p k i sizes measured

  pub row_sized : (rings ends run : List ℕ) → (length rings ≡ sizes.rings) × ((length ends ≡ sizes.ends) × (length run ≡ sizes.run))
      → Sized p k i rings ends run × (3 * sizes.weights + sizes.preds ≤ 65535)
  row_sized rings ends run (r, (e, n)) = (
    record {
      ready = record {
        few_workers = measured.few_workers;
        few_slots = measured.few_slots;
        worker = measured.worker;
        all_ends = e ∙ measured.lengths.list list.ends;
        both_words = n ∙ measured.lengths.list list.run;
      };
      all_rings = r ∙ measured.lengths.list list.rings;
    },
    omega (arith, row-steps),
  )

-- What the admission has told.
module _ (p k i : ℕ) (sizes : Sizes) (judged : Answer) (row : Row) (rings ends run : List ℕ) (x : Admitted) (told : Admits row Fetch judged x) where
  pub row-refused : (why : Refusal) → x ≡ Err why
      → Fetches p k i sizes judged row rings ends ends run run (Err why)
  unfolding Fetches
  row-refused why v limits m judges e h =
      refused-result limits p k i Fetch (old rings ends run m) why
      (admission-refused p k i sizes row Fetch limits (old rings ends run m) e h judged judges x told why v)

  module _ (row' : Row) (v : x ≡ Ok row') where
    -- what the rule keeps of the row in its new phase, it keeps of the worker's row
    kept : (r : Stepped) → HandAndPointer row' r → HandAndPointer row r
    kept (Err why) h = h
    kept (Ok (o, after)) h = h ∙ rw (admission-entered row Fetch judged x told row' v).1 refl

    pub row-fetches : (new-ends new-run : List ℕ) (r : Stepped)
        → FetchesAdmitted sizes.weights (3 * sizes.weights + sizes.preds) p k i row' rings ends new-ends run new-run r × HandAndPointer row' r
        → Fetches p k i sizes judged row rings ends new-ends run new-run r × HandAndPointer row r
    unfolding FetchesAdmitted Fetches all_steps
    row-fetches new-ends new-run r (f, w) = (
      (λ limits m judges e h. f limits m (rw (← e) (refl, refl))
          (admission-enters p k i sizes row Fetch limits (old rings ends run m) e h judged judges x told row' v)),
      kept r w,
    )
