-- Laws over plain lists and numbers that the functions' proofs cite: the rule's stages, each with its test.
use Prim.Native.Nat.{ℕ, ◌+◌, ◌*◌, ◌%◌, ◌≤◌, ◌<◌}
use mathlib.Core.Path.{◌≡◌, refl, sym, ap, subst, ◌∙◌}
use mathlib.Core.Bool.{Bool, not, true, false}
use mathlib.Core.List.{List}
use native.Mathlib.Omega.{arith}
use native.Mathlib.Nat.{mod-lt}
use borrow.Author.Tests.{lt-ltb, le-ltb, not-true, not-false}
use lib.ListN.{length, get_or, set}
use Rattle.std.specs.Prelude.{Some, None, Err, Ok}
use Rattle.task.specs.Refusals.{Answer}
use Rattle.task.specs.declared.refusal.Refusal.{Refusal}
use Rattle.task.specs.declared.refusal.Refusal.TheVariants.{Damaged, NothingThere}
use Rattle.task.specs.declared.refusal.Damaged as word
use Rattle.lists.specs.Circles.{after}
use Rattle.lists.proofs.Places.{place_end}
use Rattle.task.specs.Types.{engine}
use Rattle.task.specs.Phases.{leads_to}
use Rattle.task.specs.declared.Ends.{Ends}
use Rattle.task.specs.declared.Limits.{Limits}
use Rattle.task.specs.declared.Step.TheVariants.{Fetch}
use Rattle.task.specs.declared.WorkerId.{WorkerId}
use Rattle.weak_task.specs.Types.{Copy, copy, copy_of, idle}
use Rattle.weak_task.specs.Rows.{with_hand, with_pointer}
use Rattle.weak_task.specs.declared.TaskCopy.{TaskCopy}
use Rattle.weak_task.specs.declared.WeakRow.{WeakRow}
use Rattle.weak_task.specs.declared.WeakOutcome.TheVariants.{Fetched}
use Rattle.ring.specs.Ring.{end_words, Sound, Empty, empty, slot_at, ends_at, store_ends, head_on}
use Rattle.ring.proofs.Ends.{empty-told}
use Rattle.choice.specs.Search as rules
use Rattle.memory.specs.Field as list
use Rattle.memory.specs.Updates.{updated, written}
use Rattle.memory.proofs.Fields.{set-again}
use Rattle.plans.proofs.Searches.{Looked, search-looked}
use Rattle.searches.specs.Searches.{Found, found_of, Reads}
use Rattle.weak_rules.specs.Memory.{Mem, ring_number, row_in, pointer_in}
use Rattle.weak_rules.specs.Plans.{result_of}
use Rattle.weak_rules.specs.Steps.{scan, fetch_copy, fetch_from, fetch_rule, rule_of}
use Rattle.weak_admission.specs.Admission.{sizes_of, Judges, Measured, Admits, Enters, WeakAdmitted}
use Rattle.weak_admission.specs.Count.{Counted, copy_within, count_of}
use Rattle.weak_admission.specs.declared.WeakSizes.{WeakSizes}
use Rattle.weak_admission.proofs.Rows.{admission-refused, admission-entered, admission-enters, few-steps, extent-of, counts-are, count-refused, count-accepted, refused-result, rule-refused, rule-accepted}
use Rattle.weak_fetch.specs.Fetch.{lent, Fetches, HandAndPointer}
use Rattle.weak_fetch.specs.Plan.{CopyPlan, Sized, HeadFound, scan_of, plan_of, Writable, Keeps, PlansFound, PlansFetch}
use Rattle.weak_fetch.specs.Written.{taken_row, Takeable, WritesFetch}
use Rattle.weak_fetch.specs.declared.CopyHead.{CopyHead}

-- a memory before the step
abbrev old : List Copy → List ℕ → List ℕ → Mem → Mem
old rings ends run m = lent m rings ends run m.rows

-- The ring filled by j, with these ends, and the copy at its head; `fits` is what its words were found to be.
module _ (p k i n e : ℕ) (rings : List Copy) (run : List ℕ) (j : WorkerId) (both : Ends) (q : ℕ) (hq : q ≡ ring_number p i j.0) (c : TaskCopy)
    (hc : copy_of c ≡ get_or rings (slot_at k q both.head) (copy 0 0)) (fits : Bool) (hf : fits ≡ copy_within n (copy_of c)) where
  -- the rule goes on with that copy
  at_head : (ends : List ℕ) (m : Mem) → both ≡ ends_at ends (ring_number p i j.0)
      → fetch_from p k i (old rings ends run m) (rules.at j.0) ≡ fetch_copy p k i (old rings ends run m) j.0 (copy_of c)
  unfolding fetch_from
  at_head ends m hb =
      ap (fetch_copy p k i (old rings ends run m) j.0)
      (ap (λ (x : Ends). get_or rings (slot_at k (ring_number p i j.0) x.head) (copy 0 0)) (sym hb) ∙ rw (← hq) (sym hc))

  pub found-damaged : not fits ≡ true → PlansFound p k i n e rings run j both (Err Damaged)
  unfolding PlansFound fetch_copy
  found-damaged a = ((λ ends m x hb. at_head ends m hb ∙ rw (x.0, sym hf ∙ not-true fits a)), tt)

  module _ (a : not fits ≡ false) (found : Counted) (hn : found ≡ count_of n e run) where
    pub found-counted : (d : word.Damaged) → found ≡ Err d → PlansFound p k i n e rings run j both (Err Damaged)
    unfolding PlansFound fetch_copy
    found-counted d v = (
      (λ ends m x hb. at_head ends m hb ∙ rw (x.0, sym hf ∙ not-false fits a) (count-refused n e (old rings ends run m) x _ _ d (sym hn ∙ v))),
      tt,
    )

    pub found-takes : (w : ℕ) → found ≡ Ok w
        → PlansFound p k i n e rings run j both (Ok (record { filler = j; ends = both; copy = c; accepted = w }))
    unfolding PlansFound fetch_copy
    found-takes w v = (
      (λ ends m x hb. at_head ends m hb ∙ rw (x.0, sym hf ∙ not-false fits a) (count-accepted n e (old rings ends run m) x _ _ w (sym hn ∙ v))),
      (refl, (refl, sym hn ∙ v)),
    )

-- Where the scan stops.
module _ (p k i pointer : ℕ) (ends : List ℕ) (x : Found) (hx : found_of x ≡ scan_of p k i pointer ends)
    (reads : Reads (λ j. ends_at ends (ring_number p i j)) x) (j : WorkerId) (both : Ends) (v : x ≡ Ok (Some (j, both))) where
  found_at : scan_of p k i pointer ends ≡ rules.at j.0
  found_at = sym hx ∙ ap found_of v

  ends_found : both ≡ ends_at ends (ring_number p i j.0)
  ends_found = subst (Reads (λ j. ends_at ends (ring_number p i j))) v reads

  pub scan-stops : pointer < p → (j.0 < p) × (Sound k both × ¬ (Empty both))
  scan-stops h =
      go (subst (Looked p k Empty (λ d. ends_at ends (ring_number p i ((pointer + d) % p))) pointer) found_at
      (search-looked p k pointer Empty empty empty-told (λ j. ends_at ends (ring_number p i j))))
    where
      go : Looked p k Empty (λ d. ends_at ends (ring_number p i ((pointer + d) % p))) pointer (rules.at j.0)
          → (j.0 < p) × (Sound k both × ¬ (Empty both))
      go (d, s, q) = rw (ends_found, q) (mod-lt (pointer + d) (omega arith), (s.sound, s.stops))

-- from the pointer on
goes_on : (p k i pointer : ℕ) (rings : List Copy) (ends run : List ℕ) → pointer < p
    → (f : rules.Found) → f ≡ scan_of p k i pointer ends → (m : Mem) → pointer_in m i ≡ pointer
    → fetch_rule p k i (old rings ends run m) ≡ fetch_from p k i (old rings ends run m) f
unfolding fetch_rule scan
goes_on p k i pointer rings ends run h f hf m q = rw (hf, q, lt-ltb pointer p h)

-- The whole rule, with the pointer of worker i.
module _ (p k i n e pointer : ℕ) (rings : List Copy) (ends run : List ℕ) where
  pub pointer-damaged : p ≤ pointer → PlansFetch p k i n e pointer rings ends run (Err Damaged)
  unfolding PlansFetch fetch_rule
  pointer-damaged h = ((λ m x q. rw (q, le-ltb pointer p h)), tt)

  module _ (h : pointer < p) (x : Found) (hx : found_of x ≡ scan_of p k i pointer ends) where
    follows : (y : Found) → x ≡ y → (m : Mem) → pointer_in m i ≡ pointer
        → fetch_rule p k i (old rings ends run m) ≡ fetch_from p k i (old rings ends run m) (found_of y)
    follows y v m q = rw (← v) (goes_on p k i pointer rings ends run h (found_of x) hx m q)

    pub scan-unsound : (d : word.Damaged) → x ≡ Err d → PlansFetch p k i n e pointer rings ends run (Err Damaged)
    unfolding PlansFetch fetch_from
    scan-unsound d v = ((λ m y q. follows (Err d) v m q), tt)

    pub scan-none : x ≡ Ok None → PlansFetch p k i n e pointer rings ends run (Err NothingThere)
    unfolding PlansFetch fetch_from
    scan-none v = ((λ m y q. follows (Ok None) v m q), tt)

    module _ (reads : Reads (λ j. ends_at ends (ring_number p i j)) x) (j : WorkerId) (both : Ends) (v : x ≡ Ok (Some (j, both))) where
      stops : (j.0 < p) × (Sound k both × ¬ (Empty both))
      stops = scan-stops p k i pointer ends x hx reads j both v h

      ends-are : both ≡ ends_at ends (ring_number p i j.0)
      ends-are = ends_found p k i pointer ends x hx reads j both v

      -- what is asked once the scan has stopped
      pub scan-asks : (cells : List (List ℕ)) → Sized p k i n e cells ends run → HeadFound p k i n e cells run j.0 both
      scan-asks cells s = record {
        few_workers = s.few_workers;
        worker = s.worker;
        filler = stops.0;
        few_tasks = s.few_tasks;
        few_edges = s.few_edges;
        all_rings = s.all_rings;
        all_words = s.all_words;
        sound = stops.1.0;
      }

      writable : (r : CopyPlan) → Keeps n e run j both r → Writable p k i n e ends run r
      writable (Err why) kept = tt
      writable (Ok head) (a, (b, d)) =
          rw (a, b) (record { filler = stops.0; reads = ends-are; sound = stops.1.0; waits = stops.1.1; counts = d })

      pub scan-takes : (r : CopyPlan) → PlansFound p k i n e rings run j both r → PlansFetch p k i n e pointer rings ends run r
      unfolding PlansFound PlansFetch
      scan-takes r plans = ((λ m y q. follows (Ok (Some (j, both))) v m q ∙ plans.0 ends m y ends-are), writable r plans.1)

-- what is needed to read the head of ring q
pub head-ready : (p k i n e : ℕ) (rings : List (List ℕ)) (run : List ℕ) (j : ℕ) (both : Ends) → HeadFound p k i n e rings run j both
    → (q : ℕ) → q < p * p → (q * k + k ≤ length rings) × Sound k both
head-ready p k i n e rings run j both s q h = (rw s.all_rings (place_end k (p * p) q h), s.sound)

-- The head is taken from ring q, which is the ring filled by j.
module _ (p k i : ℕ) (ends run : List ℕ) (j : ℕ) (both : Ends) (accepted : ℕ) (s : Takeable p k i ends run j both accepted)
    (q : ℕ) (h : (q ≡ ring_number p i j) × (q < p * p)) where
  pub ends-ready : (q * end_words + end_words ≤ length ends) × ((both ≡ ends_at ends q) × (Sound k both × ((k ≤ engine.slots) × ¬ (Empty both))))
  ends-ready = (omega (arith, s.all_ends, h.1), (rw h.0 s.reads, (s.sound, (s.few_slots, s.waits))))

  -- the writes make the plan's updates
  pub fetch-written : (row : WeakRow) (held : TaskCopy) (ends' : List ℕ) → ends' ≡ store_ends ends q (head_on k both)
      → (next : ℕ) → next ≡ after p j
      → WritesFetch p k i row j (copy_of held) ends ends' run (set run 1 (accepted + 1)) (with_pointer next (with_hand row.phase held row))
  unfolding WritesFetch written updated
  fetch-written row held ends' a next f m hr =
      rw (
        a,
        h.0,
        f,
        s.reads,
        s.accepted_word,
        hr,
        ← set-again m.rows i (with_hand (leads_to Fetch) held (row_in m i)) idle (with_pointer (after p j)),
      )
      refl

-- What is asked of the lengths, once the step is admitted.
module _ (p k i : ℕ) (sizes : WeakSizes) (f : Measured p k i sizes) (cells : List (List ℕ)) (ends run : List ℕ)
    (z : (length cells ≡ sizes.rings) × ((length ends ≡ sizes.ends) × (length run ≡ sizes.run))) where
  pub row_sized : Sized p k i sizes.weights sizes.preds cells ends run
  row_sized = record {
    few_workers = f.few_workers;
    few_slots = f.few_slots;
    worker = f.worker;
    few_tasks = f.few_tasks;
    few_edges = f.few_edges;
    all_rings = z.0 ∙ f.lengths.list list.rings;
    all_ends = z.1.0 ∙ f.lengths.list list.ends;
    all_words = z.1.1 ∙ f.lengths.list list.run;
  }

  -- a plan that takes can be written
  pub row-takeable : (pointer : ℕ) (rings : List Copy) (plan : CopyPlan)
      → PlansFetch p k i sizes.weights sizes.preds pointer rings ends run plan
      → (head : CopyHead) → plan ≡ Ok head → Takeable p k i ends run head.filler.0 head.ends head.accepted
  unfolding PlansFetch
  row-takeable pointer rings plan plans head v =
      let x : Writable p k i sizes.weights sizes.preds ends run (Ok head) = (rw v at plans).1 in
      record {
        few_workers = f.few_workers;
        few_slots = f.few_slots;
        worker = f.worker;
        filler = x.filler;
        all_ends = row_sized.all_ends;
        all_words = row_sized.all_words;
        reads = x.reads;
        sound = x.sound;
        waits = x.waits;
        accepted_word = (counts-are sizes.weights sizes.preds run head.accepted x.counts).0;
        few = omega (arith, few-steps sizes.weights sizes.preds run f.few_tasks f.few_edges head.accepted x.counts);
      }

-- an accepted Fetch leaves the row's other words
pub hand-and-pointer : (row : WeakRow) (judged : Answer) (x : WeakAdmitted) → Admits row Fetch judged x → (after : WeakRow) → x ≡ Ok after
    → (p j : ℕ) (held : TaskCopy) (left : WeakRow) → left ≡ taken_row p j held after → HandAndPointer row (Ok (Fetched held, left))
hand-and-pointer row judged x told after v p j held left o = rw (o, (admission-entered row Fetch judged x told after v).1) refl

-- The step by value: its admission, its plan and its writes, then the result.
module _ (p k i : ℕ) (sizes : WeakSizes) (judged : Answer) (row : WeakRow) (rings : List Copy) (ends run : List ℕ) (x : WeakAdmitted)
    (told : Admits row Fetch judged x) where
  pub row-refused : (why : Refusal) → x ≡ Err why
      → Fetches p k i sizes judged row rings ends ends run run (Err why)
  unfolding Fetches
  row-refused why v limits m judges e h =
      refused-result limits p k i Fetch (old rings ends run m) why
      (admission-refused p k i sizes row Fetch limits (old rings ends run m) e h judged judges x told why v)

  module _ (after : WeakRow) (v : x ≡ Ok after) (plan : CopyPlan)
      (plans : PlansFetch p k i sizes.weights sizes.preds after.pointer.0 rings ends run plan) where
    module _ (limits : Limits) (m : Mem) (judges : Judges limits p k i sizes judged) (e : sizes_of (old rings ends run m) ≡ sizes) (h : row_in m i ≡ row) where
      enters : Enters limits p k i Fetch (old rings ends run m) after
      enters = admission-enters p k i sizes row Fetch limits (old rings ends run m) e h judged judges x told after v

      -- Fetch sets out from the pointer that stands in the worker's row
      rule-is : (q : CopyPlan) → plan ≡ q → fetch_rule p k i (old rings ends run m) ≡ plan_of p k i (old rings ends run m) q
      unfolding PlansFetch
      rule-is q w =
          rw (← w) (plans.0 m (extent-of sizes (old rings ends run m) e) (sym (ap (λ (r : WeakRow). r.pointer.0) enters.leads)))

    pub rule-refuses : (why : Refusal) → plan ≡ Err why
        → Fetches p k i sizes judged row rings ends ends run run (Err why)
    unfolding Fetches rule_of
    rule-refuses why w limits m judges e h =
        rule-refused limits p k i Fetch (old rings ends run m) after (enters limits m judges e h) why
        (rule-is limits m judges e h (Err why) w)

    pub fetch-made : (head : CopyHead) → plan ≡ Ok head
        → (ends' run' : List ℕ) (left : WeakRow) → WritesFetch p k i after head.filler.0 (copy_of head.copy) ends ends' run run' left
        → Fetches p k i sizes judged row rings ends ends' run run' (Ok (Fetched head.copy, left))
    unfolding Fetches rule_of WritesFetch
    fetch-made head w ends' run' left writes limits m judges e h =
        ap (result_of (Ok (Fetched head.copy)))
        (writes (old rings ends run m) (enters limits m judges e h).leads)
        ∙ rule-accepted limits p k i Fetch (old rings ends run m) after (enters limits m judges e h)
        (Fetched head.copy) _ (rule-is limits m judges e h (Ok head) w)
