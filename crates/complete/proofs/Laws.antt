-- The cases of Complete's plan, in the order of its rule; what its reads and writes ask; the step's result in each case.
use Prim.Native.Nat.{ℕ, ◌+◌, ◌-◌, ◌*◌, ◌≤◌, ◌<◌}
use mathlib.Core.Path.{◌≡◌, refl, sym, ap, ◌∙◌}
use mathlib.Core.Bool.{Bool, true, false, cond, not, ◌&&◌}
use mathlib.Core.List.{List}
use native.Mathlib.Omega.{arith}
use lib.Dec.{ltb, leb, eqb}
use lib.ListN.{length, get_or, set}
use lib.IntN.{ℤ, pos, ◌-ℤ◌}
use borrow.Author.Tests.{lt-ltb, le-ltb, le-leb, lt-leb, eq-eqb, ne_eqb, not-true, not-false}
use Rattle.std.specs.Prelude.{Err, Ok}
use Rattle.task.specs.declared.refusal.Refusal.{Refusal}
use Rattle.task.specs.declared.refusal.Refusal.TheVariants.{Damaged, RecordFull}
use Rattle.lists.proofs.Places.{place-lt}
use Rattle.lists.proofs.Told.{and-false}
use Rattle.task.specs.Types.{nil, idle, engine}
use Rattle.task.specs.Refusals.{Answer}
use Rattle.task.specs.declared.Limits.{Limits}
use Rattle.task.specs.declared.Row.{Row}
use Rattle.task.specs.declared.Step.TheVariants.{Complete}
use Rattle.task.specs.declared.StepOutcome.TheVariants.{Moved}
use Rattle.memory.specs.Field as list
use Rattle.memory.specs.Updates.{store_words, updated, written}
use Rattle.memory.proofs.Fields.{set-again}
use Rattle.rules.specs.Memory.{Mem, all_entries, all_steps, ring_number, row_in, with_hand, with_places}
use Rattle.rules.specs.Words.{counter_fits}
use Rattle.rules.specs.Plans.{Plan, refuse, refuse_if, checked, counted}
use Rattle.rules.specs.Steps.{complete_sink, complete_inner, complete_rule, rule_of}
use Rattle.admission.specs.Admission.{sizes_of, Judges, Measured, Admits, Enters, Admitted, Stepped}
use Rattle.admission.specs.declared.Sizes.{Sizes}
use Rattle.admission.proofs.Laws.{few-places}
use Rattle.admission.proofs.Rows.{admission-entered, admission-refused, admission-enters, refused-result, rule-refused, rule-accepted}
use Rattle.complete.specs.Complete.{lent, Completes, HandAndWrite}
use Rattle.complete.specs.Planned.{CompletePlan, Sink, Inner, plan_of, Plans, Room, Decides, Recordable, Records, left_row, Leavable, Joinable}

-- a place that isn't below n: whether it is n or beyond, the answer is the same
unplaced : (a b c : Bool) (rest : Plan) → a && c ≡ false → checked (a && b) (checked c rest) ≡ refuse Damaged
unplaced true true c rest e = rw e
unplaced true false c rest e = refl
unplaced false b c rest e = refl

module _ (e own : ℕ) (row : Row) (weights succ_starts : List ℕ) (counters : List ℤ) (run : List ℕ) where
  abbrev n : ℕ
  n = length weights

  abbrev weight : ℕ
  weight = get_or weights row.held.0 0

  abbrev counter : ℤ
  counter = get_or counters own (pos 0)

  abbrev first : ℕ
  first = get_or succ_starts row.held.0 0

  abbrev past : ℕ
  past = get_or succ_starts (row.held.0 + 1) 0

  abbrev ranged : Bool
  ranged = leb first past && leb past e

  abbrev sink : Bool
  sink = eqb (past - first) 0

  abbrev placed : Bool
  placed = leb row.read row.write && ltb row.write n

  -- the accepted word comes last
  abbrev steady : Plan → Plan
  steady rest = checked (ltb (get_or run 1 0) (3 * n + e)) rest

  -- the places of a task that joins the buffer
  abbrev joins : Plan → Plan
  joins rest = checked (leb row.read row.write && leb row.write n) (checked (ltb row.write n) (steady rest))

  -- the rule once the held task is known
  abbrev weighed : Plan → Plan → Plan
  weighed alone joined =
      checked (leb weight 65535)
      (checked (counter_fits counter)
      (checked ranged
      (cond sink (steady alone) (joins joined))))

  -- the rule in the words that are read, by what it comes to for a sink and for a task with successors
  abbrev ruled : Plan → Plan → Plan
  ruled alone joined =
      checked (leb (get_or run 0 0) n)
      (refuse_if (eqb (get_or run 0 0) n) RecordFull
      (checked (ltb row.held.0 n)
      (weighed alone joined)))

  -- what the rule comes to, the words being those that it reads
  abbrev alone : ℕ → ℕ → Mem → Plan
  alone p i m = plan_of p i m (Sink (get_or run 0 0) (get_or run 1 0) weight)

  abbrev joined : ℕ → ℕ → Mem → Plan
  joined p i m = plan_of p i m (Inner (get_or run 0 0) (get_or run 1 0) weight)

  abbrev Planned : CompletePlan → Type 0
  Planned plan = Plans e own row weights succ_starts counters run plan

  planned : (plan : CompletePlan) → ((p i : ℕ) (m : Mem) → ruled (alone p i m) (joined p i m) ≡ plan_of p i m plan) → Planned plan
  unfolding complete_rule complete_sink complete_inner counted all_entries all_steps
  planned plan f p i m he ho hr hw hs hc hu = rw (← he, ho, hr, ← hw, ← hs, ← hc, ← hu) at f p i m

  pub plan-over : n < get_or run 0 0 → Planned (Err Damaged)
  plan-over h = planned (Err Damaged) (λ p i m. simp (lt-leb _ _ h))

  pub plan-full : get_or run 0 0 ≡ n → Planned (Err RecordFull)
  plan-full h = let a : get_or run 0 0 ≤ n = omega arith in planned (Err RecordFull) (λ p i m. simp (le-leb _ _ a, eq-eqb _ _ h))

  module _ (a : get_or run 0 0 < n) where
    fits : get_or run 0 0 ≤ n
    fits = omega arith

    unfilled : ¬ (get_or run 0 0 ≡ n)
    unfilled q = absurd (omega arith)

    pub plan-held : n ≤ row.held.0 → Planned (Err Damaged)
    plan-held h = planned (Err Damaged) (λ p i m. simp (le-leb _ _ fits, ne_eqb _ _ unfilled, le-ltb _ _ h))

    module _ (c : row.held.0 < n) where
      -- what the tests up to here leave of the rule
      held_known : (plan : CompletePlan) → ((p i : ℕ) (m : Mem) → weighed (alone p i m) (joined p i m) ≡ plan_of p i m plan) → Planned plan
      held_known plan f = planned plan (λ p i m. rw (le-leb _ _ fits, ne_eqb _ _ unfilled, lt-ltb _ _ c) (f p i m))

      pub plan-heavy : 65535 < weight → Planned (Err Damaged)
      plan-heavy h = held_known (Err Damaged) (λ p i m. rw (lt-leb weight 65535 h) refl)

      module _ (l : weight ≤ 65535) (counts : Bool) (hf : counts ≡ counter_fits counter) where
        pub plan-counter : not counts ≡ true → Planned (Err Damaged)
        plan-counter h = held_known (Err Damaged) (λ p i m. rw (le-leb weight 65535 l, sym hf ∙ not-true counts h) refl)

        module _ (x : not counts ≡ false) where
          counter-fits : counter_fits counter ≡ true
          counter-fits = sym hf ∙ not-false counts x

          unranged : ranged ≡ false → Planned (Err Damaged)
          unranged h = held_known (Err Damaged) (λ p i m. rw (le-leb weight 65535 l, counter-fits, h) refl)

          pub plan-past : e < past → Planned (Err Damaged)
          plan-past h = unranged (and-false (leb first past) (leb past e) (λ q. lt-leb past e h))

          pub plan-first : past < first → Planned (Err Damaged)
          plan-first h = unranged (rw (lt-leb first past h) refl)

          module _ (d : past ≤ e) where
            later : (plan : CompletePlan) → first ≤ past
                → ((p i : ℕ) (m : Mem) → cond sink (steady (alone p i m)) (joins (joined p i m)) ≡ plan_of p i m plan)
                → Planned plan
            later plan o f = held_known plan (λ p i m. rw (le-leb weight 65535 l, counter-fits, le-leb first past o, le-leb past e d) (f p i m))

            room : get_or run 1 0 < 3 * n + e → Room e own row.held.0 weights counters run (get_or run 0 0) (get_or run 1 0) weight
            room g = record {
              entries_word = refl;
              accepted_word = refl;
              weighs = refl;
              entry = a;
              step = g;
              light = l;
              counter = counter-fits;
            }

            -- no successors
            module _ (s : past ≤ first) (o : first ≤ past) where
              sinks : sink ≡ true
              sinks = eq-eqb (past - first) 0 (omega arith)

              pub plan-alone : 3 * n + e ≤ get_or run 1 0 → Planned (Err Damaged)
              plan-alone h = later (Err Damaged) o (λ p i m. simp (sinks, le-ltb _ _ h))

              pub plan-sink : get_or run 1 0 < 3 * n + e → Decides e own row weights succ_starts counters run (Sink (get_or run 0 0) (get_or run 1 0) weight)
              plan-sink g = (later (Sink (get_or run 0 0) (get_or run 1 0) weight) o (λ p i m. simp (sinks, lt-ltb _ _ g)), room g)

            -- some
            module _ (s : first < past) where
              ordered : first ≤ past
              ordered = omega arith

              inner : sink ≡ false
              inner = ne_eqb (past - first) 0 (λ q. absurd (omega arith))

              unplaces : placed ≡ false → Planned (Err Damaged)
              unplaces j =
                  later (Err Damaged) ordered
                  (λ p i m. rw inner (unplaced (leb row.read row.write) (leb row.write n) (ltb row.write n) _ j))

              pub plan-write : n ≤ row.write → Planned (Err Damaged)
              plan-write h = unplaces (and-false (leb row.read row.write) (ltb row.write n) (λ q. le-ltb row.write n h))

              pub plan-places : row.write < row.read → Planned (Err Damaged)
              plan-places h = unplaces (rw (lt-leb row.read row.write h) refl)

              module _ (w : row.write < n) (r : row.read ≤ row.write) where
                within : row.write ≤ n
                within = omega arith

                pub plan-counted : 3 * n + e ≤ get_or run 1 0 → Planned (Err Damaged)
                plan-counted h = later (Err Damaged) ordered (λ p i m. simp (inner, le-leb _ _ r, le-leb _ _ within, lt-ltb _ _ w, le-ltb _ _ h))

                pub plan-inner : get_or run 1 0 < 3 * n + e
                    → Decides e own row weights succ_starts counters run (Inner (get_or run 0 0) (get_or run 1 0) weight)
                plan-inner g = (
                  later (Inner (get_or run 0 0) (get_or run 1 0) weight) ordered
                      (λ p i m. simp (inner, le-leb _ _ r, le-leb _ _ within, lt-ltb _ _ w, lt-ltb _ _ g)),
                  (room g, w),
                )

-- What an admitted step's lengths let the plan read and its writes store.
module _ (p k i : ℕ) (sizes : Sizes) (f : Measured p k i sizes) where
  pub own-asks : (i < p) × (p ≤ engine.workers)
  own-asks = (f.worker, f.few_workers)

  module _ (n : ℕ) (hn : n ≡ sizes.weights) where
    pub plan-asks : (starts places words own : ℕ) → own < p * p → starts ≡ sizes.succ_starts → places ≡ sizes.counters → words ≡ sizes.run
        → (n ≤ engine.tasks) × ((sizes.preds ≤ engine.edges) × ((starts ≡ n + 1) × ((own < places) × (words ≡ 2))))
    plan-asks starts places words own o s c r = (
      omega (arith, f.few_tasks),
      (
        f.few_edges,
        (omega (arith, f.lengths.list list.succ_starts), (omega (arith, f.lengths.list list.counters), r ∙ f.lengths.list list.run)),
      ),
    )

    pub buffer-asks : (places write : ℕ) → places ≡ sizes.buffers → write < n → Joinable n i write places
    buffer-asks places write b h =
        let few = few-places p k sizes.weights (f.few_workers, (f.few_slots, f.few_tasks)) in
        let lies = place-lt sizes.weights p i write f.worker (rw (← hn) h) in (
          rw hn (omega (arith, f.lengths.list list.buffers)),
          (omega (arith, f.lengths.list list.buffers), omega (arith, f.few_tasks, h)),
        )

  -- by the words as read
  module _ (own task : ℕ) (weights : List ℕ) (counters : List ℤ) (run : List ℕ) (entries accepted weight : ℕ)
      (room : Room sizes.preds own task weights counters run entries accepted weight) where
    pub counter-asks : own < p * p → length counters ≡ sizes.counters → Leavable own weight counters
    counter-asks o c = (omega (arith, f.lengths.list list.counters), (room.counter, room.light))

    pub record-asks : length weights ≡ sizes.weights → (places words : ℕ) → places ≡ sizes.executed → words ≡ sizes.run
        → Recordable places words entries accepted
    record-asks w places words x r = (
      r ∙ f.lengths.list list.run,
      (
        omega (arith, f.lengths.list list.executed, room.entry),
        (omega (arith, f.few_tasks, room.entry), omega (arith, f.few_tasks, f.few_edges, room.step)),
      ),
    )

-- an accepted plan can be written
module _ (e own : ℕ) (row : Row) (weights succ_starts : List ℕ) (counters : List ℤ) (run : List ℕ) (plan : CompletePlan)
    (d : Decides e own row weights succ_starts counters run plan) (entries accepted weight : ℕ) where
  pub sink-writable : plan ≡ Sink entries accepted weight → Room e own row.held.0 weights counters run entries accepted weight
  sink-writable w = (rw w at d).1

  pub inner-writable : plan ≡ Inner entries accepted weight
      → Room e own row.held.0 weights counters run entries accepted weight × (row.write < length weights)
  inner-writable w = (rw w at d).1

-- an accepted Complete leaves the row's other words
pub hand-and-write : (row : Row) (judged : Answer) (r : Admitted) → Admits row Complete judged r → (after : Row) → r ≡ Ok after → (write : ℕ)
    → (a : Stepped) → a ≡ Ok (Moved, (left_row write after)) → HandAndWrite row a
hand-and-write row judged r told after v write a o = rw (o, (admission-entered row Complete judged r told after v).1) refl

-- The step by value: its admission and its plan, then the result.
module _ (p k i : ℕ) (sizes : Sizes) (row : Row) (weights succ_starts : List ℕ) (counters : List ℤ) (buffers executed run : List ℕ) (judged : Answer)
    (r : Admitted) (told : Admits row Complete judged r) where
  abbrev before : Mem → Mem
  before m = lent m weights succ_starts counters buffers executed run m.rows

  -- what it leaves of the lists that it writes
  abbrev Left : List ℤ → List ℕ → List ℕ → List ℕ → Stepped → Type 0
  Left counters' buffers' executed' run' a =
      Completes p k i sizes judged row weights succ_starts counters counters' buffers buffers' executed executed' run run' a

  pub row-refused : (why : Refusal) → r ≡ Err why → Left counters buffers executed run (Err why)
  unfolding Completes
  row-refused why v limits m j e h =
      refused-result limits p k i Complete (before m) why
      (admission-refused p k i sizes row Complete limits (before m) e h judged j r told why v)

  module _ (after : Row) (v : r ≡ Ok after) (own : ℕ) (ho : own ≡ ring_number p i i) (plan : CompletePlan)
      (decided : Decides sizes.preds own after weights succ_starts counters run plan) where
    module _ (limits : Limits) (m : Mem) (j : Judges limits p k i sizes judged) (e : sizes_of (before m) ≡ sizes) (h : row_in m i ≡ row) where
      enters : Enters limits p k i Complete (before m) after
      enters = admission-enters p k i sizes row Complete limits (before m) e h judged j r told after v

      follows : (q : CompletePlan) → plan ≡ q → complete_rule p i (before m) ≡ plan_of p i (before m) q
      follows q w = rw (← w) (decided.0 p i (before m) (ap (λ (x : Sizes). x.preds) e) ho enters.leads refl refl refl refl)

    pub rule-refuses : (why : Refusal) → plan ≡ Err why → Left counters buffers executed run (Err why)
    unfolding Completes rule_of
    rule-refuses why w limits m j e h =
        rule-refused limits p k i Complete (before m) after (enters limits m j e h) why (follows limits m j e h (Err why) w)

    module _ (entries accepted weight : ℕ) (room : Room sizes.preds own after.held.0 weights counters run entries accepted weight)
        (counters' : List ℤ) (lowered : counters' ≡ set counters own (get_or counters own (pos 0) -ℤ pos weight)) (executed' run' : List ℕ)
        (records : Records entries accepted after.held.0 i executed executed' run run') (a : Stepped) where
      pub sink-made : plan ≡ Sink entries accepted weight → a ≡ Ok (Moved, (left_row after.write after)) → Left counters' buffers executed' run' a
      unfolding Completes rule_of written updated store_words
      sink-made w o limits m j e h =
          rw (o, lowered, records.0, records.1, room.entries_word, room.accepted_word, room.weighs, ho, (enters limits m j e h).leads)
          (rule-accepted limits p k i Complete (before m) after (enters limits m j e h) Moved _ (follows limits m j e h (Sink entries accepted weight) w))

      pub inner_made : plan ≡ Inner entries accepted weight
          → (buffers' : List ℕ) → buffers' ≡ set buffers (i * length weights + after.write) after.held.0
          → a ≡ Ok (Moved, (left_row (after.write + 1) after))
          → Left counters' buffers' executed' run' a
      unfolding Completes rule_of written updated store_words
      inner_made w buffers' hb o limits m j e h =
          rw (
            o,
            lowered,
            records.0,
            records.1,
            room.entries_word,
            room.accepted_word,
            room.weighs,
            ho,
            hb,
            (enters limits m j e h).leads,
            ← set-again m.rows i (with_hand 0 nil (row_in m i)) idle (with_places (row_in m i).read ((row_in m i).write + 1) (row_in m i).cursor),
          )
          (rule-accepted limits p k i Complete (before m) after (enters limits m j e h) Moved _ (follows limits m j e h (Inner entries accepted weight) w))
