-- The cases of Complete's plan, in the order of its rule; what its reads and writes ask; the step's result in each case.
use Prim.Native.Nat.{ℕ, ◌+◌, ◌-◌, ◌*◌, ◌≤◌, ◌<◌}
use mathlib.Core.Path.{◌≡◌, refl, sym, ap, ◌∙◌}
use mathlib.Core.Bool.{Bool, true, false, cond, not, ◌&&◌, ◌||◌}
use mathlib.Core.List.{List, [], ◌∷◌}
use native.Mathlib.Omega.{arith}
use lib.Dec.{ltb, leb, eqb}
use lib.ListN.{length, get_or, set, length-set}
use lib.IntN.{ℤ, pos, ◌-ℤ◌}
use borrow.Author.Tests.{ltb-true, le-leb, lt-leb, lt-ltb, le-ltb, eq-eqb, ne_eqb, not-true, not-false}
use Rattle.std.specs.Prelude.{Err, Ok}
use Rattle.task.specs.declared.refusal.Refusal.{Refusal}
use Rattle.task.specs.declared.refusal.Refusal.TheVariants.{Damaged, RecordFull}
use Rattle.lists.proofs.Places.{place-lt}
use Rattle.lists.proofs.Told.{and-true, and-false}
use Rattle.task.specs.Types.{nil, engine}
use Rattle.task.specs.Refusals.{Answer}
use Rattle.task.specs.declared.Limits.{Limits}
use Rattle.task.specs.declared.Step.TheVariants.{Complete}
use Rattle.weak_task.specs.Types.{copy_of, no_copy, idle}
use Rattle.weak_task.specs.Rows.{with_hand, with_places}
use Rattle.weak_task.specs.declared.TaskCopy.{TaskCopy}
use Rattle.weak_task.specs.declared.WeakRow.{WeakRow}
use Rattle.weak_task.specs.declared.WeakOutcome.TheVariants.{Moved}
use Rattle.memory.specs.Field as list
use Rattle.memory.specs.Updates.{store_words, updated, written}
use Rattle.memory.proofs.Fields.{set-again}
use Rattle.weak_rules.specs.Memory.{Mem, tasks, edges, all_entries, ring_number, row_in}
use Rattle.weak_rules.specs.Words.{counter_fits}
use Rattle.weak_rules.specs.Updates.{Update}
use Rattle.weak_rules.specs.Plans.{Plan, refuse, accept, refuse_if, checked, with_count, counted, result_of}
use Rattle.weak_rules.specs.Steps.{complete_copy, complete_sink, complete_inner, complete_last, complete_rule, rule_of}
use Rattle.admission.proofs.Laws.{few-places}
use Rattle.weak_admission.specs.Admission.{sizes_of, Judges, Measured, Admits, Enters, entered, WeakAdmitted, WeakStepped}
use Rattle.weak_admission.specs.Count.{copy_within}
use Rattle.weak_admission.specs.declared.WeakSizes.{WeakSizes}
use Rattle.weak_admission.proofs.Rows.{admission-entered, admission-refused, admission-enters, word-damaged, word_counts, count-refused, count-accepted, refused-result, rule-refused, rule-accepted}
use Rattle.weak_complete.specs.Complete.{lent, Completes, HandAndWrite}
use Rattle.weak_complete.specs.Planned.{CompletePlan, Copy, Sink, Inner, sink_updates, inner_updates, plan_of, Plans, PlansLast, Opens, Room, Leaves, Writable, Decides, DecidesLast, DecidesCopy}
use Rattle.weak_complete.specs.Written.{let_go_row, Records, Enterable, Lightens, Joinable, WritesCopy, WritesSink, WritesInner}

-- a place that isn't below n: whether it is n or beyond, the answer is the same
unplaced : (b : Bool) (rest : Plan) → checked b (checked false rest) ≡ refuse Damaged
unplaced true rest = refl
unplaced false rest = refl

-- the words of an entry lie in the record
pub second-inside : (l : List ℕ) (n a : ℕ) → 3 * n + 2 < length l → 3 * n + 1 < length (set l (3 * n) a)
second-inside l n a h = rw (length-set l (3 * n) a) (omega (arith, h))

pub words-stored : (l : List ℕ) (n a b c : ℕ) → set (set (set l (3 * n) a) (3 * n + 1) b) (3 * n + 2) c ≡ store_words l (3 * n) (a ∷ b ∷ c ∷ [])
unfolding store_words
words-stored l n a b c =
    let e : 3 * n + 2 ≡ 3 * n + 1 + 1 = omega arith in
    rw e refl

-- the run words after one of them is written
pub run_inside : (l : List ℕ) (a : ℕ) → length l ≡ 3 → 0 < length (set l 1 a)
run_inside l a h = rw (length-set l 1 a, h) (omega arith)

-- The accepted word comes last, R being in its range.
module _ (n e : ℕ) (run : List ℕ) (entries roots task degree : ℕ) (o : Opens n e run entries roots task degree) where
  few_roots : get_or run 2 0 ≤ n
  few_roots = omega (arith, o.few_roots, o.roots_are)

  pub count-ends : 4 * e + 3 * roots ≤ get_or run 1 0 → (m : Mem) → tasks m ≡ n → edges m ≡ e → m.run ≡ run → (us : List Update)
      → counted m Moved us ≡ refuse Damaged
  count-ends h m hn he hu us =
      count-refused n e m (hn, he) Moved us (record {}) (rw hu (sym (word-damaged n e run few_roots (omega (arith, h, o.roots_are)))))

  module _ (h : get_or run 1 0 < 4 * e + 3 * roots) where
    pub count-goes : (m : Mem) → tasks m ≡ n → edges m ≡ e → m.run ≡ run → (us : List Update)
        → counted m Moved us ≡ accept Moved (with_count m us)
    count-goes m hn he hu us =
        count-accepted n e m (hn, he) Moved us (get_or run 1 0) (rw hu (sym (word_counts n e run few_roots (omega (arith, h, o.roots_are)))))

    pub room-is : Room n e run entries (get_or run 1 0) task degree
    room-is = record {
      entries_word = o.entries_word;
      accepted_word = refl;
      entry = omega (arith, o.entry, o.few_roots);
      step = omega (arith, h, o.few_roots);
      task_fits = o.task_fits;
      lowers = o.lowers;
    }

  -- a copy that isn't its task's last
  pub copy-counted : 4 * e + 3 * roots ≤ get_or run 1 0 → DecidesCopy n e run task degree (Err Damaged)
  unfolding complete_copy
  copy-counted h = ((λ p i m hn he hu. count-ends h m hn he hu _), (λ own row weights counters ht hw. tt))

  pub copy-planned : get_or run 1 0 < 4 * e + 3 * roots → DecidesCopy n e run task degree (Copy entries (get_or run 1 0) degree)
  unfolding complete_copy
  copy-planned h = ((λ p i m hn he hu. count-goes h m hn he hu _), (λ own row weights counters ht hw. (rw (ht, hw) (room-is h), refl)))

-- The task's last copy.
module _ (e own : ℕ) (row : WeakRow) (weights succ_starts : List ℕ) (counters : List ℤ) (run : List ℕ) (entries roots : ℕ)
    (o : Opens (length weights) e run entries roots row.held.task.0 1) where
  abbrev weight : ℕ
  weight = get_or weights row.held.task.0 0

  abbrev counter : ℤ
  counter = get_or counters own (pos 0)

  abbrev first : ℕ
  first = get_or succ_starts row.held.task.0 0

  abbrev past : ℕ
  past = get_or succ_starts (row.held.task.0 + 1) 0

  abbrev ranged : Bool
  ranged = leb first past && leb past e

  abbrev sink : Bool
  sink = eqb (past - first) 0

  -- the places of a task that joins the buffer
  abbrev joins : Plan → Plan
  joins rest = checked (leb row.read row.write && leb row.write (length weights)) (checked (ltb row.write (length weights)) rest)

  -- the rule in the words that are read, by what it comes to for a sink and for a task with successors
  abbrev weighed : Plan → Plan → Plan
  weighed alone joined = checked (leb weight 65535) (checked (counter_fits counter) (checked ranged (cond sink alone (joins joined))))

  abbrev LastPlanned : (Plan → Plan → Plan) → CompletePlan → Type 0
  LastPlanned rest plan =
      (p i : ℕ) (m : Mem) → tasks m ≡ length weights → edges m ≡ e → m.run ≡ run
      → rest (counted m Moved (sink_updates p i m)) (counted m Moved (inner_updates p i m)) ≡ plan_of p i m plan

  lastly : (plan : CompletePlan) → LastPlanned weighed plan → PlansLast e own row weights succ_starts counters run plan
  unfolding complete_last complete_sink complete_inner
  lastly plan f p i m he ho hr hw hs hc hu =
      let x : weighed (counted m Moved (sink_updates p i m)) (counted m Moved (inner_updates p i m)) ≡ plan_of p i m plan = f p i m (ap length hw) he hu in
      rw (← he, ho, hr, ← hw, ← hs, ← hc) at x

  abbrev Decided : CompletePlan → Type 0
  Decided plan = DecidesLast e own row weights succ_starts counters run plan

  pub last-heavy : 65535 < weight → Decided (Err Damaged)
  last-heavy h = (lastly (Err Damaged) (λ p i m hn he hu. rw (lt-leb weight 65535 h) refl), tt)

  module _ (l : weight ≤ 65535) (fits : Bool) (hf : fits ≡ counter_fits counter) where
    pub last-counter : not fits ≡ true → Decided (Err Damaged)
    last-counter h = (lastly (Err Damaged) (λ p i m hn he hu. rw (le-leb weight 65535 l, sym hf ∙ not-true fits h) refl), tt)

    module _ (x : not fits ≡ false) where
      counter-fits : counter_fits counter ≡ true
      counter-fits = sym hf ∙ not-false fits x

      leaves : Leaves own row.held.task.0 weights counters weight
      leaves = record { weighs = refl; light = l; counter = counter-fits }

      -- what the tests up to here leave of the rule
      ranges : (plan : CompletePlan) → LastPlanned (λ alone joined. checked ranged (cond sink alone (joins joined))) plan
          → PlansLast e own row weights succ_starts counters run plan
      ranges plan f = lastly plan (λ p i m hn he hu. rw (le-leb weight 65535 l, counter-fits) (f p i m hn he hu))

      pub last-beyond : e < past → Decided (Err Damaged)
      last-beyond h =
          (ranges (Err Damaged) (λ p i m hn he hu. rw (and-false (leb first past) (leb past e) (λ q. lt-leb past e h)) refl), tt)

      module _ (d : past ≤ e) where
        pub last-back : past < first → Decided (Err Damaged)
        last-back h = (ranges (Err Damaged) (λ p i m hn he hu. rw (lt-leb first past h) refl), tt)

        in-range : first ≤ past → ranged ≡ true
        in-range h = rw (le-leb first past h, le-leb past e d) refl

        -- a sink
        module _ (f : past ≤ first) (b : first ≤ past) where
          none : past - first ≡ 0
          none = omega arith

          alone : (plan : CompletePlan) → LastPlanned (λ alone joined. alone) plan → PlansLast e own row weights succ_starts counters run plan
          alone plan g = ranges plan (λ p i m hn he hu. rw (in-range b, eq-eqb (past - first) 0 none) (g p i m hn he hu))

          pub sink-counted : 4 * e + 3 * roots ≤ get_or run 1 0 → Decided (Err Damaged)
          sink-counted h =
              (alone (Err Damaged) (λ p i m hn he hu. count-ends (length weights) e run entries roots _ 1 o h m hn he hu _), tt)

          pub last-sink : get_or run 1 0 < 4 * e + 3 * roots → Decided (Sink entries (get_or run 1 0) weight)
          last-sink g = (
            alone (Sink entries (get_or run 1 0) weight)
                (λ p i m hn he hu. count-goes (length weights) e run entries roots _ 1 o g m hn he hu _),
            (room-is (length weights) e run entries roots _ 1 o g, (refl, leaves)),
          )

        -- a task with successors
        module _ (f : first < past) where
          some : ¬ (past - first ≡ 0)
          some q = omega (arith, q)

          rising : first ≤ past
          rising = omega arith

          joining : (plan : CompletePlan) → LastPlanned (λ alone joined. joins joined) plan → PlansLast e own row weights succ_starts counters run plan
          joining plan g = ranges plan (λ p i m hn he hu. rw (in-range rising, ne_eqb (past - first) 0 some) (g p i m hn he hu))

          pub last-full : length weights ≤ row.write → Decided (Err Damaged)
          last-full h = (
            joining (Err Damaged)
                (λ p i m hn he hu. rw (le-ltb row.write (length weights) h)
                (unplaced (leb row.read row.write && leb row.write (length weights)) (counted m Moved (inner_updates p i m)))),
            tt,
          )

          module _ (w : row.write < length weights) where
            pub last-places : row.write < row.read → Decided (Err Damaged)
            last-places h = (joining (Err Damaged) (λ p i m hn he hu. rw (lt-leb row.read row.write h) refl), tt)

            module _ (r : row.read ≤ row.write) where
              below : row.write ≤ length weights
              below = omega arith

              joined : (plan : CompletePlan) → LastPlanned (λ alone joined. joined) plan → PlansLast e own row weights succ_starts counters run plan
              joined plan g =
                  joining plan
                  (λ p i m hn he hu. rw (
                    le-leb row.read row.write r,
                    le-leb row.write (length weights) below,
                    lt-ltb row.write (length weights) w,
                  ) (g p i m hn he hu))

              pub inner-counted : 4 * e + 3 * roots ≤ get_or run 1 0 → Decided (Err Damaged)
              inner-counted h =
                  (joined (Err Damaged) (λ p i m hn he hu. count-ends (length weights) e run entries roots _ 1 o h m hn he hu _), tt)

              pub last_inner : get_or run 1 0 < 4 * e + 3 * roots → Decided (Inner entries (get_or run 1 0) weight)
              last_inner g = (
                joined (Inner entries (get_or run 1 0) weight)
                    (λ p i m hn he hu. count-goes (length weights) e run entries roots _ 1 o g m hn he hu _),
                (room-is (length weights) e run entries roots _ 1 o g, (refl, (leaves, w))),
              )

-- The held copy and its task's degree.
pub held-within : (copy : TaskCopy) (n : ℕ) (fits : Bool) → fits ≡ copy_within n (copy_of copy) → not fits ≡ false → copy.task.0 < n
held-within copy n fits hf x =
    ltb-true copy.task.0 n
    (and-true (ltb copy.task.0 n) (eqb copy.predecessor.0 nil.0 || ltb copy.predecessor.0 n) (sym hf ∙ not-false fits x)).0

pub opens : (n e : ℕ) (run : List ℕ) (copy : TaskCopy) (degree : ℕ) → get_or run 2 0 ≤ n → get_or run 0 0 < e + get_or run 2 0
    → (fits : Bool) → fits ≡ copy_within n (copy_of copy) → not fits ≡ false → 1 ≤ degree
    → Opens n e run (get_or run 0 0) (get_or run 2 0) copy.task.0 degree
opens n e run copy degree a b fits hf x d =
    record {
      entries_word = refl;
      roots_are = refl;
      few_roots = a;
      entry = b;
      task_fits = held-within copy n fits hf x;
      lowers = d;
    }

-- The rule up to the degree.
module _ (e own : ℕ) (row : WeakRow) (weights succ_starts degrees : List ℕ) (counters : List ℤ) (run : List ℕ) where
  abbrev n : ℕ
  n = length weights

  abbrev degree : ℕ
  degree = get_or degrees row.held.task.0 0

  abbrev within : Bool
  within = leb 1 degree && leb degree n

  -- the rule in the words that are read, by what it comes to for the last copy and for another one
  abbrev held_on : Plan → Plan → Plan
  held_on last copy = checked (copy_within n (copy_of row.held)) (checked within (cond (eqb degree 1) last copy))

  abbrev ruled : Plan → Plan → Plan
  ruled last copy =
      checked (leb (get_or run 2 0) n)
      (checked (leb (get_or run 0 0) (e + get_or run 2 0))
      (refuse_if (eqb (get_or run 0 0) (e + get_or run 2 0)) RecordFull
      (held_on last copy)))

  abbrev Planned : (Plan → Plan → Plan) → CompletePlan → Type 0
  Planned rest plan =
      (p i : ℕ) (m : Mem) → edges m ≡ e → own ≡ ring_number p i i → row ≡ entered Complete (row_in m i)
      → m.weights ≡ weights → m.succ_starts ≡ succ_starts → m.degrees ≡ degrees → m.counters ≡ counters → m.run ≡ run
      → rest (complete_last p i m) (complete_copy i m) ≡ plan_of p i m plan

  planned : (plan : CompletePlan) → Planned ruled plan → Plans e own row weights succ_starts degrees counters run plan
  unfolding complete_rule all_entries
  planned plan f p i m he ho hr hw hs hd hc hu =
      let x : ruled (complete_last p i m) (complete_copy i m) ≡ plan_of p i m plan = f p i m he ho hr hw hs hd hc hu in
      rw (← he, hr, ← hw, ← hd, ← hu) at x

  abbrev DecidedAll : CompletePlan → Type 0
  DecidedAll plan = Decides e own row weights succ_starts degrees counters run plan

  pub plan-roots : n < get_or run 2 0 → DecidedAll (Err Damaged)
  plan-roots h = (planned (Err Damaged) (λ p i m he ho hr hw hs hd hc hu. rw (lt-leb (get_or run 2 0) n h) refl), tt)

  module _ (a : get_or run 2 0 ≤ n) where
    pub plan-full : get_or run 0 0 ≡ e + get_or run 2 0 → DecidedAll (Err RecordFull)
    plan-full h =
        let b : get_or run 0 0 ≤ e + get_or run 2 0 = omega (arith, h) in (
          planned (Err RecordFull)
              (λ p i m he ho hr hw hs hd hc hu. rw (
                le-leb (get_or run 2 0) n a,
                le-leb (get_or run 0 0) (e + get_or run 2 0) b,
                eq-eqb (get_or run 0 0) (e + get_or run 2 0) h,
              ) refl),
          tt,
        )

    pub plan-over : e + get_or run 2 0 ≤ get_or run 0 0 → ¬ (get_or run 0 0 ≡ e + get_or run 2 0) → DecidedAll (Err Damaged)
    plan-over l h =
        let b : e + get_or run 2 0 < get_or run 0 0 = omega (arith, l, h) in (
          planned (Err Damaged)
              (λ p i m he ho hr hw hs hd hc hu. rw (le-leb (get_or run 2 0) n a, lt-leb (get_or run 0 0) (e + get_or run 2 0) b) refl),
          tt,
        )

    module _ (b : get_or run 0 0 < e + get_or run 2 0) (fits : Bool) (hf : fits ≡ copy_within n (copy_of row.held)) where
      few : get_or run 0 0 ≤ e + get_or run 2 0
      few = omega arith

      other : ¬ (get_or run 0 0 ≡ e + get_or run 2 0)
      other q = omega (arith, q)

      -- what the tests up to here leave of the rule
      recorded : (plan : CompletePlan) → Planned held_on plan → Plans e own row weights succ_starts degrees counters run plan
      recorded plan f =
          planned plan
          (λ p i m he ho hr hw hs hd hc hu. rw (
            le-leb (get_or run 2 0) n a,
            le-leb (get_or run 0 0) (e + get_or run 2 0) few,
            ne_eqb (get_or run 0 0) (e + get_or run 2 0) other,
          ) (f p i m he ho hr hw hs hd hc hu))

      pub plan-held : not fits ≡ true → DecidedAll (Err Damaged)
      plan-held h =
          (recorded (Err Damaged) (λ p i m he ho hr hw hs hd hc hu. rw (sym hf ∙ not-true fits h) refl), tt)

      module _ (x : not fits ≡ false) where
        copy-fits : copy_within n (copy_of row.held) ≡ true
        copy-fits = sym hf ∙ not-false fits x

        pub plan-none : degree ≡ 0 → DecidedAll (Err Damaged)
        plan-none h = (recorded (Err Damaged) (λ p i m he ho hr hw hs hd hc hu. rw (copy-fits, h) refl), tt)

        pub plan-beyond : n < degree → DecidedAll (Err Damaged)
        plan-beyond h = (
          recorded (Err Damaged)
              (λ p i m he ho hr hw hs hd hc hu. rw (copy-fits, and-false (leb 1 degree) (leb degree n) (λ q. lt-leb degree n h)) refl),
          tt,
        )

        -- the degree is in its range
        module _ (d : 1 ≤ degree) (l : degree ≤ n) where
          lowers : within ≡ true
          lowers = rw (le-leb 1 degree d, le-leb degree n l) refl

          by-degree : (plan : CompletePlan) → Planned (cond (eqb degree 1)) plan → Plans e own row weights succ_starts degrees counters run plan
          by-degree plan f =
              recorded plan (λ p i m he ho hr hw hs hd hc hu. rw (copy-fits, lowers) (f p i m he ho hr hw hs hd hc hu))

        pub plan-last : degree ≡ 1 → (r : CompletePlan) → DecidesLast e own row weights succ_starts counters run r → DecidedAll r
        plan-last q r last =
            let some : 1 ≤ degree = omega (arith, q) in
            let few : degree ≤ n = omega (arith, q, held-within row.held n fits hf x) in (
              by-degree some few r (λ p i m he ho hr hw hs hd hc hu. rw (eq-eqb degree 1 q) (last.0 p i m he ho hr hw hs hc hu)),
              rw q last.1,
            )

        pub plan-copy : 2 ≤ degree → degree ≤ n → (r : CompletePlan) → DecidesCopy n e run row.held.task.0 degree r → DecidedAll r
        plan-copy q l r copied =
            let some : 1 ≤ degree = omega (arith, q) in
            let more : ¬ (degree ≡ 1) = λ h. omega (arith, q, h) in (
              by-degree some l r (λ p i m he ho hr hw hs hd hc hu. rw (ne_eqb degree 1 more) (copied.0 p i m (ap length hw) he hu)),
              copied.1 own row weights counters refl refl,
            )

-- What is asked of the lengths, once the step is admitted.
module _ (p k i : ℕ) (sizes : WeakSizes) (f : Measured p k i sizes) (weights succ_starts degrees : List ℕ) (counters : List ℤ)
    (buffers executed run : List ℕ)
    (z : (length weights ≡ sizes.weights) × ((length succ_starts ≡ sizes.succ_starts) × ((length degrees ≡ sizes.degrees)
    × ((length counters ≡ sizes.counters) × ((length buffers ≡ sizes.buffers)
    × ((length executed ≡ sizes.executed) × (length run ≡ sizes.run)))))))
    (own : ℕ) (o : own < p * p) where
  own-inside : own < length counters
  own-inside = omega (arith, f.lengths.list list.counters, z.1.1.1.0)

  pub plan-asks : (length weights ≤ engine.tasks) × ((sizes.preds ≤ engine.edges) × ((length succ_starts ≡ length weights + 1)
      × ((length degrees ≡ length weights) × ((own < length counters) × (length run ≡ 3)))))
  plan-asks = (
    omega (arith, f.few_tasks, z.0),
    (
      f.few_edges,
      (
        omega (arith, f.lengths.list list.succ_starts, z.0, z.1.0),
        (
          omega (arith, f.lengths.list list.degrees, z.0, z.1.1.0),
          (own-inside, z.1.1.1.1.1.1 ∙ f.lengths.list list.run),
        ),
      ),
    ),
  )

  -- an accepted plan can be written
  module _ (row : WeakRow) (plan : CompletePlan) (d : Decides sizes.preds own row weights succ_starts degrees counters run plan)
      (entries accepted : ℕ) where
    abbrev task : ℕ
    task = row.held.task.0

    enterable : (degree : ℕ) → Room (length weights) sizes.preds run entries accepted task (get_or degrees task 0) → degree ≡ get_or degrees task 0
        → Enterable task degree entries accepted degrees executed run
    enterable degree room q = record {
      recordable = record {
        task_fits = omega (arith, f.lengths.list list.degrees, room.task_fits, z.0, z.1.1.0);
        lowers = omega (arith, room.lowers, q);
        three_words = z.1.1.1.1.1.1 ∙ f.lengths.list list.run;
        entry = omega (arith, f.lengths.list list.executed, room.entry, z.0, z.1.1.1.1.1.0);
        few = omega (arith, f.few_tasks, f.few_edges, room.entry, z.0);
        step = omega (arith, f.few_tasks, f.few_edges, room.step, z.0);
      };
      degree_word = q;
      entries_word = room.entries_word;
      accepted_word = room.accepted_word;
    }

    lightens : (weight : ℕ) → Leaves own task weights counters weight → Lightens own weight counters
    lightens weight leaves = (own-inside, (leaves.counter, leaves.light))

    joinable : row.write < length weights → Joinable i (length weights) row.write (length buffers)
    joinable h =
        let few = few-places p k sizes.weights (f.few_workers, (f.few_slots, f.few_tasks)) in
        let lies = place-lt sizes.weights p i row.write f.worker (rw (← z.0) h) in
        rw z.0 (record {
          inside = omega (arith, f.lengths.list list.buffers, z.1.1.1.1.0, lies);
          few = omega (arith, f.lengths.list list.buffers, z.1.1.1.1.0, few);
          place = omega (arith, f.few_tasks, h, z.0);
        })

    pub copy-asks : (degree : ℕ) → plan ≡ Copy entries accepted degree → Enterable task degree entries accepted degrees executed run
    copy-asks degree w =
        let x : Writable sizes.preds own row weights counters run (get_or degrees task 0) (Copy entries accepted degree) = (rw w at d).1 in
        enterable degree x.0 x.1

    module _ (weight : ℕ) where
      pub sink-asks : plan ≡ Sink entries accepted weight
          → Enterable task 1 entries accepted degrees executed run × Lightens own weight counters
      sink-asks w =
          let x : Writable sizes.preds own row weights counters run (get_or degrees task 0) (Sink entries accepted weight) = (rw w at d).1 in
          (enterable 1 x.0 (sym x.1.0), lightens weight x.1.1)

      pub inner-asks : plan ≡ Inner entries accepted weight
          → Enterable task 1 entries accepted degrees executed run
          × (Lightens own weight counters × Joinable i (length weights) row.write (length buffers))
      inner-asks w =
          let x : Writable sizes.preds own row weights counters run (get_or degrees task 0) (Inner entries accepted weight) = (rw w at d).1 in
          (enterable 1 x.0 (sym x.1.0), (lightens weight x.1.1.0, joinable x.1.1.1))

-- The writes make the plan's updates.
module _ (i : ℕ) (row : WeakRow) (degree entries accepted : ℕ) (degrees degrees' executed executed' run run' : List ℕ)
    (h : Enterable row.held.task.0 degree entries accepted degrees executed run)
    (records : Records entries accepted degree (copy_of row.held) i degrees degrees' executed executed' run run') where
  pub copy_written : (r : WeakRow) → r ≡ let_go_row row.write row → WritesCopy i row degrees degrees' executed executed' run run' r
  unfolding WritesCopy written updated
  copy_written r o m hr =
      rw (
        o,
        records.lowered,
        records.entry,
        records.counted,
        h.degree_word,
        h.entries_word,
        h.accepted_word,
        hr,
      )
      refl

  module _ (own weight : ℕ) (counters counters' : List ℤ) (lowered : counters' ≡ set counters own (get_or counters own (pos 0) -ℤ pos weight)) where
    pub sink-written : (r : WeakRow) → r ≡ let_go_row row.write row
        → WritesSink i own weight row degrees degrees' counters counters' executed executed' run run' r
    unfolding WritesSink written updated
    sink-written r o p m ho hr hw =
        rw (
          o,
          lowered,
          records.lowered,
          records.entry,
          records.counted,
          h.degree_word,
          h.entries_word,
          h.accepted_word,
          ← hw,
          ho,
          hr,
        )
        refl

    pub inner-written : (n : ℕ) (buffers buffers' : List ℕ) → buffers' ≡ set buffers (i * n + row.write) row.held.task.0
        → (r : WeakRow) → r ≡ let_go_row (row.write + 1) row
        → WritesInner i n own weight row degrees degrees' counters counters' buffers buffers' executed executed' run run' r
    unfolding WritesInner written updated
    inner-written n buffers buffers' hb r o p m ho hr hn hw =
        rw (
          o,
          lowered,
          hb,
          records.lowered,
          records.entry,
          records.counted,
          h.degree_word,
          h.entries_word,
          h.accepted_word,
          ← hn,
          ← hw,
          ho,
          hr,
          ← set-again m.rows i (with_hand 0 no_copy (row_in m i)) idle (with_places (row_in m i).read ((row_in m i).write + 1) (row_in m i).cursor),
        )
        refl

-- an accepted Complete leaves the row's other words
pub hand-and-write : (row : WeakRow) (judged : Answer) (r : WeakAdmitted) → Admits row Complete judged r → (after : WeakRow) → r ≡ Ok after
    → (write : ℕ) (left : WeakRow) → left ≡ let_go_row write after → HandAndWrite row (Ok (Moved, left))
hand-and-write row judged r told after v write left o = rw (o, (admission-entered row Complete judged r told after v).1) refl

-- The step by value: its admission, its plan and its writes, then the result.
module _ (p k i : ℕ) (sizes : WeakSizes) (row : WeakRow) (weights succ_starts degrees : List ℕ) (counters : List ℤ) (buffers executed run : List ℕ)
    (judged : Answer) (r : WeakAdmitted) (told : Admits row Complete judged r) where
  abbrev before : Mem → Mem
  before m = lent m weights succ_starts degrees counters buffers executed run m.rows

  -- what it leaves of the lists that it writes
  abbrev Makes : List ℕ → List ℤ → List ℕ → List ℕ → List ℕ → WeakStepped → Type 0
  Makes degrees' counters' buffers' executed' run' a =
      Completes p k i sizes judged row weights succ_starts degrees degrees' counters counters' buffers buffers' executed executed' run run' a

  pub row-refused : (why : Refusal) → r ≡ Err why → Makes degrees counters buffers executed run (Err why)
  unfolding Completes
  row-refused why v limits m j e h =
      refused-result limits p k i Complete (before m) why
      (admission-refused p k i sizes row Complete limits (before m) e h judged j r told why v)

  module _ (after : WeakRow) (v : r ≡ Ok after) (own : ℕ) (ho : own ≡ ring_number p i i) (plan : CompletePlan)
      (decided : Decides sizes.preds own after weights succ_starts degrees counters run plan) where
    module _ (limits : Limits) (m : Mem) (j : Judges limits p k i sizes judged) (e : sizes_of (before m) ≡ sizes) (h : row_in m i ≡ row) where
      enters : Enters limits p k i Complete (before m) after
      enters = admission-enters p k i sizes row Complete limits (before m) e h judged j r told after v

      follows : (q : CompletePlan) → plan ≡ q → complete_rule p i (before m) ≡ plan_of p i (before m) q
      follows q w = rw (← w) (decided.0 p i (before m) (ap (λ (x : WeakSizes). x.preds) e) ho enters.leads refl refl refl refl refl)

    pub rule-refuses : (why : Refusal) → plan ≡ Err why → Makes degrees counters buffers executed run (Err why)
    unfolding Completes rule_of
    rule-refuses why w limits m j e h =
        rule-refused limits p k i Complete (before m) after (enters limits m j e h) why (follows limits m j e h (Err why) w)

    module _ (entries accepted : ℕ) (degrees' executed' run' : List ℕ) (left : WeakRow) where
      pub copy-made : (degree : ℕ) → plan ≡ Copy entries accepted degree
          → WritesCopy i after degrees degrees' executed executed' run run' left
          → Makes degrees' counters buffers executed' run' (Ok (Moved, left))
      unfolding Completes rule_of WritesCopy
      copy-made degree w writes limits m j e h =
          ap (result_of (Ok Moved)) (writes (before m) (enters limits m j e h).leads)
          ∙ rule-accepted limits p k i Complete (before m) after (enters limits m j e h) Moved _
          (follows limits m j e h (Copy entries accepted degree) w)

      module _ (weight : ℕ) (counters' : List ℤ) where
        pub sink-made : plan ≡ Sink entries accepted weight
            → WritesSink i own weight after degrees degrees' counters counters' executed executed' run run' left
            → Makes degrees' counters' buffers executed' run' (Ok (Moved, left))
        unfolding Completes rule_of WritesSink
        sink-made w writes limits m j e h =
            let x : Writable sizes.preds own after weights counters run (get_or degrees after.held.task.0 0) (Sink entries accepted weight) = (rw w at decided).1 in
            ap (result_of (Ok Moved)) (writes p (before m) ho (enters limits m j e h).leads (sym x.1.1.weighs))
            ∙ rule-accepted limits p k i Complete (before m) after (enters limits m j e h) Moved _
            (follows limits m j e h (Sink entries accepted weight) w)

        pub inner_made : plan ≡ Inner entries accepted weight → (buffers' : List ℕ)
            → WritesInner i (length weights) own weight after degrees degrees' counters counters' buffers buffers' executed executed' run run' left
            → Makes degrees' counters' buffers' executed' run' (Ok (Moved, left))
        unfolding Completes rule_of WritesInner
        inner_made w buffers' writes limits m j e h =
            let x : Writable sizes.preds own after weights counters run (get_or degrees after.held.task.0 0) (Inner entries accepted weight) = (rw w at decided).1 in
            ap (result_of (Ok Moved)) (writes p (before m) ho (enters limits m j e h).leads refl (sym x.1.1.0.weighs))
            ∙ rule-accepted limits p k i Complete (before m) after (enters limits m j e h) Moved _
            (follows limits m j e h (Inner entries accepted weight) w)
