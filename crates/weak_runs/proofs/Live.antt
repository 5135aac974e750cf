-- Where a weak run isn't finished and a worker has something to do, its step is accepted: Start with a fetched copy, Complete with a running one, Fetch
-- where a copy waits for an idle worker. `Honest` holds of every memory that a run reaches; of the words beside it `Ranges` is asked for.
use Prim.Native.Nat.{ℕ, ◌+◌, ◌*◌, ◌%◌, ◌≤◌, ◌<◌}
use mathlib.Core.Path.{◌≡◌, refl, sym, ap, ◌∙◌}
use mathlib.Core.Logic.{inl, inr}
use mathlib.Core.List.{List, [], ◌∷◌, map}
use native.Mathlib.Omega.{arith}
use native.Mathlib.Decide.{ℕ_discrete, dec_lt}
use borrow.Author.Tests.{le-leb}
use lib.IntN.{ℤ}
use lib.Signed.{le_z_yes, clash_ℤ}
use lib.ListN.{length, replicate, length-append, length-map, length-replicate}
use Rattle.lists.specs.Decided.{tally}
use Rattle.lists.specs.Lists.{occ, occ_of}
use Rattle.lists.specs.Sums.{sum_to}
use Rattle.lists.proofs.Blocks.{length-tabulate}
use Rattle.lists.proofs.Decided.{stable, tally-yes, tally-no, tally-le-one}
use Rattle.lists.proofs.Integers.{≤ℤ-trans}
use Rattle.lists.proofs.Occurrences.{occ-hit}
use Rattle.lists.proofs.Places.{place-lt}
use Rattle.lists.proofs.Sums.{sum-most, sum_lt, sum-prefix}
use Rattle.task.specs.Types.{nil}
use Rattle.task.specs.Rows.{Acceptance}
use Rattle.task.specs.declared.Limits.{Limits}
use Rattle.task.specs.declared.Step.TheVariants.{Fetch, Start, Complete}
use Rattle.weak_task.specs.Types.{Copy, copy, task_copy}
use Rattle.weak_task.specs.Says.{step_says}
use Rattle.weak_task.specs.declared.WeakOutcome.TheVariants.{Moved, Fetched}
use Rattle.ring.specs.Ring.{Sound, Empty}
use Rattle.memory.specs.Field as list
use Rattle.graph.specs.Graph.{Graph, Edge, preds_of}
use Rattle.graph.specs.Conditions as conditions
use Rattle.graph.specs.Successors.{roots}
use Rattle.graph.proofs.Accepted.{fits-sound}
use Rattle.graph.proofs.Parts.{edge_of, few-preds}
use Rattle.graph.proofs.Reversed.{occ-roots, length-roots}
use Rattle.weak_rules.specs.Memory.{Mem, tasks, edges, graph_in, ring_number, ends_in, head_item, counter_in, degree_in, succ_count, row_in, held, pointer_in, roots_word, entries_in, accepted_in}
use Rattle.weak_rules.specs.Updates.{Update}
use Rattle.weak_rules.specs.Steps.{scan, step}
use Rattle.weak_rules.specs.Tables.{Beyond2^30, BadCopy, BadEnds, StopsAt, scanned, scanned_ends, NextCopy, LastCopy}
use Rattle.weak_rules.specs.Moves.{Ranged, Completing, CompletingLast, copies, sink, inner, Completes}
use Rattle.plans.proofs.Searches.{scan-looked}
use Rattle.weak_rules.proofs.Makes.{allowed-accepted, good-ranged}
use Rattle.split_lists.specs.Items.{waiting_for}
use Rattle.split_lists.specs.Reading.{thread_in}
use Rattle.system.specs.Stages.{Hand, idle, fetched, running, in_hand, phase, places}
use Rattle.system.specs.System as system
use Rattle.system.specs.System.{missing}
use Rattle.system.proofs.Records.{missing-none}
use Rattle.system.proofs.Counting.{held-few}
use Rattle.system.proofs.Progress.{held-wanted, waiting-wanted}
use Rattle.copies.specs.Copies.{same_copy, task_copies, is_copy, copies_of, all_copies, NoneTwice}
use Rattle.copies.proofs.Copies.{copy-edge, copy-task, each_copy, count-copies, copies-reversed}
use Rattle.copies.proofs.Runs.{weak-invariant, weak-below}
use Rattle.runs.specs.Items.{hand_of}
use Rattle.runs.proofs.Hands.{hand-phase, hand-holds, running-held}
use Rattle.runs.proofs.Meaning.{length-tasks}
use Rattle.runs.proofs.Rings as rings
use Rattle.weak_algorithm.specs.State.{Thread, State, thread_of}
use Rattle.weak_algorithm.specs.Reading.{record_in, state_of}
use Rattle.weak_algorithm.proofs.Readings.{degree-at, thread-at, phase-at}
use Rattle.weak_runs.specs.Counters.{Within}
use Rattle.weak_runs.proofs.Invariant.{done_of, meaning, system_in, Honest}

-- how many tasks are complete
abbrev pub complete_in : Mem → ℕ
complete_in m = sum_to (tasks m) (λ t. tally (ℕ_discrete (degree_in m t) 0))

-- what a run keeps of its words beside `Honest`
pub record Ranges (p : ℕ) (m : Mem) : Type 0 where
  -- no more tasks have joined the buffers than are complete
  pub filled : sum_to p (λ i. (row_in m i).write) ≤ complete_in m
  -- every counter is in its range
  pub within : (i j : ℕ) → i < p → j < p → Within (counter_in m (ring_number p i j))

-- a counter of an honest run is far from the range's ends
pub within-range : (c : ℤ) → Within c → ¬ (Beyond2^30 c)
within-range c w (inl h) = clash_ℤ h (≤ℤ-trans (le_z_yes tt) w.low)
within-range c w (inr h) = clash_ℤ h (≤ℤ-trans w.high (le_z_yes tt))

-- no more items of a list are missing than it has
missing-few : {A : Type 0} (same : Discrete A) (l done : List A) → missing same l done ≤ length l
unfolding missing
missing-few same [] done = omega arith
missing-few same (u ∷ l) done = omega (arith, missing-few same l done)

-- a task has no more copies than there are tasks: one for each predecessor, or a root's one
few-copies : (g : Graph) → conditions.Acceptable g → conditions.Sound g → (t : ℕ) → t < g.tasks → length (task_copies g t) ≤ g.tasks
unfolding task_copies
few-copies g a sound t h =
    omega (
      arith,
      h,
      length-append (map (copy t) (preds_of g t)) (replicate (occ t (roots g)) (copy t nil.0)),
      length-map (preds_of g t) (copy t),
      length-replicate (occ t (roots g)) (copy t nil.0),
      few-preds a t h,
      occ-roots g sound t,
      tally-yes (dec_lt t g.tasks) h,
    )

-- a copy of the graph is one of its task's
want_is : (g : Graph) (c : Copy) → occ_of same_copy c (task_copies g c.task) ≡ (copies_of g).want c
unfolding copies_of is_copy
want_is g c = refl

module _ {limits : Limits} {p k : ℕ} {m : Mem} (h : Honest limits p k m) where
  abbrev state : State
  state = state_of p k m

  pub honest-sound : conditions.Sound (graph_in m)
  honest-sound = fits-sound h.graph

  pub honest-once : NoneTwice (graph_in m)
  honest-once = h.graph.graph.once

  pub honest-laws : system.Reversed same_copy (copies_of (graph_in m))
  honest-laws = copies-reversed (graph_in m) honest-sound honest-once

  pub honest-invariant : system.Invariant same_copy (copies_of (graph_in m)) p (system_in p k m)
  honest-invariant = weak-invariant (graph_in m) honest-sound honest-once p h.weak

  -- each copy of the graph is wanted once
  pub want-copy : (c : Copy) → occ_of same_copy c (all_copies (graph_in m)) ≡ (copies_of (graph_in m)).want c
  unfolding copies_of
  want-copy = each_copy (graph_in m) honest-sound

  -- the copies recorded are as many as the entries word says
  pub recorded-length : length (system_in p k m).stages.done ≡ entries_in m
  unfolding meaning state_of record_in
  recorded-length = length-tasks (record_in m) ∙ rw (le-leb _ _ h.words.entries) (length-tabulate (entries_in m) _)

  pub all-length : length (all_copies (graph_in m)) ≡ edges m + roots_word m
  all-length = omega (arith, count-copies (graph_in m) honest-sound, h.words.roots)

  -- "over N is damaged"
  pub few-roots : roots_word m ≤ tasks m
  few-roots =
      omega (
        arith,
        h.words.roots,
        length-roots (graph_in m),
        sum-most (tasks m) (λ t. tally (ℕ_discrete (length (preds_of (graph_in m) t)) 0)) 1 (λ t l. tally-le-one (ℕ_discrete (length (preds_of (graph_in m) t)) 0)),
      )

  -- while a copy isn't recorded, the accepted word is below 4E + 3R
  pub low : entries_in m < edges m + roots_word m → accepted_in m < 4 * edges m + 3 * roots_word m
  unfolding meaning
  low free =
      omega (
        arith,
        weak-below (graph_in m) honest-sound honest-once p h.weak (omega (arith, free, recorded-length, h.words.roots)),
        h.words.roots,
      )

  -- a copy of the graph has no damaged word
  pub copy-good : (c : Copy) → (copies_of (graph_in m)).want c ≡ 1 → (c.task < tasks m) × ¬ (BadCopy m c)
  unfolding copies_of
  copy-good c e = (task, good)
    where
      task : c.task < tasks m
      task = copy-task (graph_in m) honest-sound c (omega (arith, e))

      good : ¬ (BadCopy m c)
      good (inl l) = omega (arith, l, task)
      good (inr (n, l)) =
          let edge : Edge (graph_in m) c.predecessor c.task =
          edge_of honest-sound c.predecessor c.task (omega (arith, e, copy-edge (graph_in m) c.task c.predecessor n)) in
          omega (arith, l, (honest-sound.good c.task edge.task).below c.predecessor edge.predecessor)

  pub ends-sound : (i : ℕ) → i < p → (j : ℕ) → j < p → Sound k (ends_in m (ring_number p i j))
  ends-sound i hi j hj = h.words.ends (ring_number p i j) (place-lt p p i j hi hj)

  -- a task's successors, as the rules read them
  pub task-ranged : (t : ℕ) → t < tasks m → Ranged m t
  task-ranged t l = good-ranged m (h.fits.lengths.list list.succs) t l (h.good t l)

  -- the words of worker i
  module _ (i : ℕ) (worker : i < p) where
    -- the row's words are those of the thread
    thread-phase : (x : Hand Copy) → hand_of (thread_of state i) ≡ x → (thread_of state i).phase ≡ phase x
    thread-phase x e = hand-phase (thread_of state i) (h.sane.phases i) ∙ ap (λ (y : Hand Copy). phase y) e

    pub row-phase : (x : Hand Copy) → hand_of (thread_of state i) ≡ x → (row_in m i).phase ≡ phase x
    row-phase x e = sym (phase-at p k m i worker) ∙ thread-phase x e

    pub row-held : (a : Copy) → hand_of (thread_of state i) ≡ running a → held m i ≡ a
    unfolding thread_in
    row-held a e =
        sym (ap (λ (r : Thread). r.held) (thread-at p k m i worker)) ∙ running-held (thread_of state i) a (thread-phase (running a) e) e

    pub row-pointer : pointer_in m i < p
    unfolding thread_in
    row-pointer = rw (ap (λ (r : Thread). r.pointer) (thread-at p k m i worker)) at (h.sane.pointers i worker)

    -- the next copy waits, and so it is one of the graph
    pub next-good : (c : Copy) → NextCopy p k i m c → ¬ (BadCopy m c)
    unfolding meaning state_of
    next-good c (e, stop, q) =
        (copy-good c
        (waiting-wanted same_copy (copies_of (graph_in m)) honest-laws p {s = system_in p k m} honest-invariant i c worker
        (rw q at (rings.next-waits h.fits h.words.ends i worker (record_in m) same_copy e stop)))).1

    -- the scan comes to no damaged ends
    pub scan-sound : ¬ (BadEnds p k Empty (scanned_ends p i m))
    scan-sound = rings.scan-sound h.fits h.words.ends i worker

    -- where a copy waits, the scan stops
    scan-stops-at : ¬ (waiting_for p state.lists i ≡ []) → (e : ℕ) × StopsAt p k Empty (scanned_ends p i m) e
    unfolding state_of
    scan-stops-at = rings.scan-stops-at h.fits h.words.ends i worker (record_in m) row-pointer (scan p k i m) (scan-looked p k i m)

    -- a copy in hand is one of the graph, isn't recorded, and its task's degree is in its range
    module _ (busy : ¬ (◌≡◌ {A = ℕ} (row_in m i).phase 0)) where
      hand-is : in_hand (hand_of (thread_of state i)) ≡ held m i ∷ []
      unfolding thread_in
      hand-is =
          hand-holds (thread_of state i) (λ e. busy (sym (phase-at p k m i worker) ∙ e))
          ∙ ap (λ (r : Thread). r.held ∷ []) (thread-at p k m i worker)

      pub in-hand : 0 < occ_of same_copy (held m i) (in_hand (hand_of (thread_of state i)))
      in-hand = omega (arith, ap (occ_of same_copy (held m i)) hand-is, occ-hit same_copy (held m i) (held m i) [] refl)

      pub held-copy : (copies_of (graph_in m)).want (held m i) ≡ 1
      unfolding meaning
      held-copy = held-wanted same_copy (copies_of (graph_in m)) honest-laws p {s = system_in p k m} honest-invariant i (held m i) worker in-hand

      pub held-good : ((held m i).task < tasks m) × ¬ (BadCopy m (held m i))
      held-good = copy-good (held m i) held-copy

      unrecorded : occ_of same_copy (held m i) (done_of state) ≡ 0
      unfolding meaning places
      unrecorded =
          omega (
            arith,
            honest-invariant.stage (held m i),
            held-copy,
            in-hand,
            sum-prefix p (λ j. occ_of same_copy (held m i) (in_hand (hand_of (thread_of state j)))) i worker,
          )

      degree-left : degree_in m (held m i).task ≡ missing same_copy (task_copies (graph_in m) (held m i).task) (done_of state)
      degree-left = sym (degree-at p k m (held m i).task) ∙ h.sane.left (held m i).task held-good.0

      pub held-degree : (1 ≤ degree_in m (held m i).task) × (degree_in m (held m i).task ≤ tasks m)
      held-degree = (
        stable (dec_lt 0 (degree_in m (held m i).task)) (λ n. recorded (omega (arith, n, degree-left))),
        omega (
          arith,
          degree-left,
          missing-few same_copy (task_copies (graph_in m) (held m i).task) (done_of state),
          few-copies (graph_in m) h.graph.graph honest-sound (held m i).task held-good.0,
        ),
      )
        where
          own : occ_of same_copy (held m i) (task_copies (graph_in m) (held m i).task) ≡ (copies_of (graph_in m)).want (held m i)
          own = want_is (graph_in m) (held m i)

          recorded : missing same_copy (task_copies (graph_in m) (held m i).task) (done_of state) ≡ 0 → ⊥
          recorded z =
              omega (
                arith,
                unrecorded,
                missing-none same_copy (task_copies (graph_in m) (held m i).task) (done_of state) (held m i) z (omega (arith, own, held-copy)),
              )

      -- While a copy is in hand, an entry is free for it: in memory begun and stepped by the engine Complete never meets 12.
      pub entry_free : entries_in m < edges m + roots_word m
      unfolding meaning
      entry_free =
          omega (
            arith,
            held-few same_copy (copies_of (graph_in m)) p (all_copies (graph_in m)) want-copy {s = system_in p k m} honest-invariant,
            sum-prefix p (λ j. length (in_hand (hand_of (thread_of state j)))) i worker,
            ap length hand-is,
            recorded-length,
            all-length,
          )

-- the buffers' places, by the words beside `Honest`
module _ {p : ℕ} {m : Mem} (w : Ranges p m) (i : ℕ) (worker : i < p) where
  joined-complete : (row_in m i).write ≤ complete_in m
  joined-complete = omega (arith, sum-prefix p (λ j. (row_in m j).write) i worker, w.filled)

  -- they end within N
  pub few-places : (row_in m i).write ≤ tasks m
  few-places =
      omega (
        arith,
        joined-complete,
        sum-most (tasks m) (λ t. tally (ℕ_discrete (degree_in m t) 0)) 1 (λ t l. tally-le-one (ℕ_discrete (degree_in m t) 0)),
      )

  -- and below N while a task isn't complete
  pub open-room : (t : ℕ) → t < tasks m → ¬ (◌≡◌ {A = ℕ} (degree_in m t) 0) → (row_in m i).write < tasks m
  open-room t l n =
      omega (
        arith,
        joined-complete,
        sum_lt (tasks m) (λ u. tally (ℕ_discrete (degree_in m u) 0)) (λ u. 1) (λ u _. tally-le-one (ℕ_discrete (degree_in m u) 0)) t l
            (omega (arith, tally-no (ℕ_discrete (degree_in m t) 0) n)),
        sum-most (tasks m) (λ u. 1) 1 (λ u _. omega arith),
      )

-- the run isn't finished
module _ {limits : Limits} {p k : ℕ} {m : Mem} (h : Honest limits p k m) (w : Ranges p m) (i : ℕ) (worker : i < p)
    (free : entries_in m < edges m + roots_word m) where
  pub start-live : (a : Copy) → hand_of (thread_of (state_of p k m) i) ≡ fetched a → Acceptance (step_says (step limits p k i Start m).answer)
  start-live a hand =
      allowed-accepted limits p k i Start m Moved _
      (record {
        fits = h.fits;
        worker = worker;
        phase = row-phase h i worker (fetched a) hand;
        roots = few-roots h;
        low = low h free;
        made = record { outcome = refl; updates = refl };
      })

  pub complete-live : (a : Copy) → hand_of (thread_of (state_of p k m) i) ≡ running a → Acceptance (step_says (step limits p k i Complete m).answer)
  complete-live a hand = go (ℕ_discrete (degree_in m (held m i).task) 1) (ℕ_discrete (succ_count m (held m i).task) 0)
    where
      two : ◌≡◌ {A = ℕ} (row_in m i).phase 2
      two = row-phase h i worker (running a) hand

      busy : ¬ (◌≡◌ {A = ℕ} (row_in m i).phase 0)
      busy e = omega (arith, e, two)

      task : (held m i).task < tasks m
      task = (held-good h i worker busy).0

      common : Completing i m
      common =
          record {
            entries = free;
            good = (held-good h i worker busy).1;
            positive = (held-degree h i worker busy).0;
            few = (held-degree h i worker busy).1;
          }

      completing : LastCopy m i → CompletingLast p i m
      completing e =
          record {
            common = common;
            last = e;
            light = h.graph.light (held m i).task task;
            counter = within-range (counter_in m (ring_number p i i)) (w.within i i worker worker);
            task = task-ranged h (held m i).task task;
          }

      accepts : (us : List Update) → Completes p i m Moved us → Acceptance (step_says (step limits p k i Complete m).answer)
      accepts us c =
          allowed-accepted limits p k i Complete m Moved us
          (record { fits = h.fits; worker = worker; phase = two; roots = few-roots h; low = low h free; made = c })

      go : Dec (LastCopy m i) → Dec (succ_count m (held m i).task ≡ 0) → Acceptance (step_says (step limits p k i Complete m).answer)
      go (no n) _ = accepts _ (copies (record { common = common; not_last = n; outcome = refl; updates = refl }))
      go (yes e) (yes z) = accepts _ (sink (record { common = completing e; none = z; outcome = refl; updates = refl }))
      go (yes e) (no n) =
          accepts _
          (inner (record {
            common = completing e;
            successors = omega (arith, n);
            places = h.words.places i worker;
            room = open-room w i worker (held m i).task task (λ z. omega (arith, e, z));
            outcome = refl;
            updates = refl;
          }))

  pub fetch-live : hand_of (thread_of (state_of p k m) i) ≡ idle → ¬ (waiting_for p (state_of p k m).lists i ≡ [])
      → Acceptance (step_says (step limits p k i Fetch m).answer)
  fetch-live hand some = go (scan-stops-at h i worker some)
    where
      go : (e : ℕ) × StopsAt p k Empty (scanned_ends p i m) e → Acceptance (step_says (step limits p k i Fetch m).answer)
      go (e, stop) =
          allowed-accepted limits p k i Fetch m (Fetched (task_copy (head_item k m (scanned p i m e)))) _
          (record {
            fits = h.fits;
            worker = worker;
            phase = row-phase h i worker idle hand;
            roots = few-roots h;
            low = low h free;
            made = record {
              pointer = row-pointer h i worker;
              distance = e;
              stop = stop;
              ring = scanned p i m e;
              ring_is = refl;
              filler = (pointer_in m i + e) % p;
              filler_is = refl;
              item = head_item k m (scanned p i m e);
              item_is = refl;
              good = next-good h i worker (head_item k m (scanned p i m e)) (e, stop, refl);
              outcome = refl;
              updates = refl;
            };
          })
