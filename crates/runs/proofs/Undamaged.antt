-- PROMISE: in a run no call is refused with 8 or 12. Of every row of the table with one of these numbers: where a step comes to it, its condition
-- fails in a memory that a run reaches.
use Prim.Native.Nat.{ℕ, ◌+◌, ◌*◌, ◌<◌}
use mathlib.Core.Path.{◌≡◌, refl, sym, ap, ◌∙◌}
use mathlib.Core.Bool.{Bool, true, false, cond}
use mathlib.Core.Logic.{◌⊎◌, inl, inr}
use mathlib.Core.List.{List, [], ◌∷◌, ◌++◌}
use native.Mathlib.Omega.{arith}
use native.Mathlib.Decide.{ℕ_discrete, dec_lt}
use Rattle.lists.proofs.Decided.{stable, both?}
use Rattle.task.specs.Phases.{suits}
use Rattle.task.specs.Refusals.{Said, refused, damaged, record_full, number_of, step_says}
use Rattle.task.specs.Rows.{Refusal, Passed, Given, Follows}
use Rattle.task.specs.declared.Limits.{Limits}
use Rattle.memory.specs.Family.{Places}
use Rattle.task.specs.declared.Step.{Step}
use Rattle.task.specs.declared.Step.TheVariants.{Fetch, Start, Complete, Release}
use Rattle.graph.proofs.Refusals.{judge-follows}
use Rattle.plans.specs.Forms.{own}
use Rattle.machine.specs.Machine as machine
use Rattle.machine.proofs.Lists.{memory-on}
use Rattle.rules.specs.Memory.{Mem, tasks, edges, ring_number, counter_in, degree_in, row_in, held, entries_in, accepted_in, successor}
use Rattle.rules.specs.Steps.{step}
use Rattle.rules.specs.Tables.{BadRange, NextTask, fetch_rows, start_rows, complete_rows, release_rows, own_rows, step_rows}
use Rattle.rules.specs.Moves.{Ranged, Releasing}
use Rattle.rules.proofs.Begin.{begin-follows}
use Rattle.rules.proofs.Follows.{step_follows}
use Rattle.rules.proofs.Numbers.{TwoOrOne, other_step}
use Rattle.algorithm1.specs.State.{thread_of, Thread}
use Rattle.algorithm1.specs.Reading.{state_of, thread_in}
use Rattle.algorithm1.proofs.Readings.{phase-at, thread-at}
use Rattle.runs.specs.Calls.{Call, step_call, begin_call, lookup_call, says, plain, Event, event_of, began, recalled, events_after, Run, memory_of, events_of, view_of}
use Rattle.runs.specs.Demand.{Finished}
use Rattle.runs.specs.Undamaged.{NoDamage, NoDamageIn, Undamaged}
use Rattle.runs.proofs.Invariant.{pending_of}
use Rattle.runs.proofs.Calls.{tasks-reached}
use Rattle.runs.proofs.Hands.{hand-running, hand-holds}
use Rattle.runs.proofs.Honest.{Honest, honest-run}
use Rattle.runs.proofs.Weights.{honest-within}
use Rattle.runs.proofs.Live.{within-range, row-held, row-pointer, joined-recorded, task-ranged, next-waits, scan-sound}
use Rattle.runs.proofs.LiveRelease.{counters-good, few-places, places-good, pending-none, releasing, room-sound, chooses-own}
use Rattle.runs.proofs.Demand.{running-task, waiting-task, pending-task, holding-open, low, unfinished-free, held-task}
use Rattle.runs.proofs.Afterwards.{rests, scan-none}

-- rows of which none that is given has one of the two numbers
abbrev pub Ordinary : ℕ → Type 0
Ordinary n = ¬ (n ≡ damaged) × ¬ (n ≡ record_full)

pub record Harmless (rows : List Refusal) : Type 0 where
  pub given : (n d : ℕ) → Given rows n d → Ordinary n

pub harmless-end : Harmless []
harmless-end = record { given = λ n d g. absurd g }

module _ {r : Refusal} {rows : List Refusal} where
  -- a row with another number
  pub ordinary-row : Ordinary r.number → (Passed r → Harmless rows) → Harmless (r ∷ rows)
  ordinary-row o rest = record { given = go }
    where
      go : (n d : ℕ) → Given (r ∷ rows) n d → Ordinary n
      go n d (inl (e, c)) = rw e o
      go n d (inr (q, g)) = (rest q).given n d g

  -- a row whose condition fails
  pub failing-row : Passed r → Harmless rows → Harmless (r ∷ rows)
  failing-row q rest = record { given = go }
    where
      go : (n d : ℕ) → Given (r ∷ rows) n d → Ordinary n
      go n d (inl (e, c)) = absurd (q d c)
      go n d (inr (_, g)) = rest.given n d g

harmless-says : {rows : List Refusal} {said : Said} → Follows rows said → Harmless rows → NoDamage said
harmless-says f s =
    record {
      not_damaged = λ d e. (s.given damaged d ((f.refuses damaged d).0 e)).0 refl;
      not_full = λ d e. (s.given record_full d ((f.refuses record_full d).0 e)).1 refl;
    }

number-undamaged : (n d : ℕ) → Ordinary n → NoDamage (refused n d)
number-undamaged n d o = record { not_damaged = λ x e. o.0 (ap number_of e); not_full = λ x e. o.1 (ap number_of e) }

ranged-good : {m : Mem} {t : ℕ} → Ranged m t → ¬ (BadRange m t)
ranged-good g (inl l) = omega (arith, l, g.rises)
ranged-good g (inr l) = omega (arith, l, g.inside)

released-good : {i : ℕ} {m : Mem} {to : Places} → Releasing i m to → ¬ ((degree_in m (successor m i) < 1) ⊎ (tasks m < degree_in m (successor m i)))
released-good f (inl l) = omega (arith, l, f.positive)
released-good f (inr l) = omega (arith, l, f.few)

module _ (r : Run) where
  abbrev p : ℕ
  p = r.workers

  abbrev k : ℕ
  k = r.slots

  abbrev now : Mem
  now = memory_of r

  h : Honest r.limits p k now
  h = honest-run r

  -- where something is left to do, the accepted word is below 3N + E
  open-low : ¬ (Finished (view_of r)) → accepted_in now < 3 * tasks now + edges now
  open-low n = low r (unfinished-free r n)

  module _ (i : ℕ) (worker : i < p) where
    next-task : (t : ℕ) → NextTask p k i now t → t < tasks now
    next-task t next = waiting-task r i worker t (next-waits h i worker t next)

    fetch-harmless : Harmless (fetch_rows p k i now)
    fetch-harmless =
        failing-row (λ d c. omega (arith, c.1, row-pointer h i worker))
        (failing-row (λ d c. scan-sound h i worker c.1)
        (ordinary-row (omega arith) (λ some.
        failing-row (λ d c. omega (arith, c.1.2, next-task c.1.0 c.1.1))
        (failing-row (λ d c. omega (arith, c.1, open-low (λ f. some 0 (refl, scan-none r f i worker)))) harmless-end))))

    start-harmless : (row_in now i).phase ≡ 1 → Harmless (start_rows now)
    start-harmless one = failing-row (λ d c. omega (arith, c.1, open-low (λ f. omega (arith, one, (rests r f).phases i worker)))) harmless-end

    module _ (two : (row_in now i).phase ≡ 2) where
      own-task : held now i < tasks now
      own-task =
          let runs = hand-running (thread_of (state_of p k now) i) (phase-at p k now i worker ∙ two) in
          rw (row-held h i worker _ runs) (running-task r i _ worker runs)

      free : entries_in now < tasks now
      free = holding-open r i worker (λ e. omega (arith, e, two))

      complete-harmless : Harmless (complete_rows p i now)
      complete-harmless =
          failing-row (λ d c. omega (arith, c.1, free))
          (failing-row (λ d c. omega (arith, c.1, free))
          (failing-row (λ d c. omega (arith, c.1, own-task))
          (failing-row (λ d c. omega (arith, c.1, h.graph.light (held now i) own-task))
          (failing-row (λ d c. within-range (counter_in now (ring_number p i i)) (honest-within h i i worker worker) c.1)
          (failing-row (λ d c. ranged-good (task-ranged h i worker (held now i) own-task) c.1)
          (failing-row (λ d c. places-good h i worker c.1.1)
          (failing-row (λ d c. omega (arith, c.1.1, joined-recorded h i worker, free))
          (failing-row (λ d c. omega (arith, c.1, low r free)) harmless-end))))))))

    -- a Release of a worker whose buffer isn't empty finds its words in their ranges
    finds : ¬ ((row_in now i).read ≡ (row_in now i).write) → (to : Places) × Releasing i now to
    finds some = go (pending_of (state_of p k now) (thread_of (state_of p k now) i)) refl
      where
        go : (l : List ℕ) → pending_of (state_of p k now) (thread_of (state_of p k now) i) ≡ l → (to : Places) × Releasing i now to
        go [] e = absurd (some (pending-none h i worker e))
        go (x ∷ rest) e =
            let (below, positive, few) = pending-task r i x rest worker e in
            releasing h i worker x rest e below positive few

    release-harmless : Harmless (release_rows (own p now) p k i now)
    release-harmless =
        failing-row (λ d c. places-good h i worker c.1)
        (ordinary-row (omega arith) (λ some.
        let (row, found) = finds (λ e. some 0 (refl, e)) in
        failing-row (λ d c. omega (arith, c.1, found.task.below))
        (failing-row (λ d c. ranged-good found.task c.1)
        (failing-row (λ d c. omega (arith, c.1, found.cursor))
        (failing-row (λ d c. omega (arith, c.1, found.below))
        (failing-row (λ d c. released-good found c.1)
        (failing-row (λ d c. counters-good h i worker c.1.1)
        (failing-row (λ d c. room-sound h i worker (own p now) (chooses-own h i worker) c.1.1.0 c.1.1.1.candidate c.1.1.2)
        (ordinary-row (omega arith) (λ _.
        failing-row (λ d c. c.1.1.3)
        (failing-row (λ d c. omega (arith, c.1.1, h.graph.light (successor now i) found.below))
        (failing-row (λ d c. omega (arith, c.1, open-low (λ f. some 0 (refl, (rests r f).buffers i worker)))) harmless-end))))))))))))

    own-harmless : (s : Step) → (row_in now i).phase ≡ suits s → Harmless (own_rows s p k i now)
    own-harmless Fetch e = fetch-harmless
    own-harmless Start e = start-harmless e
    own-harmless Complete e = complete-harmless e
    own-harmless Release e = release-harmless

  step-harmless : (limits : Limits) (i : ℕ) (s : Step) → Harmless (step_rows limits p k i s now)
  step-harmless limits i s =
      ordinary-row (omega arith) (λ _.
      ordinary-row (omega arith) (λ _.
      ordinary-row (omega arith) (λ there.
      let worker : i < p = stable (dec_lt i p) (λ n. there i (refl, omega (arith, n))) in
      failing-row (λ d c. omega (arith, c.1, h.sane.phases i, phase-at p k now i worker))
      (ordinary-row (omega arith) (λ suited.
      own-harmless i worker s (stable (ℕ_discrete (row_in now i).phase (suits s)) (λ n. suited (row_in now i).phase (refl, n))))))))

  -- a step with begin's P and K, and one with others, which meets 2 or 1
  next-undamaged : (limits : Limits) (p k i : ℕ) (s : Step) → NoDamage (step_says (step limits p k i s now).answer)
  next-undamaged limits p' k' i s = go (both? p' k' p k)
    where
      go : Dec ((p' ≡ p) × (k' ≡ k)) → NoDamage (step_says (step limits p' k' i s now).answer)
      go (yes (ep, ek)) = rw (ep, ek) (harmless-says (step_follows limits p k i s now) (step-harmless limits i s))
      go (no n) = other (other_step limits p k p' k' now h.fits.lengths n i s)
        where
          other : TwoOrOne (step_says (step limits p' k' i s now).answer) → NoDamage (step_says (step limits p' k' i s now).answer)
          other (inl q) = rw q (number-undamaged 2 0 (omega arith))
          other (inr q) = rw q (number-undamaged 1 0 (omega arith))

  -- any call: begin's rows and a lookup's have other numbers
  call-undamaged : (c : Call) → NoDamage (says c now)
  call-undamaged (step_call limits p k i s) = next-undamaged limits p k i s
  call-undamaged (begin_call limits p k) =
      harmless-says (begin-follows limits p k now)
      (ordinary-row (omega arith) (λ _.
      ordinary-row (omega arith) (λ _.
      ordinary-row (omega arith) (λ _.
      ordinary-row (omega arith) (λ _.
      ordinary-row (omega arith) (λ _.
      ordinary-row (omega arith) (λ _.
      ordinary-row (omega arith) (λ _. harmless-end))))))))
  call-undamaged (lookup_call side t) =
      harmless-says (judge-follows side _ t) (ordinary-row (omega arith) (λ _. ordinary-row (omega arith) (λ _. ordinary-row (omega arith) (λ _. harmless-end))))

recalled-undamaged : (e : Event) (past : List Event) → NoDamage e.said → NoDamageIn past → NoDamageIn (recalled e past)
unfolding machine.recalled
recalled-undamaged e past b all = go (began e)
  where
    go : (x : Bool) → NoDamageIn (cond x [] (e ∷ past))
    go true = tt
    go false = (b, all)

-- the run with other calls after its begin
abbrev with_calls : Run → List Call → Run
with_calls r cs = record { limits = r.limits; workers = r.workers; slots = r.slots; lent = r.lent; accepts = r.accepts; calls = cs }

further-undamaged : (r : Run) (cs : List Call) (past : List Event) → NoDamageIn past → NoDamageIn (events_after cs (memory_of r) past)
unfolding machine.memory_after machine.events_after
further-undamaged r [] past all = all
further-undamaged r (c ∷ cs) past all =
    rw (memory-on plain r.calls (c ∷ []) _) at
    (further-undamaged (with_calls r (r.calls ++ (c ∷ []))) cs (recalled (event_of c (memory_of r)) past)
    (recalled-undamaged (event_of c (memory_of r)) past (call-undamaged r c) all))

events-undamaged : (r : Run) → NoDamageIn (events_of r)
unfolding machine.memory_after
events-undamaged r = further-undamaged (with_calls r []) r.calls [] tt

held-is : (r : Run) (i : ℕ) → i < r.workers → ¬ (◌≡◌ {A = ℕ} (row_in (memory_of r) i).phase 0) → held (memory_of r) i < tasks r.lent
unfolding thread_in
held-is r i worker n =
    let at = thread-at r.workers r.slots (memory_of r) i worker in
    omega (
      arith,
      held-task r i (held (memory_of r) i) worker
          (hand-holds (thread_of (state_of r.workers r.slots (memory_of r)) i) (λ e. n (sym (phase-at r.workers r.slots (memory_of r) i worker) ∙ e))
          ∙ ap (λ (t : Thread). t.held ∷ []) at),
      tasks-reached r,
    )

pub undamaged : (r : Run) → Undamaged (view_of r)
undamaged r =
    record {
      next = next-undamaged r;
      events = events-undamaged r;
      places = λ i h. ((honest-run r).words.places i h, omega (arith, few-places (honest-run r) i h, tasks-reached r));
      entries = omega (arith, (honest-run r).words.entries, tasks-reached r);
      phases = λ i h. rw (phase-at r.workers r.slots (memory_of r) i h) at ((honest-run r).sane.phases i);
      hands = held-is r;
    }
