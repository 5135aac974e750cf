-- In a weak run no call is refused with 8 or 12. Of every row of the table with one of these numbers: where a step comes to it, its condition fails in
-- a memory that a run reaches.
use Prim.Native.Nat.{ℕ, ◌+◌, ◌≤◌, ◌<◌}
use mathlib.Core.Path.{◌≡◌, refl, ap, ◌∙◌}
use mathlib.Core.Bool.{Bool, true, false, cond}
use mathlib.Core.Logic.{◌⊎◌, inl, inr}
use mathlib.Core.List.{List, [], ◌∷◌, ◌++◌}
use native.Mathlib.Omega.{arith}
use native.Mathlib.Decide.{ℕ_discrete, dec_lt}
use lib.ListN.{length}
use Rattle.lists.proofs.Decided.{stable, both?}
use Rattle.task.specs.Phases.{suits}
use Rattle.task.specs.Refusals.{Said, refused, damaged, record_full, number_of}
use Rattle.task.specs.Rows.{Refusal, Follows}
use Rattle.task.specs.declared.Limits.{Limits}
use Rattle.task.specs.declared.Step.{Step}
use Rattle.task.specs.declared.Step.TheVariants.{Fetch, Start, Complete, Release}
use Rattle.weak_task.specs.Says.{step_says}
use Rattle.graph.specs.Graph.{Graph}
use Rattle.graph.specs.Successors.{roots}
use Rattle.graph.proofs.Refusals.{judge-follows}
use Rattle.machine.specs.Machine as machine
use Rattle.machine.specs.Machine.{event_of, began, recalled, events_after}
use Rattle.machine.proofs.Lists.{memory-on}
use Rattle.ring.specs.Ring.{Sound}
use Rattle.memory.specs.Family.{Places}
use Rattle.weak_rules.specs.Memory.{Mem, tasks, edges, ring_number, ends_in, counter_in, degree_in, fixed_in, row_in, held, roots_word, entries_in, successor}
use Rattle.weak_rules.specs.Steps.{step}
use Rattle.plans.specs.Forms.{own}
use Rattle.weak_rules.specs.Tables.{BadRange, FirstCopy, LaterCopy, count_rows, fetch_rows, complete_rows, release_rows, own_rows, step_rows}
use Rattle.weak_rules.specs.Moves.{Ranged, Releasing}
use Rattle.weak_rules.proofs.Begin.{begin-follows}
use Rattle.weak_rules.proofs.Follows.{step_follows}
use Rattle.weak_rules.proofs.Numbers.{TwoOrOne, other_step}
use Rattle.copies.specs.Copies.{is_copy, copies_of}
use Rattle.runs.proofs.Undamaged.{Ordinary, Harmless, harmless-end, ordinary-row, failing-row}
use Rattle.weak_algorithm.proofs.Readings.{phase-at}
use Rattle.weak_runs.specs.Calls.{Call, step_call, begin_call, lookup_call, says, weak, Event, Run, memory_of, events_of, graph_of, view_of}
use Rattle.weak_runs.specs.Undamaged.{NoDamage, NoDamageIn, Undamaged}
use Rattle.weak_runs.proofs.Invariant.{Honest}
use Rattle.weak_runs.proofs.Calls.{graph-reached, tasks-reached, edges-reached}
use Rattle.weak_runs.proofs.Live.{Ranges, within-range, few-roots, low, ends-sound, task-ranged}
use Rattle.weak_runs.proofs.Live.{row-pointer, next-good, scan-sound, held-copy, held-good, held-degree, entry_free, few-places, open-room}
use Rattle.weak_runs.proofs.Full.{rest-phase, rest-buffer, rest-scan}
use Rattle.weak_runs.proofs.LiveRelease.{counters-good, places-good, releasing, room-sound, chooses-own, fixed-range}

harmless-says : {rows : List Refusal} {said : Said} → Follows rows said → Harmless rows → NoDamage said
harmless-says f s =
    record {
      not_damaged = λ d e. (s.given damaged d ((f.refuses damaged d).0 e)).0 refl;
      not_full = λ d e. (s.given record_full d ((f.refuses record_full d).0 e)).1 refl;
    }

number-undamaged : (n d : ℕ) → Ordinary n → NoDamage (refused n d)
number-undamaged n d o = record { not_damaged = λ x e. o.0 (ap number_of e); not_full = λ x e. o.1 (ap number_of e) }

ranged-good : {m : Mem} {t : ℕ} → Ranged m t → ¬ (BadRange m t)
ranged-good g (inl l) = omega (arith, l, g.rises)
ranged-good g (inr l) = omega (arith, l, g.inside)

module _ {limits : Limits} {p k : ℕ} {m : Mem} (h : Honest limits p k m) (w : Ranges p m) where
  -- where something is left to do, the accepted word is below 4E + 3R
  count-harmless : ¬ (entries_in m ≡ edges m + roots_word m) → Harmless (count_rows m)
  count-harmless short =
      failing-row (λ d c. omega (arith, c.1, few-roots h))
      (failing-row (λ d c. omega (arith, c.1, low h (omega (arith, short, h.words.entries)))) harmless-end)

  module _ (i : ℕ) (worker : i < p) where
    fetch-harmless : Harmless (fetch_rows p k i m)
    fetch-harmless =
        failing-row (λ d c. omega (arith, c.1, row-pointer h i worker))
        (failing-row (λ d c. scan-sound h i worker c.1)
        (ordinary-row (omega arith) (λ some.
        failing-row (λ d c. next-good h i worker c.1.0 c.1.1 c.1.2)
        (count-harmless (λ f. some 0 (refl, rest-scan h f i worker))))))

    module _ (busy : ¬ (◌≡◌ {A = ℕ} (row_in m i).phase 0)) where
      abbrev t : ℕ
      t = (held m i).task

      task : t < tasks m
      task = (held-good h i worker busy).0

      degree-good : ¬ ((degree_in m t < 1) ⊎ (tasks m < degree_in m t))
      degree-good (inl l) = omega (arith, l, (held-degree h i worker busy).0)
      degree-good (inr l) = omega (arith, l, (held-degree h i worker busy).1)

      busy-count : Harmless (count_rows m)
      busy-count = count-harmless (λ f. busy (rest-phase h f i worker))

      complete-harmless : Harmless (complete_rows p i m)
      complete-harmless =
          failing-row (λ d c. omega (arith, c.1, few-roots h))
          (failing-row (λ d c. omega (arith, c.1, entry_free h i worker busy))
          (failing-row (λ d c. omega (arith, c.1, entry_free h i worker busy))
          (failing-row (λ d c. (held-good h i worker busy).1 c.1)
          (failing-row (λ d c. degree-good c.1)
          (failing-row (λ d c. omega (arith, c.1.1, h.graph.light t task))
          (failing-row (λ d c. within-range (counter_in m (ring_number p i i)) (w.within i i worker worker) c.1.1)
          (failing-row (λ d c. ranged-good (task-ranged h t task) c.1.1)
          (failing-row (λ d c. places-good h w i worker c.1.1)
          (failing-row (λ d c. omega (arith, c.1.1, open-room w i worker t task (λ z. omega (arith, z, (held-degree h i worker busy).0))))
          busy-count)))))))))

    -- the task's worker, where a Release reads it
    fixed-good : successor m i < tasks m → ¬ (¬ (FirstCopy m i) × (p ≤ fixed_in m (successor m i)))
    fixed-good l (n, far) = go (fixed-range h w i worker (successor m i) l)
      where
        go : (FirstCopy m i) ⊎ (fixed_in m (successor m i) < p) → ⊥
        go (inl e) = n e
        go (inr near) = omega (arith, near, far)

    later-sound : ¬ ((o : ℕ) × LaterCopy p m i o × ¬ (Sound k (ends_in m (ring_number p o i))))
    later-sound (o, l, bad) = bad (ends-sound h o l.1 i worker)

    release-harmless : Harmless (release_rows (own p m) p k i m)
    release-harmless =
        failing-row (λ d c. places-good h w i worker c.1)
        (ordinary-row (omega arith) (λ some.
        let (to, found) = finds (λ e. some 0 (refl, e)) in
        failing-row (λ d c. omega (arith, c.1, found.task.below))
        (failing-row (λ d c. ranged-good found.task c.1)
        (failing-row (λ d c. omega (arith, c.1, found.cursor))
        (failing-row (λ d c. omega (arith, c.1, found.below))
        (failing-row (λ d c. fixed-good found.below c.1)
        (failing-row (λ d c. counters-good w c.1.1)
        (failing-row (λ d c. room-sound h w i worker (own p m) (chooses-own h w i worker) c.1.1.0 c.1.1.1.candidate c.1.1.2)
        (failing-row (λ d c. later-sound c.1)
        (ordinary-row (omega arith) (λ _.
        failing-row (λ d c. c.1.1.3)
        (failing-row (λ d c. omega (arith, c.1.1, h.graph.light (successor m i) found.below))
        (count-harmless (λ f. some 0 (refl, rest-buffer h f i worker w)))))))))))))))
      where
        finds : ¬ ((row_in m i).read ≡ (row_in m i).write) → (to : Places) × Releasing i m to
        finds n = releasing h w i worker (omega (arith, n, h.words.places i worker))

    own-harmless : (s : Step) → (row_in m i).phase ≡ suits s → Harmless (own_rows s p k i m)
    own-harmless Fetch e = fetch-harmless
    own-harmless Start e = busy-count (λ z. omega (arith, e, z))
    own-harmless Complete e = complete-harmless (λ z. omega (arith, e, z))
    own-harmless Release e = release-harmless

  step-harmless : (own : Limits) (i : ℕ) (s : Step) → Harmless (step_rows own p k i s m)
  step-harmless own i s =
      ordinary-row (omega arith) (λ _.
      ordinary-row (omega arith) (λ _.
      ordinary-row (omega arith) (λ there.
      let worker : i < p = stable (dec_lt i p) (λ n. there i (refl, omega (arith, n))) in
      failing-row (λ d c. omega (arith, c.1, h.sane.phases i, phase-at p k m i worker))
      (ordinary-row (omega arith) (λ suited.
      own-harmless i worker s (stable (ℕ_discrete (row_in m i).phase (suits s)) (λ n. suited (row_in m i).phase (refl, n))))))))

  -- a step with begin's P and K, and one with others, which meets 2 or 1
  pub undamaged-step : (own : Limits) (p k i : ℕ) (s : Step) → NoDamage (step_says (step own p k i s m).answer)
  undamaged-step own p' k' i s = go (both? p' k' p k)
    where
      go : Dec ((p' ≡ p) × (k' ≡ k)) → NoDamage (step_says (step own p' k' i s m).answer)
      go (yes (ep, ek)) = rw (ep, ek) (harmless-says (step_follows own p k i s m) (step-harmless own i s))
      go (no n) = other (other_step own p k p' k' m h.fits.lengths n i s)
        where
          other : TwoOrOne (step_says (step own p' k' i s m).answer) → NoDamage (step_says (step own p' k' i s m).answer)
          other (inl q) = rw q (number-undamaged 2 0 (omega arith))
          other (inr q) = rw q (number-undamaged 1 0 (omega arith))

  -- any call: begin's rows and a lookup's have other numbers
  pub undamaged-call : (c : Call) → NoDamage (says c m)
  undamaged-call (step_call own p k i s) = undamaged-step own p k i s
  undamaged-call (begin_call own p k) =
      harmless-says (begin-follows own p k m)
      (ordinary-row (omega arith) (λ _.
      ordinary-row (omega arith) (λ _.
      ordinary-row (omega arith) (λ _.
      ordinary-row (omega arith) (λ _.
      ordinary-row (omega arith) (λ _.
      ordinary-row (omega arith) (λ _.
      ordinary-row (omega arith) (λ _. harmless-end))))))))
  undamaged-call (lookup_call side t) =
      harmless-says (judge-follows side _ t) (ordinary-row (omega arith) (λ _. ordinary-row (omega arith) (λ _. ordinary-row (omega arith) (λ _. harmless-end))))

recalled-undamaged : (e : Event) (past : List Event) → NoDamage e.said → NoDamageIn past → NoDamageIn (recalled weak e past)
unfolding machine.recalled
recalled-undamaged e past b all = go (began weak e)
  where
    go : (x : Bool) → NoDamageIn (cond x [] (e ∷ past))
    go true = tt
    go false = (b, all)

-- the run with other calls after its begin
abbrev with_calls : Run → List Call → Run
with_calls r cs = record { limits = r.limits; workers = r.workers; slots = r.slots; lent = r.lent; accepts = r.accepts; calls = cs }

-- where every memory that a run reaches is honest, and its words are in their ranges
module _ (honest : (r : Run) → Honest r.limits r.workers r.slots (memory_of r)) (ranges : (r : Run) → Ranges r.workers (memory_of r)) where
  further-undamaged : (r : Run) (cs : List Call) (past : List Event) → NoDamageIn past → NoDamageIn (events_after weak cs (memory_of r) past)
  unfolding machine.memory_after machine.events_after
  further-undamaged r [] past all = all
  further-undamaged r (c ∷ cs) past all =
      rw (memory-on weak r.calls (c ∷ []) _) at
      (further-undamaged (with_calls r (r.calls ++ (c ∷ []))) cs (recalled weak (event_of weak c (memory_of r)) past)
      (recalled-undamaged (event_of weak c (memory_of r)) past (undamaged-call (honest r) (ranges r) c) all))

  events-undamaged : (r : Run) → NoDamageIn (events_of r)
  unfolding machine.memory_after
  events-undamaged r = further-undamaged (with_calls r []) r.calls [] tt

  held-is : (r : Run) (i : ℕ) → i < r.workers → ¬ (◌≡◌ {A = ℕ} (row_in (memory_of r) i).phase 0) → 0 < is_copy (graph_of (view_of r)) (held (memory_of r) i)
  unfolding copies_of
  held-is r i worker n =
      omega (arith, held-copy (honest r) i worker n, ap (λ (g : Graph). is_copy g (held (memory_of r) i)) (graph-reached r))

  copies-reached : (r : Run) → roots_word (memory_of r) ≡ length (roots (graph_of (view_of r)))
  copies-reached r = (honest r).words.roots ∙ ap (λ (g : Graph). length (roots g)) (graph-reached r)

  pub undamaged-from : (r : Run) → Undamaged (view_of r)
  undamaged-from r =
      record {
        next = undamaged-step (honest r) (ranges r);
        events = events-undamaged r;
        places = λ i h. ((honest r).words.places i h, omega (arith, few-places (ranges r) i h, tasks-reached r));
        entries = omega (arith, (honest r).words.entries, edges-reached r, copies-reached r);
        phases = λ i h. rw (phase-at r.workers r.slots (memory_of r) i h) at ((honest r).sane.phases i);
        hands = held-is r;
      }
