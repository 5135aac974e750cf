-- PROMISE: after 11 in a weak job, P accepted Fetches of the worker that the task is fixed to make room, and of any one as long as it is fixed to none.
use Prim.Native.Nat.{ℕ, ◌+◌, ◌*◌, ◌≤◌, ◌<◌}
use mathlib.Core.Path.{◌≡◌, refl, sym, ap, subst, ◌∙◌}
use mathlib.Core.Bool.{false, cond}
use mathlib.Core.Logic.{◌⊎◌, inl, inr}
use mathlib.Core.List.{List, []}
use native.Mathlib.Omega.{arith}
use native.Mathlib.Decide.{ℕ_discrete, dec_lt}
use native.Mathlib.Nat.{mod-lt}
use lib.Dec.{eqb}
use lib.ListN.{get_or}
use borrow.Author.Tests.{eqb-false}
use Rattle.lists.proofs.Apart.{unequal}
use Rattle.lists.proofs.Decided.{stable}
use Rattle.task.specs.Types.{nil}
use Rattle.task.specs.Refusals.{refused, damaged, wrong_phase, rings_full}
use Rattle.task.specs.Rows.{Acceptance}
use Rattle.task.specs.declared.Limits.{Limits}
use Rattle.task.specs.declared.Step.{Step}
use Rattle.task.specs.declared.Step.TheVariants.{Fetch, Start, Complete, Release}
use Rattle.weak_task.specs.Types.{Copy, copy, unfixed}
use Rattle.weak_task.specs.Says.{copy_fetched, copy_placed, outcome_says, step_says}
use Rattle.weak_task.specs.declared.WeakOutcome.{WeakOutcome}
use Rattle.ring.specs.Ring.{Sound, Full}
use Rattle.memory.specs.Field as list
use Rattle.memory.specs.Updates.{updated, written}
use Rattle.machine.specs.Machine.{begins, memory_after}
use Rattle.machine.proofs.Lists.{memory-on}
use Rattle.plans.specs.Forms.{own}
use Rattle.plans.specs.Sizes.{Lengths}
use Rattle.split_lists.proofs.Memories.{ends-room}
use Rattle.weak_rules.specs.Memory.{Mem, ring_number, ends_in, fixed_in, buffer_at, row_in, pointer_in, oldest, successor}
use Rattle.weak_rules.specs.Updates.{Update}
use Rattle.weak_rules.specs.Plans.{with_count}
use Rattle.weak_rules.specs.Steps.{step}
use Rattle.weak_rules.specs.Tables.{FirstCopy, LaterCopy, release_rows, step_rows}
use Rattle.weak_rules.specs.Moves.{copies, sink, inner, first, later, Releases, Made, Allowed, AcceptedStep}
use Rattle.weak_rules.proofs.Follows.{few-workers, step_follows}
use Rattle.weak_rules.proofs.Kept.{step_keeps}
use Rattle.weak_rules.proofs.Moved.{rows_other}
use Rattle.weak_rules.proofs.Moves.{accepted-step}
use Rattle.weak_rules.proofs.RowsMade.{row_made, rows_made}
use Rattle.weak_algorithm.proofs.Readings.{phase-at}
use Rattle.runs.specs.RoomSoon.{is_release, releases}
use Rattle.runs.proofs.NextRelease.{Due, Postponed, Postpones, SamePlaces, postponed-by, places-made, places-kept, buffer-behind, postpones-none, postpones-on, count-taken, count_kept, scan-some, calls-keep, since, room_at, Tells, tells-end, tells-later, tells-here, Only8, only_end, only-damaged, only-passed, only-accepts, unsuited-row, suited-rows}
use Rattle.weak_runs.specs.Calls.{Call, weak_calls, weak, Run, KeptBy, memory_of, view_of, longer}
use Rattle.weak_runs.specs.Fairness.{fetches}
use Rattle.weak_runs.specs.RoomSoon.{WouldPlace, Waited, Room, RoomSoon}
use Rattle.weak_runs.proofs.Invariant.{Honest}
use Rattle.weak_runs.proofs.Calls.{weak-laws}
use Rattle.weak_runs.proofs.Honest.{honest-under, honest-run}
use Rattle.weak_runs.proofs.Live.{Ranges, ends-sound, row-pointer, few-places}
use Rattle.weak_runs.proofs.LiveRelease.{chooses-own}
use Rattle.weak_runs.proofs.Stays.{fixed-stays}
use Rattle.weak_runs.proofs.Fair.{fair-fetching}
use Rattle.weak_runs.proofs.Ranges.{ranges-run, undamaged}

-- An accepted step of worker w that is no Release by worker i.
module _ (limits : Limits) (p k w : ℕ) (m : Mem) (i : ℕ) (due : Due i m) (worker : i < p) where
  -- the word that worker i reads next in its buffer
  made_word : (s : Step) (o : WeakOutcome) (us : List Update) → Made s p k w m o us
      → get_or (written (with_count m us) m).buffers (buffer_at m i (row_in m i).read) 0 ≡ oldest m i
  unfolding written updated
  made_word Fetch o us f = rw f.updates refl
  made_word Start o us f = rw f.updates refl
  made_word Complete o us (copies f) = rw f.updates refl
  made_word Complete o us (sink f) = rw f.updates refl
  made_word Complete o us (inner f) = rw f.updates (buffer-behind i w m _ due f.room)
  made_word Release o us (first f) = rw f.updates refl
  made_word Release o us (later f) = rw f.updates refl

  -- the rings that worker i fills
  made-counts : (s : Step) (o : WeakOutcome) (us : List Update) → Allowed limits p k w s m o us → cond (is_release s) (eqb w i) false ≡ false
      → Made s p k w m o us → (h : ℕ) → h < p
      → (ends_in (written (with_count m us) m) (ring_number p h i)).count ≤ (ends_in m (ring_number p h i)).count
  unfolding written updated
  made-counts Fetch o us a e f h l =
      rw f.updates
      (count-taken m.ends f.ring _
      (rw f.ring_is (ends-room p w _ a.worker (mod-lt (pointer_in m w + f.distance) a.fits.limits.one_worker) k m a.fits.lengths))
      (omega arith) (ring_number p h i))
  made-counts Start o us a e f h l = rw f.updates (omega arith)
  made-counts Complete o us a e (copies f) h l = rw f.updates (omega arith)
  made-counts Complete o us a e (sink f) h l = rw f.updates (omega arith)
  made-counts Complete o us a e (inner f) h l = rw f.updates (omega arith)
  made-counts Release o us a e (first f) h l =
      rw (f.updates, f.ring_is) (count_kept m.ends p f.owner w h i _ a.worker worker (λ s. eqb-false w i e (sym s)))
  made-counts Release o us a e (later f) h l =
      rw (f.updates, f.ring_is) (count_kept m.ends p f.owner w h i _ a.worker worker (λ s. eqb-false w i e (sym s)))

-- its places: only Complete by the worker itself lets one join
made_row : (p k w : ℕ) (m : Mem) (s : Step) (o : WeakOutcome) (us : List Update) → is_release s ≡ false → (f : Made s p k w m o us)
    → ((row_made p k w m o us s f).read ≡ (row_in m w).read) × ((row_made p k w m o us s f).cursor ≡ (row_in m w).cursor)
    × ((row_in m w).write ≤ (row_made p k w m o us s f).write)
made_row p k w m Fetch o us e f = (refl, refl, omega arith)
made_row p k w m Start o us e f = (refl, refl, omega arith)
made_row p k w m Complete o us e (copies f) = (refl, refl, omega arith)
made_row p k w m Complete o us e (sink f) = (refl, refl, omega arith)
made_row p k w m Complete o us e (inner f) = (refl, refl, omega arith)
made_row p k w m Release o us e f = unequal cc

module _ (limits : Limits) (p k w : ℕ) (s : Step) (m : Mem) (a : AcceptedStep limits p k w s m) where
  abbrev left : Mem
  left = (step limits p k w s m).memory

  places_of : (i : ℕ) → cond (is_release s) (eqb w i) false ≡ false → SamePlaces i m left
  places_of i =
      places-kept w i s (rows_other limits p k w s m i)
      (λ q.
      let (read, cursor, write) = made_row p k w m s a.outcome a.updates q a.allowed.made in
      places-made w m left (row_made p k w m a.outcome a.updates s a.allowed.made)
      (omega (arith, a.allowed.worker, a.allowed.fits.lengths.list list.rows))
      (ap (λ (m' : Mem). m'.rows) a.left ∙ rows_made p k w m a.outcome a.updates s a.allowed.made) read cursor write i)

  step-postpones : (i : ℕ) → i < p → cond (is_release s) (eqb w i) false ≡ false → Postpones p i m left
  step-postpones i worker e due =
      postponed-by (step_keeps limits p k w s m).graph (places_of i e) due
      (rw a.left (made_word limits p k w m i due worker s a.outcome a.updates a.allowed.made))
      (rw a.left (made-counts limits p k w m i due worker s a.outcome a.updates a.allowed e a.allowed.made))

-- What 11 says of worker i's Release, with task t the detail.
record Refused11 (p k i t : ℕ) (m : Mem) : Type 0 where
  worker : i < p
  idle : ◌≡◌ {A = ℕ} (row_in m i).phase 0
  some : ¬ ((row_in m i).read ≡ (row_in m i).write)
  detail : t ≡ successor m i
  full : (FirstCopy m i × ((o : ℕ) → o < p → Full k (ends_in m (ring_number p o i)))) ⊎ ((o : ℕ) × LaterCopy p m i o × Full k (ends_in m (ring_number p o i)))

refused-11 : (limits : Limits) (p k i t : ℕ) (m : Mem) → step_says (step limits p k i Release m).answer ≡ refused rings_full t → Refused11 p k i t m
refused-11 limits p k i t m e = told.given (((step_follows limits p k i Release m).refuses rings_full t).0 e)
  where
    full-rings : (FirstCopy m i × ((o : ℕ) → o < p → Sound k (ends_in m (ring_number p o i)) × Full k (ends_in m (ring_number p o i))))
        ⊎ ((o : ℕ) × LaterCopy p m i o × Full k (ends_in m (ring_number p o i)))
        → (FirstCopy m i × ((o : ℕ) → o < p → Full k (ends_in m (ring_number p o i)))) ⊎ ((o : ℕ) × LaterCopy p m i o × Full k (ends_in m (ring_number p o i)))
    full-rings (inl (f, all)) = inl (f, λ o l. (all o l).1)
    full-rings (inr one) = inr one

    told : Tells (step_rows limits p k i Release m) rings_full t (Refused11 p k i t m)
    told =
        tells-later (omega arith) (λ _.
        tells-later (omega arith) (λ _.
        tells-later (omega arith) (λ there.
        tells-later (omega arith) (λ _.
        tells-later (omega arith) (λ suited.
        tells-later (omega arith) (λ _.
        tells-later (omega arith) (λ some.
        tells-later (omega arith) (λ _.
        tells-later (omega arith) (λ _.
        tells-later (omega arith) (λ _.
        tells-later (omega arith) (λ _.
        tells-later (omega arith) (λ _.
        tells-later (omega arith) (λ _.
        tells-later (omega arith) (λ _.
        tells-later (omega arith) (λ _.
        tells-here
        (λ c. record {
          worker = stable (dec_lt i p) (λ n. there i (refl, omega (arith, n)));
          idle = stable (ℕ_discrete (row_in m i).phase 0) (λ n. suited (row_in m i).phase (refl, n));
          some = λ q. some 0 (refl, q);
          detail = c.0;
          full = full-rings c.1;
        })
        (tells-later (omega arith) (λ _.
        tells-later (omega arith) (λ _.
        tells-later (omega arith) (λ _.
        tells-later (omega arith) (λ _. tells-end))))))))))))))))))))

-- A memory m' since m, worker i's Release being postponed.
module _ {limits : Limits} {p k : ℕ} {m m' : Mem} (h : Honest limits p k m') (ranges : Ranges p m') (i t : ℕ) (refusal : Refused11 p k i t m)
    (waits : Postponed p i m m') where
  same-task : successor m' i ≡ t
  same-task = waits.successor_is ∙ sym refusal.detail

  same_copy : copy (successor m' i) (oldest m' i) ≡ copy t (oldest m i)
  same_copy = ap (λ (x : ℕ). copy x (oldest m' i)) same-task ∙ ap (copy t) waits.oldest_is

  fixed-now : fixed_in m' (successor m' i) ≡ fixed_in m' t
  fixed-now = ap (fixed_in m') same-task

  few : p ≤ nil.0
  few = few-workers h.fits

  -- such workers take the copy
  abbrev Placing : (ℕ → Type 0) → Type 0
  Placing With = (w : ℕ) × With w × (step_says (step limits p k i Release m').answer ≡ copy_placed (copy t (oldest m i)) w)

  -- what is accepted then places the copy: a first one somewhere
  first_by : fixed_in m' t ≡ unfixed.0 → AcceptedStep limits p k i Release m' → Placing (λ w. w < p)
  first_by e a = go a.allowed.made
    where
      go : Releases (own p m') p k i m' a.outcome a.updates → Placing (λ w. w < p)
      go (first f) = (
        f.owner,
        rw f.owner_is (((chooses-own h ranges i refusal.worker).offers f.target f.least.candidate).taken f.place f.stop.inside).candidate,
        a.answered ∙ ap outcome_says f.outcome ∙ ap (λ (c : Copy). copy_placed c f.owner) same_copy,
      )
      go (later f) = absurd (f.later (sym f.fixed ∙ fixed-now ∙ e))

  -- a later one with its task's worker
  later-by : (o : ℕ) → o < p → fixed_in m' t ≡ o → AcceptedStep limits p k i Release m' → Placing (λ w. w ≡ o)
  later-by o owner e a = go a.allowed.made
    where
      go : Releases (own p m') p k i m' a.outcome a.updates → Placing (λ w. w ≡ o)
      go (first f) = absurd (omega (arith, owner, few, e, fixed-now, f.first))
      go (later f) = (
        f.owner,
        sym f.fixed ∙ fixed-now ∙ e,
        a.answered ∙ ap outcome_says f.outcome ∙ ap (λ (c : Copy). copy_placed c f.owner) same_copy,
      )

  -- the ring of owner o has room, and the copy goes anywhere or there
  module _ (o : ℕ) (owner : o < p) (room : ¬ (Full k (ends_in m' (ring_number p o i)))) (goes-there : (fixed_in m' t ≡ unfixed.0) ⊎ (fixed_in m' t ≡ o)) where
    not_full : ¬ ((FirstCopy m' i × ((w : ℕ) → w < p → Sound k (ends_in m' (ring_number p w i)) × Full k (ends_in m' (ring_number p w i))))
        ⊎ ((w : ℕ) × LaterCopy p m' i w × Full k (ends_in m' (ring_number p w i))))
    not_full (inl (f, all)) = room (all o owner).1
    not_full (inr (w, l, full)) = go goes-there
      where
        go : (fixed_in m' t ≡ unfixed.0) ⊎ (fixed_in m' t ≡ o) → ⊥
        go (inl e) = omega (arith, few, l.1, l.0, fixed-now, e)
        go (inr e) = room (subst (λ (x : ℕ). Full k (ends_in m' (ring_number p x i))) (sym l.0 ∙ fixed-now ∙ e) full)

    release-rows : Only8 (release_rows (own p m') p k i m')
    release-rows =
        only-damaged refl
        (only-passed (λ d c. omega (arith, c.1, waits.due.some))
        (only-damaged refl
        (only-damaged refl
        (only-damaged refl
        (only-damaged refl
        (only-damaged refl
        (only-damaged refl
        (only-damaged refl
        (only-damaged refl
        (only-passed (λ d c. not_full c.1) (only-damaged refl (only-damaged refl (only-damaged refl (only-damaged refl only_end))))))))))))))

    accepted-then : ((d : ℕ) → ¬ (step_says (step limits p k i Release m').answer ≡ refused damaged d)) → ◌≡◌ {A = ℕ} (row_in m' i).phase 0
        → AcceptedStep limits p k i Release m'
    accepted-then good idle =
        accepted-step limits p k i Release m'
        (only-accepts _ (step_follows limits p k i Release m') (suited-rows limits p k i Release m' h.fits refusal.worker idle release-rows) good)

  refusing : ¬ (◌≡◌ {A = ℕ} (row_in m' i).phase 0) → step_says (step limits p k i Release m').answer ≡ refused wrong_phase (row_in m' i).phase
  refusing busy =
      unsuited-row limits p k i Release m' h.fits refusal.worker (step_follows limits p k i Release m')
      (omega (arith, h.sane.phases i, phase-at p k m' i refusal.worker)) busy

-- Along a run.
goes : (p k i : ℕ) → i < p → (cs : List Call) (m : Mem) → Lengths p k m → ◌≡◌ {A = ℕ} (begins weak cs m) 0 → ◌≡◌ {A = ℕ} (releases weak i cs m) 0
    → Postpones p i m (memory_after weak cs m)
goes p k i worker =
    calls-keep weak_calls weak-laws p k i (Postpones p i) (postpones-none p i) (postpones-on p i)
    (λ limits w s m a. step-postpones limits p k w s m (accepted-step limits p k w s m a) i worker)

module _ (r : Run) (i t : ℕ) (refusal : Refused11 r.workers r.slots i t (memory_of r)) where
  abbrev p : ℕ
  p = r.workers

  abbrev k : ℕ
  k = r.slots

  abbrev now : Mem
  now = memory_of r

  after : (cs : List Call) → memory_of (longer r cs) ≡ memory_after weak cs now
  after cs = memory-on weak r.calls cs _

  due : Due i now
  due =
      record {
        some = omega (arith, refusal.some, (honest-run r).words.places i refusal.worker);
        inside = omega (arith, refusal.some, (honest-run r).words.places i refusal.worker, few-places (ranges-run r) i refusal.worker);
      }

  sound : (o : ℕ) → o < p → (cs : List Call) → Sound k (ends_in (memory_after weak cs now) (ring_number p o i))
  sound o owner cs =
      subst (λ (m : Mem). Sound k (ends_in m (ring_number p o i))) (after cs) (ends-sound (honest-run (longer r cs)) o owner i refusal.worker)

  later-on : (cs ds : List Call) → ◌≡◌ {A = ℕ} (begins weak ds (memory_after weak cs now)) 0 → ◌≡◌ {A = ℕ} (releases weak i ds (memory_after weak cs now)) 0
      → Postpones p i (memory_after weak cs now) (memory_after weak ds (memory_after weak cs now))
  later-on cs ds = goes p k i refusal.worker ds (memory_after weak cs now) (subst (Lengths p k) (after cs) (honest-run (longer r cs)).fits.lengths)

  slots : 0 < k
  slots = omega (arith, (honest-run r).fits.limits.two_slots)

  -- the ring of an owner that a copy could go to is full
  full-of : (o : ℕ) → o < p → (fixed_in now t ≡ unfixed.0) ⊎ (fixed_in now t ≡ o) → Full k (ends_in now (ring_number p o i))
  full-of o owner goes-there = go refusal.full
    where
      same : (w : ℕ) → LaterCopy p now i w → fixed_in now t ≡ w
      same w l = ap (fixed_in now) refusal.detail ∙ l.0

      one : (w : ℕ) → LaterCopy p now i w → Full k (ends_in now (ring_number p w i)) → (fixed_in now t ≡ unfixed.0) ⊎ (fixed_in now t ≡ o)
          → Full k (ends_in now (ring_number p o i))
      one w l full (inl e) = absurd (omega (arith, same w l, e, l.1, few-workers (honest-run r).fits))
      one w l full (inr e) = subst (λ (x : ℕ). Full k (ends_in now (ring_number p x i))) (sym (same w l) ∙ e) full

      go : (FirstCopy now i × ((w : ℕ) → w < p → Full k (ends_in now (ring_number p w i)))) ⊎ ((w : ℕ) × LaterCopy p now i w × Full k (ends_in now (ring_number p w i)))
          → Full k (ends_in now (ring_number p o i))
      go (inl (f, all)) = all o owner
      go (inr (w, l, full)) = one w l full goes-there

  -- so it finds a copy there, if it is idle
  could-fetch : (o : ℕ) → o < p → (fixed_in now t ≡ unfixed.0) ⊎ (fixed_in now t ≡ o) → ◌≡◌ {A = ℕ} (row_in now o).phase 0
      → (limits : Limits) → KeptBy limits (view_of r) → Acceptance (step_says (step limits p k o Fetch now).answer)
  could-fetch o owner goes-there free limits kept =
      only-accepts _ (step_follows limits p k o Fetch now)
      (suited-rows limits p k o Fetch now (honest-under r limits kept).fits owner free
      (only-damaged refl
      (only-damaged refl
      (only-passed
      (λ d c. scan-some p k o i now (row-pointer (honest-run r) o owner) refusal.worker (λ e. omega (arith, e, slots, full-of o owner goes-there)) c.1)
      (only-damaged refl (only-damaged refl (only-damaged refl only_end)))))))
      ((undamaged r).next limits p k o Fetch).not_damaged

  -- Further calls of this run, and an owner, one of the P, with P accepted Fetches among them. The copy could then go anywhere, or to this owner alone.
  module _ (further : List Call) (none : ◌≡◌ {A = ℕ} (begins weak further now) 0) (mine : ◌≡◌ {A = ℕ} (releases weak i further now) 0)
      (o : ℕ) (owner : o < p) (many : p ≤ fetches o further now) where
    abbrev then : Mem
    then = memory_of (longer r further)

    abbrev Anywhere : Type 0
    Anywhere = fixed_in then t ≡ unfixed.0

    abbrev There : Type 0
    There = fixed_in then t ≡ o

    -- so it was one already when the Release was refused: what was fixed then stays
    could-go : Anywhere ⊎ There → (fixed_in now t ≡ unfixed.0) ⊎ (fixed_in now t ≡ o)
    could-go goes-there = go refusal.full
      where
        as-then : fixed_in now t < p → Anywhere ⊎ There → (fixed_in now t ≡ unfixed.0) ⊎ (fixed_in now t ≡ o)
        as-then l (inl e) = inl (sym (fixed-stays r further t none l) ∙ e)
        as-then l (inr e) = inr (sym (fixed-stays r further t none l) ∙ e)

        go : (FirstCopy now i × ((w : ℕ) → w < p → Full k (ends_in now (ring_number p w i)))) ⊎ ((w : ℕ) × LaterCopy p now i w × Full k (ends_in now (ring_number p w i)))
            → (fixed_in now t ≡ unfixed.0) ⊎ (fixed_in now t ≡ o)
        go (inl (f, all)) = inl (ap (fixed_in now) refusal.detail ∙ f)
        go (inr (w, l, full)) = as-then (omega (arith, ap (fixed_in now) refusal.detail, l.0, l.1)) goes-there

    module _ (limits : Limits) (kept : KeptBy limits (view_of r)) where
      h : Honest limits p k then
      h = honest-under (longer r further) limits kept

      moved : Postponed p i now then
      moved = subst (Postponed p i now) (sym (after further)) (since weak p k i now due slots sound later-on copy_fetched further none mine)

      accepted-there : Anywhere ⊎ There → ◌≡◌ {A = ℕ} (row_in then i).phase 0 → AcceptedStep limits p k i Release then
      accepted-there goes-there =
          accepted-then h (ranges-run (longer r further)) i t refusal moved o owner
          (subst (λ (m : Mem). ¬ (Full k (ends_in m (ring_number p o i)))) (sym (after further))
          (room_at weak p k i now due slots sound later-on copy_fetched o owner (1 * p) further none mine
          (λ a behind q. fair-fetching.soon r o i owner refusal.worker [] a behind q further (omega (arith, many))) (full-of o owner (could-go goes-there))))
          goes-there ((undamaged (longer r further)).next limits p k i Release).not_damaged

      abbrev Would : (ℕ → Type 0) → Type 0
      Would = WouldPlace limits (longer r further) i (copy t (oldest now i))

      would-go-there : There → Would (λ w. w ≡ o)
      would-go-there e =
          record {
            idle = λ free. later-by h (ranges-run (longer r further)) i t refusal moved o owner e (accepted-there (inr e) free);
            busy = refusing h (ranges-run (longer r further)) i t refusal moved;
          }

      would-go-anywhere : Anywhere → Would (λ w. w < p)
      would-go-anywhere e =
          record {
            idle = λ free. first_by h (ranges-run (longer r further)) i t refusal moved e (accepted-there (inl e) free);
            busy = refusing h (ranges-run (longer r further)) i t refusal moved;
          }

module _ (r : Run) (limits : Limits) (i t : ℕ) (further : List Call) (owner : ℕ) (w : Waited r limits i t further owner) where
  refusal-of : Refused11 r.workers r.slots i t (memory_of r)
  refusal-of = refused-11 limits r.workers r.slots i t (memory_of r) w.full

  room-there : fixed_in (memory_of (longer r further)) t ≡ owner → Room r i t further (λ x. x ≡ owner)
  room-there e limits' kept = would-go-there r i t refusal-of further w.same_run w.not_released owner w.worker w.fetched limits' kept e

  room-anywhere : fixed_in (memory_of (longer r further)) t ≡ unfixed.0 → Room r i t further (λ x. x < r.workers)
  room-anywhere e limits' kept = would-go-anywhere r i t refusal-of further w.same_run w.not_released owner w.worker w.fetched limits' kept e

  -- what was fixed stays
  room-later : fixed_in (memory_of r) t ≡ owner → Room r i t further (λ x. x ≡ owner)
  room-later e = room-there (fixed-stays r further t w.same_run (omega (arith, e, w.worker)) ∙ e)

pub room-soon : RoomSoon
room-soon =
    record {
      later = room-later;
      fixed = room-there;
      first = room-anywhere;
      refused_idle = λ r limits i t e. (refused-11 limits r.workers r.slots i t (memory_of r) e).idle;
      can_fetch = λ r limits i t e. could-fetch r i t (refused-11 limits r.workers r.slots i t (memory_of r) e);
    }
