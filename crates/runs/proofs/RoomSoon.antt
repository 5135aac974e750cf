-- PROMISE: after 11, P accepted Fetches of any one worker make room: the refused worker's Release then places the same task.
use Prim.Native.Nat.{ℕ, ◌+◌, ◌*◌, ◌≤◌, ◌<◌}
use mathlib.Core.Path.{◌≡◌, refl, sym, ap, subst, ◌∙◌}
use mathlib.Core.Bool.{false, cond}
use mathlib.Core.List.{List, []}
use native.Mathlib.Omega.{arith}
use native.Mathlib.Decide.{ℕ_discrete, dec_lt}
use native.Mathlib.Nat.{mod-lt}
use lib.Dec.{eqb}
use lib.ListN.{get_or, set}
use lib.Seq.{get_or-set_same, get_or-set_other}
use borrow.Author.Tests.{eqb-false}
use Rattle.lists.proofs.Apart.{unequal}
use Rattle.lists.proofs.Decided.{stable}
use Rattle.task.specs.Refusals.{refused, task_fetched, task_placed, damaged, wrong_phase, rings_full, outcome_says, step_says}
use Rattle.task.specs.Rows.{Acceptance}
use Rattle.task.specs.declared.Limits.{Limits}
use Rattle.task.specs.declared.Step.{Step}
use Rattle.task.specs.declared.Step.TheVariants.{Fetch, Start, Complete, Release}
use Rattle.task.specs.declared.StepOutcome.{StepOutcome}
use Rattle.ring.specs.Ring.{Sound, Full}
use Rattle.memory.specs.Field as list
use Rattle.memory.specs.Updates.{updated, written}
use Rattle.rules.specs.Memory.{Mem, tasks, ring_number, ends_in, degree_in, buffer_at, row_in, pointer_in, oldest, successor}
use Rattle.rules.specs.Updates.{Update}
use Rattle.rules.specs.Plans.{with_count}
use Rattle.rules.specs.Tables.{Ready, release_rows, step_rows}
use Rattle.rules.specs.Steps.{step}
use Rattle.rules.specs.Moves.{sink, inner, waiting, placed, Releases, Made, Allowed, AcceptedStep}
use Rattle.rules.proofs.Follows.{step_follows}
use Rattle.rules.proofs.Kept.{step_keeps}
use Rattle.rules.proofs.Moved.{rows_other}
use Rattle.rules.proofs.Moves.{accepted-step}
use Rattle.rules.proofs.RowsMade.{row_made, rows_made}
use Rattle.split_lists.proofs.Memories.{ends-room}
use Rattle.algorithm1.proofs.Readings.{phase-at}
use Rattle.machine.proofs.Lists.{memory-on}
use Rattle.plans.specs.Forms.{own}
use Rattle.plans.specs.Sizes.{Lengths}
use Rattle.runs.specs.Calls.{Call, plain_calls, plain, memory_after, begins, Run, KeptBy, memory_of, view_of, longer}
use Rattle.runs.specs.Fairness.{fetches}
use Rattle.runs.specs.RoomSoon.{is_release, releases, release_answer, WouldPlace, RoomSoon}
use Rattle.runs.proofs.Calls.{plain-laws}
use Rattle.runs.proofs.Fair.{fair-fetching}
use Rattle.runs.proofs.Honest.{Honest, ends-sound, honest-under, honest-run}
use Rattle.runs.proofs.Live.{row-pointer}
use Rattle.runs.proofs.LiveRelease.{few-places, chooses-own}
use Rattle.runs.proofs.Undamaged.{undamaged}
use Rattle.runs.proofs.NextRelease.{Due, Postponed, Postpones, SamePlaces, postponed-by, places-made, places-kept, buffer-behind, postpones-none, postpones-on, count-taken, count_kept, scan-some, calls-keep, room_at, Tells, tells-end, tells-later, tells-here, Only8, only_end, only-damaged, only-passed, only-accepts, unsuited-row, suited-rows}

-- An accepted step of worker w that is no Release by worker i.
module _ (limits : Limits) (p k w : ℕ) (m : Mem) (i : ℕ) (due : Due i m) (worker : i < p) where
  -- the word that worker i reads next in its buffer
  made_word : (s : Step) (o : StepOutcome) (us : List Update) → Made s p k w m o us
      → get_or (written (with_count m us) m).buffers (buffer_at m i (row_in m i).read) 0 ≡ oldest m i
  unfolding written updated
  made_word Fetch o us f = rw f.updates refl
  made_word Start o us f = rw f.updates refl
  made_word Complete o us (sink f) = rw f.updates refl
  made_word Complete o us (inner f) = rw f.updates (buffer-behind i w m _ due f.room)
  made_word Release o us (waiting f) = rw f.updates refl
  made_word Release o us (placed f) = rw f.updates refl

  -- the rings that worker i fills
  made-counts : (s : Step) (o : StepOutcome) (us : List Update) → Allowed limits p k w s m o us → cond (is_release s) (eqb w i) false ≡ false
      → Made s p k w m o us → (h : ℕ) → h < p
      → (ends_in (written (with_count m us) m) (ring_number p h i)).count ≤ (ends_in m (ring_number p h i)).count
  unfolding written updated
  made-counts Fetch o us a e f h l =
      rw f.updates
      (count-taken m.ends f.ring _
      (rw f.ring_is (ends-room p w _ a.worker (mod-lt (pointer_in m w + f.distance) a.fits.limits.one_worker) k m a.fits.lengths))
      (omega arith) (ring_number p h i))
  made-counts Start o us a e f h l = rw f.updates (omega arith)
  made-counts Complete o us a e (sink f) h l = rw f.updates (omega arith)
  made-counts Complete o us a e (inner f) h l = rw f.updates (omega arith)
  made-counts Release o us a e (waiting f) h l = rw f.updates (omega arith)
  made-counts Release o us a e (placed f) h l =
      rw (f.updates, f.ring_is)
      (count_kept m.ends p f.owner w h i _ a.worker worker (λ s. eqb-false w i e (sym s)))

-- its places: only Complete by the worker itself lets one join
made_row : (p k w : ℕ) (m : Mem) (s : Step) (o : StepOutcome) (us : List Update) → is_release s ≡ false → (f : Made s p k w m o us)
    → ((row_made p k w m o us s f).read ≡ (row_in m w).read) × ((row_made p k w m o us s f).cursor ≡ (row_in m w).cursor)
    × ((row_in m w).write ≤ (row_made p k w m o us s f).write)
made_row p k w m Fetch o us e f = (refl, refl, omega arith)
made_row p k w m Start o us e f = (refl, refl, omega arith)
made_row p k w m Complete o us e (sink f) = (refl, refl, omega arith)
made_row p k w m Complete o us e (inner f) = (refl, refl, omega arith)
made_row p k w m Release o us e f = unequal cc

module _ (limits : Limits) (p k w : ℕ) (s : Step) (m : Mem) (a : AcceptedStep limits p k w s m) where
  abbrev left : Mem
  left = (step limits p k w s m).memory

  places_of : (i : ℕ) → cond (is_release s) (eqb w i) false ≡ false → SamePlaces i m left
  places_of i =
      places-kept w i s (rows_other limits p k w s m i)
      (λ q.
      let (read, cursor, write) = made_row p k w m s a.outcome a.updates q a.allowed.made in
      places-made w m left (row_made p k w m a.outcome a.updates s a.allowed.made)
      (omega (arith, a.allowed.worker, a.allowed.fits.lengths.list list.rows))
      (ap (λ (m' : Mem). m'.rows) a.left ∙ rows_made p k w m a.outcome a.updates s a.allowed.made) read cursor write i)

  step-postpones : (i : ℕ) → i < p → cond (is_release s) (eqb w i) false ≡ false → Postpones p i m left
  step-postpones i worker e due =
      postponed-by (step_keeps limits p k w s m).graph (places_of i e) due
      (rw a.left (made_word limits p k w m i due worker s a.outcome a.updates a.allowed.made))
      (rw a.left (made-counts limits p k w m i due worker s a.outcome a.updates a.allowed e a.allowed.made))

  -- no degree rises
  step-degrees : (t : ℕ) → degree_in left t ≤ degree_in m t
  unfolding written updated
  step-degrees t = rw a.left (go s a.allowed.made)
    where
      fell : (x d : ℕ) → x < tasks m → d ≤ degree_in m x → get_or (set m.degrees x d) t 0 ≤ degree_in m t
      fell x d task l = at (ℕ_discrete t x)
        where
          at : Dec (t ≡ x) → get_or (set m.degrees x d) t 0 ≤ degree_in m t
          at (yes q) = rw (q, get_or-set_same m.degrees x d 0 (omega (arith, task, a.allowed.fits.lengths.list list.degrees))) l
          at (no n) = rw (get_or-set_other m.degrees x t d 0 n) (omega arith)

      go : (s : Step) → Made s p k w m a.outcome a.updates → degree_in (written (with_count m a.updates) m) t ≤ degree_in m t
      go Fetch f = rw f.updates (omega arith)
      go Start f = rw f.updates (omega arith)
      go Complete (sink f) = rw f.updates (omega arith)
      go Complete (inner f) = rw f.updates (omega arith)
      go Release (waiting f) = rw f.updates (fell (successor m w) _ f.common.below (omega arith))
      go Release (placed f) = rw f.updates (fell (successor m w) 0 f.common.below (omega arith))

-- What 11 says of worker i's Release, with task t the detail.
record Refused11 (p k i t : ℕ) (m : Mem) : Type 0 where
  worker : i < p
  idle : ◌≡◌ {A = ℕ} (row_in m i).phase 0
  some : ¬ ((row_in m i).read ≡ (row_in m i).write)
  detail : t ≡ successor m i
  ready : Ready m i
  full : (o : ℕ) → o < p → Full k (ends_in m (ring_number p o i))

refused-11 : (limits : Limits) (p k i t : ℕ) (m : Mem) → step_says (step limits p k i Release m).answer ≡ refused rings_full t → Refused11 p k i t m
refused-11 limits p k i t m e = told.given (((step_follows limits p k i Release m).refuses rings_full t).0 e)
  where
    told : Tells (step_rows limits p k i Release m) rings_full t (Refused11 p k i t m)
    told =
        tells-later (omega arith) (λ _.
        tells-later (omega arith) (λ _.
        tells-later (omega arith) (λ there.
        tells-later (omega arith) (λ _.
        tells-later (omega arith) (λ suited.
        tells-later (omega arith) (λ _.
        tells-later (omega arith) (λ some.
        tells-later (omega arith) (λ _.
        tells-later (omega arith) (λ _.
        tells-later (omega arith) (λ _.
        tells-later (omega arith) (λ _.
        tells-later (omega arith) (λ _.
        tells-later (omega arith) (λ _.
        tells-later (omega arith) (λ _.
        tells-here
        (λ c. record {
          worker = stable (dec_lt i p) (λ n. there i (refl, omega (arith, n)));
          idle = stable (ℕ_discrete (row_in m i).phase 0) (λ n. suited (row_in m i).phase (refl, n));
          some = λ q. some 0 (refl, q);
          detail = c.0;
          ready = c.1.0;
          full = λ o l. (c.1.1 o l).1;
        })
        (tells-later (omega arith) (λ _.
        tells-later (omega arith) (λ _.
        tells-later (omega arith) (λ _. tells-end))))))))))))))))))

-- A memory m' since m, worker i's Release being postponed, in which one of the rings that it fills has room.
module _ {limits : Limits} {p k : ℕ} {m m' : Mem} (h : Honest limits p k m') (i t : ℕ) (refusal : Refused11 p k i t m) (since : Postponed p i m m')
    (degree : degree_in m' t ≤ degree_in m t) where
  same-task : successor m' i ≡ t
  same-task = since.successor_is ∙ sym refusal.detail

  still-ready : degree_in m' (successor m' i) ≤ 1
  still-ready = omega (arith, ap (degree_in m') same-task, degree, ap (degree_in m) refusal.detail, refusal.ready)

  -- what is accepted then places the task
  placed_by : (a : AcceptedStep limits p k i Release m') → (w : ℕ) × (w < p) × (step_says (step limits p k i Release m').answer ≡ task_placed t w)
  placed_by a = go a.allowed.made
    where
      go : Releases (own p m') p k i m' a.outcome a.updates
          → (w : ℕ) × (w < p) × (step_says (step limits p k i Release m').answer ≡ task_placed t w)
      go (waiting f) = absurd (f.not_ready (omega (arith, f.common.positive, still-ready)))
      go (placed f) = (
        f.owner,
        rw f.owner_is (((chooses-own h i refusal.worker).offers f.target f.least.candidate).taken f.place f.stop.inside).candidate,
        a.answered ∙ ap outcome_says f.outcome ∙ ap (λ (x : ℕ). task_placed x f.owner) same-task,
      )

  module _ (o : ℕ) (owner : o < p) (room : ¬ (Full k (ends_in m' (ring_number p o i)))) where
    release-rows : Only8 (release_rows (own p m') p k i m')
    release-rows =
        only-damaged refl
        (only-passed (λ d c. omega (arith, c.1, since.due.some))
        (only-damaged refl
        (only-damaged refl
        (only-damaged refl
        (only-damaged refl
        (only-damaged refl
        (only-damaged refl
        (only-damaged refl
        (only-passed (λ d c. room (c.1.1 o owner).1) (only-damaged refl (only-damaged refl (only-damaged refl only_end))))))))))))

    placing : ((d : ℕ) → ¬ (step_says (step limits p k i Release m').answer ≡ refused damaged d)) → ◌≡◌ {A = ℕ} (row_in m' i).phase 0
        → (w : ℕ) × (w < p) × (step_says (step limits p k i Release m').answer ≡ task_placed t w)
    placing good idle =
        placed_by (accepted-step limits p k i Release m'
        (only-accepts _ (step_follows limits p k i Release m') (suited-rows limits p k i Release m' h.fits refusal.worker idle release-rows) good))

  refusing : ¬ (◌≡◌ {A = ℕ} (row_in m' i).phase 0) → step_says (step limits p k i Release m').answer ≡ refused wrong_phase (row_in m' i).phase
  refusing busy =
      unsuited-row limits p k i Release m' h.fits refusal.worker (step_follows limits p k i Release m')
      (omega (arith, h.sane.phases i, phase-at p k m' i refusal.worker)) busy

-- Along a run.
module _ (p k i : ℕ) (worker : i < p) where
  -- worker i's Release is postponed, and no degree rises
  abbrev Goes : Mem → Mem → Type 0
  Goes m m' = Postpones p i m m' × ((t : ℕ) → degree_in m' t ≤ degree_in m t)

  goes : (cs : List Call) (m : Mem) → Lengths p k m → ◌≡◌ {A = ℕ} (begins cs m) 0 → ◌≡◌ {A = ℕ} (releases plain i cs m) 0 → Goes m (memory_after cs m)
  goes =
      calls-keep plain_calls plain-laws p k i Goes
      (λ m. (postpones-none p i m, λ t. omega arith))
      (λ m m₁ m₂ f g. (postpones-on p i m m₁ m₂ f.0 g.0, λ t. omega (arith, f.1 t, g.1 t)))
      (λ limits w s m a e.
      let b = accepted-step limits p k w s m a in
      (step-postpones limits p k w s m b i worker e, step-degrees limits p k w s m b))

module _ (r : Run) (i t : ℕ) (refusal : Refused11 r.workers r.slots i t (memory_of r)) where
  abbrev p : ℕ
  p = r.workers

  abbrev k : ℕ
  k = r.slots

  abbrev now : Mem
  now = memory_of r

  after : (cs : List Call) → memory_of (longer r cs) ≡ memory_after cs now
  after cs = memory-on plain r.calls cs _

  due : Due i now
  due =
      record {
        some = omega (arith, refusal.some, (honest-run r).words.places i refusal.worker);
        inside = omega (arith, refusal.some, (honest-run r).words.places i refusal.worker, few-places (honest-run r) i refusal.worker);
      }

  sound : (o : ℕ) → o < p → (cs : List Call) → Sound k (ends_in (memory_after cs now) (ring_number p o i))
  sound o owner cs =
      subst (λ (m : Mem). Sound k (ends_in m (ring_number p o i))) (after cs) (ends-sound (honest-run (longer r cs)) o owner i refusal.worker)

  goes_on : (cs ds : List Call) → ◌≡◌ {A = ℕ} (begins ds (memory_after cs now)) 0 → ◌≡◌ {A = ℕ} (releases plain i ds (memory_after cs now)) 0
      → Goes p k i refusal.worker (memory_after cs now) (memory_after ds (memory_after cs now))
  goes_on cs ds = goes p k i refusal.worker ds (memory_after cs now) (subst (Lengths p k) (after cs) (honest-run (longer r cs)).fits.lengths)

  slots : 0 < k
  slots = omega (arith, (honest-run r).fits.limits.two_slots)

  -- a worker below P that is idle finds a task in the ring that worker i fills for it
  could-fetch : (o : ℕ) → o < p → ◌≡◌ {A = ℕ} (row_in now o).phase 0 → (limits : Limits) → KeptBy limits (view_of r)
      → Acceptance (step_says (step limits p k o Fetch now).answer)
  could-fetch o owner free limits kept =
      only-accepts _ (step_follows limits p k o Fetch now)
      (suited-rows limits p k o Fetch now (honest-under r limits kept).fits owner free
      (only-damaged refl
      (only-damaged refl
      (only-passed (λ d c. scan-some p k o i now (row-pointer (honest-run r) o owner) refusal.worker (λ e. omega (arith, e, slots, refusal.full o owner)) c.1)
      (only-damaged refl (only-damaged refl only_end))))))
      ((undamaged r).next limits p k o Fetch).not_damaged

  would-place : (further : List Call) → ◌≡◌ {A = ℕ} (begins further now) 0 → ◌≡◌ {A = ℕ} (releases plain i further now) 0
      → (o : ℕ) → o < p → p ≤ fetches o further now → (limits : Limits) → KeptBy limits (view_of r) → WouldPlace limits (longer r further) i t
  would-place further none mine o owner many limits kept =
      record {
        idle =
            placing h i t refusal (moved.0 due) (moved.1 t) o owner
            (subst (λ (m : Mem). ¬ (Full k (ends_in m (ring_number p o i)))) (sym (after further))
            (room_at plain p k i now due slots sound (λ cs ds e q. (goes_on cs ds e q).0) task_fetched o owner (1 * p) further none mine
            (λ a behind q. fair-fetching.soon r o i owner refusal.worker [] a behind q further (omega (arith, many))) (refusal.full o owner)))
            ((undamaged (longer r further)).next limits p k i Release).not_damaged;
        busy = refusing h i t refusal (moved.0 due) (moved.1 t);
      }
    where
      h : Honest limits p k (memory_of (longer r further))
      h = honest-under (longer r further) limits kept

      moved : Goes p k i refusal.worker now (memory_of (longer r further))
      moved = subst (Goes p k i refusal.worker now) (sym (after further)) (goes p k i refusal.worker further now (honest-run r).fits.lengths none mine)

refusal-of : (r : Run) (limits : Limits) (i t : ℕ) → release_answer limits r i ≡ refused rings_full t → Refused11 r.workers r.slots i t (memory_of r)
refusal-of r limits i t = refused-11 limits r.workers r.slots i t (memory_of r)

pub room-soon : RoomSoon
room-soon =
    record {
      soon = λ r limits i t e. would-place r i t (refusal-of r limits i t e);
      refused_idle = λ r limits i t e. (refusal-of r limits i t e).idle;
      can_fetch = λ r limits i t e. could-fetch r i t (refusal-of r limits i t e);
    }
