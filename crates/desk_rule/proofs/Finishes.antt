-- The desk's run finishes: of any two turns one after the other the first or the second takes a step, since some worker has a step that
-- would be accepted next.
use Prim.Native.Nat.{ℕ, zero, suc, ◌+◌, ◌*◌, ◌≤◌, ◌<◌}
use mathlib.Core.Path.{◌≡◌, refl, sym, ap, ◌∙◌}
use mathlib.Core.Bool.{Bool, true, false, cond}
use mathlib.Core.Logic.{◌⊎◌, inl, inr}
use mathlib.Core.List.{List, [], ◌∷◌, ◌++◌}
use native.Mathlib.Omega.{arith}
use native.Mathlib.Decide.{dec_lt, dec_le}
use borrow.Author.Tests.{lt-ltb, le-ltb}
use lib.ListN.{length}
use lib.Dec.{ltb}
use Rattle.std.specs.Prelude.{Err, Ok}
use Rattle.lists.specs.Circles.{after}
use Rattle.lists.proofs.Circles.{after-lt}
use Rattle.task.specs.Types.{engine}
use Rattle.task.specs.Refusals.{StepAnswer, refusal_number, refusal_detail, accepted, answer_says, step_says}
use Rattle.task.specs.Rows.{Acceptance}
use Rattle.task.specs.declared.refusal.Refusal.{Refusal}
use Rattle.task.specs.declared.Step.{Step}
use Rattle.task.specs.declared.Step.TheVariants.{Fetch, Start, Complete, Release}
use Rattle.task.specs.declared.StepOutcome.{StepOutcome}
use Rattle.machine.specs.Machine as machine
use Rattle.machine.proofs.Lists.{memory-on}
use Rattle.layout.specs.Marks.{Each}
use Rattle.rules.specs.Memory.{Mem, tasks, edges, all_steps, entries_in, accepted_in}
use Rattle.rules.specs.Steps.{step}
use Rattle.rules.specs.Begin.{begin}
use Rattle.rules.specs.Desk.{tries, first_of, turn, turns, desk_run}
use Rattle.rules.proofs.Plans.{outcome-accepts}
use Rattle.rules.proofs.Untouched.{refused-step}
use Rattle.rules.proofs.Moves.{accepted-step}
use Rattle.rules.proofs.Moved.{counts}
use Rattle.rules.proofs.Words.{all-steps-are}
use Rattle.runs.specs.Calls.{Call, plain, memory_after, begun_memory, Run, events_of, view_of}
use Rattle.runs.specs.Demand.{accepted_completes, Finished, next_says}
use Rattle.runs.proofs.Calls.{tasks-reached, preds-reached}
use Rattle.runs.proofs.Demand.{demand-3, finished-full, finished-count}
use Rattle.desk_rule.specs.Promise.{unless_accepted, turn_calls, turns_calls, DeskFinishes}

abbrev answer_of : ℕ → Step → Mem → StepAnswer
answer_of i s m = (step engine 2 4 i s m).answer

abbrev left : ℕ → Step → Mem → Mem
left i s m = (step engine 2 4 i s m).memory

-- the step would be refused
abbrev Refuses : ℕ → Mem → Step → Type 0
Refuses i m s = ¬ (Acceptance (step_says (answer_of i s m)))

-- what a turn does: it takes the first step that is accepted, and the accepted word grows by one, or each is refused and nothing moves
data Turned (i : ℕ) (ss : List Step) (m : Mem) : Type 0 where
  takes : accepted_in (turn engine 2 4 i ss m) ≡ suc (accepted_in m) → Turned i ss m
  waits : turn engine 2 4 i ss m ≡ m → Each (Refuses i m) ss → Turned i ss m

module _ (i : ℕ) (s : Step) (ss : List Step) (m : Mem) where
  turn-accepted : (o : StepOutcome) → answer_of i s m ≡ Ok o → turn engine 2 4 i (s ∷ ss) m ≡ left i s m
  unfolding turn
  turn-accepted o e = rw e

  turn-refused : (why : Refusal) → answer_of i s m ≡ Err why → turn engine 2 4 i (s ∷ ss) m ≡ turn engine 2 4 i ss m
  unfolding turn
  turn-refused why e = rw e (ap (turn engine 2 4 i ss) (refused-step engine 2 4 i s m (refusal_number why) (refusal_detail why) (ap step_says e)))

turned : (i : ℕ) (ss : List Step) (m : Mem) → Turned i ss m
unfolding turn
turned i [] m = waits refl tt
turned i (s ∷ ss) m = go (answer_of i s m) refl (turned i ss m)
  where
    later : (why : Refusal) → answer_of i s m ≡ Err why → Turned i ss m → Turned i (s ∷ ss) m
    later why e (takes h) = takes (ap accepted_in (turn-refused i s ss m why e) ∙ h)
    later why e (waits h r) = waits (turn-refused i s ss m why e ∙ h) (λ a. rw (ap step_says e) at a, r)

    go : (a : StepAnswer) → answer_of i s m ≡ a → Turned i ss m → Turned i (s ∷ ss) m
    go (Ok o) e _ =
        takes (ap accepted_in (turn-accepted i s ss m o e) ∙ counts engine 2 4 i s m (rw (ap step_says e) (outcome-accepts o)))
    go (Err why) e t = later why e t

-- what the calls of a turn leave
turn-calls : (i : ℕ) (ss : List Step) (m : Mem) → memory_after (turn_calls i ss m) m ≡ turn engine 2 4 i ss m
unfolding turn_calls turn machine.memory_after
turn-calls i [] m = refl
turn-calls i (s ∷ ss) m = go (answer_of i s m) refl (turn-calls i ss (left i s m))
  where
    go : (a : StepAnswer) → answer_of i s m ≡ a
        → memory_after (turn_calls i ss (left i s m)) (left i s m) ≡ turn engine 2 4 i ss (left i s m)
        → memory_after (unless_accepted (answer_of i s m) (turn_calls i ss (left i s m))) (left i s m)
        ≡ first_of (answer_of i s m) (left i s m) (turn engine 2 4 i ss (left i s m))
    go (Ok o) e _ = rw e
    go (Err why) e later = rw e later

-- one turn more, where steps are left
pub turns_more : (n i : ℕ) (m : Mem) → accepted_in m < all_steps m
    → turns engine 2 4 (suc n) i m ≡ turns engine 2 4 n (after 2 i) (turn engine 2 4 i tries m)
unfolding turns
turns_more n i m h = rw (lt-ltb _ _ h)

pub turns-none : (i : ℕ) (m : Mem) → turns engine 2 4 zero i m ≡ m
unfolding turns
turns-none i m = refl

pub turns-over : (n i : ℕ) (m : Mem) → all_steps m ≤ accepted_in m → turns engine 2 4 n i m ≡ m
unfolding turns
turns-over zero i m h = refl
turns-over (suc n) i m h = rw (le-ltb _ _ h)

-- and those of all turns
turns-calls : (n i : ℕ) (m : Mem) → memory_after (turns_calls n i m) m ≡ turns engine 2 4 n i m
unfolding turns_calls turns machine.memory_after
turns-calls zero i m = refl
turns-calls (suc n) i m = go (ltb (accepted_in m) (all_steps m)) (turns-calls n (after 2 i) (turn engine 2 4 i tries m))
  where
    go : (b : Bool)
        → memory_after (turns_calls n (after 2 i) (turn engine 2 4 i tries m)) (turn engine 2 4 i tries m)
        ≡ turns engine 2 4 n (after 2 i) (turn engine 2 4 i tries m)
        → memory_after (cond b (turn_calls i tries m ++ turns_calls n (after 2 i) (turn engine 2 4 i tries m)) []) m
        ≡ cond b (turns engine 2 4 n (after 2 i) (turn engine 2 4 i tries m)) m
    go true later =
        memory-on plain (turn_calls i tries m) (turns_calls n (after 2 i) (turn engine 2 4 i tries m)) m
        ∙ ap (memory_after (turns_calls n (after 2 i) (turn engine 2 4 i tries m))) (turn-calls i tries m)
        ∙ later
    go false later = refl

-- some calls lead from one memory to another
record Leads (m m' : Mem) : Type 0 where
  calls : List Call
  there : memory_after calls m ≡ m'

leads-none : (m : Mem) → Leads m m
unfolding machine.memory_after
leads-none m = record { calls = []; there = refl }

leads-turn : (m m' : Mem) (i : ℕ) → Leads m m' → Leads m (turn engine 2 4 i tries m')
leads-turn m m' i l =
    record {
      calls = l.calls ++ turn_calls i tries m';
      there =
          memory-on plain l.calls (turn_calls i tries m') m
          ∙ ap (memory_after (turn_calls i tries m')) l.there
          ∙ turn-calls i tries m';
    }

-- the two workers take turns
one_of_two : (i : ℕ) → i < 2 → (j : ℕ) → j < 2 → (j ≡ i) ⊎ (j ≡ after 2 i)
unfolding after
one_of_two zero h zero g = inl refl
one_of_two zero h (suc zero) g = inr refl
one_of_two zero h (suc (suc j)) g = absurd (omega (arith, g))
one_of_two (suc zero) h zero g = inr refl
one_of_two (suc zero) h (suc zero) g = inl refl
one_of_two (suc zero) h (suc (suc j)) g = absurd (omega (arith, g))
one_of_two (suc (suc i)) h j g = absurd (omega (arith, h))

-- a step of the four is one of those that a turn tries
tried : (i : ℕ) (m : Mem) (s : Step) → Each (Refuses i m) tries → Refuses i m s
tried i m Release r = r.0
tried i m Fetch r = r.1.0
tried i m Start r = r.1.1.0
tried i m Complete r = r.1.1.1.0

module _ (lent : Mem) (e : answer_says (begin engine 2 4 lent).answer ≡ accepted) where
  abbrev begun : Mem
  begun = begun_memory engine 2 4 lent

  abbrev run_to : (m : Mem) → Leads begun m → Run
  run_to m l = record { limits = engine; workers = 2; slots = 4; lent = lent; accepts = e; calls = l.calls }

  all-steps : (m : Mem) (l : Leads begun m) → all_steps m ≡ 3 * tasks lent + edges lent
  all-steps m l =
      all-steps-are m
      ∙ ap (λ (m' : Mem). 3 * tasks m' + edges m') (sym l.there)
      ∙ omega (arith, tasks-reached (run_to m l), ap length (preds-reached (run_to m l)))

  -- while steps are left, some worker has one that is accepted next
  live : (m : Mem) → Leads begun m → accepted_in m < all_steps m → (i : ℕ) × (s : Step) × (i < 2) × Acceptance (step_says (answer_of i s m))
  live m l h = found ((demand-3.one (run_to m l)).next unfinished)
    where
      unfinished : ¬ (Finished (view_of (run_to m l)))
      unfinished f =
          omega (
            arith,
            h,
            all-steps-are m,
            ap accepted_in l.there,
            ap tasks l.there,
            ap edges l.there,
            finished-count (run_to m l) (finished-full (run_to m l) f),
          )

      found : (i : ℕ) × (s : Step) × (i < 2) × Acceptance (next_says engine (view_of (run_to m l)) i s) → (i : ℕ) × (s : Step) × (i < 2) × Acceptance (step_says (answer_of i s m))
      found (i, s, w, a) = (i, s, w, rw l.there at a)

  -- so not both workers wait
  both-wait : (m : Mem) (i : ℕ) → i < 2 → Leads begun m → accepted_in m < all_steps m → Each (Refuses i m) tries → Each (Refuses (after 2 i) m) tries → ⊥
  both-wait m i w l f r r' = go (live m l f) (one_of_two i w)
    where
      go : (j : ℕ) × (s : Step) × (j < 2) × Acceptance (step_says (answer_of j s m)) → ((j : ℕ) → j < 2 → (j ≡ i) ⊎ (j ≡ after 2 i)) → ⊥
      go (j, s, v, a) pick = this (pick j v)
        where
          this : (j ≡ i) ⊎ (j ≡ after 2 i) → ⊥
          this (inl q) = tried i m s r (rw q at a)
          this (inr q) = tried (after 2 i) m s r' (rw q at a)

  -- a turn that takes a step leaves fewer
  turn-fewer : (m : Mem) (i d : ℕ) → Leads begun m → all_steps m ≤ accepted_in m + suc d → accepted_in (turn engine 2 4 i tries m) ≡ suc (accepted_in m)
      → all_steps (turn engine 2 4 i tries m) ≤ accepted_in (turn engine 2 4 i tries m) + d
  turn-fewer m i d l h t = omega (arith, h, t, all-steps m l, all-steps (turn engine 2 4 i tries m) (leads-turn begun m i l))

  -- with d steps left 2·d turns suffice
  suffice : (d n i : ℕ) (m : Mem) → i < 2 → Leads begun m → all_steps m ≤ accepted_in m + d → 2 * d ≤ n
      → all_steps (turns engine 2 4 n i m) ≤ accepted_in (turns engine 2 4 n i m)
  suffice zero n i m w l h q = rw (turns-over n i m (omega (arith, h))) (omega (arith, h))
  suffice (suc d) zero i m w l h q = absurd (omega (arith, q))
  suffice (suc d) (suc zero) i m w l h q = absurd (omega (arith, q))
  suffice (suc d) (suc (suc n)) i m w l h q =
      go (dec_lt (accepted_in m) (all_steps m)) (turned i tries m) (turned (after 2 i) tries m)
      (suffice d (suc n) (after 2 i) (turn engine 2 4 i tries m) (after-lt 2 i (omega arith)) (leads-turn begun m i l))
      (suffice d n (after 2 (after 2 i)) (turn engine 2 4 (after 2 i) tries m) (after-lt 2 (after 2 i) (omega arith)) (leads-turn begun m (after 2 i) l))
    where
      Over : ℕ → ℕ → Mem → Type 0
      Over n i m = all_steps (turns engine 2 4 n i m) ≤ accepted_in (turns engine 2 4 n i m)

      go : Dec (accepted_in m < all_steps m) → Turned i tries m → Turned (after 2 i) tries m
          → (all_steps (turn engine 2 4 i tries m) ≤ accepted_in (turn engine 2 4 i tries m) + d → 2 * d ≤ suc n
          → Over (suc n) (after 2 i) (turn engine 2 4 i tries m))
          → (all_steps (turn engine 2 4 (after 2 i) tries m) ≤ accepted_in (turn engine 2 4 (after 2 i) tries m) + d → 2 * d ≤ n
          → Over n (after 2 (after 2 i)) (turn engine 2 4 (after 2 i) tries m))
          → Over (suc (suc n)) i m
      go (no f) _ _ _ _ = rw (turns-over (suc (suc n)) i m (omega (arith, f))) (omega (arith, f))
      go (yes f) (takes t) _ first _ = rw (turns_more (suc n) i m f) (first (turn-fewer m i d l h t) (omega (arith, q)))
      go (yes f) (waits s r) (takes t) _ second = rw (turns_more (suc n) i m f, s, turns_more n (after 2 i) m f) (second (turn-fewer m (after 2 i) d l h t) (omega (arith, q)))
      go (yes f) (waits s r) (waits s' r') _ _ = absurd (both-wait m i w l f r r')

  abbrev end : Mem
  end = desk_run begun

  led : Leads begun end
  unfolding desk_run
  led = record { calls = turns_calls (2 * all_steps begun) 0 begun; there = turns-calls (2 * all_steps begun) 0 begun }

  all-taken : all_steps end ≤ accepted_in end
  unfolding desk_run
  all-taken = suffice (all_steps begun) (2 * all_steps begun) 0 begun (omega arith) (leads-none begun) (omega arith) (omega arith)

  -- a run without a next step is finished
  done : Finished (view_of (run_to end led))
  done = stable (dec_le (tasks lent) (accepted_completes (events_of (run_to end led))))
    where
      stable : Dec (tasks lent ≤ accepted_completes (events_of (run_to end led))) → Finished (view_of (run_to end led))
      stable (yes h) = record { completes = h }
      stable (no n) = absurd (none ((demand-3.one (run_to end led)).next (λ f. n f.completes)))
        where
          none : (i : ℕ) × (s : Step) × (i < 2) × Acceptance (next_says engine (view_of (run_to end led)) i s) → ⊥
          none (i, s, w, a) =
              omega (
                arith,
                all-taken,
                all-steps-are end,
                (accepted-step engine 2 4 i s end (rw led.there at a)).allowed.low,
              )

  -- PROMISE: the desk's run finishes
  pub desk-finishes : DeskFinishes lent e
  unfolding led
  desk-finishes =
      record {
        memory = led.there;
        finished = done;
        accepted =
            ap accepted_in (sym led.there)
            ∙ finished-count (run_to end led) (finished-full (run_to end led) done)
            ∙ omega (arith, tasks-reached (run_to end led), ap length (preds-reached (run_to end led)));
        entries = ap entries_in (sym led.there) ∙ finished-full (run_to end led) done ∙ tasks-reached (run_to end led);
      }
