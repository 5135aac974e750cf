-- Computed examples: answers without damage, counters in range, the record told from events, lists of steps, memories at rest and not, and graphs that
-- agree or don't.
use Prim.Native.Nat.{ℕ, zero, suc, ◌<◌}
use mathlib.Core.Path.{◌≡◌, refl, ap}
use mathlib.Core.Bool.{cond}
use mathlib.Core.List.{List, [], ◌∷◌}
use native.Mathlib.Omega.{arith}
use lib.ListN.{get_or, replicate}
use lib.Dec.{eqb}
use lib.IntN.{pos, negsuc}
use lib.Signed.{le_z_yes}
use Rattle.lists.specs.Lists.{tabulate}
use Rattle.lists.proofs.Apart.{unequal, cons-not-nil}
use Rattle.task.specs.Types.{engine, preview}
use Rattle.task.specs.Entries.{entry_of}
use Rattle.task.specs.Refusals.{Said, refused, answered, accepted}
use Rattle.task.specs.declared.Step.TheVariants.{Fetch, Start, Complete, Release}
use Rattle.machine.specs.Machine.{Event}
use Rattle.machine.specs.Runs.{View}
use Rattle.machine.specs.Jobs.{Call, step_call, begin_call, lookup_call}
use Rattle.ring.specs.Ring.{slot_at, ends_at, sound, queued, queue, Sound, Empty}
use Rattle.memory.specs.Memory.{Mem, mem_of}
use Rattle.memory.proofs.Examples.{PairRow, pairs, pair, row_of}
use Rattle.plans.specs.Memory.{ring_number, ends_in, degree_in, phase_in, places_in}
use Rattle.split_lists.specs.Reading.{queue_in}
use Rattle.views.specs.Damage.{NoDamage, NoDamageIn}
use Rattle.views.specs.Range.{Within}
use Rattle.views.specs.Recorded.{last_fetched, entry_by, entries_of}
use Rattle.views.specs.Graphs.{Agree, OneGraph}
use Rattle.views.specs.AtRest.{AtRest}
use Rattle.views.specs.Finishing.{StepsWith}

-- the item that an answer of kind 1 names
abbrev named : Said → ℕ → ℕ
named (refused n d) t = t
named (answered k vs) t = cond (eqb k 1) (get_or vs 0 0) t

-- worker 1 fetches 7, worker 0 fetches 5; worker 1's second Fetch and first Complete are refused, then it completes, and worker 0 after it; the latest first
abbrev past : List (Event Call)
past =
    record { call = step_call engine 2 4 0 Complete; said = accepted }
    ∷ record { call = step_call engine 2 4 1 Complete; said = accepted }
    ∷ record { call = step_call engine 2 4 1 Start; said = accepted }
    ∷ record { call = step_call engine 2 4 1 Complete; said = refused 9 1 }
    ∷ record { call = step_call engine 2 4 0 Start; said = accepted }
    ∷ record { call = step_call engine 2 4 1 Fetch; said = refused 9 1 }
    ∷ record { call = step_call engine 2 4 0 Fetch; said = answered 1 (5 ∷ []) }
    ∷ record { call = step_call engine 2 4 1 Fetch; said = answered 1 (7 ∷ []) }
    ∷ []

-- a Fetch that is answered so
abbrev fetching : Said → Event Call
fetching said = record { call = step_call engine 2 4 0 Fetch; said = said }

-- the limit on tasks of a call's own
abbrev tasks_allowed : Call → ℕ
tasks_allowed (step_call limits p k i s) = limits.tasks
tasks_allowed (begin_call limits p k) = limits.tasks
tasks_allowed (lookup_call side t) = 0

-- P 1 and K 2, of n tasks without edges: what a run shows whose ring has these ends, whose worker this row, whose first task this degree
abbrev shown : (n : ℕ) → List ℕ → PairRow → ℕ → View (Mem pairs) Call
shown n ends row degree =
    let m : Mem pairs = mem_of (replicate n 0) (replicate (suc n) 0) [] (replicate (suc n) 0) [] (degree ∷ []) [] (pair 1 1 ∷ pair 2 2 ∷ []) ends (pos 0 ∷ []) [] [] [] (row ∷ []) in
    record { limits = engine; workers = 1; slots = 2; lent = m; memory = m; events = [] }

-- a worker in this phase, whose buffer is read from here and written to there
abbrev worker : ℕ → ℕ → ℕ → PairRow
worker phase read write = row_of phase (pair 3 3) 0 read write 0

-- an empty ring whose head moved on, a worker that is idle and has read its buffer, and no degree left
abbrev restful : View (Mem pairs) Call
restful = shown 1 (1 ∷ 1 ∷ 0 ∷ []) (worker 0 1 1) 0

rested : AtRest restful
unfolding queue queued tabulate ends_at sound
rested = record { queues = queues; rings = rings; phases = phases; buffers = buffers; degrees = degrees }
  where
    queues : (i j : ℕ) → i < 1 → j < 1 → queue_in 1 2 restful.memory i j ≡ []
    queues zero zero hi hj = refl
    queues zero (suc j) hi hj = absurd (omega (arith, hj))
    queues (suc i) j hi hj = absurd (omega (arith, hi))

    rings : (i j : ℕ) → i < 1 → j < 1 → Sound 2 (ends_in restful.memory (ring_number 1 i j)) × Empty (ends_in restful.memory (ring_number 1 i j))
    rings zero zero hi hj = (record { head = omega arith; tail = omega arith; count = omega arith; leads = refl }, refl)
    rings zero (suc j) hi hj = absurd (omega (arith, hj))
    rings (suc i) j hi hj = absurd (omega (arith, hi))

    phases : (i : ℕ) → i < 1 → ◌≡◌ {A = ℕ} (phase_in restful.memory i) 0
    phases zero h = refl
    phases (suc i) h = absurd (omega (arith, h))

    buffers : (i : ℕ) → i < 1 → (places_in restful.memory i).read ≡ (places_in restful.memory i).write
    buffers zero h = refl
    buffers (suc i) h = absurd (omega (arith, h))

    degrees : (t : ℕ) → ◌≡◌ {A = ℕ} (degree_in restful.memory t) 0
    degrees zero = refl
    degrees (suc t) = refl

pub record Examples : Type 0 where
  -- 10 is no damage, 8 and 12 are, whatever the detail
  pub harmless : NoDamage (refused 10 0) × NoDamage (refused 11 3) × NoDamage accepted
  pub damage : ¬ (NoDamage (refused 8 0)) × ¬ (NoDamage (refused 12 3))
  -- of some answers, the earliest among them
  pub all_harmless : NoDamageIn (fetching accepted ∷ fetching (refused 9 1) ∷ [])
  pub earlier : ¬ (NoDamageIn (fetching accepted ∷ fetching (refused 8 0) ∷ []))
  -- "within ±67,107,840", both ends among them
  pub within : Within (pos 67107840) × Within (negsuc 67107839)
  pub without : ¬ (Within (pos 67107841)) × ¬ (Within (negsuc 67107840))
  -- "one entry for each of these Completes, in their order: the task that the worker's last accepted Fetch before it answered, and that worker"
  pub entries : entries_of named 65535 past ≡ entry_of 7 1 ∷ entry_of 5 0 ∷ []
  -- steps with these limits, P and K, and no others
  pub steps : StepsWith step_call engine 2 4 (step_call engine 2 4 0 Fetch ∷ step_call engine 2 4 1 Release ∷ [])
  pub other_limits : ¬ (StepsWith step_call engine 2 4 (step_call preview 2 4 0 Fetch ∷ []))
  pub rests : AtRest restful
  -- one item waits; damaged ends, whose list is empty; a worker holds an item; a task in its buffer; a degree left
  pub waits : ¬ (AtRest (shown 1 (1 ∷ 0 ∷ 1 ∷ []) (worker 0 1 1) 0))
  pub damaged : ¬ (AtRest (shown 1 (1 ∷ 0 ∷ 0 ∷ []) (worker 0 1 1) 0))
  pub holds : ¬ (AtRest (shown 1 (1 ∷ 1 ∷ 0 ∷ []) (worker 1 1 1) 0))
  pub buffered : ¬ (AtRest (shown 1 (1 ∷ 1 ∷ 0 ∷ []) (worker 0 0 1) 0))
  pub blocked : ¬ (AtRest (shown 1 (1 ∷ 1 ∷ 0 ∷ []) (worker 0 1 1) 1))
  -- "Two runs are of one graph if N and the edges agree."
  pub itself : (m : Mem pairs) → Agree m m
  pub apart : ¬ (OneGraph (shown 1 [] (worker 0 0 0) 0) (shown 2 [] (worker 0 0 0) 0))

pub examples : Examples
unfolding last_fetched entry_by entries_of queue queued tabulate slot_at ends_at sound
examples =
    record {
      harmless = (
        record { not_damaged = λ d e. unequal cc; not_full = λ d e. unequal cc },
        record { not_damaged = λ d e. unequal cc; not_full = λ d e. unequal cc },
        record { not_damaged = λ d e. unequal cc; not_full = λ d e. unequal cc },
      );
      damage = (λ h. h.not_damaged 0 refl, λ h. h.not_full 3 refl);
      all_harmless = (
        record { not_damaged = λ d e. unequal cc; not_full = λ d e. unequal cc },
        (record { not_damaged = λ d e. unequal cc; not_full = λ d e. unequal cc }, tt),
      );
      earlier = λ h. h.1.0.not_damaged 0 refl;
      within = (record { low = le_z_yes tt; high = le_z_yes tt }, record { low = le_z_yes tt; high = le_z_yes tt });
      without = (λ h. h.high.le, λ h. h.low.le);
      entries = refl;
      steps = ((0, Fetch, refl), ((1, Release, refl), tt));
      other_limits = λ h. omega (arith, ap tasks_allowed h.0.2);
      rests = rested;
      waits = λ h. cons-not-nil _ _ (h.queues 0 0 (omega arith) (omega arith));
      damaged = λ h. omega (arith, (h.rings 0 0 (omega arith) (omega arith)).0.leads);
      holds = λ h. omega (arith, h.phases 0 (omega arith));
      buffered = λ h. omega (arith, h.buffers 0 (omega arith));
      blocked = λ h. omega (arith, h.degrees 0);
      itself = λ m. record { same_tasks = refl; same_edges = λ u t. (λ e. e, λ e. e) };
      apart = λ h. omega (arith, h.same_tasks);
    }
