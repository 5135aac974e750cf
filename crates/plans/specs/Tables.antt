-- The conditions of document 01's table that calls of every family share, and the rows of begin and of what stands before a step's own rule. No
-- row looks at a plan or at a checked read: its condition speaks of the lent words alone.
use Rattle.std.specs.Prelude.{ℕ, ◌+◌, ◌*◌, ◌%◌, ◌≤◌, ◌<◌, ◌≡◌, ◌⊎◌, List, [], ◌∷◌, length, get_or, ℤ, pos, negsuc, ◌<ℤ◌}
use Rattle.std.proofs.Math.Decide.{ℕ_discrete}
use Rattle.lists.specs.Decided.{tally, Smallest}
use Rattle.lists.specs.Sums.{sum_to}
use Rattle.task.specs.Types.{capped}
use Rattle.task.specs.Phases.{suits}
use Rattle.task.specs.Refusals.{wrong_length, beyond_limit, bad_table, duplicate, cycle, too_many_roots, no_such_worker, damaged, wrong_phase}
use Rattle.task.specs.Rows.{Refusal, row, only}
use Rattle.task.specs.declared.Ends.{Ends}
use Rattle.task.specs.declared.Limits.{Limits}
use Rattle.task.specs.declared.Step.{Step}
use Rattle.graph.specs.Graph.{preds_of}
use Rattle.graph.specs.Conditions.{Bad, Twice, OnCycle}
use Rattle.graph.specs.Tables.{Beyond, Heavy}
use Rattle.ring.specs.Ring.{Sound}
use Rattle.memory.specs.Family.{Family}
use Rattle.memory.specs.Memory.{Mem}
use Rattle.plans.specs.Memory.{tasks, edges, graph_in, ring_number, ends_in, first_succ, past_succ, phase_in, pointer_in, places_in}
use Rattle.plans.specs.Sizes.{Lengths}

-- 2: "P, K .. beyond its limit": "P from 1 to 16. Each ring has K slots, K from 2 to 64.", 16 and 64 being the engine's limits
abbrev pub BeyondPK : Limits → ℕ → ℕ → Type 0
BeyondPK limits p k = ((p < 1) ⊎ ((capped limits).workers < p)) ⊎ ((k < 2) ⊎ ((capped limits).slots < k))

-- "counter beyond ±2^30"
abbrev pub Beyond2^30 : ℤ → Type 0
Beyond2^30 c = (c <ℤ negsuc 1073741823) ⊎ (pos 1073741824 <ℤ c)

-- one of the P·P counters is
abbrev pub BadCounter : ℕ → List ℤ → Type 0
BadCounter n counters = (q : ℕ) × (q < n) × Beyond2^30 (get_or counters q (pos 0))

-- Rings that are looked at one after the other: `ends d` are the ends of the ring at distance d from the first, and a ring is skipped if
-- it is as `Skip` says, an empty one for Fetch, a full one for Release. The search goes on to distance e: every ring before is sound and
-- skipped. Fetch looks at P rings, Release at those of the owners offered.
abbrev pub GoesOn : ℕ → (Ends → Type 0) → (ℕ → Ends) → ℕ → Type 0
GoesOn k Skip ends e = (d : ℕ) → d < e → Sound k (ends d) × Skip (ends d)

-- "head or tail ≥ K", "A count over K, or head plus count not leading to tail modulo K" at a ring that the search comes to
abbrev pub BadEnds : ℕ → ℕ → (Ends → Type 0) → (ℕ → Ends) → Type 0
BadEnds p k Skip ends = (e : ℕ) × (e < p) × GoesOn k Skip ends e × ¬ (Sound k (ends e))

-- the search stops at distance e: the first ring that isn't skipped, and it is sound
pub record StopsAt (p k : ℕ) (Skip : Ends → Type 0) (ends : ℕ → Ends) (e : ℕ) : Type 0 where
  pub inside : e < p
  pub goes_on : GoesOn k Skip ends e
  pub sound : Sound k (ends e)
  pub stops : ¬ (Skip (ends e))

module _ {F : Family} where
  -- how many tasks have "degree 0": "here it is all N tasks"
  abbrev pub root_count : Mem F → ℕ
  root_count m = sum_to (tasks m) (λ t. tally (ℕ_discrete (length (preds_of (graph_in m) t)) 0))

  -- "Order in begin: 2, 1, 3, 4, 5, 6."
  abbrev pub begin_rows : Limits → ℕ → ℕ → Mem F → List Refusal
  begin_rows limits p k m =
      -- 2: "N, E, P, K or (begin) a weight beyond its limit"
      row beyond_limit (only 0 ((BeyondPK limits p k ⊎ Beyond limits (tasks m) (edges m)) ⊎ Heavy m.weights))
      -- 1: "a lent length isn't the stated one"; in figures, list by list: `lengths-stated` of each family (`proofs/Lengths.antt`)
      ∷ row wrong_length (only 0 (¬ (Lengths p k m)))
      -- (3, 4 and 5 are the rows of the graph's own check, `table_rows`)
      -- 3: "start t ≤ start t+1 ≤ E fails, or a predecessor ≥ N", "smallest such task"
      ∷ row bad_table (Smallest (λ t. (t < tasks m) × Bad (graph_in m) t))
      -- 3: "start 0 not 0 or start N not E", "N for a wrong first or last start alone"
      ∷ row bad_table (only (tasks m) (¬ (◌≡◌ {A = ℕ} (get_or m.pred_starts 0 0) 0) ⊎ ¬ (get_or m.pred_starts (tasks m) 0 ≡ edges m)))
      -- 4: "a predecessor twice in one task", "smallest such task"
      ∷ row duplicate (Smallest (λ t. (t < tasks m) × Twice (graph_in m) t))
      -- 5: "a cycle, a loop on one task included", "smallest task on any cycle"
      ∷ row cycle (Smallest (OnCycle (graph_in m)))
      -- 6: more roots than "The roots' limit becomes P·K", "their number"
      ∷ row too_many_roots (only (root_count m) (p * k < root_count m))
      ∷ []

  -- "buffer places (where one is read, both are) not read ≤ write ≤ N"
  abbrev pub BadPlaces : Mem F → ℕ → Type 0
  BadPlaces m i = ((places_in m i).write < (places_in m i).read) ⊎ (tasks m < (places_in m i).write)

  -- "successor range without start t ≤ start t+1 ≤ E"
  abbrev pub BadRange : Mem F → ℕ → Type 0
  BadRange m t = (past_succ m t < first_succ m t) ⊎ (edges m < past_succ m t)

  -- Fetch's rings "of owner i from the ring pointer upward, modulo P": the ring at distance d, and its ends
  abbrev pub scanned : ℕ → ℕ → Mem F → ℕ → ℕ
  scanned p i m d = ring_number p i ((pointer_in m i + d) % p)

  abbrev pub scanned_ends : ℕ → ℕ → Mem F → ℕ → Ends
  scanned_ends p i m d = ends_in m (scanned p i m d)

  -- Release's rings "filled by i", of the owners offered: the ends of the ring of the owner at place d
  abbrev pub offered_ends : ℕ → ℕ → Mem F → List ℕ → ℕ → Ends
  offered_ends p i m owners d = ends_in m (ring_number p (get_or owners d 0) i)

  -- "In a step: 2, 1, 7, phase word (8), 9; then the step's rule is followed from its first sentence, and whichever of 8, 10, 11, 12
  -- it meets first is given.": the rows of the step's own rule behind the others
  abbrev pub headed_rows : Limits → ℕ → ℕ → ℕ → Step → Mem F → List Refusal → List Refusal
  headed_rows limits p k i s m own =
      -- 2: "N, E, P, K .. beyond its limit"
      row beyond_limit (only 0 (BeyondPK limits p k ⊎ Beyond limits (tasks m) (edges m)))
      -- 1: "a lent length isn't the stated one"; in figures, list by list: `lengths-stated` of each family (`proofs/Lengths.antt`)
      ∷ row wrong_length (only 0 (¬ (Lengths p k m)))
      -- 7: "worker ≥ P", "that number"
      ∷ row no_such_worker (only i (p ≤ i))
      -- 8: "phase over 2"
      ∷ row damaged (only 0 (2 < phase_in m i))
      -- 9: "step doesn't suit the phase", "phase"
      ∷ row wrong_phase (only (phase_in m i) (¬ (phase_in m i ≡ suits s)))
      ∷ own
