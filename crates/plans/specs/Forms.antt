-- The forms of Release that a memory has.
use Rattle.std.specs.Prelude.{ℕ, ◌*◌, ◌<◌, ◌≡◌, Bool, true, ◌&&◌, ◌⊎◌, List, length, get_or, ltb, leb, eqb, ℤ, pos}
use Rattle.lists.specs.Lists.{all_of}
use Rattle.lists.specs.Circles.{around}
use Rattle.ring.specs.Ring.{Sound, Full}
use Rattle.choice.specs.Least.{load, Least, least}
use Rattle.choice.specs.Form.{Form, chosen, each}
use Rattle.memory.specs.Family.{Family}
use Rattle.memory.specs.Memory.{Mem}
use Rattle.plans.specs.Memory.{ring_number, ends_in, counter_in}
use Rattle.plans.specs.Words.{counter_fits, counters_fit}
use Rattle.plans.specs.Tables.{Beyond2^30, BadCounter, BadEnds, StopsAt, offered_ends}

-- "target j"
abbrev pub target_by : Form → ℕ
target_by f = least f.candidates f.sum

module _ {F : Family} where
  -- document 01's: "target j is the worker with the least sum of its P counters", "owners taken j, j+1, … modulo P", of all P workers; all P·P counters are
  -- read for that, the one that the weight joins among them
  abbrev pub own : ℕ → Mem F → Form
  own p m =
      record {
        Candidate = λ h. h < p;
        candidates = all_of p;
        offered = around p;
        sum = load p m.counters;
        Damaged = BadCounter (p * p) m.counters;
        fits = counters_fit m.counters;
        DamagedAt = λ q. ⊥;
        fits_at = λ q. true;
      }

-- What Release's table says where a target is sought, of the rings filled by worker i whose owners are offered: "owners taken j, j+1, … modulo P", the
-- candidates among them (`Chooses`, `crates/choice/proofs/Form.antt`, asks that of every form).
module _ {F : Family} (f : Form) (p k i : ℕ) (m : Mem F) where
  -- damaged ends, the rings before it, from the target's on, being full
  abbrev pub BadOffered : Type 0
  BadOffered = (j : ℕ) × Least f.Candidate f.sum j × BadEnds (length (f.offered j)) k (Full k) (offered_ends p i m (f.offered j))

  -- "all P rings filled by this worker are full", where all P workers are candidates
  abbrev pub AllFull : Type 0
  AllFull = (o : ℕ) → f.Candidate o → Sound k (ends_in m (ring_number p o i)) × Full k (ends_in m (ring_number p o i))

  -- e is the place of the owner, of those offered from target j on, whose ring is "the first ring filled by i that isn't full"
  abbrev pub RoomAt : ℕ → ℕ → Type 0
  RoomAt j e = Least f.Candidate f.sum j × StopsAt (length (f.offered j)) k (Full k) (offered_ends p i m (f.offered j)) e

  -- the counter of the ring really used is damaged, where it is read only then (of `own` never: it was read for the target)
  abbrev pub BadUsed : Type 0
  BadUsed = (j : ℕ) × (e : ℕ) × RoomAt j e × f.DamagedAt (ring_number p (get_or (f.offered j) e 0) i)

-- Two further forms, which guard the definition: of marks and of lent sums. No call has them; the marks are a list of P words.

-- "0 open or 1 closing"
abbrev pub Open : List ℕ → ℕ → Type 0
Open marks h = ◌≡◌ {A = ℕ} (get_or marks h 0) 0

abbrev pub is_open : List ℕ → ℕ → Bool
is_open marks h = eqb (get_or marks h 0) 0

abbrev pub OpenWorker : ℕ → List ℕ → ℕ → Type 0
OpenWorker p marks h = (h < p) × Open marks h

abbrev pub open_workers : ℕ → List ℕ → List ℕ
open_workers p marks = chosen (is_open marks) (all_of p)

-- "owners taken j, j+1, … modulo P", a closing worker being "neither target nor fallback"
abbrev pub open_from : ℕ → List ℕ → ℕ → List ℕ
open_from p marks j = chosen (is_open marks) (around p j)

-- "another mark, or none open where a target is sought, is 8"
abbrev pub BadMarks : ℕ → List ℕ → Type 0
BadMarks p marks = ((h : ℕ) × (h < p) × (1 < get_or marks h 0)) ⊎ ¬ ((h : ℕ) × OpenWorker p marks h)

abbrev pub marks_fit : ℕ → List ℕ → Bool
marks_fit p marks = each (λ h. leb (get_or marks h 0) 1) (all_of p) && ltb 0 (length (open_workers p marks))

module _ {F : Family} where
  -- "nor read as one": a closing worker's counters aren't read, so not judged
  abbrev pub BadOpenCounter : ℕ → List ℕ → Mem F → Type 0
  BadOpenCounter p marks m = (o : ℕ) × OpenWorker p marks o × ((f : ℕ) × (f < p) × Beyond2^30 (counter_in m (ring_number p o f)))

  abbrev pub open_counters_fit : ℕ → List ℕ → Mem F → Bool
  open_counters_fit p marks m = each (λ o. each (λ f. counter_fits (counter_in m (ring_number p o f))) (all_of p)) (open_workers p marks)

  -- No. 10: the open workers are the candidates
  abbrev pub own_open : ℕ → List ℕ → Mem F → Form
  own_open p marks m =
      record {
        Candidate = OpenWorker p marks;
        candidates = open_workers p marks;
        offered = open_from p marks;
        sum = load p m.counters;
        Damaged = BadMarks p marks ⊎ BadOpenCounter p marks m;
        fits = marks_fit p marks && open_counters_fit p marks m;
        DamagedAt = λ q. ⊥;
        fits_at = λ q. true;
      }

  -- No. 14: "the caller lends P signed words as the sums", no counter is read for the target, and that of the ring really used after 11
  abbrev pub lent : ℕ → List ℕ → List ℤ → Mem F → Form
  lent p marks sums m =
      record {
        Candidate = OpenWorker p marks;
        candidates = open_workers p marks;
        offered = open_from p marks;
        sum = λ h. get_or sums h (pos 0);
        Damaged = BadMarks p marks;
        fits = marks_fit p marks;
        DamagedAt = λ q. Beyond2^30 (counter_in m q);
        fits_at = λ q. counter_fits (counter_in m q);
      }
