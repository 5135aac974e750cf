-- What is read of a plain job's memory after a step.
use Prim.Native.Nat.{ℕ, ◌<◌}
use mathlib.Core.Path.{◌≡◌, refl, ◌∙◌}
use mathlib.Core.List.{List}
use native.Mathlib.Omega.{arith}
use lib.ListN.{get_or, set}
use lib.Seq.{get_or-set_other}
use lib.IntN.{ℤ, pos}
use Rattle.lists.specs.Squares.{square}
use Rattle.task.specs.declared.Row.{Row}
use Rattle.ring.specs.Ring.{rings_of, queue}
use Rattle.rules.specs.Memory.{Mem, ring_number}
use Rattle.rules.specs.Sizes.{Lengths}
use Rattle.split_lists.proofs.Memories as memories
use Rattle.split_lists.proofs.Memories.{thread_from, lists-after}
pub use Rattle.split_lists.proofs.Memories.{between, thread-from, places-fit, between_first, first-lt}
use Rattle.algorithm1.specs.State.{state_with}
use Rattle.algorithm1.specs.Reading.{record_in, state_of}

-- the tasks are fixed to no worker, so nothing reads that list
abbrev pub mem_after : Mem → ℕ → Row → List ℕ → List ℕ → List ℕ → List ℤ → List ℕ → List ℕ → List ℕ → Mem
mem_after m i row d r e c b x n = memories.mem_after m i row d m.fixed r e c b x n

-- after Fetch, Start and Release, which leave buffers and record as they are; the accepted word is no part of the state
pub state-after : (p k i : ℕ) (m : Mem) → i < p → Lengths p k m → (row : Row) (d r e : List ℕ) (c : List ℤ) (n : ℕ)
    → state_of p k (mem_after m i row d r e c m.buffers m.executed (set m.run 1 n))
    ≡ state_with m.weights (state_of p k m).successors d
    (square p (λ o j. queue 0 k (rings_of r e) (ring_number p o j)))
    (square p (λ o j. get_or c (ring_number p o j) (pos 0)))
    (set (state_of p k m).threads i (thread_from m i row))
    (state_of p k m).executed
unfolding state_of record_in
state-after p k i m worker lengths row d r e c n =
    lists-after p k i m worker lengths row d m.fixed r e c m.buffers m.executed (set m.run 1 n) (λ h other y l. refl) _
    ∙ rw (get_or-set_other m.run 1 0 n 0 (λ q. omega arith))
