-- What is read of a weak job's memory after a step.
use Prim.Native.Nat.{ℕ, ◌<◌}
use mathlib.Core.Path.{◌≡◌, refl, ◌∙◌}
use mathlib.Core.List.{List}
use native.Mathlib.Omega.{arith}
use lib.ListN.{get_or, set}
use lib.Seq.{get_or-set_other}
use lib.IntN.{ℤ, pos}
use Rattle.lists.specs.Squares.{square}
use Rattle.weak_task.specs.Types.{Copy, copy}
use Rattle.weak_task.specs.declared.WeakRow.{WeakRow}
use Rattle.ring.specs.Ring.{rings_of, queue}
use Rattle.plans.specs.Sizes.{Lengths}
use Rattle.weak_rules.specs.Memory.{Mem, ring_number}
use Rattle.split_lists.specs.Items.{State, state_with}
use Rattle.split_lists.proofs.Memories.{thread_from, mem_after, lists-after}
use Rattle.weak_algorithm.specs.State as state
use Rattle.weak_algorithm.specs.Reading.{record_in, state_of}

-- states whose two parts agree
pub states-same : {a b : State Copy} {t u : List ℕ} → a ≡ b → t ≡ u → state.state_of a t ≡ state.state_of b u
states-same e f = rw (e, f) refl

-- after Fetch, Start and Release, which leave buffers and record as they are; the accepted word is no part of the state
pub state-after : (p k i : ℕ) (m : Mem) → i < p → Lengths p k m → (row : WeakRow) (f : List ℕ) (r : List Copy) (e : List ℕ) (c : List ℤ) (n : ℕ)
    → state_of p k (mem_after m i row m.degrees f r e c m.buffers m.executed (set m.run 1 n))
    ≡ state.state_of
    (state_with m.weights (state_of p k m).lists.successors m.degrees
    (square p (λ o j. queue (copy 0 0) k (rings_of r e) (ring_number p o j)))
    (square p (λ o j. get_or c (ring_number p o j) (pos 0)))
    (set (state_of p k m).lists.threads i (thread_from m i row))
    (state_of p k m).lists.executed)
    f
unfolding state_of record_in
state-after p k i m worker lengths row f r e c n =
    states-same
    (lists-after p k i m worker lengths row m.degrees f r e c m.buffers m.executed (set m.run 1 n) (λ h other y l. refl) _
    ∙ rw (get_or-set_other m.run 1 0 n 0 (λ q. omega arith), get_or-set_other m.run 1 2 n 0 (λ q. omega arith)))
    refl
