-- PROMISE: the lengths that row 1 holds the lent lists to are document 01's, for every P, K, N and E.
use Prim.Native.Nat.{ℕ, ◌+◌, ◌*◌}
use mathlib.Core.Path.{◌≡◌, refl}
use mathlib.Core.List.{[], ◌∷◌, map}
use Rattle.memory.specs.Field as list
use Rattle.memory.specs.Shape.{length_of, others}
use Rattle.rules.specs.Memory.{plain}

pub lengths-stated : (p k n e : ℕ)
    → map (length_of plain p k n e) (list.weights ∷ list.pred_starts ∷ list.preds ∷ others plain)
    -- "Weights N.", "Predecessor starts N+1 and predecessors E"
    ≡ n ∷ (n + 1) ∷ e
    -- "Successor starts N+1 and successors E", "Degrees N."
    ∷ (n + 1) ∷ e ∷ n
    -- "Rings P·P·K", "Heads and tails" with a count, P·P triples, "Counters P·P"
    ∷ (p * p * k) ∷ (p * p * 3) ∷ (p * p)
    -- "Completed buffers P·N.", "Execution record 2N (task, worker).", "Two run words", "a record per worker"
    ∷ (p * n) ∷ (2 * n) ∷ 2 ∷ p ∷ []
lengths-stated p k n e = refl
