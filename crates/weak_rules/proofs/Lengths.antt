-- PROMISE: the lengths that row 1 holds a weak job's lent lists to, for every P, K, N and E.
use Prim.Native.Nat.{ℕ, ◌+◌, ◌*◌}
use mathlib.Core.Path.{◌≡◌, refl}
use mathlib.Core.List.{[], ◌∷◌, map}
use Rattle.memory.specs.Field as list
use Rattle.memory.specs.Shape.{length_of, others}
use Rattle.weak_rules.specs.Memory.{weak}

pub lengths-stated : (p k n e : ℕ)
    → map (length_of weak p k n e) (list.weights ∷ list.pred_starts ∷ list.preds ∷ others weak)
    -- "Weights N.", "Predecessor starts N+1 and predecessors E"
    ≡ n ∷ (n + 1) ∷ e
    -- "Successor starts N+1 and successors E", "Degrees N.", "the task's worker (N lent words"
    ∷ (n + 1) ∷ e ∷ n ∷ n
    -- "Rings P·P·K" of copies, "Heads and tails" with a count, P·P triples, "Counters P·P"
    ∷ (p * p * k) ∷ (p * p * 3) ∷ (p * p)
    -- "Completed buffers P·N.", "three words per copy (task, predecessor, worker), length 3(E + N)", "A third run word", "a record per worker"
    ∷ (p * n) ∷ (3 * (e + n)) ∷ 3 ∷ p ∷ []
lengths-stated p k n e = refl
