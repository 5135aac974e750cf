-- The desk program's run: "P 2, K 4. Turns go 0, 1, 0, 1, …; each takes the first accepted of Release, Fetch, Start, Complete, or
-- nothing, until 3N+E are accepted."
use Rattle.task.specs.Refusals.{StepAnswer}
use Rattle.std.specs.Prelude.{ℕ, zero, suc, ◌*◌, cond, List, [], ◌∷◌, ltb, Err, Ok}
use Rattle.lists.specs.Circles.{after}
use Rattle.task.specs.Types.{engine}
use Rattle.task.specs.declared.Limits.{Limits}
use Rattle.task.specs.declared.Step.{Step}
use Rattle.task.specs.declared.Step.TheVariants.{Fetch, Start, Complete, Release}
use Rattle.rules.specs.Memory.{Mem, all_steps, accepted_in}
use Rattle.rules.specs.Steps.{step}

-- the steps in the order in which a turn tries them
abbrev pub tries : List Step
tries = Release ∷ Fetch ∷ Start ∷ Complete ∷ []

-- the memory that an accepted step leaves, else what the other tries leave
abbrev pub first_of : StepAnswer → Mem → Mem → Mem
first_of (Err why) left others = others
first_of (Ok o) left others = left

-- "the first accepted of .., or nothing"; each try finds the words that the last one left
unfoldable pub turn : Limits → ℕ → ℕ → ℕ → List Step → Mem → Mem
turn limits p k i [] m = m
turn limits p k i (s ∷ ss) m = first_of (step limits p k i s m).answer (step limits p k i s m).memory (turn limits p k i ss (step limits p k i s m).memory)

-- at most n turns, the first worker i's; none once 3N+E are accepted
unfoldable pub turns : Limits → ℕ → ℕ → ℕ → ℕ → Mem → Mem
turns limits p k zero i m = m
turns limits p k (suc n) i m =
    cond (ltb (accepted_in m) (all_steps m)) (turns limits p k n (after p i) (turn limits p k i tries m)) m

-- the desk's run on memory that has been begun, with two turns for each step of a run
unfoldable pub desk_run : Mem → Mem
desk_run m = turns engine 2 4 (2 * all_steps m) 0 m
