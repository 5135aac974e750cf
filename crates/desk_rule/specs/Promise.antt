-- The desk's run always finishes: "each takes the first accepted of Release, Fetch, Start, Complete, or nothing, until 3N+E are accepted".
use Rattle.std.specs.Prelude.{ℕ, zero, suc, ◌+◌, ◌*◌, ◌≡◌, cond, List, [], ◌∷◌, ◌++◌, ltb, Err, Ok}
use Rattle.lists.specs.Circles.{after}
use Rattle.task.specs.Types.{engine}
use Rattle.task.specs.Refusals.{accepted, answer_says, StepAnswer}
use Rattle.task.specs.declared.Step.{Step}
use Rattle.rules.specs.Memory.{Mem, tasks, edges, all_steps, entries_in, accepted_in}
use Rattle.rules.specs.Steps.{step}
use Rattle.rules.specs.Begin.{begin}
use Rattle.rules.specs.Desk.{tries, turn, desk_run}
use Rattle.runs.specs.Calls.{Call, step_call, Run, begun_memory, memory_of, view_of}
use Rattle.runs.specs.Demand.{Finished}

-- after an accepted step a turn makes no further call
abbrev pub unless_accepted : StepAnswer → List Call → List Call
unless_accepted (Ok o) later = []
unless_accepted (Err why) later = later

-- the calls of a turn of worker i: the steps in their order, up to the first that is accepted, with P 2 and K 4
unfoldable pub turn_calls : ℕ → List Step → Mem → List Call
turn_calls i [] m = []
turn_calls i (s ∷ ss) m = step_call engine 2 4 i s ∷ unless_accepted (step engine 2 4 i s m).answer (turn_calls i ss (step engine 2 4 i s m).memory)

-- those of at most n turns, the first worker i's, until 3N+E are accepted
unfoldable pub turns_calls : ℕ → ℕ → Mem → List Call
turns_calls zero i m = []
turns_calls (suc n) i m =
    cond (ltb (accepted_in m) (all_steps m)) (turn_calls i tries m ++ turns_calls n (after 2 i) (turn engine 2 4 i tries m)) []

-- the desk's run, as a run of P 2 and K 4 at the engine's limits from an accepted begin on
abbrev pub desk_calls : (m : Mem) → answer_says (begin engine 2 4 m).answer ≡ accepted → Run
desk_calls m e =
    record {
      limits = engine;
      workers = 2;
      slots = 4;
      lent = m;
      accepts = e;
      calls = turns_calls (2 * all_steps (begun_memory engine 2 4 m)) 0 (begun_memory engine 2 4 m);
    }

-- PROMISE: after the turns that `desk_run` takes, two for each step of a run, the run is finished
pub record DeskFinishes (m : Mem) (e : answer_says (begin engine 2 4 m).answer ≡ accepted) : Type 0 where
  -- the words that the turns' calls leave
  pub memory : memory_of (desk_calls m e) ≡ desk_run (begun_memory engine 2 4 m)
  pub finished : Finished (view_of (desk_calls m e))
  -- the accepted word, which is printed, and the entries word, which says how many entries are
  pub accepted : accepted_in (desk_run (begun_memory engine 2 4 m)) ≡ 3 * tasks m + edges m
  pub entries : entries_in (desk_run (begun_memory engine 2 4 m)) ≡ tasks m
