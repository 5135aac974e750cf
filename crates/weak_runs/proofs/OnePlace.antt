-- PROMISE: after every list of a weak run's calls each copy stands at most once in rings, hands and record together, and only copies of the graph do.
use Prim.Native.Nat.{◌≤◌}
use mathlib.Core.Path.{ap}
use native.Mathlib.Omega.{arith}
use Rattle.graph.specs.Graph.{Graph}
use Rattle.copies.specs.Copies.{Copy, same_copy, is_copy, copies_of}
use Rattle.copies.proofs.Copies.{one-copy}
use Rattle.runs.specs.OnePlace.{stands_in}
use Rattle.runs.proofs.OnePlace.{stands-places}
use Rattle.weak_rules.specs.Memory.{graph_in}
use Rattle.weak_algorithm.specs.State.{no_item}
use Rattle.weak_algorithm.specs.Reading.{record_in, state_of}
use Rattle.weak_runs.specs.Calls.{Run, memory_of, view_of}
use Rattle.weak_runs.specs.Demand.{copy_words}
use Rattle.weak_runs.specs.OnePlace.{OnePlace}
use Rattle.weak_runs.proofs.Invariant.{meaning}
use Rattle.weak_runs.proofs.Calls.{graph-reached}
use Rattle.weak_runs.proofs.Honest.{honest-run}
use Rattle.weak_runs.proofs.Live.{honest-invariant}
use Rattle.weak_runs.proofs.Demand.{run-once, run_sound, recorded-words}

-- the words of a run: not made yet, or in one place
stands : (r : Run) (c : Copy) → stands_in same_copy copy_words r.workers r.slots (memory_of r) c ≤ is_copy (graph_in (memory_of r)) c
unfolding meaning state_of copies_of
stands r c =
    omega (
      arith,
      (honest-invariant (honest-run r)).stage c,
      stands-places same_copy copy_words r.workers r.slots (memory_of r) (record_in (memory_of r)) no_item (recorded-words r) c,
    )

pub one_place : (r : Run) → OnePlace (view_of r)
one_place r =
    record {
      once = λ c. omega (arith, stands r c, one-copy (graph_in (memory_of r)) (run_sound r) (run-once r) c);
      only = λ c h. omega (arith, stands r c, h, ap (λ (g : Graph). is_copy g c) (graph-reached r));
    }
