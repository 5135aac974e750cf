-- What a weak run keeps of the words beside `Honest`, after every list of its calls. PROMISE: so no call of it is refused with 8 or 12.
use Rattle.weak_runs.specs.Calls.{Run, memory_of, view_of}
use Rattle.weak_runs.specs.Undamaged.{Undamaged}
use Rattle.weak_runs.proofs.Bounds.{memory-within}
use Rattle.weak_runs.proofs.Honest.{kept_run, honest-run}
use Rattle.weak_runs.proofs.Live.{Ranges}
use Rattle.weak_runs.proofs.Undamaged.{undamaged-from}
use Rattle.weak_runs.proofs.Filled.{filled-run}

pub ranges-run : (r : Run) → Ranges r.workers (memory_of r)
ranges-run r =
    record {
      filled = filled-run r;
      within = memory-within r.workers r.slots (memory_of r) (honest-run r).graph (kept_run r).bounded;
    }

pub undamaged : (r : Run) → Undamaged (view_of r)
undamaged = undamaged-from honest-run ranges-run
