use mathlib.Core.Path.{refl}
use Rattle.weak_fetch.proofs.Laws.{ends-ready, fetch-written}
use Rattle.weak_fetch.proofs.write_fetch.Goals as goal

pub take_at-requires : goal.take_at-requires
take_at-requires c = ends-ready _ _ _ _ _ _ _ _ c.requires _ c.ring_number-ring.ensures

pub returns : goal.returns
returns c = record { writes_fetch = fetch-written _ _ _ _ _ _ _ _ c.requires _ c.ring_number-ring.ensures _ _ _ c.take_at.ensures.1 _ c.after_worker-pointer.ensures; value = rw c.after_worker-pointer.ensures refl }
