use Rattle.fetch.proofs.Laws.{ends-ready, stored_at}
use mathlib.Core.Path.{refl}
use Rattle.fetch.proofs.take_head.Goals as goal

pub take_at-requires : goal.take_at-requires
take_at-requires c = ends-ready _ _ _ _ _ _ _ _ c.requires _ c.ring_number-ring.ensures

pub returns : goal.returns
returns c = record { ends_after = stored_at _ _ _ _ _ c.ring_number-ring.ensures.0 c.take_at.ensures.1; run_after = refl }
