use Rattle.weak_release.proofs.Written.{ring-ready, later-written}
use Rattle.weak_release.proofs.write_later.Goals as goal

pub append_copy-requires : goal.append_copy-requires
append_copy-requires c = ring-ready _ _ _ _ _ _ _ _ _ _ _ c.requires _ c.ring_number-ring.ensures

pub returns : goal.returns
returns c = record { writes_later = later-written _ _ _ _ _ _ _ _ _ _ _ c.requires _ c.ring_number-ring.ensures _ _ _ _ c.append_copy.ensures _ c.advanced.ensures.value; value = c.advanced.ensures.value_2 }
