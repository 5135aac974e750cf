use Rattle.release.proofs.Parts.{ring-ready, ring-counter, place-made}
use Rattle.release.proofs.place.Goals as goal

pub raise-requires : goal.raise-requires
raise-requires c = ring-counter _ _ _ _ _ _ _ _ _ _ _ c.requires _ c.ring_number-ring.ensures

pub append_in-requires : goal.append_in-requires
append_in-requires c = ring-ready _ _ _ _ _ _ _ _ _ _ _ c.requires _ c.ring_number-ring.ensures

pub returns : goal.returns
returns c = record { joined = place-made _ _ _ _ _ _ _ _ _ _ _ c.requires _ c.ring_number-ring.ensures _ _ c.append_in.ensures _ c.raise.ensures _ c.advanced-after.ensures.value; read_and_cursor = c.advanced-after.ensures.value_2 }
