use Rattle.weak_release.proofs.Written.{ring-counter, first-written}
use mathlib.Core.Path.{refl}
use Rattle.weak_release.proofs.write_first.Goals as goal

pub raise-requires : goal.raise-requires
raise-requires c = ring-counter _ _ _ _ _ _ _ _ _ _ _ c.requires.0 _ c.ring_number-ring.ensures _ _ c.requires.1.1

pub write_later-requires : goal.write_later-requires
write_later-requires c = c.requires.0

pub returns : goal.returns
returns c = record { writes_first = first-written _ _ _ _ _ _ _ _ _ _ _ c.requires.0 _ c.ring_number-ring.ensures _ _ c.requires.1.1 _ _ _ _ refl _ c.raise.ensures _ _ _ _ c.write_later.ensures.writes_later; value = c.write_later.ensures.value }
