-- Every mark starts as 0.
use mathlib.Core.Path.{refl}
use Rattle.lists.proofs.Prefixes.{zeros}
use Rattle.tables.proofs.first_twice.Goals as goal

pub scan_twice-requires : goal.scan_twice-requires
scan_twice-requires c = let p = c.requires in ((refl, p.1.0), (zeros 1024, p.1.1))
