use mathlib.Core.Path.{refl}
use native.Mathlib.Omega.{arith}
use lib.Seq.{ext_get_or}
use Rattle.rows.proofs.Laws.{words-filled}
use Rattle.rows.proofs.clear_rows.Goals as goal

pub returns : goal.returns
returns c = words-filled _ _ _ c.requires refl _ (c.fill.ensures.after (λ y s. ext_get_or 0 y _ s.long (λ i h. s.at i 0 0 (omega (arith, h, s.long)))))
