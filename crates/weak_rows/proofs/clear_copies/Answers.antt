use lib.Seq.{ext_get_or}
use native.Mathlib.Omega.{arith}
use Rattle.weak_rows.proofs.Cells.{read-replicate}
use Rattle.weak_rows.specs.Copies.{copy_in}
use Rattle.weak_rows.proofs.clear_copies.Goals as goal

pub returns : goal.returns
returns c =
    rw (c.fill.ensures.after (λ y s. ext_get_or 0 y _ s.long (λ i h. s.at i 0 0 (omega (arith, h, s.long))))) (read-replicate copy_in _ _)
