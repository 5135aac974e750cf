use Rattle.release.proofs.Parts.{lower-made}
use Rattle.release.proofs.lower.Goals as goal

pub returns : goal.returns
returns c = record { lowered = lower-made _ _ _ _ _ _ _ _ c.advanced-after.ensures.value; read_and_cursor = c.advanced-after.ensures.value_2 }
