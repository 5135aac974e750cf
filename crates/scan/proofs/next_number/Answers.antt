-- Blanks before a number change no field.
use Rattle.layout.proofs.Places.{trimmed-marked}
use Rattle.scan.proofs.Found.{number-after}
use Rattle.scan.proofs.next_number.Goals as goal

pub digits_at-requires : goal.digits_at-requires
digits_at-requires c = (c.past_blanks-p.ensures.inside, trimmed-marked _ _ _ c.past_blanks-p.ensures)

pub returns : goal.returns
returns c = number-after c.past_blanks-p.ensures _ c.digits_at.ensures
