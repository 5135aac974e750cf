-- Blanks before the line's end change no field.
use Rattle.scan.proofs.Found.{close-after}
use Rattle.scan.proofs.close.Goals as goal

pub returns : goal.returns
returns c = close-after c.past_blanks-p.ensures _ c.line_end.ensures
