-- Cleared lists are laid down up to task 0.
use Rattle.roots.proofs.Laying.{laid_none}
use Rattle.roots.proofs.lay_rings.Goals as goal

pub place_roots-requires : goal.place_roots-requires
place_roots-requires c =
    laid_none _ _ _ _ _ _ _ _ _ _
    c.requires.0
    c.requires.1
    c.clear.ensures
    c.clear-2.ensures
    (c.fill.ensures.after (λ y e. e))
