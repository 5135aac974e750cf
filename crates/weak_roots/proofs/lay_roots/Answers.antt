-- Cleared lists are laid down up to task 0.
use Rattle.weak_roots.proofs.Laying.{laid_none}
use Rattle.weak_roots.proofs.lay_roots.Goals as goal

pub place_roots-requires : goal.place_roots-requires
place_roots-requires c =
    laid_none _ _ _ _ _ _ _ _ _ _ _ _
    c.requires.0
    c.requires.1.0
    c.requires.1.1
    (c.fill.ensures.after (λ y e. e))
    c.clear_copies.ensures
    c.clear.ensures
    (c.fill-2.ensures.after (λ y e. e))
