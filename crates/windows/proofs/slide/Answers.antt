-- One entry leaves, one enters.
use Rattle.windows.proofs.Sliding.{leave-asks, leaves, enter-asks, slides}
use Rattle.windows.proofs.slide.Goals as goal

pub leave-requires : goal.leave-requires
leave-requires c = let p = c.requires in leave-asks _ _ _ _ _ p.1 _ p.0

pub enter-requires : goal.enter-requires
enter-requires c =
    let p = c.requires in
    enter-asks _ _ _ _ _ p.1 _ (leaves _ _ _ _ _ p.1 _ p.0 _ c.leave.ensures)

pub returns : goal.returns
returns c =
    let p = c.requires in
    let l = leaves _ _ _ _ _ p.1 _ p.0 _ c.leave.ensures in
    slides _ _ _ _ _ p.1 _ l _ c.enter.ensures
