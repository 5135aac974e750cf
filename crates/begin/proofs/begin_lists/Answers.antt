-- A refused begin leaves the lists; an accepted one lets them be filled, laid down and cleared.
use mathlib.Core.Path.{refl}
use Rattle.begin.proofs.Laws.{begin-refused, fillable, layable, begin-laid}
use Rattle.begin.proofs.begin_lists.Goals as goal

pub returns-in_default : goal.returns-in_default
returns-in_default c = begin-refused _ _ _ _ _ _ _ _ _ _ _ _ _ _ _ _ _ c.judge-answer.ensures _ c.in_default.is

pub fill-requires : goal.fill-requires
fill-requires c =
    fillable _ _ _ _ _ _ _ _ _ _ _ _ _ _ _ _ _
    c.judge-answer.ensures
    c.in-Ok.is

pub lay_rings-requires : goal.lay_rings-requires
lay_rings-requires c =
    layable _ _ _ _ _ _ _ _ _ _ _ _ _ _ _ _ _
    c.judge-answer.ensures
    c.in-Ok.is
    _ _ _ _
    c.fill.ensures.1.1
    refl refl refl

pub returns : goal.returns
returns c =
    begin-laid _ _ _ _ _ _ _ _ _ _ _ _ _ _ _ _ _
    c.judge-answer.ensures
    c.in-Ok.is
    _ _ _ _ _ _ _ _ _
    c.fill.ensures.0
    c.fill.ensures.1.0
    c.fill.ensures.1.1
    c.lay_rings.ensures
    c.clear.ensures
    c.clear-2.ensures
    c.clear-3.ensures
