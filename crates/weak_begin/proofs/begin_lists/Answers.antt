-- A refused begin leaves the lists; an accepted one lets them be filled, laid down and cleared.
use mathlib.Core.Path.{refl}
use Rattle.weak_begin.proofs.Laws.{begin-refused, fillable, layable, countable, begin-laid}
use Rattle.weak_begin.proofs.begin_lists.Goals as goal

pub returns-in_default : goal.returns-in_default
returns-in_default c = begin-refused _ _ _ _ _ _ _ _ _ _ _ _ _ _ _ _ _ _ c.judge-answer.ensures _ c.in_default.is

pub fill-requires : goal.fill-requires
fill-requires c =
    fillable _ _ _ _ _ _ _ _ _ _ _ _ _ _ _ _ _ _
    c.judge-answer.ensures
    c.in-Ok.is

pub lay_roots-requires : goal.lay_roots-requires
lay_roots-requires c =
    layable _ _ _ _ _ _ _ _ _ _ _ _ _ _ _ _ _ _
    c.judge-answer.ensures
    c.in-Ok.is
    _ _ _ _ _
    c.fill.ensures.1.1
    refl refl refl refl

pub lay_run-requires : goal.lay_run-requires
lay_run-requires c =
    countable _ _ _ _ _ _ _ _ _ _ _ _ _ _ _ _ _ _
    c.judge-answer.ensures
    c.in-Ok.is
    _ refl

pub returns : goal.returns
returns c =
    begin-laid _ _ _ _ _ _ _ _ _ _ _ _ _ _ _ _ _ _
    c.judge-answer.ensures
    c.in-Ok.is
    _ _ _ _ _ _ _ _ _ _ _
    c.fill.ensures.0
    c.fill.ensures.1.0
    c.fill.ensures.1.1
    c.lay_roots.ensures.0
    c.lay_roots.ensures.1
    c.clear.ensures
    c.clear-2.ensures
    c.lay_run.ensures
