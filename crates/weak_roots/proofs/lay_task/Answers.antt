-- What is laid down before lets the task be read, fixed, appended and weighed.
use native.Mathlib.Omega.{arith}
use Rattle.roots.proofs.Laying.{owner-ready, ring-ready, counter-ready}
use Rattle.weak_roots.proofs.Laying.{laid-skip, laid_root}
use Rattle.weak_roots.proofs.lay_task.Goals as goal

pub returns-then-degrees-t-ne0 : goal.returns-then-degrees-t-ne0
returns-then-degrees-t-ne0 c =
    laid-skip _ _ _ _ _ _ _ _ _ _
    c.requires.0
    c.requires.1
    c.if-degrees-t-ne0.true

pub ring_number-q-requires : goal.ring_number-q-requires
ring_number-q-requires c =
    omega (
      arith,
      owner-ready _ _ _ _ _ _ _ _ _ c.requires.0.dealt c.requires.1,
    )

pub append_copy-requires : goal.append_copy-requires
append_copy-requires c =
    ring-ready _ _ _ _ _ _ _ _ _
    c.requires.0.dealt
    c.requires.1
    _
    c.ring_number-q.ensures.1
    _
    c.ends_at-both.ensures

pub raise-requires : goal.raise-requires
raise-requires c =
    counter-ready _ _ _ _ _ _ _ _ _
    c.requires.0.dealt
    c.requires.1
    _
    (omega (arith, c.ring_number-q.ensures))

pub after_worker-requires : goal.after_worker-requires
after_worker-requires c =
    (owner-ready _ _ _ _ _ _ _ _ _
    c.requires.0.dealt
    c.requires.1).1

pub returns : goal.returns
returns c =
    laid_root _ _ _ _ _ _ _ _ _ _
    c.requires.0
    c.requires.1
    _
    c.ring_number-q.ensures.1
    c.ring_number-q.ensures.0
    c.if-degrees-t-ne0.false
    _ _ _
    c.append_copy.ensures
    c.raise.ensures
    _
    c.after_worker.ensures
