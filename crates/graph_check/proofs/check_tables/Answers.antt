-- 3, 4 and 5 in order: each leaf answers for its number, and what it has passed lets the next one run.
use mathlib.Core.Path.{refl}
use native.Mathlib.Omega.{arith}
use Rattle.lists.proofs.Prefixes.{zeros}
use Rattle.graph_check.proofs.Laws.{early, tables-bad, tables-ends, tables-sound, tables-twice, tables-cycle, tables-accepted}
use Rattle.graph_check.proofs.check_tables.Goals as goal

pub returns-then-bad-n : goal.returns-then-bad-n
returns-then-bad-n c = early c.refused.ensures (λ e. omega arith) (tables-bad _ _ c.first_bad-bad.ensures c.if-bad-n.true)

pub returns-then-not-ends_fit : goal.returns-then-not-ends_fit
returns-then-not-ends_fit c = early c.refused-then-not-ends_fit.ensures (λ e. omega arith) (tables-ends _ _ c.first_bad-bad.ensures c.if-bad-n.false _ c.ends_fit.ensures c.if-not-ends_fit.true-raw)

pub first_twice-twice-requires : goal.first_twice-twice-requires
first_twice-twice-requires c = (tables-sound _ _ c.first_bad-bad.ensures c.if-bad-n.false _ c.ends_fit.ensures c.if-not-ends_fit.false-raw c.requires.0, (refl, zeros 1024))

pub returns-then-twice-n : goal.returns-then-twice-n
returns-then-twice-n c = early c.refused-then-twice-n.ensures (λ e. omega arith) (tables-twice _ _ c.first_bad-bad.ensures c.if-bad-n.false _ c.ends_fit.ensures c.if-not-ends_fit.false-raw _ c.first_twice-twice.ensures.0 c.if-twice-n.true)

pub first_on_cycle-judged-requires : goal.first_on_cycle-judged-requires
first_on_cycle-judged-requires c = (tables-sound _ _ c.first_bad-bad.ensures c.if-bad-n.false _ c.ends_fit.ensures c.if-not-ends_fit.false-raw c.requires.0, (omega (arith, c.first_twice-twice.auto.counts), (c.requires.1, c.first_twice-twice.ensures.1 c.if-twice-n.false)))

pub returns-then-looped-n : goal.returns-then-looped-n
returns-then-looped-n c = (tables-cycle _ _ c.first_bad-bad.ensures c.if-bad-n.false _ c.ends_fit.ensures c.if-not-ends_fit.false-raw _ c.first_twice-twice.ensures.0 c.if-twice-n.false _ c.first_on_cycle-judged.ensures.0 c.if-looped-n.true, record { handed = λ j. c.first_on_cycle-judged.ensures.1; kept = λ n. absurd (n refl) })

pub returns : goal.returns
returns c = (tables-accepted _ _ c.first_bad-bad.ensures c.if-bad-n.false _ c.ends_fit.ensures c.if-not-ends_fit.false-raw _ c.first_twice-twice.ensures.0 c.if-twice-n.false _ c.first_on_cycle-judged.ensures.0 c.if-looped-n.false, record { handed = λ j. c.first_on_cycle-judged.ensures.1; kept = λ n. absurd (n tt) })
