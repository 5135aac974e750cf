-- Each test is looked at where those before it passed.
use Prim.Native.Nat.{◌*◌, ◌≤◌}
use mathlib.Core.Path.{◌≡◌}
use native.Mathlib.Omega.{arith}
use lib.ListN.{length, get_or}
use Rattle.windows.proofs.Judging.{judge-far, judge-long, judge-over, judge-odd, judge-room, judge-bad, judge-good, counts-kept, both_equal, window-within, room-few}
use Rattle.windows.proofs.judge.Goals as goal
use Rattle.windows.proofs.judge.Goals.{Else-not-counts_fit, Else-not-executed-n}

-- What the first tests leave.
counts : (c : Else-not-counts_fit) → let a = c.args in (length a.weights.now ≤ 1024) × (1 ≤ a.p) × (a.p ≤ 16)
counts c = counts-kept _ _ _ c.counts_fit.ensures c.if-not-counts_fit.false-raw

sizes : (c : Else-not-executed-n) → let a = c.args in
    (length a.executed.now ≡ 2 * length a.weights.now) × (length a.run.now ≡ 2)
sizes c = both_equal _ _ _ _ c.if-not-executed-n.false-raw

pub returns-then-not-counts_fit : goal.returns-then-not-counts_fit
returns-then-not-counts_fit c = judge-far _ _ _ _ _ _ _ c.counts_fit.ensures c.if-not-counts_fit.true-raw

pub returns-then-not-executed-n : goal.returns-then-not-executed-n
returns-then-not-executed-n c = judge-long _ _ _ _ _ _ _ c.counts_fit.ensures c.if-not-counts_fit.false-raw c.if-not-executed-n.true-raw

pub bounds-run-0 : goal.bounds-run-0
bounds-run-0 c = omega (arith, (sizes (goal.at.bounds-run-0 c).Else-not-executed-n).1)

pub overflow_cast-entries : goal.overflow_cast-entries
overflow_cast-entries c = omega (arith, c.type_inv.run 0)

pub returns-then-n-entries : goal.returns-then-n-entries
returns-then-n-entries c =
    judge-over _ _ _ _ _ _ _ c.counts_fit.ensures c.if-not-counts_fit.false-raw
    c.if-not-executed-n.false-raw (omega arith)

pub returns-then-not-m-entries : goal.returns-then-not-m-entries
returns-then-not-m-entries c =
    judge-odd _ _ _ _ _ _ _ c.counts_fit.ensures c.if-not-counts_fit.false-raw
    c.if-not-executed-n.false-raw (omega arith) c.if-not-m-entries.true-raw

pub overflow_sub-entries : goal.overflow_sub-entries
overflow_sub-entries c = (window-within _ _ c.if-not-m-entries.false-raw).1

pub overflow_add-p : goal.overflow_add-p
overflow_add-p c = omega (arith, (counts (goal.at.overflow_add-p c).Else-not-counts_fit).2)

pub overflow_mul-entries : goal.overflow_mul-entries
overflow_mul-entries c =
    let a = c.args in
    let k = counts (goal.at.overflow_mul-entries c).Else-not-counts_fit in
    omega (arith, room-few a.p (get_or a.run.now 0 0) a.m k.2 (omega (arith, k.0)))

pub returns-then-room-entries : goal.returns-then-room-entries
returns-then-room-entries c =
    judge-room _ _ _ _ _ _ _ c.counts_fit.ensures c.if-not-counts_fit.false-raw
    c.if-not-executed-n.false-raw (omega arith) c.if-not-m-entries.false-raw (λ e. omega (arith, e))

pub record_fits-requires : goal.record_fits-requires
record_fits-requires c = omega (arith, (sizes (goal.at.record_fits-requires c).Else-not-executed-n).0)

pub returns-then-not-record_fits : goal.returns-then-not-record_fits
returns-then-not-record_fits c =
    judge-bad _ _ _ _ _ _ _ c.counts_fit.ensures
    c.if-not-counts_fit.false-raw c.if-not-executed-n.false-raw (omega arith)
    c.if-not-m-entries.false-raw (omega arith) c.record_fits.ensures c.if-not-record_fits.true-raw

pub returns : goal.returns
returns c =
    judge-good _ _ _ _ _ _ _ c.counts_fit.ensures
    c.if-not-counts_fit.false-raw c.if-not-executed-n.false-raw (omega arith)
    c.if-not-m-entries.false-raw (omega arith) c.record_fits.ensures c.if-not-record_fits.false-raw
