-- 2 and 1, then the tables.
use native.Mathlib.Omega.{arith}
use Rattle.graph_check.proofs.Laws.{early, check-beyond, check-heavy, check-length, check-rest, check-sized}
use Rattle.graph_check.proofs.check_graph.Goals as goal

pub returns-then-not-within-sizes_fit : goal.returns-then-not-within-sizes_fit
returns-then-not-within-sizes_fit c = let a = c.args in early c.refused.ensures (λ e. omega arith) (check-beyond a.limits a.within a.others a.weights.now a.starts.now a.preds.now _ c.sizes_fit.ensures c.if-not-within-sizes_fit.true-raw)

pub returns-then-not-weights_fit : goal.returns-then-not-weights_fit
returns-then-not-weights_fit c = let a = c.args in early c.refused-then-not-weights_fit.ensures (λ e. omega arith) (check-heavy a.limits a.within a.others a.weights.now a.starts.now a.preds.now _ c.sizes_fit.ensures c.if-not-within-sizes_fit.false-raw _ c.weights_fit.ensures c.if-not-weights_fit.true-raw)

pub returns-then-not-starts-n : goal.returns-then-not-starts-n
returns-then-not-starts-n c = let a = c.args in early c.refused-then-not-starts-n.ensures (λ e. omega arith) (check-length a.limits a.within a.others a.weights.now a.starts.now a.preds.now _ c.sizes_fit.ensures c.if-not-within-sizes_fit.false-raw _ c.weights_fit.ensures c.if-not-weights_fit.false-raw c.if-not-starts-n.true-raw)

pub check_tables-requires : goal.check_tables-requires
check_tables-requires c = let a = c.args in (check-sized a.limits a.within a.others a.weights.now a.starts.now a.preds.now _ c.sizes_fit.ensures c.if-not-within-sizes_fit.false-raw _ c.weights_fit.ensures c.if-not-weights_fit.false-raw c.if-not-starts-n.false-raw, c.requires)

pub returns : goal.returns
returns c = let a = c.args in let t = c.check_tables.ensures in (check-rest a.limits a.within a.others a.weights.now a.starts.now a.preds.now _ c.sizes_fit.ensures c.if-not-within-sizes_fit.false-raw _ c.weights_fit.ensures c.if-not-weights_fit.false-raw c.if-not-starts-n.false-raw _ t.0, t.1)
