-- Counts to sums, sums to blocks that are full at the end, gaps to degrees.
use Rattle.successors.proofs.Edges.{sums-fit, summed-begun, summed-starts, gaps-degrees}
use Rattle.lists.proofs.Prefixes.{zeros}
use Rattle.graph.proofs.Parts.{preds-small}
use native.Mathlib.Omega.{arith}
use Rattle.successors.proofs.fill.Goals as goal

pub count_words-requires : goal.count_words-requires
count_words-requires c = (preds-small c.requires.0, (c.requires.0.sized.edges, zeros 1024))

pub fill_starts-requires : goal.fill_starts-requires
fill_starts-requires c = (omega (arith, c.requires.0.sized.tasks), (c.requires.1.0, sums-fit _ c.requires.0 _ c.count_words.ensures))

pub fill_words-requires : goal.fill_words-requires
fill_words-requires c = summed-begun _ c.requires.0 _ c.count_words.ensures _ _ c.fill_starts.ensures _ (omega (arith, c.requires.0.sized.tasks)) c.requires.1.1.0

pub returns : goal.returns
returns c = (summed-starts _ c.requires.0 _ c.count_words.ensures _ _ c.fill_starts.ensures, (c.fill_words.ensures, gaps-degrees _ c.requires.0 _ c.fill_degrees.ensures))
