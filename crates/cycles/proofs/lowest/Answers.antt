use Rattle.std.proofs.Common.{arith, rules, ◌≡◌, ℕ, ◌≤◌, ◌<◌, length, get_or, MatchOption}
use native.Mathlib.Decide.{ℕ_discrete}
use Rattle.lists.proofs.Occurrences.{at-occ}
use Rattle.std.proofs.lemmas.Iterator.{YieldsList-from_slice}
use Rattle.std.proofs.lemmas.Iterator.Adapters.{serves_from_places}
use Rattle.cycles.proofs.Ranks.{lows-least}
use Rattle.cycles.proofs.lowest.Goals as goal

-- each word is a place of the ranks
pub min-requires-clause-can : goal.min-requires-clause-can
min-requires-clause-can c =
    let words = c.args.words.now in (
      tt,
      serves_from_places (YieldsList-from_slice words cc) (λ x q r. search rules) (λ x k h e.
          let below : x.now < 1024 = rw e (c.requires _ (at-occ ℕ_discrete x.now words k h)) in
          (λ l p m i f. omega arith, λ l p m i f r. below)),
    )

pub returns : goal.returns
returns c =
    let least : MatchOption c.min.result (length c.args.words.now ≡ 0) (λ low. (k : ℕ) → k < length c.args.words.now → low ≤ get_or c.args.rank.now (get_or c.args.words.now k 0) 0) = search rules in
    lows-least _ _ _ least
