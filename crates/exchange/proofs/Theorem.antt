-- PROMISE: two lists that a graph allows are joined by exchanges of neighbours that it doesn't order, one for each pair that the two order differently: for items of
-- any type, and for the tasks 0 .. n−1.
use Prim.Native.Nat.{ℕ, ◌≤◌}
use mathlib.Core.Path.{◌≡◌, sym}
use mathlib.Core.List.{List}
use native.Mathlib.Omega.{arith}
use native.Mathlib.Decide.{ℕ_discrete, dec_lt}
use Rattle.lists.specs.Lists.{occ_of, all_of}
use Rattle.lists.proofs.Decided.{tally-le-one}
use Rattle.lists.proofs.Blocks.{occ-all}
use Rattle.exchange.specs.Exchange.{Allows, Chain}
use Rattle.exchange.specs.Pairs.{pairs_differing, Exchanges, each_once, TaskExchanges}
use Rattle.exchange.proofs.Counts.{differ}
use Rattle.exchange.proofs.Exchange.{chain-between}
use Rattle.exchange.proofs.Pairs.{cross-pair, held, differ-pairs}
use Rattle.exchange.proofs.Least.{chain-once}

module _ {A : Type 0} (same : Discrete A) (want : A → ℕ) (items : List A) (E : A → A → Type 0) (few : (t : A) → want t ≤ 1)
    (all : (t : A) → occ_of same t items ≡ want t) (a b : List A) (p : Allows same want E a) (q : Allows same want E b) where
  counted : differ same a b ≡ pairs_differing same items a b
  counted = differ-pairs same want few items a b all p.once q.once

  way : Chain same want E a b (pairs_differing same items a b)
  way = rw (← counted) (chain-between same want E few a b p q)

  pub exchange : Exchanges same want items E a b
  exchange =
      record {
        chain = way;
        once = λ u t h g n.
            let in_both = held same want few items a b all p.once q.once u h in
            omega (
              arith,
              chain-once same want E few u t way (sym counted),
              chain-once same want E few t u way (sym counted),
              cross-pair same a b u t n in_both.0 in_both.1,
            );
      }

pub exchange-tasks : (n : ℕ) (E : ℕ → ℕ → Type 0) (a b : List ℕ) → Allows ℕ_discrete (each_once n) E a → Allows ℕ_discrete (each_once n) E b
    → TaskExchanges n E a b
exchange-tasks n E a b p q = exchange ℕ_discrete (each_once n) (all_of n) E (λ t. tally-le-one (dec_lt t n)) (occ-all n) a b p q
