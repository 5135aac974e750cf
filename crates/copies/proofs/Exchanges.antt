-- Two orders of copies that a graph allows are joined by exchanges, one for each pair of copies that the two order differently.
use mathlib.Core.List.{List}
use Rattle.graph.specs.Graph.{Graph}
use Rattle.graph.specs.Conditions.{Sound}
use Rattle.exchange.specs.Exchange.{Allows}
use Rattle.exchange.proofs.Theorem.{exchange}
use Rattle.copies.specs.Copies.{Copy, same_copy, is_copy, Before, all_copies, CopyExchanges, NoneTwice}
use Rattle.copies.proofs.Copies.{each_copy, one-copy}

pub exchange-copies : (g : Graph) → Sound g → NoneTwice g → (a b : List Copy) → Allows same_copy (is_copy g) (Before g) a
    → Allows same_copy (is_copy g) (Before g) b → CopyExchanges g a b
exchange-copies g sound once a b p q =
    exchange same_copy (is_copy g) (all_copies g) (Before g) (one-copy g sound once) (each_copy g sound) a b p q
