-- What an exchange keeps: an allowed list stays allowed. In an allowed list a path of edges leads from earlier items to later ones.
use Prim.Native.Nat.{ℕ}
use mathlib.Core.Path.{◌≡◌}
use mathlib.Core.List.{List}
use native.Mathlib.Omega.{arith}
use Rattle.lists.specs.Lists.{occ_of}
use Rattle.lists.proofs.Occurrences.{occ-swap}
use Rattle.lists.proofs.Positions.{Before, before_swap}
use Rattle.graph.specs.Graph.{Leads, edge, via}
use Rattle.exchange.specs.Exchange.{Exchanged, Allows}

module _ {A : Type 0} (same : Discrete A) {E : A → A → Type 0} where
  exchanged-occ : {l l' : List A} → Exchanged E l l' → (a : A) → occ_of same a l' ≡ occ_of same a l
  exchanged-occ s a = rw (s.before, s.after) (occ-swap same a s.x s.y s.front s.back)

  -- an edge's ends aren't exchanged
  exchanged_before : {l l' : List A} → Exchanged E l l' → (u t : A) → E u t → Before same u t l → Before same u t l'
  exchanged_before s u t e h = rw s.after (before_swap same u t s.x s.y s.front s.back ends (rw s.before at h))
    where
      ends : ¬ ((u ≡ s.x) × (t ≡ s.y))
      ends (p, q) = s.unordered.to (edge (rw (p, q) at e))

  pub exchange-allowed : {want : A → ℕ} {l l' : List A} → Exchanged E l l' → Allows same want E l → Allows same want E l'
  exchange-allowed s p = record {
    once = λ a. omega (arith, exchanged-occ s a, p.once a);
    after = λ u t e. exchanged_before s u t e (p.after u t e);
  }

  pub leads-before : {want : A → ℕ} {l : List A} (u t : A) → Allows same want E l → Leads E u t → Before same u t l
  leads-before u t p (edge e) = p.after u t e
  leads-before u t p (via {v = v} e r) = omega (arith, p.after u v e, leads-before v t p r)
