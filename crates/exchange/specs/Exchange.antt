-- "The graph orders two tasks if a path of edges leads from one to the other. It allows a list that holds each of the N tasks once, after all its
-- predecessors. Neighbours stand side by side in a list. Two lists order a pair differently if the task that comes first in one comes second in the
-- other; the exchanges are exactly as many as these pairs." Of items of any type whose equality is decided, and any edges between them.
use Rattle.std.specs.Prelude.{ℕ, suc, ◌+◌, ◌*◌, ◌<◌, ◌≡◌, List, ◌∷◌, ◌++◌}
use Rattle.lists.specs.Decided.{tally}
use Rattle.lists.specs.Lists.{occ_of, place_of}
use Rattle.graph.specs.Graph.{Leads}

-- no path of edges leads from either to the other
pub record Unordered {A : Type 0} (E : A → A → Type 0) (x y : A) : Type 0 where
  pub to : ¬ (Leads E x y)
  pub fro : ¬ (Leads E y x)

-- neighbours x and y, which the edges don't order, change places
pub record Exchanged {A : Type 0} (E : A → A → Type 0) (l l' : List A) : Type 0 where
  pub front : List A
  pub x : A
  pub y : A
  pub back : List A
  pub before : l ≡ front ++ (x ∷ y ∷ back)
  pub after : l' ≡ front ++ (y ∷ x ∷ back)
  pub unordered : Unordered E x y

module _ {A : Type 0} (same : Discrete A) where
  -- the items that are wanted, each once, no other, and each after all its predecessors
  pub record Allows (want : A → ℕ) (E : A → A → Type 0) (l : List A) : Type 0 where
    pub once : (a : A) → occ_of same a l ≡ want a
    pub after : (u a : A) → E u a → place_of same u l < place_of same a l

  -- n exchanges lead from a to b, every list on the way being allowed
  pub data Chain (want : A → ℕ) (E : A → A → Type 0) : List A → List A → ℕ → Type 0 where
    none : {a : List A} → Allows want E a → Chain want E a a 0
    more : {a b c : List A} {n : ℕ} → Allows want E a → Exchanged E a b → Chain want E b c n → Chain want E a c (suc n)

  -- how many of a chain's exchanges bring t, which stood right behind u, before it
  unfoldable pub times : {want : A → ℕ} {E : A → A → Type 0} → A → A → {a b : List A} {n : ℕ} → Chain want E a b n → ℕ
  times u t (none p) = 0
  times u t (more p s r) = tally (same u s.x) * tally (same t s.y) + times u t r
