-- What the replies' proofs share.
use mathlib.Core.Path.{◌≡◌}

-- what a function gives in a case that its argument is in
pub in-case : {A R : Type 0} (f : A → R) (r : R) (a b : A) → a ≡ b → r ≡ f b → r ≡ f a
in-case f r a b e q = rw e q
