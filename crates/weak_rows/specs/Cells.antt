-- A lent list of cells, each of several words, read as a list of what they stand for.
use Rattle.std.specs.Prelude.{ℕ, List, [], ◌∷◌}

unfoldable pub read_as : {A : Type 0} → (List ℕ → A) → List (List ℕ) → List A
read_as f [] = []
read_as f (cells ∷ rest) = f cells ∷ read_as f rest
