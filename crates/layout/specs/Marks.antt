-- The bytes that the layout knows, in ASCII, and lists of them.
use Rattle.std.specs.Prelude.{ℕ, ◌≤◌, ◌≡◌, ◌⊎◌, List, [], ◌∷◌}

abbrev pub tab : ℕ
tab = 9

abbrev pub lf : ℕ
lf = 10

abbrev pub cr : ℕ
cr = 13

abbrev pub space : ℕ
space = 32

-- the mark #
abbrev pub hash : ℕ
hash = 35

-- the digits 0 to 9
abbrev pub digit0 : ℕ
digit0 = 48

abbrev pub digit9 : ℕ
digit9 = 57

abbrev pub Blank : ℕ → Type 0
Blank b = (b ≡ space) ⊎ (b ≡ tab)

abbrev pub Digit : ℕ → Type 0
Digit b = (digit0 ≤ b) × (b ≤ digit9)

-- every item of a list has a property
abbrev pub Each : {A : Type 0} → (A → Type 0) → List A → Type 0
Each P [] = Unit {0}
Each P (x ∷ l) = P x × Each P l

-- a line's bytes without its end, and the numbers of its fields; bytes are numbers here, those of a lent text are below 256
abbrev pub Line : Type 0
Line = List ℕ

abbrev pub Numbers : Type 0
Numbers = List ℕ
