-- Texts that differ only in skipped lines, in line ends, in the white space around fields, or in zeros in front of a number.
use Rattle.std.specs.Prelude.{ℕ, ◌≤◌, ◌≡◌, ◌⊎◌, List, [], ◌∷◌, ◌++◌, length, replicate}
use Rattle.layout.specs.Marks.{digit0, Blank, Digit, Each, Line}
use Rattle.layout.specs.Layout.{Lines, Skipped, Parted}

-- A line cut at its blanks.

-- blanks, a run of other bytes, and the rest of the line
pub record Run (c f rest : List ℕ) : Type 0 where
  pub before : List ℕ
  pub whole : c ≡ before ++ (f ++ rest)
  pub blanks : Each Blank before
  pub marks : Each (λ b. ¬ (Blank b)) f
  pub some : ¬ (f ≡ [])
  pub parted : Parted rest

-- the line's fields, whatever stands in them
abbrev pub Cut : Line → List (List ℕ) → Type 0
Cut c [] = Each Blank c
Cut c (f ∷ fs) = (rest : List ℕ) × Run c f rest × Cut rest fs

-- Fields.

-- zeros in front of h, in all at most five bytes
pub record Padded (f h : List ℕ) : Type 0 where
  pub zeros : ℕ
  pub whole : f ≡ replicate zeros digit0 ++ h
  pub five : length f ≤ 5

-- zeros in front of the same digits; digits, since a # and a # with a zero in front of it are not alike
pub record SameNumber (f g : List ℕ) : Type 0 where
  pub digits : List ℕ
  pub each : Each Digit digits
  pub some : ¬ (digits ≡ [])
  pub left : Padded f digits
  pub right : Padded g digits

abbrev pub SameField : List ℕ → List ℕ → Type 0
SameField f g = (f ≡ g) ⊎ SameNumber f g

-- as many fields, alike one by one
abbrev pub SameFields : List (List ℕ) → List (List ℕ) → Type 0
SameFields [] [] = Unit {0}
SameFields [] (g ∷ gs) = ⊥
SameFields (f ∷ fs) [] = ⊥
SameFields (f ∷ fs) (g ∷ gs) = SameField f g × SameFields fs gs

-- Lines.

pub record SameCut (c d : Line) : Type 0 where
  pub left : List (List ℕ)
  pub right : List (List ℕ)
  pub cut_left : Cut c left
  pub cut_right : Cut d right
  pub same : SameFields left right

abbrev pub SameLine : Line → Line → Type 0
SameLine c d = (c ≡ d) ⊎ SameCut c d

-- lines alike one by one, but for skipped lines on either side
pub data SameLines : List Line → List Line → Type 0 where
  no_lines : SameLines [] []
  skip-left : {c : Line} {ls ms : List Line} → Skipped c → SameLines ls ms → SameLines (c ∷ ls) ms
  skip-right : {d : Line} {ls ms : List Line} → Skipped d → SameLines ls ms → SameLines ls (d ∷ ms)
  both : {c d : Line} {ls ms : List Line} → SameLine c d → SameLines ls ms → SameLines (c ∷ ls) (d ∷ ms)

-- Texts: how their lines end is free.
pub record Alike (text other : List ℕ) : Type 0 where
  pub left : List Line
  pub right : List Line
  pub lines_left : Lines text left
  pub lines-right : Lines other right
  pub same : SameLines left right
