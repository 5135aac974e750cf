-- What a Release goes by where a target is sought: who may be its target or fallback, by which sums the target is the least, and which words are judged
-- for that. Every Release goes by one; which ones there are, a family's memory says (`plans`).
use Rattle.std.specs.Prelude.{ℕ, ◌+◌, ◌%◌, ◌<◌, ◌≡◌, Bool, true, cond, ◌&&◌, List, [], ◌∷◌, length, get_or, ℤ}

-- of a list the numbers that are as `is_open` says, in their order
unfoldable pub chosen : (ℕ → Bool) → List ℕ → List ℕ
chosen is_open [] = []
chosen is_open (x ∷ xs) = cond (is_open x) (x ∷ chosen is_open xs) (chosen is_open xs)

-- all numbers of a list pass a test
unfoldable pub each : (ℕ → Bool) → List ℕ → Bool
each test [] = true
each test (x ∷ xs) = test x && each test xs

-- the owner at place e of a list of owners, of whom each is a candidate, "taken j, j+1, … modulo P"
pub record Taken (p : ℕ) (Candidate : ℕ → Type 0) (j : ℕ) (owners : List ℕ) (e : ℕ) : Type 0 where
  -- how far from j it is
  pub distance : ℕ
  pub near : distance < p
  pub there : get_or owners e 0 ≡ (j + distance) % p
  pub candidate : Candidate (get_or owners e 0)
  -- every nearer candidate stands before it
  pub nearer : (d : ℕ) → d < distance → Candidate ((j + d) % p) → (b : ℕ) × (b < e) × (get_or owners b 0 ≡ (j + d) % p)

-- "owners taken j, j+1, … modulo P", the candidates alone
pub record Offered (p : ℕ) (Candidate : ℕ → Type 0) (j : ℕ) (owners : List ℕ) : Type 0 where
  pub taken : (e : ℕ) → e < length owners → Taken p Candidate j owners e
  -- no candidate is missing
  pub every : (h : ℕ) → Candidate h → (e : ℕ) × (e < length owners) × (get_or owners e 0 ≡ h)

pub record Form : Type 1 where
  -- who may be target or fallback; they, rising
  pub Candidate : ℕ → Type 0
  pub candidates : List ℕ
  -- the owners whose rings are offered, from target j on
  pub offered : ℕ → List ℕ
  -- "the least sum"
  pub sum : ℕ → ℤ
  -- a word that is read for the target is damaged; the test that none is
  pub Damaged : Type 0
  pub fits : Bool
  -- of the ring with this number, the counter is damaged that the weight joins and that wasn't read for the target; the test that it isn't
  pub DamagedAt : ℕ → Type 0
  pub fits_at : ℕ → Bool
