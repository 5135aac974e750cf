-- Bytes put into a lent buffer one after the other.
use Rattle.std.specs.Prelude.{ℕ, ◌+◌, ◌≡◌, List, ◌++◌, length, take, drop}

-- the bytes stand behind the first `at` of the buffer, up to place r; the rest of it is as it was
pub record Appends (at : ℕ) (bytes before after : List ℕ) (r : ℕ) : Type 0 where
  pub size : length after ≡ length before
  pub end : r ≡ at + length bytes
  pub text : take r after ≡ take at before ++ bytes
  pub rest : drop r after ≡ drop r before
