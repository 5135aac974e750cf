-- A text longer than 65,537 bytes is answered like its first 65,537: a program that reads so many and no more cuts nothing off that counts.
use Prim.Native.Nat.{ℕ, ◌≤◌, ◌<◌}
use mathlib.Core.Path.{◌≡◌, ap}
use mathlib.Core.List.{List}
use native.Mathlib.Omega.{arith}
use native.Mathlib.Decide.{dec_le}
use borrow.Author.Tests.{lt-leb}
use lib.ListN.{length, take}
use lib.Seq.{length-take-le, take_all}
use Rattle.layout.specs.Reader.{read_text}
use Rattle.desk_rule.specs.Output.{desk_read, desk_output}

-- the answer to a text that is too long looks at its length alone
long-read : (a b : List ℕ) → 65536 < length a → 65536 < length b → desk_read a ≡ desk_read b
unfolding desk_read read_text
long-read a b h k = rw (lt-leb (length a) 65536 h, lt-leb (length b) 65536 k)

pub cut-alike : (text : List ℕ) → desk_output (take 65537 text) ≡ desk_output text
unfolding desk_output
cut-alike text = go (dec_le (length text) 65537)
  where
    go : Dec (length text ≤ 65537) → desk_output (take 65537 text) ≡ desk_output text
    go (yes h) = ap desk_output (take_all 65537 text h)
    go (no n) =
        let h : 65537 ≤ length text = omega (arith, n) in
        rw (long-read (take 65537 text) text (omega (arith, length-take-le 65537 text h)) (omega (arith, h)))
