-- A counter, a signed word of 32 bits, is one of 64.
use native.Mathlib.Omega.{arith}
use lib.IntN.{ℤ}
use mir.Syntax.{w32, w64}
use mir.Val.{SFits, of_z, to_z}
use mir.ValLaws.{to_z-of_z}

module _ (counter : ℤ) (is_IsWord : SFits w32 counter) where
  pub wide : SFits w64 counter
  wide = record { sfits = omega (arith, is_IsWord.sfits) }

  pub cast_fits : SFits w64 (to_z w32 (of_z w32 counter))
  cast_fits = rw (to_z-of_z w32 counter is_IsWord) wide
