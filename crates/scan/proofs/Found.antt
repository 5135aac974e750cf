-- What the laws of places and numbers say of a flag, or of a value too large, as an `Option` has it.
use Prim.Native.Nat.{ℕ, ◌≤◌}
use mathlib.Core.Path.{◌≡◌, refl}
use mathlib.Core.Bool.{Bool, true, false}
use mathlib.Core.List.{List}
use native.Mathlib.Omega.{arith}
use Rattle.std.specs.Prelude.{Option, None, Some, is_some}
use Rattle.std.specs.Option.{unwrap_or}
use Rattle.layout.specs.Scan.{Trimmed, EndsAt, ends, goes_on, Found, found, missing}
use Rattle.layout.proofs.Numbers.{closing, finding}
use Rattle.layout.proofs.TaskLaws.{closes-is, closes-not, found-numbers, found-not}
use Rattle.scan.specs.declared.Number.{Number}
use Rattle.scan.specs.Pieces.{LineEnds, LineCloses, NumberFound}

-- the line's end
module _ (text : List ℕ) (at next : ℕ) where
  pub end-here : EndsAt text at true next → LineEnds text at (Some next)
  end-here (ends e q r) = (q, r)
  end-here (goes_on e q) = cc

  pub no-end : EndsAt text at false next → LineEnds text at None
  no-end (ends e q r) = cc
  no-end (goes_on e q) = q

pub ends-at : {text : List ℕ} {at : ℕ} {there : Bool} (r : Option ℕ) → LineEnds text at r → there ≡ is_some r → EndsAt text at there (unwrap_or r 0)
ends-at None n e = goes_on e n
ends-at (Some next) (q, r) e = ends e q r

pub close-after : {text : List ℕ} {at p : ℕ} → Trimmed text at p → (r : Option ℕ) → LineEnds text p r → LineCloses text at r
close-after {text} {at} {p} w None n = closes-not (closing text at p false 0 w (goes_on refl n)) refl
close-after {text} {at} {p} w (Some next) (q, r) = closes-is (closing text at p true next w (ends refl q r)) refl

-- a number
pub number-here : {text : List ℕ} {at v next : ℕ} → Found text at v next → v ≤ 65535 → NumberFound text at (Some (record { value = v; next = next }))
number-here f h = (h, found-numbers f h)

pub no-number : {text : List ℕ} {at next : ℕ} → Found text at 65536 next → NumberFound text at None
no-number f = found-not f (omega arith)

pub number-after : {text : List ℕ} {at p : ℕ} → Trimmed text at p → (r : Option Number) → NumberFound text p r → NumberFound text at r
number-after {text} {at} {p} w None n = no-number (finding text at p 65536 0 w (missing (omega arith) n))
number-after {text} {at} {p} w (Some n) (h, m) = number-here (finding text at p n.value n.next w (found h m)) h
