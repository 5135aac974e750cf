-- Answers with neither "a damaged word" (8) nor "N entries recorded" (12).
use Rattle.std.specs.Prelude.{ℕ, ◌≡◌, List, [], ◌∷◌}
use Rattle.task.specs.Refusals.{Said, refused, damaged, record_full}
use Rattle.machine.specs.Machine.{Event}

-- an answer that is neither, whatever the detail
pub record NoDamage (said : Said) : Type 0 where
  pub not_damaged : (d : ℕ) → ¬ (said ≡ refused damaged d)
  pub not_full : (d : ℕ) → ¬ (said ≡ refused record_full d)

-- so all answers of some events
abbrev pub NoDamageIn : {C : Type 0} → List (Event C) → Type 0
NoDamageIn [] = Unit {0}
NoDamageIn (e ∷ es) = NoDamage e.said × NoDamageIn es
