-- Answers as computed runs show them: those of some events, how many calls may be accepted steps, and what every worker's four steps would be answered.
use Prim.Native.Nat.{ℕ, suc, ◌<◌}
use mathlib.Core.Path.{◌≡◌, sym, ap, ◌∙◌}
use mathlib.Core.Bool.{cond}
use mathlib.Core.List.{List, [], ◌∷◌}
use lib.ListN.{get_or, replicate, get_or-replicate}
use Rattle.lists.specs.Lists.{tabulate}
use Rattle.lists.proofs.Blocks.{get_d_tabulate}
use Rattle.task.specs.Refusals.{Said, refused, accepted}
use Rattle.task.specs.Rows.{Acceptance}
use Rattle.task.specs.declared.Step.{Step}
use Rattle.task.specs.declared.Step.TheVariants.{Fetch, Start, Complete, Release}
use Rattle.machine.specs.Machine.{Event}
use Rattle.machine.specs.Jobs.{Call, is_step}

-- what the calls were answered, the latest first
unfoldable pub answers_in : {C : Type 0} → List (Event C) → List Said
answers_in [] = []
answers_in (e ∷ es) = e.said ∷ answers_in es

-- how many of the calls are steps
unfoldable pub steps_among : List Call → ℕ
steps_among [] = 0
steps_among (c ∷ cs) = cond (is_step c) (suc (steps_among cs)) (steps_among cs)

-- worker i's Fetch, Start, Complete and Release
abbrev pub four_answers : (ℕ → Step → Said) → ℕ → List Said
four_answers says i = says i Fetch ∷ says i Start ∷ says i Complete ∷ says i Release ∷ []

-- they are refused with these numbers
abbrev pub four_refusals : ℕ → ℕ → ℕ → ℕ → List Said
four_refusals fetch start complete release = refused fetch 0 ∷ refused start 0 ∷ refused complete 0 ∷ refused release 0 ∷ []

no-acceptance : {a : Said} {n d : ℕ} → a ≡ refused n d → ¬ (Acceptance a)
no-acceptance e x = rw e at x

-- where each worker's are, no worker has a step that would be accepted next
pub none-accepted : (p : ℕ) (says : ℕ → Step → Said) (fetch start complete release : ℕ)
    → tabulate p (four_answers says) ≡ replicate p (four_refusals fetch start complete release)
    → ¬ ((i : ℕ) × (s : Step) × (i < p) × Acceptance (says i s))
none-accepted p says fetch start complete release refusals = go
  where
    four : List Said
    four = four_refusals fetch start complete release

    at : (n i : ℕ) → i < p → get_or (four_answers says i) n accepted ≡ get_or four n accepted
    at n i h =
        ap (λ (l : List Said). get_or l n accepted)
        (sym (get_d_tabulate p (four_answers says) [] i h) ∙ ap (λ (l : List (List Said)). get_or l i []) refusals ∙ get_or-replicate p i four [] h)

    go : ¬ ((i : ℕ) × (s : Step) × (i < p) × Acceptance (says i s))
    go (i, Fetch, h, a) = no-acceptance (at 0 i h) a
    go (i, Start, h, a) = no-acceptance (at 1 i h) a
    go (i, Complete, h, a) = no-acceptance (at 2 i h) a
    go (i, Release, h, a) = no-acceptance (at 3 i h) a
