-- What holds of finished runs, and before an accepted step if after it, holds of every run: where an unfinished run has a step that is accepted next, and
-- no run more accepted steps than a number that the lent words tell.
use Prim.Native.Nat.{ℕ, zero, suc, ◌+◌, ◌≤◌, ◌<◌}
use mathlib.Core.Path.{◌≡◌, ap}
use mathlib.Core.List.{List, [], ◌∷◌, ◌++◌, append_assoc, append-nil}
use native.Mathlib.Omega.{arith}
use Rattle.task.specs.Rows.{Acceptance}
use Rattle.task.specs.declared.Limits.{Limits}
use Rattle.task.specs.declared.Step.{Step}
use Rattle.machine.specs.Jobs.{Call, step_call, accepted_steps, Engine, Run, memory_of, events_of, longer}

module _ {M : Type 0} (on : Engine M) where
  -- the run with other calls after its begin
  abbrev with_calls : Run on → List Call → Run on
  with_calls r cs = record { limits = r.limits; workers = r.workers; slots = r.slots; lent = r.lent; accepts = r.accepts; calls = cs }

  pub longer-none : (r : Run on) → longer on r [] ≡ r
  longer-none r = ap (with_calls r) (append-nil r.calls)

  pub longer-longer : (r : Run on) (cs ds : List Call) → longer on (longer on r cs) ds ≡ longer on r (cs ++ ds)
  longer-longer r cs ds = ap (with_calls r) (append_assoc r.calls cs ds)

  module _ (limits : Limits) (most : M → ℕ) (Finished Kept Goal : Run on → Type 0) (finished? : (r : Run on) → Dec (Finished r))
      (kept : (r : Run on) (cs : List Call) → Kept r → Kept (longer on r cs)) where
    abbrev Accepts : Run on → ℕ → Step → Type 0
    Accepts r i s = Acceptance (on.step_says limits r.workers r.slots i s (memory_of on r))

    abbrev then : Run on → ℕ → Step → Run on
    then r i s = longer on r (step_call limits r.workers r.slots i s ∷ [])

    module _ (next : (r : Run on) → Kept r → ¬ (Finished r) → (i : ℕ) × (s : Step) × Accepts r i s)
        -- an accepted step counts one more, and the run had fewer than all
        (more : (r : Run on) (i : ℕ) (s : Step) → Accepts r i s → accepted_steps (events_of on (then r i s)) ≡ suc (accepted_steps (events_of on r)))
        (below : (r : Run on) (i : ℕ) (s : Step) → Accepts r i s → accepted_steps (events_of on r) < most r.lent)
        (end : (r : Run on) → Finished r → Goal r)
        (first : (r : Run on) (i : ℕ) (s : Step) → Accepts r i s → Goal (then r i s) → Goal r) where
      -- n bounds how many steps are still to come
      within : (n : ℕ) (r : Run on) → Kept r → most r.lent ≤ accepted_steps (events_of on r) + n → Goal r
      within zero r w h = go (finished? r)
        where
          go : Dec (Finished r) → Goal r
          go (yes f) = end r f
          go (no u) = let (i, s, a) = next r w u in absurd (omega (arith, h, below r i s a))
      within (suc n) r w h = go (finished? r) (within n)
        where
          go : Dec (Finished r) → ((r' : Run on) → Kept r' → most r'.lent ≤ accepted_steps (events_of on r') + n → Goal r') → Goal r
          go (yes f) later = end r f
          go (no u) later =
              let (i, s, a) = next r w u in first r i s a (later (then r i s) (kept r _ w) (omega (arith, h, more r i s a)))

      pub to_the_end : (r : Run on) → Kept r → Goal r
      to_the_end r w = within (most r.lent) r w (omega arith)
