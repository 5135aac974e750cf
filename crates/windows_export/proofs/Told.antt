-- PROMISE: the number of a reply is 0 exactly if the call was accepted, and else number and detail are those of the first row of the published
-- table that holds; what stands in the result words then.
use Prim.Native.Nat.{ℕ, ◌≤◌}
use mathlib.Core.Path.{◌≡◌, refl, ap, subst}
use mathlib.Core.Logic.{◌↔◌}
use mathlib.Core.List.{List}
use native.Mathlib.Omega.{arith}
use Rattle.std.specs.Prelude.{Err, Ok}
use Rattle.task.specs.Types.{engine}
use Rattle.task.specs.Refusals.{answer_says, detail_of, Answer}
use Rattle.task.specs.Rows.{Given, Acceptance}
use Rattle.task.proofs.Said.{zero-accepts}
use Rattle.loads.specs.Windows.{window_loads, window_rows, ShowsLoads}
use Rattle.loads.proofs.Windows.{windows-follow, windows-leaves, windows-shown}
use Rattle.replies.proofs.Told.{tells-refusal}
use Rattle.windows_export.specs.Replies.{Replied, replied}

module _ (p m : ℕ) (weights executed run results : List ℕ) where
  abbrev heard : Replied
  heard = replied (window_loads engine p m weights executed run results)

  pub windows-zero : (heard.reply.number ≡ 0) ↔ Acceptance (answer_says (window_loads engine p m weights executed run results).answer)
  windows-zero = zero-accepts (window_rows engine p m weights executed run results) _ (windows-follow engine p m weights executed run results) refl

  pub windows-tell : (n d : ℕ) → 1 ≤ n
      → ((heard.reply.number ≡ n) × (heard.reply.detail ≡ d)) ↔ Given (window_rows engine p m weights executed run results) n d
  windows-tell = tells-refusal (window_rows engine p m weights executed run results) _ (windows-follow engine p m weights executed run results)

  -- what a host finds: number and detail are 0 and the words show the loads, or else they are what they were
  pub windows-heard : (heard.reply.number ≡ 0 → (heard.reply.detail ≡ 0) × ShowsLoads p m weights executed run heard.results)
      × (1 ≤ heard.reply.number → heard.results ≡ results)
  windows-heard = go (window_loads engine p m weights executed run results).answer refl
    where
      go : (a : Answer) → (window_loads engine p m weights executed run results).answer ≡ a
          → (heard.reply.number ≡ 0 → (heard.reply.detail ≡ 0) × ShowsLoads p m weights executed run heard.results)
          × (1 ≤ heard.reply.number → heard.results ≡ results)
      go (Err why) e = (
        λ z. absurd (subst (λ a. Acceptance (answer_says a)) e (windows-zero.0 z)),
        λ _. windows-leaves engine p m weights executed run results _ _ (ap answer_says e),
      )
      go (Ok u) e = (
        λ _. (ap (λ a. detail_of (answer_says a)) e, windows-shown engine p m weights executed run results (ap answer_says e)),
        λ h. absurd (omega (arith, rw e at h)),
      )
