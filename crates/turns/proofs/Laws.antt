-- What is left of the turns ends the desk's run.
use Prim.Native.Nat.{ℕ, zero, suc, ◌+◌, ◌-◌, ◌*◌, ◌≤◌, ◌<◌}
use mathlib.Core.Path.{◌≡◌, refl, sym, ◌∙◌}
use native.Mathlib.Omega.{arith}
use Rattle.lists.specs.Circles.{after}
use Rattle.task.specs.Types.{engine}
use Rattle.rules.specs.Memory.{Mem, tasks, edges, all_steps, accepted_in}
use Rattle.rules.specs.Desk.{tries, turn, turns, desk_run}
use Rattle.rules.proofs.Words.{all-steps-are}
use Rattle.desk_rule.proofs.Finishes.{turns_more, turns-none, turns-over}

-- worker i's turn is next, and at most `left` turns from here on end the desk's run
pub record Driving (start m : Mem) (i left : ℕ) : Type 0 where
  pub turn : i < 2
  pub whole : turns engine 2 4 left i m ≡ desk_run start

pub driving-none : (m : Mem) (left : ℕ) → left ≡ 2 * (3 * tasks m + edges m) → Driving m m 0 left
unfolding desk_run all_steps
driving-none m left e = record { turn = omega arith; whole = rw e refl }

after_two : (i : ℕ) → i < 2 → after 2 i ≡ 1 - i
unfolding after
after_two zero h = refl
after_two (suc zero) h = refl
after_two (suc (suc i)) h = absurd (omega (arith, h))

module _ (start m : Mem) (i left : ℕ) (d : Driving start m i left) where
  pub driving-over : 3 * tasks m + edges m ≤ accepted_in m → m ≡ desk_run start
  driving-over h = sym (turns-over left i m (omega (arith, h, all-steps-are m))) ∙ d.whole

  pub driving-last : left ≡ 0 → m ≡ desk_run start
  driving-last e = sym (turns-none i m) ∙ (rw e at d).whole

  pub driving-turn : accepted_in m < 3 * tasks m + edges m → (next : ℕ) → suc next ≡ left → (w : ℕ) → w ≡ i → (m' : Mem) → m' ≡ turn engine 2 4 w tries m
      → Driving start m' (1 - i) next
  driving-turn h next f w e m' t =
      record {
        turn = omega (arith, d.turn);
        whole = rw (t, e, ← after_two i d.turn, ← turns_more next i m (omega (arith, h, all-steps-are m)), f) d.whole;
      }
