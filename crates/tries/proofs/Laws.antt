-- What is left of the tries ends the turn.
use Prim.Native.Nat.{ℕ, zero, suc, ◌+◌, ◌≤◌, ◌<◌}
use mathlib.Core.Path.{◌≡◌, refl, sym, ap, ◌∙◌}
use mathlib.Core.List.{List, ◌∷◌}
use native.Mathlib.Omega.{arith}
use lib.ListN.{length, get_or, drop, drop_of_length-le}
use lib.IntN.{ℤ}
use Rattle.std.specs.Prelude.{Err, Ok}
use Rattle.task.specs.declared.refusal.Refusal.{Refusal}
use Rattle.task.specs.Refusals.{StepAnswer}
use Rattle.task.specs.Types.{engine}
use Rattle.task.specs.declared.Limits.{Limits}
use Rattle.task.specs.declared.Step.{Step}
use Rattle.task.specs.declared.Step.TheVariants.{Fetch}
use Rattle.task.specs.declared.StepOutcome.{StepOutcome}
use Rattle.rules.specs.Memory.{Mem}
use Rattle.rules.specs.Plans.{result_of}
use Rattle.rules.specs.Steps.{step}
use Rattle.rules.specs.Desk.{tries, first_of, turn}

-- the lists that a step may write keep their lengths
pub record Lasting (d₀ r₀ e₀ : List ℕ) (c₀ : List ℤ) (b₀ x₀ n₀ : List ℕ) (cells₀ : List (List ℕ))
    (d r e : List ℕ) (c : List ℤ) (b x n : List ℕ) (cells : List (List ℕ)) : Type 0 where
  pub degrees : length d ≡ length d₀
  pub rings : length r ≡ length r₀
  pub ends : length e ≡ length e₀
  pub counters : length c ≡ length c₀
  pub buffers : length b ≡ length b₀
  pub executed : length x ≡ length x₀
  pub run : length n ≡ length n₀
  pub rows : length cells ≡ length cells₀

-- worker i's tries but the first `tried`, on the words that those left, end its turn
pub record Trying (start m : Mem) (i tried : ℕ) : Type 0 where
  pub whole : turn engine 2 4 i (drop tried tries) m ≡ turn engine 2 4 i tries start

-- the n-th try stands before the others
next-try : (n : ℕ) → n < 4 → drop n tries ≡ get_or tries n Fetch ∷ drop (n + 1) tries
next-try zero h = refl
next-try (suc zero) h = refl
next-try (suc (suc zero)) h = refl
next-try (suc (suc (suc zero))) h = refl
next-try (suc (suc (suc (suc n)))) h = absurd (omega (arith, h))

pub trying-last : (start m : Mem) (i tried : ℕ) → Trying start m i tried → 4 ≤ tried → m ≡ turn engine 2 4 i tries start
unfolding turn
trying-last start m i tried t h = sym (ap (λ (ss : List Step). turn engine 2 4 i ss m) (drop_of_length-le tries h)) ∙ t.whole

module _ (start m : Mem) (i tried : ℕ) (t : Trying start m i tried) (b : tried < 4)
    (limits : Limits) (l : limits ≡ engine) (s : Step) (n : s ≡ get_or tries tried Fetch)
    (m' : Mem) (a : StepAnswer) (h : result_of a m' ≡ step limits 2 4 i s m) where
  next : s ∷ drop (tried + 1) tries ≡ drop tried tries
  next = rw n (sym (next-try tried b))

  -- what the next try says and leaves
  tried-first : (ss : List Step) → turn engine 2 4 i (s ∷ ss) m ≡ first_of a m' (turn engine 2 4 i ss m')
  unfolding turn
  tried-first ss = let k : result_of a m' ≡ step engine 2 4 i s m = rw l at h in rw (← k)

  tries-next : first_of a m' (turn engine 2 4 i (drop (tried + 1) tries) m') ≡ turn engine 2 4 i tries start
  tries-next = sym (tried-first _) ∙ ap (λ (ss : List Step). turn engine 2 4 i ss m) next ∙ t.whole

  pub trying-over : (o : StepOutcome) → a ≡ Ok o → m' ≡ turn engine 2 4 i tries start
  trying-over o e = rw e at tries-next

  pub trying-on : (why : Refusal) → a ≡ Err why → Trying start m' i (tried + 1)
  trying-on why e = record { whole = rw e at tries-next }
