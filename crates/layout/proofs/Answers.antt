-- What the reader answers and writes, by its tests.
use Prim.Native.Nat.{ℕ, ◌<◌}
use mathlib.Core.Path.{◌≡◌, refl, ap, ◌∙◌}
use mathlib.Core.Bool.{true, false, ◌&&◌}
use mathlib.Core.Logic.{inl, inr}
use mathlib.Core.List.{List}
use native.Mathlib.Omega.{arith}
use lib.ListN.{length}
use lib.Dec.{eqb, leb}
use borrow.Author.Tests.{eqb-true}
use Rattle.std.specs.Prelude.{Err, Ok}
use Rattle.task.specs.declared.refusal.Refusal.TheVariants.{BeyondLimit, BrokenLayout, WrongLength}
use Rattle.lists.proofs.Told.{Told, told-true, told-false, eq-told, le-told, and-told, and-true}
use Rattle.layout.specs.Tasks.{Task, weights_of, starts_of, preds_of, edges_of}
use Rattle.layout.specs.Reader.{Verdict, spelled, broken, over, verdict, read_as, onto, laid, lent_fit, read_text}
use Rattle.layout.specs.Tables.{LentWrong, Lent}

module _ (w s p : List ℕ) where
  pub laid-spelled : (xs : List Task)
      → laid (spelled xs) w s p ≡ read_as (Ok (length xs, edges_of xs)) (onto (weights_of xs) w) (onto (starts_of xs) s) (onto (preds_of xs) p)
  unfolding laid
  laid-spelled xs = refl

  pub laid-broken : (l : ℕ) → laid (broken l) w s p ≡ read_as (Err (BrokenLayout l)) w s p
  unfolding laid
  laid-broken l = refl

  pub laid-over : laid over w s p ≡ read_as (Err BeyondLimit) w s p
  unfolding laid
  laid-over = refl

-- a test of lengths refuses, or the verdict decides
pub data Answered (text w s p : List ℕ) : Type 0 where
  wrong-length : LentWrong w s p → read_text text w s p ≡ read_as (Err WrongLength) w s p → Answered text w s p
  too_long : ¬ (LentWrong w s p) → 65536 < length text → read_text text w s p ≡ read_as (Err BeyondLimit) w s p → Answered text w s p
  as-judged : Lent text w s p → read_text text w s p ≡ laid (verdict text) w s p → Answered text w s p

-- what is lent is as stated
pub lent-room : (w s p : List ℕ) → lent_fit w s p ≡ true → (length w ≡ 1024) × (length s ≡ 1025) × (length p ≡ 8192)
lent-room w s p f =
    let (a, b) = and-true (eqb (length w) 1024) (eqb (length s) 1025 && eqb (length p) 8192) f in
    let (c, d) = and-true (eqb (length s) 1025) (eqb (length p) 8192) b in
    (eqb-true (length w) 1024 a, eqb-true (length s) 1025 c, eqb-true (length p) 8192 d)

pub lent-right : (text w s p : List ℕ) → Lent text w s p → ¬ (LentWrong w s p)
lent-right text w s p l (inl n) = n l.weights
lent-right text w s p l (inr (inl n)) = n l.starts
lent-right text w s p l (inr (inr n)) = n l.preds

module _ (text w s p : List ℕ) where
  pub read-wrong : lent_fit w s p ≡ false → read_text text w s p ≡ read_as (Err WrongLength) w s p
  unfolding read_text
  read-wrong e = rw e refl

  pub read-long : lent_fit w s p ≡ true → leb (length text) 65536 ≡ false → read_text text w s p ≡ read_as (Err BeyondLimit) w s p
  unfolding read_text
  read-long e f = rw (e, f) refl

  pub read-judged : lent_fit w s p ≡ true → leb (length text) 65536 ≡ true → read_text text w s p ≡ laid (verdict text) w s p
  unfolding read_text
  read-judged e f = rw (e, f) refl

  pub answered : Answered text w s p
  answered =
      go (and-told (eqb (length w) 1024) _ (eq-told (length w) 1024)
      (and-told (eqb (length s) 1025) (eqb (length p) 8192) (eq-told (length s) 1025) (eq-told (length p) 8192))) (le-told (length text) 65536)
    where
      go : Told (lent_fit w s p) (¬ (LentWrong w s p)) (LentWrong w s p)
          → Told (leb (length text) 65536) (¬ (65536 < length text)) (65536 < length text) → Answered text w s p
      go (told-false e h) t = wrong-length h (read-wrong e)
      go (told-true e h) (told-false f l) = too_long h l (read-long e f)
      go (told-true e h) (told-true f n) = as-judged (record {
        weights = (lent-room w s p e).0;
        starts = (lent-room w s p e).1;
        preds = (lent-room w s p e).2;
        short = omega (arith, n);
      }) (read-judged e f)

  -- the verdict decides where what is lent is as stated
  pub lent-judged : {v : Verdict} → Lent text w s p → verdict text ≡ v → read_text text w s p ≡ laid v w s p
  lent-judged {v} l q = go answered
    where
      go : Answered text w s p → read_text text w s p ≡ laid v w s p
      go (wrong-length h e) = absurd (lent-right text w s p l h)
      go (too_long m k e) = absurd (omega (arith, k, l.short))
      go (as-judged k e) = e ∙ ap (λ (u : Verdict). laid u w s p) q
