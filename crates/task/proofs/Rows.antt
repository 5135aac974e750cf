-- How an answer is shown to follow a list of rows, row by row.
use Prim.Native.Nat.{ℕ, ◌≤◌, ◌<◌}
use mathlib.Core.Path.{◌≡◌, refl, subst, sym, ◌∙◌}
use mathlib.Core.Bool.{Bool, false}
use mathlib.Core.Logic.{◌⊎◌, inl, inr, ◌↔◌}
use mathlib.Core.List.{List, [], ◌∷◌, ◌++◌}
use native.Mathlib.Omega.{arith}
use lib.Dec.{ltb}
use borrow.Author.Tests.{ltb-true, ltb-false}
use Rattle.lists.specs.Decided.{first_below, Smallest}
use Rattle.lists.proofs.Decided.{first-smallest, first-least, smallest-unique}
use Rattle.lists.proofs.Told.{Told, told-true, told-false, told}
use Rattle.std.specs.Prelude.{Ok, Err}
use Rattle.task.specs.Refusals.{Said, refused, answered, accepted, Answer, refusal_number, refusal_detail, refusal_says, answer_says, refused_if, and_then}
use Rattle.task.specs.Rows.{Refusal, row, only, Passed, Given, Clear, Acceptance, Follows}
use Rattle.task.specs.declared.refusal.Refusal as why

-- no row is left, and the call is accepted
pub follows-none : (said : Said) → Acceptance said → Follows [] said
follows-none said a = record { refuses = λ n d. (λ e. subst Acceptance e a, λ g. absurd g); accepts = (λ _. tt, λ _. a) }

-- the first row holds, and its detail is the only one
pub follows-given : (r : Refusal) (rs : List Refusal) (d : ℕ) → r.condition d → ((e : ℕ) → r.condition e → e ≡ d) → Follows (r ∷ rs) (refused r.number d)
follows-given r rs d c unique = record { refuses = λ n e. (λ q. inl (cc, subst r.condition (cc) c), λ g. back n e g); accepts = (λ a. absurd a, λ p. absurd (p.0 d c)) }
  where
    back : (n e : ℕ) → ((n ≡ r.number) × r.condition e) ⊎ (Passed r × Given rs n e) → refused r.number d ≡ refused n e
    back n e (inl p) = rw (p.0, unique e p.1)
    back n e (inr p) = absurd (p.0 d c)

-- the first row does not hold
pub follows-passed : (r : Refusal) (rs : List Refusal) (said : Said) → Passed r → Follows rs said → Follows (r ∷ rs) said
follows-passed r rs said p f = record { refuses = λ n d. (λ e. inr (p, (f.refuses n d).0 e), λ g. back n d g); accepts = (λ a. (p, f.accepts.0 a), λ c. f.accepts.1 c.1) }
  where
    back : (n d : ℕ) → ((n ≡ r.number) × r.condition d) ⊎ (Passed r × Given rs n d) → said ≡ refused n d
    back n d (inl q) = absurd (p d q.1)
    back n d (inr q) = (f.refuses n d).1 q.1

-- the row that a test stands for, and then the rows after it
pub test-row : (b : Bool) {C : Type 0} (y : why.Refusal) (rest : List Refusal) (a : Answer) → Told b C (¬ C) → (b ≡ false → Follows rest (answer_says a))
    → Follows (row (refusal_number y) (only (refusal_detail y) C) ∷ rest) (answer_says (refused_if b y a))
test-row b {C} y rest a (told-true e c) r = rw e (follows-given (row (refusal_number y) (only (refusal_detail y) C)) rest (refusal_detail y) (refl, c) (λ x p. p.0))
test-row b {C} y rest a (told-false e f) r = rw e (follows-passed (row (refusal_number y) (only (refusal_detail y) C)) rest (answer_says a) (λ d c. f c.1) (r e))

-- the row of the smallest task that has a property, and then the rows after it
module _ (n : ℕ) {P : ℕ → Type 0} (d : (t : ℕ) → Dec (P t)) (Q : ℕ → Type 0) (to : (t : ℕ) → (t < n) × P t → Q t) (from : (t : ℕ) → Q t → (t < n) × P t) (y : ℕ → why.Refusal)
    (k : ℕ) (told_by : (t : ℕ) → refusal_says (y t) ≡ refused k t) (rest : List Refusal) (a : Answer) where
  found : first_below n d < n → Smallest Q (first_below n d)
  found h =
      let s : Smallest (λ t. (t < n) × P t) (first_below n d) = first-smallest n d h in
      record { such = to (first_below n d) s.such; least = λ t l q. s.least t l (from t q) }

  pub smallest-row : (((t : ℕ) → t < n → ¬ (P t)) → Follows rest (answer_says a))
      → Follows (row k (Smallest Q) ∷ rest) (answer_says (refused_if (ltb (first_below n d) n) (y (first_below n d)) a))
  smallest-row r = go (told (ltb (first_below n d) n) (ltb-true (first_below n d) n) (ltb-false (first_below n d) n))
    where
      go : Told (ltb (first_below n d) n) (first_below n d < n) (n ≤ first_below n d) → Follows (row k (Smallest Q) ∷ rest) (answer_says (refused_if (ltb (first_below n d) n) (y (first_below n d)) a))
      go (told-true e h) = rw (e, told_by (first_below n d)) (follows-given (row k (Smallest Q)) rest (first_below n d) (found h) (λ x s. smallest-unique s (found h)))
      go (told-false e h) =
          rw e (follows-passed (row k (Smallest Q)) rest (answer_says a)
          (λ x s. first-least n d x (omega (arith, (from x s.such).0)) (from x s.such).1)
          (r (λ t l. first-least n d t (omega arith))))

-- rows after rows: no row of both holds, or the first that holds is among the former or, where none of them holds, among the latter
pub clear-parts : (rows rest : List Refusal) → Clear (rows ++ rest) ↔ (Clear rows × Clear rest)
clear-parts [] rest = (λ c. (tt, c), λ c. c.1)
clear-parts (r ∷ rows) rest = (
  λ c. ((c.0, ((clear-parts rows rest).0 c.1).0), ((clear-parts rows rest).0 c.1).1),
  λ c. (c.0.0, (clear-parts rows rest).1 (c.0.1, c.1)),
)

given-former : (rows rest : List Refusal) (n d : ℕ) → Given rows n d → Given (rows ++ rest) n d
given-former [] rest n d g = absurd g
given-former (r ∷ rows) rest n d (inl h) = inl h
given-former (r ∷ rows) rest n d (inr (p, g)) = inr (p, given-former rows rest n d g)

given-latter : (rows rest : List Refusal) (n d : ℕ) → Clear rows → Given rest n d → Given (rows ++ rest) n d
given-latter [] rest n d c g = g
given-latter (r ∷ rows) rest n d (p, c) g = inr (p, given-latter rows rest n d c g)

given-parts : (rows rest : List Refusal) (n d : ℕ) → Given (rows ++ rest) n d → Given rows n d ⊎ (Clear rows × Given rest n d)
given-parts [] rest n d g = inr (tt, g)
given-parts (r ∷ rows) rest n d (inl h) = inl (inl h)
given-parts (r ∷ rows) rest n d (inr (p, g)) = go (given-parts rows rest n d g)
  where
    go : Given rows n d ⊎ (Clear rows × Given rest n d) → Given (r ∷ rows) n d ⊎ (Clear (r ∷ rows) × Given rest n d)
    go (inl h) = inl (inr (p, h))
    go (inr (c, h)) = inr ((p, c), h)

-- two answers after each other follow the rows of the first and then those of the second
pub follows_then : (rows rest : List Refusal) (a b : Answer) → Follows rows (answer_says a) → (a ≡ Ok tt → Follows rest (answer_says b))
    → Follows (rows ++ rest) (answer_says (and_then a b))
follows_then rows rest (Err y) b f g =
    record {
      refuses = λ n d. (λ e. given-former rows rest n d ((f.refuses n d).0 e), λ h. back n d (given-parts rows rest n d h));
      accepts = (λ a. absurd a, λ c. f.accepts.1 ((clear-parts rows rest).0 c).0);
    }
  where
    back : (n d : ℕ) → Given rows n d ⊎ (Clear rows × Given rest n d) → refusal_says y ≡ refused n d
    back n d (inl h) = (f.refuses n d).1 h
    back n d (inr h) = absurd (f.accepts.1 h.0)
follows_then rows rest (Ok u) b f g =
    record {
      refuses = λ n d. (λ e. given-latter rows rest n d (f.accepts.0 tt) (((g refl).refuses n d).0 e), λ h. back n d (given-parts rows rest n d h));
      accepts = (λ a. (clear-parts rows rest).1 (f.accepts.0 tt, (g refl).accepts.0 a), λ c. (g refl).accepts.1 ((clear-parts rows rest).0 c).1);
    }
  where
    back : (n d : ℕ) → Given rows n d ⊎ (Clear rows × Given rest n d) → answer_says b ≡ refused n d
    back n d (inl h) = absurd (subst Acceptance ((f.refuses n d).1 h) tt)
    back n d (inr h) = ((g refl).refuses n d).1 h.1

-- whatever values an accepted call answers, it follows the rows
pub follows_values : (rows : List Refusal) (k : ℕ) (vs : List ℕ) → Follows rows accepted → Follows rows (answered k vs)
follows_values rows k vs f =
    record {
      refuses = λ n d. (λ e. absurd (subst Acceptance e tt), λ g. absurd (subst Acceptance ((f.refuses n d).1 g) tt));
      accepts = (λ a. f.accepts.0 tt, λ c. tt);
    }

-- the same rows in other words: one by one their numbers are equal and their conditions hold with the same details
abbrev pub Same : List Refusal → List Refusal → Type 0
Same [] [] = Unit {0}
Same [] (r ∷ rows) = ⊥
Same (r ∷ rows) [] = ⊥
Same (r ∷ rows) (q ∷ others) = (r.number ≡ q.number) × (((d : ℕ) → r.condition d ↔ q.condition d) × Same rows others)

pub same_rows : (rows : List Refusal) → Same rows rows
same_rows [] = tt
same_rows (r ∷ rows) = (refl, (λ d. (λ c. c, λ c. c), same_rows rows))

same-turned : (rows others : List Refusal) → Same rows others → Same others rows
same-turned [] [] s = tt
same-turned [] (q ∷ others) s = absurd s
same-turned (r ∷ rows) [] s = absurd s
same-turned (r ∷ rows) (q ∷ others) (e, (c, s)) = (sym e, (λ d. ((c d).1, (c d).0), same-turned rows others s))

same-given : (rows others : List Refusal) → Same rows others → (n d : ℕ) → Given rows n d → Given others n d
same-given [] others s n d g = absurd g
same-given (r ∷ rows) [] s n d g = absurd s
same-given (r ∷ rows) (q ∷ others) (e, (c, s)) n d (inl (h, x)) = inl (h ∙ e, (c d).0 x)
same-given (r ∷ rows) (q ∷ others) (e, (c, s)) n d (inr (p, g)) = inr (λ y x. p y ((c y).1 x), same-given rows others s n d g)

same-clear : (rows others : List Refusal) → Same rows others → Clear rows → Clear others
same-clear [] [] s h = tt
same-clear [] (q ∷ others) s h = absurd s
same-clear (r ∷ rows) [] s h = absurd s
same-clear (r ∷ rows) (q ∷ others) (e, (c, s)) (p, h) = (λ y x. p y ((c y).1 x), same-clear rows others s h)

-- what follows rows follows them in other words
pub follows_same : (rows others : List Refusal) (said : Said) → Same rows others → Follows rows said → Follows others said
follows_same rows others said s f =
    record {
      refuses = λ n d. (λ e. same-given rows others s n d ((f.refuses n d).0 e), λ g. (f.refuses n d).1 (same-given others rows (same-turned rows others s) n d g));
      accepts = (λ a. same-clear rows others s (f.accepts.0 a), λ c. f.accepts.1 (same-clear others rows (same-turned rows others s) c));
    }
