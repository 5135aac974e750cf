-- The test of the lengths, and what it says.
use Prim.Native.Nat.{ℕ, ◌+◌, ◌*◌}
use mathlib.Core.Path.{◌≡◌, refl, subst, ◌∙◌}
use mathlib.Core.Bool.{Bool, true, false}
use mathlib.Core.List.{List, [], ◌∷◌, map}
use borrow.Author.Tests.{eqb-true, eq-eqb}
use Rattle.lists.proofs.Told.{and-true}
use Rattle.memory.specs.Family.{Family}
use Rattle.memory.specs.Field.{Field}
use Rattle.memory.specs.Field as list
use Rattle.memory.specs.Memory.{Mem}
use Rattle.memory.specs.Shape.{length_of, lends, IfLent, Shaped, sizes_in, all_fit, others_if, others}
use Rattle.memory.specs.Updates.{Update, written}
use Rattle.memory.proofs.Fields.{written-lengths}

-- all figures in one equation, for every P, K, N and E: a wrong one in `length_of` is refused here
lengths-are : (F : Family) (p k n e : ℕ)
    → map (length_of F p k n e)
    (list.weights
    ∷ list.pred_starts
    ∷ list.preds
    ∷ list.succ_starts
    ∷ list.succs
    ∷ list.degrees
    ∷ list.fixed
    ∷ list.rings
    ∷ list.ends
    ∷ list.counters
    ∷ list.buffers
    ∷ list.executed
    ∷ list.run
    ∷ list.rows
    ∷ [])
    ≡ n ∷ (n + 1) ∷ e ∷ (n + 1) ∷ e ∷ n ∷ n ∷ (p * p * k) ∷ (p * p * 3) ∷ (p * p) ∷ (p * n) ∷ (F.shape.entry_words * F.shape.entries n e) ∷ F.shape.run_words ∷ p ∷ []
lengths-are F p k n e = refl

module _ (F : Family) (p k : ℕ) (size : Field → ℕ) where
  -- this list has its length
  abbrev Long : Field → Type 0
  Long f = size f ≡ length_of F p k (size list.weights) (size list.preds) f

  abbrev Each : List Field → Type 0
  Each [] = Unit {0}
  Each (f ∷ fs) = Long f × Each fs

  fit-each : (fs : List Field) → all_fit F p k size fs ≡ true → Each fs
  unfolding all_fit
  fit-each [] e = tt
  fit-each (f ∷ []) e = (eqb-true _ _ e, tt)
  fit-each (f ∷ g ∷ fs) e = let (a, b) = and-true _ (all_fit F p k size (g ∷ fs)) e in (eqb-true _ _ a, fit-each (g ∷ fs) b)

  -- of lists that the family is lent
  abbrev pub AllLent : List Field → Type 0
  AllLent [] = Unit {0}
  AllLent (f ∷ fs) = (lends F f ≡ true) × AllLent fs

  long-lent : Shaped F p k size → (f : Field) → lends F f ≡ true → Long f
  long-lent s f e = subst (λ (b : Bool). IfLent b (Long f)) e (s.list f)

  pub shaped-fits : Shaped F p k size → (fs : List Field) → AllLent fs → all_fit F p k size fs ≡ true
  unfolding all_fit
  shaped-fits s [] h = refl
  shaped-fits s (f ∷ []) h = eq-eqb _ _ (long-lent s f h.0)
  shaped-fits s (f ∷ g ∷ fs) h = rw (eq-eqb _ _ (long-lent s f h.0), shaped-fits s (g ∷ fs) h.1)

  pub others-lent : AllLent (others F)
  others-lent = go F.shape.fixes refl
    where
      go : (b : Bool) → F.shape.fixes ≡ b → AllLent (others_if b)
      go false q = (refl, (refl, (refl, (refl, (refl, (refl, (refl, (refl, (refl, (refl, tt))))))))))
      go true q = (refl, (refl, (refl, (q, (refl, (refl, (refl, (refl, (refl, (refl, (refl, tt)))))))))))

  -- the lists behind the tables, without that of fixed workers and with it
  abbrev tailed : List Field
  tailed = list.rings ∷ list.ends ∷ list.counters ∷ list.buffers ∷ list.executed ∷ list.run ∷ list.rows ∷ []

  long : {b : Bool} → F.shape.fixes ≡ b → size list.pred_starts ≡ size list.weights + 1
      → Each (list.succ_starts ∷ list.succs ∷ list.degrees ∷ []) → IfLent b (Long list.fixed) → Each tailed → (f : Field) → IfLent (lends F f) (Long f)
  long e starts h x t list.weights = refl
  long e starts h x t list.pred_starts = starts
  long e starts h x t list.preds = refl
  long e starts h x t list.succ_starts = h.0
  long e starts h x t list.succs = h.1.0
  long e starts h x t list.degrees = h.1.1.0
  long e starts h x t list.fixed = rw e x
  long e starts h x t list.rings = t.0
  long e starts h x t list.ends = t.1.0
  long e starts h x t list.counters = t.1.1.0
  long e starts h x t list.buffers = t.1.1.1.0
  long e starts h x t list.executed = t.1.1.1.1.0
  long e starts h x t list.run = t.1.1.1.1.1.0
  long e starts h x t list.rows = t.1.1.1.1.1.1.0

  pub fits-shaped : size list.pred_starts ≡ size list.weights + 1 → all_fit F p k size (others F) ≡ true → Shaped F p k size
  fits-shaped starts e = go F.shape.fixes refl
    where
      lent-only : {b : Bool} → F.shape.fixes ≡ b → all_fit F p k size (others_if b) ≡ true
      lent-only q = subst (λ (b : Bool). all_fit F p k size (others_if b) ≡ true) q e

      go : (b : Bool) → F.shape.fixes ≡ b → Shaped F p k size
      go false q =
          let h : Each (list.succ_starts ∷ list.succs ∷ list.degrees ∷ tailed) = fit-each _ (lent-only q) in
          record { list = long q starts (h.0, (h.1.0, (h.1.1.0, tt))) tt h.1.1.1 }
      go true q =
          let h : Each (list.succ_starts ∷ list.succs ∷ list.degrees ∷ list.fixed ∷ tailed) = fit-each _ (lent-only q) in
          record { list = long q starts (h.0, (h.1.0, (h.1.1.0, tt))) h.1.1.1.0 h.1.1.1.1 }

-- sizes that agree, of the lists that are lent
pub shaped-same : (F : Family) (p k : ℕ) (size size' : Field → ℕ) → ((f : Field) → IfLent (lends F f) (size' f ≡ size f)) → Shaped F p k size → Shaped F p k size'
shaped-same F p k size size' same s = record { list = λ f. moved f (lends F f) (same f) (s.list f) }
  where
    moved : (f : Field) (b : Bool) → IfLent b (size' f ≡ size f) → IfLent b (size f ≡ length_of F p k (size list.weights) (size list.preds) f)
        → IfLent b (size' f ≡ length_of F p k (size' list.weights) (size' list.preds) f)
    moved f true q e = q ∙ (rw (same list.weights, same list.preds) e)
    moved f false q e = tt

-- PROMISE: lists of their lengths keep them, whatever is stored
pub written-shaped : {F : Family} (p k : ℕ) (us : List (Update F)) (m : Mem F) → Shaped F p k (sizes_in m) → Shaped F p k (sizes_in (written us m))
written-shaped {F} p k us m = shaped-same F p k (sizes_in m) (sizes_in (written us m)) (λ f. lent-too (lends F f) (written-lengths us m f))
  where
    lent-too : {T : Type 0} (b : Bool) → T → IfLent b T
    lent-too true t = t
    lent-too false t = tt
