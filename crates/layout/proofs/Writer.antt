-- PROMISES: the writer follows the published table; what it refuses, it leaves.
use Prim.Native.Nat.{ℕ, ◌-◌, ◌≤◌, ◌<◌}
use mathlib.Core.Path.{◌≡◌, refl, ap, subst}
use mathlib.Core.Bool.{Bool, true, false, not}
use mathlib.Core.List.{List, [], ◌∷◌}
use native.Mathlib.Omega.{arith}
use native.Mathlib.Decide.{ℕ_discrete}
use native.Mathlib.Nat.{sub-zero}
use lib.ListN.{length, get_or, take}
use lib.Dec.{ltb, leb, eqb}
use borrow.Author.Tests.{ltb-true, ltb-false, eqb-true, eqb-false, not-false}
use Rattle.std.specs.Prelude.{Err, Ok}
use Rattle.task.specs.declared.refusal.Refusal.{Refusal}
use Rattle.task.specs.declared.refusal.Refusal.TheVariants as why
use Rattle.lists.proofs.Told.{Told, told, le-told, eq-told, and-told, not-told}
use Rattle.lists.proofs.Occurrences.{occ-nil}
use Rattle.lists.proofs.Prefixes.{occ-early, inside}
use Rattle.task.specs.Types.{engine}
use Rattle.task.specs.Refusals.{refused, accepted, answer_says, write_says, refused_if, wrong_length, no_dummies, Answer}
use Rattle.task.specs.Rows.{row, only, Acceptance, Follows}
use Rattle.task.proofs.Rows.{follows-none, test-row, follows_then, follows_values}
use Rattle.graph.specs.Graph.{part, graph_of, Edge}
use Rattle.graph.specs.Conditions.{GraphFits}
use Rattle.graph.specs.Check.{check_answer}
use Rattle.graph.proofs.Refusals.{graph-follows}
use Rattle.graph.proofs.Accepted.{graph-accepted-iff, fits-sound}
use Rattle.layout.specs.Tasks.{tables}
use Rattle.layout.specs.Plain.{text_of}
use Rattle.layout.specs.Reader.{onto}
use Rattle.layout.specs.Writer.{dummies_fit, write_answer, saved_as, saved, write_text, NoDummies, TooSmall, writer_rows}
use Rattle.layout.proofs.Plain.{plain-one}
use Rattle.layout.proofs.Saved.{text-plain, text-spells}

module _ (w s p : List ℕ) (fits : GraphFits engine w s p) where
  -- start 1 is 0 exactly if task 0 has no predecessors
  first_part : part s p 0 ≡ take (get_or s 1 0) p
  unfolding part
  first_part = rw (fits.graph.ends.first, sub-zero (get_or s 1 0))

  no_edge : ◌≡◌ {A = ℕ} (get_or s 1 0) 0 → ¬ ((u : ℕ) × Edge (graph_of (length w) s p) u 0)
  no_edge e (u, h) = omega (arith, rw (first_part, e) at h.predecessor, occ-nil ℕ_discrete u)

  an-edge : 0 < get_or s 1 0 → (u : ℕ) × Edge (graph_of (length w) s p) u 0
  an-edge h =
      let some : 0 < length w = omega (arith, inside s 1 h, fits.lengths) in
      (get_or p 0 0, record { task = some; predecessor = rw first_part (occ-early p (get_or s 1 0) 0 h (fits.graph.good 0 some).inside) })

  root_told : Told (eqb (get_or s 1 0) 0) (¬ ((u : ℕ) × Edge (graph_of (length w) s p) u 0)) ((u : ℕ) × Edge (graph_of (length w) s p) u 0)
  root_told = told (eqb (get_or s 1 0) 0) (λ e. no_edge (eqb-true (get_or s 1 0) 0 e)) (λ e. an-edge (omega (arith, eqb-false (get_or s 1 0) 0 e)))

  pub dummies-told : Told (dummies_fit w s) (¬ (NoDummies w s p)) (NoDummies w s p)
  unfolding dummies_fit
  dummies-told =
      and-told (leb 2 (length w)) _ (le-told 2 (length w))
      (and-told (eqb (get_or w 0 0) 0) _ (eq-told (get_or w 0 0) 0)
      (and-told (eqb (get_or s 1 0) 0) _ root_told (eq-told (get_or w (length w - 1) 0) 0)))

  -- the text that the buffer is too small for is the definition's
  room-told : (text : List ℕ) → dummies_fit w s ≡ true
      → Told (ltb (length text) (length (text_of (tables w s p)))) (TooSmall w s p text) (¬ (TooSmall w s p text))
  room-told text d =
      told (ltb (length text) (length (text_of (tables w s p))))
      (λ e. record {
        bytes = text_of (tables w s p);
        plain = text-plain w s p (fits-sound fits) fits.light d;
        spells = text-spells w s p (fits-sound fits) fits.light d;
        short = ltb-true (length text) (length (text_of (tables w s p))) e;
      })
      (λ e small. omega (arith, small.short, ltb-false (length text) (length (text_of (tables w s p))) e, ap length (one small)))
    where
      one : (small : TooSmall w s p text) → small.bytes ≡ text_of (tables w s p)
      one small =
          plain-one small.bytes (text_of (tables w s p)) (tables w s p) small.plain small.spells
          (text-plain w s p (fits-sound fits) fits.light d)
          (text-spells w s p (fits-sound fits) fits.light d)

module _ (w s p text : List ℕ) where
  -- the two rows of the writer's own
  own-follows : check_answer engine true true w s p ≡ Ok tt
      → Follows (row no_dummies (only 0 (NoDummies w s p)) ∷ row wrong_length (only 0 (TooSmall w s p text)) ∷ [])
      (answer_says (refused_if (not (dummies_fit w s)) why.NoDummies (refused_if (ltb (length text) (length (text_of (tables w s p)))) why.WrongLength (Ok tt))))
  own-follows e =
      let fits = (graph-accepted-iff engine w s p).0 (ap answer_says e) in
      test-row (not (dummies_fit w s)) why.NoDummies _ _ (not-told (dummies_fit w s) (dummies-told w s p fits)) (λ d.
      test-row (ltb (length text) (length (text_of (tables w s p)))) why.WrongLength _ _ (room-told w s p fits text (not-false (dummies_fit w s) d)) (λ _.
      follows-none accepted tt))

  answer-follows : Follows (writer_rows w s p text) (answer_says (write_answer w s p (length text)))
  unfolding write_answer
  answer-follows = follows_then _ _ _ _ (graph-follows engine w s p) own-follows

  -- PROMISE: "Refused: 14, after 5, ..; a buffer too small is 1, last of all."
  pub write-follows : Follows (writer_rows w s p text) (write_says (write_text w s p text).answer)
  unfolding write_text
  write-follows = go (write_answer w s p (length text)) answer-follows
    where
      go : (a : Answer) → Follows (writer_rows w s p text) (answer_says a)
          → Follows (writer_rows w s p text) (write_says (saved a (text_of (tables w s p)) text).answer)
      go (Err why) f = f
      go (Ok u) f = follows_values (writer_rows w s p text) _ _ f

  -- the four ways that a call can go
  pub data Ways : Type 0 where
    checked : (why : Refusal) → check_answer engine true true w s p ≡ Err why → write_text w s p text ≡ saved_as (Err why) text → Ways
    undummied : dummies_fit w s ≡ false → write_text w s p text ≡ saved_as (Err why.NoDummies) text → Ways
    crowded : GraphFits engine w s p → length text < length (text_of (tables w s p))
        → write_text w s p text ≡ saved_as (Err why.WrongLength) text → Ways
    put : GraphFits engine w s p → dummies_fit w s ≡ true → length (text_of (tables w s p)) ≤ length text
        → write_text w s p text ≡ saved_as (Ok (length (text_of (tables w s p)))) (onto (text_of (tables w s p)) text) → Ways

  pub ways : Ways
  unfolding write_text write_answer
  ways = go (check_answer engine true true w s p) refl (dummies_fit w s) refl (ltb (length text) (length (text_of (tables w s p)))) refl
    where
      go : (c : Answer) → check_answer engine true true w s p ≡ c → (d : Bool) → dummies_fit w s ≡ d → (r : Bool)
          → ltb (length text) (length (text_of (tables w s p))) ≡ r → Ways
      go (Err why) e d f r g = checked why e (rw e refl)
      go (Ok u) e false f r g = undummied f (rw (e, f) refl)
      go (Ok tt) e true f true g =
          crowded ((graph-accepted-iff engine w s p).0 (ap answer_says e)) (ltb-true (length text) (length (text_of (tables w s p))) g) (rw (e, f, g) refl)
      go (Ok tt) e true f false g =
          put ((graph-accepted-iff engine w s p).0 (ap answer_says e)) f (ltb-false (length text) (length (text_of (tables w s p))) g) (rw (e, f, g) refl)

  -- PROMISE: "all lent memory keeps its words": the tables are lent shared, and the buffer is what it was
  pub write-leaves : (n d : ℕ) → write_says (write_text w s p text).answer ≡ refused n d → (write_text w s p text).text ≡ text
  write-leaves n d e = go ways
    where
      go : Ways → (write_text w s p text).text ≡ text
      go (checked _ _ q) = ap (λ x. x.text) q
      go (undummied _ q) = ap (λ x. x.text) q
      go (crowded _ _ q) = ap (λ x. x.text) q
      go (put _ _ _ q) = absurd (subst Acceptance (rw q at e) tt)
