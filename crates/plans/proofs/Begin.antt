-- PROMISES: begin is refused under the table's conditions and no others; so it accepts exactly what fits and has room for its roots.
use Prim.Native.Nat.{ℕ, ◌+◌, ◌*◌, ◌≤◌, ◌<◌}
use mathlib.Core.Path.{◌≡◌, refl, sym, ap}
use mathlib.Core.Bool.{true}
use mathlib.Core.Logic.{◌⊎◌, inl, inr, ◌↔◌}
use mathlib.Core.List.{List, [], ◌∷◌, ◌++◌}
use native.Mathlib.Omega.{arith}
use native.Mathlib.Decide.{ℕ_discrete, dec_le}
use lib.ListN.{length}
use lib.Dec.{ltb}
use borrow.Author.Tests.{ltb-true, ltb-false}
use Rattle.std.specs.Prelude.{Err, Ok}
use Rattle.task.specs.declared.refusal.Refusal.TheVariants.{TooManyRoots}
use Rattle.lists.proofs.Apart.{true-and-false, unequal}
use Rattle.lists.proofs.Decided.{stable}
use Rattle.lists.proofs.Told.{told, neither, told-pass}
use Rattle.task.specs.Refusals.{refused, accepted, answer_says, too_many_roots, Answer}
use Rattle.task.specs.Rows.{Refusal, row, only, Clear, Follows}
use Rattle.task.proofs.Rows.{follows-none, follows_then, follows_same, clear-parts, same_rows, test-row}
use Rattle.task.specs.declared.Limits.{Limits}
use Rattle.graph.specs.Conditions.{GraphFits}
use Rattle.graph.specs.Check.{check_answer}
use Rattle.graph.specs.Successors.{roots}
use Rattle.graph.specs.Tables.{Beyond, table_rows, check_rows}
use Rattle.graph.proofs.Refusals.{check-follows}
use Rattle.graph.proofs.Reversed.{length-roots}
use Rattle.graph.proofs.Accepted.{said-accepted, clear-fits, fits-clear}
use Rattle.ring.specs.Ring.{capacity}
use Rattle.ring.proofs.Ends.{capacity-is}
use Rattle.memory.specs.Family.{Family}
use Rattle.memory.specs.Field as list
use Rattle.memory.specs.Memory.{Mem}
use Rattle.memory.specs.Shape.{sizes_in}
use Rattle.memory.proofs.Shape.{fits-shaped}
use Rattle.plans.specs.Memory.{tasks, edges, graph_in}
use Rattle.plans.specs.Sizes.{Lengths, Fits, numbers_fit, others_fit}
use Rattle.plans.specs.Begin.{roots_answer, begin_answer, begin_result}
use Rattle.plans.specs.Tables.{BeyondPK, root_count, begin_rows}
use Rattle.plans.proofs.Headers.{numbers-told, others-fit, lengths-are, lengths-told, within-fits, fits-within}

module _ {F : Family} (limits : Limits) (p k : ℕ) (m : Mem F) where
  -- the lists behind the graph's have their lengths
  abbrev Others : Type 0
  Others = others_fit p k m ≡ true

  -- the graph's check with begin's other numbers and lengths
  abbrev graph_rows : List Refusal
  graph_rows = check_rows limits (BeyondPK limits p k) (¬ Others) m.weights m.pred_starts m.preds

  abbrev root_rows : List Refusal
  root_rows = row too_many_roots (only (root_count m) (p * k < root_count m)) ∷ []

  abbrev found : ℕ
  found = length (roots (graph_in m))

  roots-follow : Follows root_rows (answer_says (roots_answer p k m))
  unfolding roots_answer
  roots-follow =
      rw (sym (length-roots (graph_in m)))
      (test-row (ltb (p * capacity k) found) (TooManyRoots found) [] (Ok tt)
      (told (ltb (p * capacity k) found)
      (λ e. omega (arith, ltb-true (p * capacity k) found e, room))
      (λ e h. omega (arith, ltb-false (p * capacity k) found e, room)))
      (λ _. follows-none accepted tt))
    where
      room : p * capacity k ≡ p * k
      room = ap (λ (c : ℕ). p * c) (capacity-is k)

  checks-follow : Follows (graph_rows ++ root_rows) (answer_says (begin_answer limits p k m))
  unfolding begin_answer
  checks-follow =
      follows_then graph_rows root_rows (check_answer limits (numbers_fit limits p k) (others_fit p k m) m.weights m.pred_starts m.preds) (roots_answer p k m)
      (check-follows limits (numbers_fit limits p k) (others_fit p k m) (numbers-told limits p k) (λ _. told (others_fit p k m) (λ e n. n e) (λ e o. true-and-false o e)) m.weights m.pred_starts m.preds)
      (λ _. roots-follow)

  whole-lengths : length m.pred_starts ≡ tasks m + 1 → Others → Lengths p k m
  unfolding others_fit
  whole-lengths e o = fits-shaped F p k (sizes_in m) e o

  -- 1 in the table's words: a length isn't the stated one
  lengths-iff : (¬ (length m.pred_starts ≡ tasks m + 1) ⊎ ¬ Others) ↔ ¬ (Lengths p k m)
  lengths-iff = (to, λ n. from n (ℕ_discrete (length m.pred_starts) (tasks m + 1)))
    where
      to : ¬ (length m.pred_starts ≡ tasks m + 1) ⊎ ¬ Others → ¬ (Lengths p k m)
      to (inl n) l = n (l.list list.pred_starts)
      to (inr n) l = n (others-fit p k m l)

      from : ¬ (Lengths p k m) → Dec (length m.pred_starts ≡ tasks m + 1) → ¬ (length m.pred_starts ≡ tasks m + 1) ⊎ ¬ Others
      from n (yes e) = inr (λ o. n (whole-lengths e o))
      from n (no q) = inl q

  abbrev GraphHere : Type 0
  GraphHere = GraphFits limits m.weights m.pred_starts m.preds

  fits : ¬ (BeyondPK limits p k) → ¬ (¬ Others) → GraphHere → Fits limits p k m
  fits f o g = within-fits limits p k m (neither f small) (lengths-are p k m (told-pass (lengths-told p k m) whole))
    where
      small : ¬ (Beyond limits (tasks m) (edges m))
      small (inl h) = omega (arith, g.tasks)
      small (inr h) = omega (arith, g.edges)

      whole : ¬ (¬ (Lengths p k m))
      whole n = o (λ x. n (whole-lengths g.lengths x))

  clear-begin : Clear (graph_rows ++ root_rows) ↔ (Fits limits p k m × GraphHere × (root_count m ≤ p * k))
  clear-begin = (λ c. to ((clear-parts graph_rows root_rows).0 c), λ a. (clear-parts graph_rows root_rows).1 (from a))
    where
      to : Clear graph_rows × Clear root_rows → Fits limits p k m × GraphHere × (root_count m ≤ p * k)
      to (c, (r, _)) =
          let a : (¬ (BeyondPK limits p k)) × ((¬ (¬ Others)) × GraphHere) = clear-fits limits m.weights m.pred_starts m.preds c in
          (fits a.0 a.1.0 a.1.1, a.1.1, stable (dec_le (root_count m) (p * k)) (λ n. r (root_count m) (refl, omega arith)))

      from : Fits limits p k m × GraphHere × (root_count m ≤ p * k) → Clear graph_rows × Clear root_rows
      from (a, g, r) = (
        fits-clear limits m.weights m.pred_starts m.preds (λ h. fits-within limits p k m a (inl h), (λ n. n (others-fit p k m a.lengths), g)),
        (λ d h. omega (arith, h.1), tt),
      )

pub answer-follows : {F : Family} (limits : Limits) (p k : ℕ) (m : Mem F) → Follows (begin_rows limits p k m) (answer_says (begin_answer limits p k m))
answer-follows limits p k m =
    follows_same (graph_rows limits p k m ++ root_rows limits p k m) (begin_rows limits p k m) (answer_says (begin_answer limits p k m)) (
      refl,
      (
        λ d. (λ c. c, λ c. c),
        (
          refl,
          (
            λ d. (λ c. (c.0, (lengths-iff limits p k m).0 c.1), λ c. (c.0, (lengths-iff limits p k m).1 c.1)),
            same_rows (table_rows (graph_in m) ++ root_rows limits p k m),
          ),
        ),
      ),
    )
    (checks-follow limits p k m)

pub answer-accepted : {F : Family} (limits : Limits) (p k : ℕ) (m : Mem F)
    → (answer_says (begin_answer limits p k m) ≡ accepted)
    ↔ (Fits limits p k m × GraphFits limits m.weights m.pred_starts m.preds × (root_count m ≤ p * k))
answer-accepted limits p k m = (
  λ e. (clear-begin limits p k m).0 ((checks-follow limits p k m).accepts.0 ((said-accepted (begin_answer limits p k m)).0 e)),
  λ a. (said-accepted (begin_answer limits p k m)).1 ((checks-follow limits p k m).accepts.1 ((clear-begin limits p k m).1 a)),
)

-- an accepted begin leaves what it lays down
pub accepted-leaves : {F : Family} (a : Answer) (begun m : Mem F) → answer_says (begin_result a begun m).answer ≡ accepted
    → (begin_result a begun m).memory ≡ begun
accepted-leaves (Ok u) begun m e = refl
accepted-leaves (Err why) begun m e = unequal cc

-- begin answers so, whatever it leaves, and a refused one leaves all lent memory as it was
module _ {F : Family} (begun m : Mem F) where
  pub result_answers : (a : Answer) → (begin_result a begun m).answer ≡ a
  result_answers (Err why) = refl
  result_answers (Ok u) = refl

  pub result-refused : (a : Answer) (n d : ℕ) → answer_says (begin_result a begun m).answer ≡ refused n d → (begin_result a begun m).memory ≡ m
  result-refused (Err why) n d e = refl
  result-refused (Ok u) n d e = unequal cc
