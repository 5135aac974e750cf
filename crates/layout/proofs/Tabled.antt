-- Tables are the tables of their tasks, where the check of the graph passes them.
use Prim.Native.Nat.{ℕ, zero, suc, ◌+◌, ◌-◌, ◌≤◌, ◌<◌}
use mathlib.Core.Path.{◌≡◌, refl, sym, ap, ◌∙◌}
use mathlib.Core.List.{List, ◌∷◌, ◌++◌}
use native.Mathlib.Omega.{arith}
use native.Mathlib.Numerals.{add-one}
use native.Mathlib.Nat.{add-zero}
use lib.ListN.{length, get_or, take, drop, take-append-drop}
use lib.Seq.{drop-length, drop-cons, drop-drop}
use Rattle.graph.specs.Graph.{part, graph_of}
use Rattle.graph.specs.Conditions.{Good, Sound}
use Rattle.graph.proofs.Parts.{length_part}
use Rattle.layout.specs.Tasks.{Task, task, empty_task, weights_of, starts_from, starts_of, preds_of, Tables, tables, tables_of}
use Rattle.layout.specs.Plain.{tasks_at, tasks_of}

-- Tasks of tables.

module _ (g : Tables) where
  -- task t
  abbrev task_in : ℕ → Task
  task_in t = task (get_or g.weights t 0) (part g.starts g.preds t)

  tasks-count : (left t : ℕ) → length (tasks_at g left t) ≡ left
  unfolding tasks_at
  tasks-count zero t = refl
  tasks-count (suc left) t = ap suc (tasks-count left (suc t))

  tasks-place : (left t i : ℕ) → i < left → get_or (tasks_at g left t) i empty_task ≡ task_in (t + i)
  unfolding tasks_at
  tasks-place zero t i h = absurd (omega (arith, h))
  tasks-place (suc left) t zero h = ap task_in (sym (add-zero t))
  tasks-place (suc left) t (suc i) h = tasks-place left (suc t) i (omega (arith, h)) ∙ ap task_in next
    where
      next : suc t + i ≡ t + suc i
      next = omega arith

  pub tasks-length : length (tasks_of g) ≡ length g.weights
  tasks-length = tasks-count (length g.weights) 0

  pub task-at : (t : ℕ) → t < length g.weights → get_or (tasks_of g) t empty_task ≡ task (get_or g.weights t 0) (part g.starts g.preds t)
  task-at t h = tasks-place (length g.weights) 0 t h ∙ ap task_in front
    where
      front : 0 + t ≡ t
      front = omega arith

-- Tables of tasks.

-- the words from place a on are those up to b and those from b on
drop-part : (a b : ℕ) (l : List ℕ) → a ≤ b → take (b - a) (drop a l) ++ drop b l ≡ drop a l
drop-part a b l h =
    ap (λ (k : List ℕ). take (b - a) (drop a l) ++ k) (sym (drop-drop (b - a) a l ∙ ap (λ (n : ℕ). drop n l) there))
    ∙ take-append-drop (b - a) (drop a l)
  where
    there : a + (b - a) ≡ b
    there = omega (arith, h)

module _ (w s p : List ℕ) where
  weights-from : (left t : ℕ) → left + t ≡ length w → weights_of (tasks_at (tables w s p) left t) ≡ drop t w
  unfolding tasks_at weights_of
  weights-from zero t e = sym (ap (λ (n : ℕ). drop n w) all ∙ drop-length w)
    where
      all : t ≡ length w
      all = omega (arith, e)
  weights-from (suc left) t e = ap (get_or w t 0 ∷◌) (weights-from left (suc t) (omega (arith, e))) ∙ sym (drop-cons w t 0 (omega (arith, e)))

  -- a table's weights are those of its tasks, whatever its other lists are
  pub weights-tasks : weights_of (tasks_of (tables w s p)) ≡ w
  weights-tasks = weights-from (length w) 0 (omega arith)

  module _ (sound : Sound (graph_of (length w) s p)) where
    good : (t : ℕ) → t < length w → Good (length w) s p t
    good = sound.good

    starts-from : (left t : ℕ) → left + t ≡ length w → starts_from (get_or s t 0) (tasks_at (tables w s p) left t) ≡ drop t s
    unfolding tasks_at starts_from
    starts-from zero t e =
        sym (drop-cons s t 0 (omega (arith, e, sound.sized.starts)) ∙ ap (get_or s t 0 ∷◌) (ap (λ (n : ℕ). drop n s) all ∙ drop-length s))
      where
        all : suc t ≡ length s
        all = omega (arith, e, sound.sized.starts)
    starts-from (suc left) t e =
        ap (λ (n : ℕ). get_or s t 0 ∷ starts_from n (tasks_at (tables w s p) left (suc t))) next
        ∙ (ap (get_or s t 0 ∷◌) (starts-from left (suc t) (omega (arith, e))) ∙ sym (drop-cons s t 0 (omega (arith, e, sound.sized.starts))))
      where
        here : Good (length w) s p t
        here = good t (omega (arith, e))

        next : get_or s t 0 + length (part s p t) ≡ get_or s (suc t) 0
        next = omega (arith, length_part here, here.rises, ap (λ (n : ℕ). get_or s n 0) (add-one t))

    preds-from : (left t : ℕ) → left + t ≡ length w → preds_of (tasks_at (tables w s p) left t) ≡ drop (get_or s t 0) p
    unfolding tasks_at preds_of part
    preds-from zero t e = sym (ap (λ (n : ℕ). drop n p) (ap (λ (n : ℕ). get_or s n 0) all ∙ sound.ends.last) ∙ drop-length p)
      where
        all : t ≡ length w
        all = omega (arith, e)
    preds-from (suc left) t e =
        ap (part s p t ++◌) (preds-from left (suc t) (omega (arith, e)) ∙ ap (λ (n : ℕ). drop (get_or s n 0) p) (sym (add-one t)))
        ∙ drop-part (get_or s t 0) (get_or s (t + 1) 0) p (good t (omega (arith, e))).rises

    pub starts-tasks : starts_of (tasks_of (tables w s p)) ≡ s
    starts-tasks = ap (λ (n : ℕ). starts_from n (tasks_of (tables w s p))) (sym sound.ends.first) ∙ starts-from (length w) 0 (omega arith)

    pub preds-tasks : preds_of (tasks_of (tables w s p)) ≡ p
    preds-tasks = preds-from (length w) 0 (omega arith) ∙ ap (λ (n : ℕ). drop n p) sound.ends.first

    pub tables-tasks : tables_of (tasks_of (tables w s p)) ≡ tables w s p
    tables-tasks =
        ap (λ (l : List ℕ). tables l (starts_of (tasks_of (tables w s p))) (preds_of (tasks_of (tables w s p)))) weights-tasks
        ∙ (ap (λ (l : List ℕ). tables w l (preds_of (tasks_of (tables w s p)))) starts-tasks ∙ ap (tables w s) preds-tasks)
