-- The tables hold the tasks: "task t's predecessors run from start t up to but not including start t+1".
use Prim.Native.Nat.{ℕ, zero, suc, ◌+◌, ◌-◌, ◌≤◌, ◌<◌}
use mathlib.Core.Path.{◌≡◌, refl, sym, ap, ◌∙◌}
use mathlib.Core.List.{List, [], ◌∷◌, ◌++◌, append-nil, append_assoc}
use native.Mathlib.Nat.{add-zero, sub-zero}
use native.Mathlib.Omega.{arith}
use lib.ListN.{length, get_or, take, drop, length-append}
use lib.Seq.{take-append_seam}
use Rattle.lists.proofs.Appends.{drop-behind}
use Rattle.graph.specs.Graph.{part}
use Rattle.layout.specs.Tasks.{Task, empty_task, weights_of, starts_from, starts_of, preds_of, edges_of}

-- Lengths.

pub weights-length : (xs : List Task) → length (weights_of xs) ≡ length xs
unfolding weights_of
weights-length [] = refl
weights-length (x ∷ xs) = ap suc (weights-length xs)

pub starts-length : (s : ℕ) (xs : List Task) → length (starts_from s xs) ≡ suc (length xs)
unfolding starts_from
starts-length s [] = refl
starts-length s (x ∷ xs) = ap suc (starts-length (s + length x.preds) xs)

pub no_edges : edges_of [] ≡ 0
unfolding preds_of
no_edges = refl

-- A task more.

module _ (x : Task) where
  pub weights-snoc : (xs : List Task) → weights_of (xs ++ (x ∷ [])) ≡ weights_of xs ++ (x.time ∷ [])
  unfolding weights_of
  weights-snoc [] = refl
  weights-snoc (y ∷ xs) = rw (weights-snoc xs) refl

  pub preds-snoc : (xs : List Task) → preds_of (xs ++ (x ∷ [])) ≡ preds_of xs ++ x.preds
  unfolding preds_of
  preds-snoc [] = append-nil x.preds
  preds-snoc (y ∷ xs) = rw (preds-snoc xs) (sym (append_assoc y.preds (preds_of xs) x.preds))

  pub edges-snoc : (xs : List Task) → edges_of (xs ++ (x ∷ [])) ≡ edges_of xs + length x.preds
  edges-snoc xs = rw (preds-snoc xs) (length-append (preds_of xs) x.preds)

  starts-from : (s e : ℕ) (xs : List Task) → e ≡ s + (edges_of xs + length x.preds) → starts_from s (xs ++ (x ∷ [])) ≡ starts_from s xs ++ (e ∷ [])
  unfolding starts_from preds_of
  starts-from s e [] h =
      let f : s + length x.preds ≡ e = omega (arith, h) in
      ap (λ (k : ℕ). s ∷ k ∷ []) f
  starts-from s e (y ∷ xs) h =
      rw (starts-from (s + length y.preds) e xs (omega (arith, h, length-append y.preds (preds_of xs)))) refl

  pub starts-snoc : (xs : List Task) → starts_of (xs ++ (x ∷ [])) ≡ starts_of xs ++ (edges_of (xs ++ (x ∷ [])) ∷ [])
  starts-snoc xs = starts-from 0 (edges_of (xs ++ (x ∷ []))) xs (omega (arith, edges-snoc xs))

-- What stands at a place.

pub weight-at : (xs : List Task) (t : ℕ) → t < length xs → get_or (weights_of xs) t 0 ≡ (get_or xs t empty_task).time
unfolding weights_of
weight-at [] t h = absurd (omega (arith, h))
weight-at (x ∷ xs) zero h = refl
weight-at (x ∷ xs) (suc t) h = weight-at xs t (omega (arith, h))

pub start_first : (s : ℕ) (xs : List Task) → get_or (starts_from s xs) 0 0 ≡ s
unfolding starts_from
start_first s [] = refl
start_first s (x ∷ xs) = refl

start-from : (s : ℕ) (xs : List Task) (t : ℕ) → t ≤ length xs → s ≤ get_or (starts_from s xs) t 0
unfolding starts_from
start-from s xs zero h = rw (start_first s xs) (omega arith)
start-from s [] (suc t) h = absurd (omega (arith, h))
start-from s (x ∷ xs) (suc t) h = omega (arith, start-from (s + length x.preds) xs t (omega (arith, h)))

less : (a s : ℕ) → (s + a) - s ≡ a
less a s = omega arith

sub_self : (s : ℕ) → ◌≡◌ {A = ℕ} (s - s) 0
sub_self s = omega arith

-- each start is the one before and that task's count of predecessors; the last is E
pub start-next : (s : ℕ) (xs : List Task) (t : ℕ) → t < length xs → get_or (starts_from s xs) (suc t) 0 ≡ get_or (starts_from s xs) t 0 + length (get_or xs t empty_task).preds
unfolding starts_from
start-next s [] t h = absurd (omega (arith, h))
start-next s (x ∷ xs) zero h = start_first (s + length x.preds) xs
start-next s (x ∷ xs) (suc t) h = start-next (s + length x.preds) xs t (omega (arith, h))

pub start-last : (s : ℕ) (xs : List Task) → get_or (starts_from s xs) (length xs) 0 ≡ s + edges_of xs
unfolding starts_from preds_of
start-last s [] = sym (add-zero s)
start-last s (x ∷ xs) = omega (arith, start-last (s + length x.preds) xs, length-append x.preds (preds_of xs))

-- the part between two neighbouring starts, counted from the first of all
part-from : (s : ℕ) (xs : List Task) (t : ℕ) → t < length xs
    → take (get_or (starts_from s xs) (suc t) 0 - get_or (starts_from s xs) t 0) (drop (get_or (starts_from s xs) t 0 - s) (preds_of xs))
    ≡ (get_or xs t empty_task).preds
unfolding starts_from preds_of
part-from s [] t h = absurd (omega (arith, h))
part-from s (x ∷ xs) zero h =
    rw (start_first (s + length x.preds) xs, less (length x.preds) s, sub_self s)
    (take-append_seam x.preds (preds_of xs))
part-from s (x ∷ xs) (suc t) h =
    let ahead : s + length x.preds ≤ get_or (starts_from (s + length x.preds) xs) t 0 = start-from (s + length x.preds) xs t (omega (arith, h)) in
    ap (take (get_or (starts_from (s + length x.preds) xs) (suc t) 0 - get_or (starts_from (s + length x.preds) xs) t 0))
    (drop-behind x.preds (preds_of xs) s (get_or (starts_from (s + length x.preds) xs) t 0) ahead)
    ∙ part-from (s + length x.preds) xs t (omega (arith, h))

-- "task t's predecessors run from start t up to but not including start t+1"
pub part_at : (xs : List Task) (t : ℕ) → t < length xs → part (starts_of xs) (preds_of xs) t ≡ (get_or xs t empty_task).preds
unfolding part
part_at xs t h =
    ap (λ (n : ℕ). take (get_or (starts_from 0 xs) n 0 - get_or (starts_from 0 xs) t 0) (drop (get_or (starts_from 0 xs) t 0) (preds_of xs))) next
    ∙ (ap (λ (n : ℕ). take (get_or (starts_from 0 xs) (suc t) 0 - get_or (starts_from 0 xs) t 0) (drop n (preds_of xs)))
    (sym (sub-zero (get_or (starts_from 0 xs) t 0)))
    ∙ part-from 0 xs t h)
  where
    next : t + 1 ≡ suc t
    next = omega arith
