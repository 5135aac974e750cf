-- A window's sums: how they slide, what they add up to, and how large they are.
use Prim.Native.Nat.{ℕ, zero, suc, ◌+◌, ◌*◌, ◌≤◌, ◌<◌}
use mathlib.Core.Path.{◌≡◌, refl, sym, ap}
use mathlib.Core.List.{List}
use native.Mathlib.Omega.{arith}
use native.Mathlib.Nat.{add-zero, zero-add}
use lib.Dec.{eqb}
use borrow.Author.Tests.{eq-eqb, ne_eqb}
use Rattle.lists.specs.Sums.{sum_to}
use Rattle.lists.proofs.Told.{Told, told-true, told-false, same-told}
use Rattle.lists.proofs.Sums.{sum-suc, sum_same, sum-zero, sum-at, sum-most, sum-prefix}
use Rattle.loads.specs.Windows.{worker_at, weight_at, added_by, load_in, finished_by}

-- m neighbouring places, and the m from the next one on
sum-slides : (f : ℕ → ℕ) (m w : ℕ) → sum_to m (λ k. f (w + 1 + k)) + f w ≡ sum_to m (λ k. f (w + k)) + f (w + m)
unfolding sum_to
sum-slides f zero w = omega (arith, ap f (add-zero w))
sum-slides f (suc m) w = omega (arith, sum-slides f m w, ap f next)
  where
    next : w + 1 + m ≡ w + suc m
    next = omega arith

module _ (weights executed : List ℕ) where
  -- from one window to the next one entry leaves and one enters
  pub load-slides : (m w i : ℕ)
      → load_in weights executed m (w + 1) i + added_by weights executed i w ≡ load_in weights executed m w i + added_by weights executed i (w + m)
  unfolding load_in
  load-slides m w i = sum-slides (added_by weights executed i) m w

  -- no entries, and one more
  pub load-none : (w i : ℕ) → load_in weights executed 0 w i ≡ 0
  unfolding load_in sum_to
  load-none w i = refl

  pub load-more : (m w i : ℕ) → load_in weights executed (suc m) w i ≡ load_in weights executed m w i + added_by weights executed i (w + m)
  unfolding load_in
  load-more m w i = sum-suc m (λ k. added_by weights executed i (w + k))

  pub added-own : (i x : ℕ) → worker_at executed x ≡ i → added_by weights executed i x ≡ weight_at weights executed x
  unfolding added_by
  added-own i x e = rw (eq-eqb (worker_at executed x) i e)

  pub added-other : (i x : ℕ) → ¬ (worker_at executed x ≡ i) → added_by weights executed i x ≡ 0
  unfolding added_by
  added-other i x n = rw (ne_eqb (worker_at executed x) i n)

  -- an entry adds at most its weight
  added-most : (i x : ℕ) → added_by weights executed i x ≤ weight_at weights executed x
  added-most i x = go (same-told (worker_at executed x) i)
    where
      go : Told (eqb (worker_at executed x) i) (worker_at executed x ≡ i) (¬ (worker_at executed x ≡ i))
          → added_by weights executed i x ≤ weight_at weights executed x
      go (told-true t e) = omega (arith, added-own i x e)
      go (told-false t n) = omega (arith, added-other i x n)

  -- a window of m light entries
  pub load-most : (m w i : ℕ) → ((k : ℕ) → k < m → weight_at weights executed (w + k) ≤ 65535) → load_in weights executed m w i ≤ m * 65535
  unfolding load_in
  load-most m w i h = sum-most m (λ k. added_by weights executed i (w + k)) 65535 (λ k l. omega (arith, h k l, added-most i (w + k)))

  -- the entry that leaves is in the sum
  pub load-first : (m w i : ℕ) → 1 ≤ m → added_by weights executed i w ≤ load_in weights executed m w i
  unfolding load_in
  load-first m w i h =
      omega (arith, sum-prefix m (λ k. added_by weights executed i (w + k)) 0 (omega (arith, h)), ap (added_by weights executed i) (add-zero w))

  -- the first window of all entries
  pub load-whole : (entries i : ℕ) → load_in weights executed entries 0 i ≡ finished_by weights executed entries i
  unfolding load_in finished_by
  load-whole entries i =
      sum_same entries (added_by weights executed i) (λ k. added_by weights executed i (0 + k)) (λ k h. ap (added_by weights executed i) (zero-add k))

  -- a window's P sums add up to its m weights
  pub window-adds : (p m w : ℕ) → ((k : ℕ) → k < m → worker_at executed (w + k) < p)
      → sum_to p (load_in weights executed m w) ≡ sum_to m (λ k. weight_at weights executed (w + k))
  unfolding sum_to
  window-adds p zero w h = sum-zero p (load_in weights executed 0 w) (λ i l. load-none w i)
  window-adds p (suc m) w h =
      omega (
        arith,
        window-adds p m w (λ k l. h k (omega arith)),
        sum-at p (load_in weights executed m w) (load_in weights executed (suc m) w) (worker_at executed (w + m)) (h m (omega arith))
            (λ j n. omega (arith, load-more m w j, added-other j (w + m) (λ e. n (sym e)))),
        load-more m w (worker_at executed (w + m)),
        added-own (worker_at executed (w + m)) (w + m) refl,
      )
