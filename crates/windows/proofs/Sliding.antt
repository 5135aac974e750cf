-- The sums of a window as entries enter and leave them, over plain lists.
use Prim.Native.Nat.{ℕ, suc, ◌+◌, ◌-◌, ◌*◌, ◌≤◌, ◌<◌}
use mathlib.Core.Path.{◌≡◌, refl, sym, ap, ◌∙◌}
use mathlib.Core.List.{List}
use native.Mathlib.Omega.{arith}
use native.Mathlib.Nat.{zero-add}
use native.Mathlib.Numerals.{add-one}
use lib.ListN.{length, get_or, set}
use Rattle.lists.specs.Lists.{tabulate}
use Rattle.lists.proofs.Blocks.{length-tabulate, get_d_tabulate}
use Rattle.lists.proofs.Squares.{tabulate-put}
use Rattle.loads.specs.Windows.{task_at, worker_at, weight_at, added_by, load_in, window_sums, Recorded, Spans}
use Rattle.loads.proofs.Windows.{sums-size}
use Rattle.loads.proofs.Sums.{load-slides, load-more, added-own, added-other, load-most, load-first}

-- an entry's task t and worker i, as they were read
module _ (weights executed sums : List ℕ) (x : ℕ) {t i : ℕ} (e : (t ≡ task_at executed x) × (i ≡ worker_at executed x)) where
  pub entering : get_or sums (worker_at executed x) 0 + weight_at weights executed x < 4294967296 → get_or sums i 0 + get_or weights t 0 < 4294967296
  entering h = rw (e.0, e.1) h

  pub entered : set sums i (get_or sums i 0 + get_or weights t 0)
      ≡ set sums (worker_at executed x) (get_or sums (worker_at executed x) 0 + weight_at weights executed x)
  entered = rw (e.0, e.1)

  pub leaving : weight_at weights executed x ≤ get_or sums (worker_at executed x) 0 → get_or weights t 0 ≤ get_or sums i 0
  leaving h = rw (e.0, e.1) h

  pub left : set sums i (get_or sums i 0 - get_or weights t 0)
      ≡ set sums (worker_at executed x) (get_or sums (worker_at executed x) 0 - weight_at weights executed x)
  left = rw (e.0, e.1)

-- The sums of a window, one entry entering or leaving.
module _ (p : ℕ) (weights executed : List ℕ) where
  abbrev load : ℕ → ℕ → ℕ → ℕ
  load = load_in weights executed

  pub sums-length : (m w : ℕ) (s : List ℕ) → s ≡ window_sums p weights executed m w → length s ≡ p
  sums-length m w s e = ap length e ∙ sums-size p weights executed m w

  sums_at : (m w : ℕ) (s : List ℕ) → s ≡ window_sums p weights executed m w → (i : ℕ) → i < p → get_or s i 0 ≡ load m w i
  unfolding window_sums
  sums_at m w s e i h = ap (λ (l : List ℕ). get_or l i 0) e ∙ get_d_tabulate p (load m w) 0 i h

  -- the first window, x of its m entries in
  module _ (m x : ℕ) (s : List ℕ) (e : s ≡ window_sums p weights executed x 0) (more : x < m) (spans : Spans p weights executed m m) where
    early : (y : ℕ) → y < m → Recorded p weights executed y
    early = spans.recorded

    abbrev mine : ℕ
    mine = worker_at executed x

    pub first-asks : (2 * x + 1 < length executed) × Recorded (length s) weights executed x
        × (get_or s mine 0 + weight_at weights executed x < 4294967296)
    first-asks = (
      omega (arith, more, spans.inside),
      rw (sums-length x 0 s e) (early x more),
      omega (
        arith,
        spans.few_entries,
        more,
        sums_at x 0 s e mine (early x more).worker,
        load-most weights executed x 0 mine light,
        (early x more).light,
      ),
    )
      where
        light : (k : ℕ) → k < x → weight_at weights executed (0 + k) ≤ 65535
        light k l = rw (zero-add k) (early k (omega (arith, l, more))).light

    first-enters : set s mine (get_or s mine 0 + weight_at weights executed x) ≡ window_sums p weights executed (x + 1) 0
    unfolding window_sums
    first-enters =
        rw (add-one x)
        (rw (sums_at x 0 s e mine (early x more).worker, e)
        (sym (tabulate-put p (load x 0) (load (suc x) 0) mine (early x more).worker (λ h l n. other h n)
        ∙ ap (set (tabulate p (load x 0)) mine) own)))
      where
        place : 0 + x ≡ x
        place = zero-add x

        own : load (suc x) 0 mine ≡ load x 0 mine + weight_at weights executed x
        own =
            omega (arith, load-more weights executed x 0 mine, ap (added_by weights executed mine) place, added-own weights executed mine x refl)

        other : (h : ℕ) → ¬ (h ≡ mine) → load (suc x) 0 h ≡ load x 0 h
        other h n =
            omega (arith, load-more weights executed x 0 h, ap (added_by weights executed h) place, added-other weights executed h x (λ q. n (sym q)))

    pub first-in : (new : List ℕ) → new ≡ set s mine (get_or s mine 0 + weight_at weights executed x) → new ≡ window_sums p weights executed (x + 1) 0
    first-in new e = e ∙ first-enters

  pub all_in : {x m : ℕ} {s : List ℕ} → s ≡ window_sums p weights executed x 0 → x ≡ m → s ≡ window_sums p weights executed m 0
  all_in e h = rw (← h) e

  -- window w, whose first entry leaves, and then the entry behind it enters
  module _ (m w : ℕ) (spans : Spans p weights executed (w + m + 1) m) where
    near : (y : ℕ) → y ≤ w + m → Recorded p weights executed y
    near y h = spans.recorded y (omega (arith, h))

    one : 1 ≤ m
    one = spans.some_entries

    inside : 2 * (w + m) + 1 < length executed
    inside = omega (arith, spans.inside)

    abbrev rest : ℕ → ℕ
    rest i = load m w i - added_by weights executed i w

    module _ (s : List ℕ) (e : s ≡ window_sums p weights executed m w) where
      abbrev out : ℕ
      out = worker_at executed w

      out-there : out < p
      out-there = (near w (omega arith)).worker

      out-load : get_or s out 0 ≡ load m w out
      out-load = sums_at m w s e out out-there

      pub leave-asks : (2 * w + 1 < length executed) × Recorded (length s) weights executed w × (weight_at weights executed w ≤ get_or s out 0)
      leave-asks = (
        omega (arith, inside),
        rw (sums-length m w s e) (near w (omega arith)),
        omega (arith, out-load, load-first weights executed m w out one, added-own weights executed out w refl),
      )

      left-sums : set s out (get_or s out 0 - weight_at weights executed w) ≡ tabulate p rest
      unfolding window_sums
      left-sums =
          rw (out-load, e) (sym (tabulate-put p (load m w) rest out out-there (λ h l n. other h n) ∙ ap (set (tabulate p (load m w)) out) own))
        where
          own : rest out ≡ load m w out - weight_at weights executed w
          own = ap (λ (x : ℕ). load m w out - x) (added-own weights executed out w refl)

          other : (h : ℕ) → ¬ (h ≡ out) → rest h ≡ load m w h
          other h n = omega (arith, added-other weights executed h w (λ q. n (sym q)))

      pub leaves : (new : List ℕ) → new ≡ set s out (get_or s out 0 - weight_at weights executed w) → new ≡ tabulate p rest
      leaves new e = e ∙ left-sums

    module _ (s : List ℕ) (e : s ≡ tabulate p rest) where
      abbrev into : ℕ
      into = worker_at executed (w + m)

      into-there : into < p
      into-there = (near (w + m) (omega arith)).worker

      into-load : get_or s into 0 ≡ rest into
      into-load = ap (λ (l : List ℕ). get_or l into 0) e ∙ get_d_tabulate p rest 0 into into-there

      pub enter-asks : (2 * (w + m) + 1 < length executed) × Recorded (length s) weights executed (w + m)
          × (get_or s into 0 + weight_at weights executed (w + m) < 4294967296)
      enter-asks = (
        inside,
        rw (ap length e ∙ length-tabulate p rest) (near (w + m) (omega arith)),
        omega (
          arith,
          spans.few_entries,
          into-load,
          load-most weights executed m w into (λ k l. (near (w + k) (omega (arith, l))).light),
          (near (w + m) (omega arith)).light,
        ),
      )

      slid-sums : set s into (get_or s into 0 + weight_at weights executed (w + m)) ≡ window_sums p weights executed m (w + 1)
      unfolding window_sums
      slid-sums =
          rw (into-load, e) (sym (tabulate-put p rest (load m (w + 1)) into into-there (λ h l n. other h n) ∙ ap (set (tabulate p rest) into) own))
        where
          within : (h : ℕ) → added_by weights executed h w ≤ load m w h
          within h = load-first weights executed m w h one

          own : load m (w + 1) into ≡ rest into + weight_at weights executed (w + m)
          own = omega (arith, load-slides weights executed m w into, within into, added-own weights executed into (w + m) refl)

          other : (h : ℕ) → ¬ (h ≡ into) → load m (w + 1) h ≡ rest h
          other h n = omega (arith, load-slides weights executed m w h, within h, added-other weights executed h (w + m) (λ q. n (sym q)))

      pub slides : (new : List ℕ) → new ≡ set s into (get_or s into 0 + weight_at weights executed (w + m))
          → new ≡ window_sums p weights executed m (w + 1)
      slides new e = e ∙ slid-sums
