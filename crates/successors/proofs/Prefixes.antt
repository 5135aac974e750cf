-- Laws of lists that are filled from the front by a function of the place.
use Prim.Native.Nat.{ℕ, ◌+◌, ◌-◌, ◌≤◌, ◌<◌}
use mathlib.Core.Path.{◌≡◌, refl, ◌∙◌}
use mathlib.Core.List.{List}
use native.Mathlib.Omega.{arith}
use native.Mathlib.Decide.{ℕ_discrete}
use native.Mathlib.Numerals.{add-one}
use lib.ListN.{length, get_or, set, length-set}
use lib.Seq.{get_or-set_same, get_or-set_other}
use Rattle.lists.specs.Lists.{tabulate}
use Rattle.lists.specs.Sums.{sum_to}
use Rattle.lists.proofs.Blocks.{is-tabulate}
use Rattle.lists.proofs.Sums.{sum-suc, sum-prefix}
use Rattle.successors.specs.Filling.{gaps, sum_below, Summed}

-- the places below t hold what f says
pub record Prefix (t : ℕ) (f : ℕ → ℕ) (l : List ℕ) : Type 0 where
  pub inside : t ≤ length l
  pub below : (v : ℕ) → v < t → get_or l v 0 ≡ f v

prefix-none : (f : ℕ → ℕ) (l : List ℕ) → Prefix 0 f l
prefix-none f l = record { inside = omega arith; below = λ v h. absurd (omega arith) }

prefix-more : (t : ℕ) (f : ℕ → ℕ) (l : List ℕ) (x : ℕ) → Prefix t f l → t < length l → x ≡ f t → Prefix (t + 1) f (set l t x)
prefix-more t f l x p h e = record { inside = omega (arith, length-set l t x); below = λ v m. go v m (ℕ_discrete v t) }
  where
    go : (v : ℕ) → v < t + 1 → Dec (v ≡ t) → get_or (set l t x) v 0 ≡ f v
    go v m (yes q) = rw q (get_or-set_same l t x 0 h ∙ e)
    go v m (no q) = get_or-set_other l t v x 0 q ∙ p.below v (omega arith)

prefix-whole : (n t : ℕ) (f : ℕ → ℕ) (l : List ℕ) → Prefix t f l → n ≤ t → length l ≡ n → l ≡ tabulate n f
prefix-whole n t f l p h e = is-tabulate n f 0 l e (λ i m. p.below i (omega arith))

-- the degrees
abbrev pub gap : List ℕ → ℕ → ℕ
gap starts t = get_or starts (t + 1) 0 - get_or starts t 0

-- the degrees below t are laid down
pub record Spacing (n : ℕ) (starts degrees : List ℕ) (t : ℕ) : Type 0 where
  pub upto : t ≤ n
  pub whole : length degrees ≡ n
  pub laid : Prefix t (gap starts) degrees

module _ (n : ℕ) (starts degrees : List ℕ) (t : ℕ) (s : Spacing n starts degrees t) where
  pub spacing-whole : n ≤ t → degrees ≡ gaps n starts
  unfolding gaps
  spacing-whole h = prefix-whole n t (gap starts) degrees s.laid h s.whole

-- the sums of the counts below u are laid down, and the later counts stand
pub record Summing (n : ℕ) (counts₀ counts starts : List ℕ) (sum u : ℕ) : Type 0 where
  pub upto : u ≤ n
  pub so_far : sum ≡ sum_below counts₀ u
  pub places : Prefix u (sum_below counts₀) counts
  pub laid : Prefix u (sum_below counts₀) starts
  pub left : (v : ℕ) → u ≤ v → get_or counts v 0 ≡ get_or counts₀ v 0
  pub kept : length counts ≡ length counts₀
  pub whole : length starts ≡ n + 1

sum_step : (counts : List ℕ) (u : ℕ) → sum_below counts (u + 1) ≡ sum_below counts u + get_or counts u 0
unfolding sum_below
sum_step counts u = rw add-one (sum-suc u (λ v. get_or counts v 0))

sum-none : (counts : List ℕ) → 0 ≡ sum_below counts 0
unfolding sum_below sum_to
sum-none counts = refl

pub summing-none : (n : ℕ) (counts starts : List ℕ) → length starts ≡ n + 1 → Summing n counts counts starts 0 0
summing-none n counts starts e =
    record {
      upto = omega arith;
      so_far = sum-none counts;
      places = prefix-none (sum_below counts) counts;
      laid = prefix-none (sum_below counts) starts;
      left = λ v h. refl;
      kept = refl;
      whole = e;
    }

module _ (n : ℕ) (counts₀ counts starts : List ℕ) (sum u : ℕ) (s : Summing n counts₀ counts starts sum u) where
  -- a sum up to a task is at most the whole sum
  pub sum_fits : u < n → sum + get_or counts u 0 ≤ sum_below counts₀ n
  unfolding sum_below
  sum_fits h = omega (arith, s.so_far, s.left u (omega arith), sum-prefix n (λ v. get_or counts₀ v 0) u h)

  pub summing-more : u < n → n ≤ length counts₀ → Summing n counts₀ (set counts u sum) (set starts u sum) (sum + get_or counts u 0) (u + 1)
  summing-more h m =
      record {
        upto = omega arith;
        so_far = omega (arith, s.so_far, s.left u (omega arith), sum_step counts₀ u);
        places = prefix-more u (sum_below counts₀) counts sum s.places (omega (arith, s.kept)) s.so_far;
        laid = prefix-more u (sum_below counts₀) starts sum s.laid (omega (arith, s.whole)) s.so_far;
        left = λ v k. get_or-set_other counts u v sum 0 (λ q. omega arith) ∙ s.left v (omega arith);
        kept = length-set counts u sum ∙ s.kept;
        whole = length-set starts u sum ∙ s.whole;
      }

  pub summing-whole : n ≤ u → Summed n counts₀ counts (set starts n sum)
  summing-whole h =
      record {
        kept = s.kept;
        places = λ v m. s.places.below v (omega arith);
        sums = all (omega (arith, s.upto));
      }
    where
      all : u ≡ n → set starts n sum ≡ tabulate (n + 1) (sum_below counts₀)
      all e = rw (← e) (prefix-whole (u + 1) (u + 1) (sum_below counts₀) (set starts u sum) (prefix-more u (sum_below counts₀) starts sum s.laid (omega (arith, s.whole)) s.so_far) (omega arith) (omega (arith, length-set starts u sum, s.whole)))
