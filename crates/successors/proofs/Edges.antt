-- A sound graph's edges, counted by predecessor and by task, and its successors laid down task by task.
use Prim.Native.Nat.{ℕ, ◌+◌, ◌≤◌, ◌<◌}
use mathlib.Core.Path.{◌≡◌, refl, sym, ap, ◌∙◌}
use mathlib.Core.List.{List, [], ◌++◌}
use native.Mathlib.Omega.{arith}
use native.Mathlib.Numerals.{add-one}
use lib.ListN.{length, get_or, replicate}
use Rattle.lists.specs.Lists.{occ, joined}
use Rattle.lists.specs.Sums.{sum_to}
use Rattle.lists.proofs.Sums.{sum_same, sum-prefix, length-joined}
use Rattle.lists.proofs.Blocks.{tabulate-same}
use Rattle.graph.specs.Graph.{Graph, preds_of}
use Rattle.graph.specs.Conditions.{Sound}
use Rattle.graph.specs.Successors.{succs_below, succs_of, succ_start, succ_starts_of, succ_words, degree_list}
use Rattle.graph.proofs.Parts.{length_part}
use Rattle.graph.proofs.Reversed.{length-succs_below, length-succs, length-succ_words}
use Rattle.successors.specs.Filling.{gaps, sum_below, Summed, placed_of, place_all, Room, Begun}
use Rattle.successors.proofs.Places.{Filled, filled-same, filled-room, filled-all, filled-whole}

module _ (g : Graph) where
  succs-more : (t u : ℕ) → succs_below g (t + 1) u ≡ succs_below g t u ++ replicate (occ u (preds_of g t)) t
  unfolding succs_below joined
  succs-more t u = rw (add-one t)

  succs-none : (u : ℕ) → succs_below g 0 u ≡ []
  unfolding succs_below joined
  succs-none u = refl

  abbrev pub succ_count : ℕ → ℕ
  succ_count u = length (succs_of g u)

  start_is : (u : ℕ) → succ_start g u ≡ sum_to u succ_count
  unfolding succ_start
  start_is u = refl

  words_are : joined g.tasks (succs_of g) ≡ succ_words g
  unfolding succ_words
  words_are = refl

  module _ (s : Sound g) where
    edges-sum : length g.preds ≡ sum_to g.tasks succ_count
    unfolding succ_words
    edges-sum = sym (length-succ_words g s) ∙ length-joined g.tasks (succs_of g)

    succs-room : (t : ℕ) → t < g.tasks → (u : ℕ) → length (succs_below g t u) + occ u (preds_of g t) ≤ succ_count u
    succs-room t h u = omega (arith, length-succs_below g t u, length-succs_below g g.tasks u, sum-prefix g.tasks (λ k. occ u (preds_of g k)) t h)

-- the successors below t are laid down
pub record Laying (g : Graph) (next₀ succs₀ next succs : List ℕ) (t : ℕ) : Type 0 where
  pub upto : t ≤ g.tasks
  pub filled : Filled g.tasks (succ_count g) (succs_below g t) (placed_of next succs)
  pub kept_next : length next ≡ length next₀
  pub kept-succs : length succs ≡ length succs₀

module _ (g : Graph) (next₀ succs₀ : List ℕ) (b : Begun g next₀ succs₀) where
  pub laying-none : Laying g next₀ succs₀ next₀ succs₀ 0
  laying-none =
      record {
        upto = omega arith;
        filled = record {
          inside = b.inside;
          whole = b.whole ∙ edges-sum g b.sound;
          fits = λ u h. rw (succs-none g u) (omega arith);
          free = λ u h. rw (succs-none g u) (omega (arith, b.places u h, start_is g u));
          laid = λ u h. rw (succs-none g u);
        };
        kept_next = refl;
        kept-succs = refl;
      }

  module _ (next succs : List ℕ) (t : ℕ) (l : Laying g next₀ succs₀ next succs t) where
    pub laying-room : t < g.tasks → Room (preds_of g t) next succs
    laying-room h =
        filled-room g.tasks (succ_count g) (succs_below g t) (placed_of next succs) (preds_of g t) l.filled (b.sound.good t h).below (λ u m. succs-room g b.sound t h u)

    pub laying-more : t < g.tasks → (next' succs' : List ℕ) → placed_of next' succs' ≡ place_all t (preds_of g t) (placed_of next succs) → length next' ≡ length next → length succs' ≡ length succs
        → Laying g next₀ succs₀ next' succs' (t + 1)
    laying-more h next' succs' e m k =
        record {
          upto = omega arith;
          filled = filled-same g.tasks (succ_count g) (λ u. succs_below g t u ++ replicate (occ u (preds_of g t)) t) (succs_below g (t + 1)) (placed_of next' succs') (succs-more g t)
              (rw e (filled-all g.tasks (succ_count g) t (preds_of g t) (succs_below g t) (placed_of next succs) l.filled (b.sound.good t h).below (λ u m. succs-room g b.sound t h u)));
          kept_next = m ∙ l.kept_next;
          kept-succs = k ∙ l.kept-succs;
        }

    pub laying-whole : g.tasks ≤ t → succs ≡ succ_words g
    laying-whole h =
        filled-whole g.tasks (succ_count g) (succs_below g t) (placed_of next succs) l.filled (λ u m. ap (λ (k : ℕ). length (succs_below g k u)) (at l.upto))
        ∙ ap (λ (k : ℕ). joined g.tasks (succs_below g k)) (at l.upto) ∙ words_are g
      where
        at : t ≤ g.tasks → t ≡ g.tasks
        at m = omega arith

-- what the filling's steps hand on, in a sound graph, from the counts of the predecessors
module _ (g : Graph) (s : Sound g) where
  pub gaps-degrees : (degrees : List ℕ) → degrees ≡ gaps g.tasks g.starts → degrees ≡ degree_list g
  unfolding gaps degree_list
  gaps-degrees degrees e = e ∙ tabulate-same g.tasks _ _ (λ t h. sym (length_part (s.good t h)))

  module _ (counts : List ℕ) (counted : (u : ℕ) → get_or counts u 0 ≡ occ u g.preds) where
    sums-start : (u : ℕ) → sum_below counts u ≡ succ_start g u
    unfolding sum_below succ_start
    sums-start u = sum_same u (succ_count g) (λ v. get_or counts v 0) (λ v h. counted v ∙ sym (length-succs g s v))

    pub sums-fit : sum_below counts g.tasks ≤ 8192
    sums-fit = omega (arith, sums-start g.tasks, start_is g g.tasks, edges-sum g s, s.sized.edges)

    module _ (next starts : List ℕ) (m : Summed g.tasks counts next starts) where
      pub summed-begun : (succs : List ℕ) → g.tasks ≤ length next → length succs ≡ length g.preds → Begun g next succs
      summed-begun succs h e = record { sound = s; inside = h; places = λ u k. m.places u k ∙ sums-start u; whole = e }

      pub summed-starts : starts ≡ succ_starts_of g
      unfolding succ_starts_of
      summed-starts = m.sums ∙ tabulate-same (g.tasks + 1) (sum_below counts) (succ_start g) (λ u h. sums-start u)
