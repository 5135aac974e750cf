-- The plain job, in which all successors of an item fall due as it completes: its Complete, and how many steps its runs have.
use Prim.Native.Nat.{ℕ, ◌+◌, ◌*◌, ◌<◌}
use mathlib.Core.Path.{◌≡◌, refl}
use mathlib.Core.List.{List}
use native.Mathlib.Omega.{arith}
use lib.ListN.{length}
use Rattle.lists.specs.Lists.{occ_of}
use Rattle.lists.specs.Sums.{sum_of}
use Rattle.lists.proofs.Sums.{sum_of-nil, sum_of-snoc, sum_of-both}
use Rattle.system.specs.System.{Items, Reversed, State, Invariant, Completes, CompletesAll, all_due, Reached}
use Rattle.system.proofs.Counting.{weight-within, below_all}
use Rattle.system.proofs.Finished.{finished-record, finished-steps}
use Rattle.system.proofs.Rules.{reached-dues}

module _ {A : Type 0} (same : Discrete A) (G : Items A) (P : ℕ) where
  pub completes-all : {i : ℕ} {a : A} {s s' : State A} → CompletesAll same G P i a s s' → Completes same G P i a s s'
  completes-all {a = a} f = record {
    finishes = f.finishes;
    due = G.succs a;
    within = λ x. omega arith;
    old = f.old;
    pending = f.pending;
    degree = λ x. omega (arith, f.degree x);
    blocked = λ x h. omega (arith, h, f.degree x);
    steps = f.steps;
    dues = f.dues;
  }

  pub all-due : {i : ℕ} {a : A} {s s' : State A} (f : CompletesAll same G P i a s s') → (completes-all f).due ≡ G.succs a
  unfolding completes-all
  all-due f = refl

  -- the successors of all recorded items, and no others, have fallen due
  abbrev pub Plain : State A → Type 0
  Plain s = s.dues ≡ sum_of (λ u. length (G.succs u)) s.stages.done

  -- so it is in every plain run
  pub reached-plain : Reversed same G → {s : State A} → Reached same G P (all_due G) s → Plain s
  reached-plain laws =
      reached-dues same G P laws (all_due G) (sum_of (λ u. length (G.succs u))) (sum_of-nil (λ u. length (G.succs u)))
      (λ done a wanted fresh. omega (arith, sum_of-snoc (λ u. length (G.succs u)) done a))

  -- three steps for each item and one for each of its successors; an unfinished run has made fewer
  module _ (all : List A) (each : (a : A) → occ_of same a all ≡ G.want a) {s : State A} (v : Invariant same G P s) (plain : Plain s) where
    pub plain-steps : length s.stages.done ≡ length all → s.steps ≡ 3 * length all + sum_of (λ u. length (G.succs u)) all
    plain-steps full =
        omega (
          arith,
          plain,
          finished-steps same G P all each v full,
          sum_of-both same (λ u. length (G.succs u)) s.stages.done all (λ a. omega (arith, finished-record same G P all each v full a, each a)),
        )

    pub plain-below : length s.stages.done < length all → s.steps < 3 * length all + sum_of (λ u. length (G.succs u)) all
    plain-below short =
        below_all same G P all each v short (sum_of (λ u. length (G.succs u)) all)
        (omega (arith, plain, weight-within same G P all each (λ u. length (G.succs u)) v))
