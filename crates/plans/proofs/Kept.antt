-- What no step changes: weights and tables, and the lengths of the lists.
use Prim.Native.Nat.{ℕ}
use mathlib.Core.Path.{◌≡◌, refl}
use mathlib.Core.Bool.{Bool, true, ◌&&◌}
use mathlib.Core.List.{List}
use Rattle.lists.proofs.Told.{and-true}
use Rattle.task.specs.declared.Limits.{Limits}
use Rattle.memory.specs.Family.{Family}
use Rattle.memory.specs.Field as list
use Rattle.memory.specs.Memory.{Mem}
use Rattle.memory.specs.Updates.{Update, written, spares}
use Rattle.memory.proofs.Fields.{written-other}
use Rattle.memory.proofs.Shape.{written-shaped}
use Rattle.plans.specs.Memory.{graph_in}
use Rattle.plans.specs.Sizes.{Lengths, Fits}

pub record SameGraph {F : Family} (m m' : Mem F) : Type 0 where
  pub weights : m'.weights ≡ m.weights
  pub pred_starts : m'.pred_starts ≡ m.pred_starts
  pub preds : m'.preds ≡ m.preds
  pub succ_starts : m'.succ_starts ≡ m.succ_starts
  pub succs : m'.succs ≡ m.succs

-- what no step changes
pub record Kept {F : Family} (m m' : Mem F) : Type 0 where
  pub graph : SameGraph m m'
  pub lengths : (p k : ℕ) → Lengths p k m → Lengths p k m'

module _ {F : Family} where
  pub same_graph : {m m' : Mem F} → SameGraph m m' → graph_in m' ≡ graph_in m
  same_graph s = rw (s.weights, s.pred_starts, s.preds)

  -- numbers that fit go on fitting where N, E and the lengths stay
  pub fits_kept : {limits : Limits} {p k : ℕ} {m m' : Mem F} → m'.weights ≡ m.weights → m'.preds ≡ m.preds → Lengths p k m'
      → Fits limits p k m → Fits limits p k m'
  fits_kept w e l f =
      record {
        limits = rw (w, e) f.limits;
        lengths = l;
      }

  pub kept-none : (m : Mem F) → Kept m m
  kept-none m =
      record { graph = record { weights = refl; pred_starts = refl; preds = refl; succ_starts = refl; succs = refl }; lengths = λ p k l. l }

  -- none of the updates is of weights or tables
  unfoldable pub spares_graph : List (Update F) → Bool
  spares_graph us =
      spares list.weights us && (spares list.pred_starts us && (spares list.preds us && (spares list.succ_starts us && spares list.succs us)))

  spared : (us : List (Update F)) (m : Mem F) → spares_graph us ≡ true → SameGraph m (written us m)
  unfolding spares_graph
  spared us m e1 =
      let (a1, e2) = and-true _ _ e1 in
      let (a2, e3) = and-true _ _ e2 in
      let (a3, e4) = and-true _ _ e3 in
      let (a4, a5) = and-true _ _ e4 in
      record {
        weights = written-other us m list.weights a1;
        pred_starts = written-other us m list.pred_starts a2;
        preds = written-other us m list.preds a3;
        succ_starts = written-other us m list.succ_starts a4;
        succs = written-other us m list.succs a5;
      }

  -- so such updates keep them
  pub kept-written : (us : List (Update F)) (m : Mem F) → spares_graph us ≡ true → Kept m (written us m)
  kept-written us m e = record { graph = spared us m e; lengths = λ p k. written-shaped p k us m }
