-- The degrees raised, from numbers of predecessors.
use Prim.Native.Nat.{ℕ, max}
use mathlib.Core.Path.{◌≡◌, sym, ap, ◌∙◌}
use mathlib.Core.List.{List}
use native.Mathlib.Omega.{arith}
use lib.ListN.{length, get_or}
use lib.Seq.{ext_get_or}
use Rattle.lists.proofs.Blocks.{length-tabulate, get_d_tabulate}
use Rattle.graph.specs.Graph.{Graph, preds_of}
use Rattle.graph.specs.Successors.{degree_list}
use Rattle.weak_rules.specs.Begin.{weak_degrees}
use Rattle.weak_roots.specs.Laying.{Raised}

pub raised-degrees : (g : Graph) (before after : List ℕ) → before ≡ degree_list g → Raised before after → after ≡ weak_degrees g
unfolding weak_degrees degree_list
raised-degrees g before after e r =
    ext_get_or 0 after (weak_degrees g) (r.kept ∙ long ∙ sym (length-tabulate g.tasks _))
    (λ t h. r.degree t (omega (arith, h, r.kept))
    ∙ ap (λ (l : List ℕ). max 1 (get_or l t 0)) e
    ∙ ap (max 1) (get_d_tabulate g.tasks (λ t. length (preds_of g t)) 0 t (omega (arith, h, r.kept, long)))
    ∙ sym (get_d_tabulate g.tasks (λ t. max 1 (length (preds_of g t))) 0 t (omega (arith, h, r.kept, long))))
  where
    long : length before ≡ g.tasks
    long = ap length e ∙ length-tabulate g.tasks _
