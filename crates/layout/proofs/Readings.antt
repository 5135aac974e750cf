-- The text is accepted with a graph exactly if it spells that graph within the limits; a refused one leaves the lists.
use Prim.Native.Nat.{ℕ, suc, ◌+◌, ◌-◌, ◌≤◌, ◌<◌}
use mathlib.Core.Path.{◌≡◌, refl, sym, ap, subst, ◌∙◌}
use mathlib.Core.Logic.{◌↔◌}
use mathlib.Core.List.{List}
use native.Mathlib.Omega.{arith}
use lib.ListN.{length, get_or, drop, length-append, length-drop, get_or-append}
use lib.Seq.{get_or-append-add, get_or-drop, ext_get_or}
use Rattle.std.specs.Prelude.{Err, Ok}
use Rattle.task.specs.declared.refusal.Refusal.{Refusal}
use Rattle.lists.proofs.Apart.{unequal}
use Rattle.task.specs.Refusals.{refused, graph_read, read_says, ReadAnswer}
use Rattle.task.specs.Rows.{Acceptance}
use Rattle.layout.specs.Tasks.{Tables, tables}
use Rattle.layout.specs.Layout.{Spells}
use Rattle.layout.specs.Reader.{broken, over, verdict, Read, read_as, onto, read_text}
use Rattle.layout.specs.Tables.{LentWrong, Lent, Within, Written, Accepts, Leaves}
use Rattle.layout.proofs.Tables.{weights-length, starts-length}
use Rattle.layout.proofs.Answers.{Answered, wrong-length, too_long, as-judged, answered, lent-right, lent-judged, laid-broken, laid-over}
use Rattle.layout.proofs.Accepted.{ReadAs, read-spelled, read-accepted}
use Rattle.layout.proofs.Refusals.{refused-same}

-- what an answer says, back to the answer
said_read : (a : ReadAnswer) (n e : ℕ) → read_says a ≡ graph_read n e → a ≡ Ok (n, e)
said_read (Err why) n e q = unequal cc
said_read (Ok (m, d)) n e q = cc

said-refused : (a : ReadAnswer) (n d : ℕ) → read_says a ≡ refused n d → (why : Refusal) × (a ≡ Err why)
said-refused (Err why) n d q = (why, refl)
said-refused (Ok (m, e)) n d q = unequal cc

-- words onto a list
module _ (words old : List ℕ) where
  onto-written : length words ≤ length old → Written words old (onto words old)
  onto-written h = record {
    size = omega (arith, length-append words (drop (length words) old), length-drop (length words) old);
    front = λ i l. get_or-append words (drop (length words) old) 0 i l;
    rest = λ i l. behind i l;
  }
    where
      behind : (i : ℕ) → length words ≤ i → get_or (onto words old) i 0 ≡ get_or old i 0
      behind i l =
          subst (λ (k : ℕ). get_or (onto words old) k 0 ≡ get_or old k 0) there
          (get_or-append-add words (drop (length words) old) (i - length words) 0 ∙ get_or-drop (length words) old (i - length words) 0)
        where
          there : length words + (i - length words) ≡ i
          there = omega (arith, l)

-- two lists of words written alike are the same
written_same : (a b old new : List ℕ) → length a ≡ length b → Written a old new → Written b old new → a ≡ b
written_same a b old new e h k = ext_get_or 0 a b e (λ i l. sym (h.front i l) ∙ k.front i (omega (arith, e)))

graph_same : (g h : Tables) → g.weights ≡ h.weights → g.starts ≡ h.starts → g.preds ≡ h.preds → g ≡ h
graph_same g h a b c =
    ap (λ (w : List ℕ). tables w g.starts g.preds) a
    ∙ (ap (λ (s : List ℕ). tables h.weights s g.preds) b ∙ ap (tables h.weights h.starts) c)

module _ (text w s p : List ℕ) (g : Tables) where
  -- the tables' own lengths leave room in the lists
  spelled-starts : Spells text g → length g.starts ≡ suc (length g.weights)
  spelled-starts sp = rw sp.tables (starts-length 0 sp.tasks ∙ ap suc (sym (weights-length sp.tasks)))

  accepts : Lent text w s p → Spells text g → Within g → ReadAs text w s p g → Accepts text w s p g
  accepts l sp m r = record {
    says = ap (λ (x : Read). read_says x.answer) r;
    starts-count = spelled-starts sp;
    weights = subst (Written g.weights w) (sym (ap (λ (x : Read). x.weights) r)) (onto-written g.weights w (omega (arith, l.weights, m.0)));
    starts =
        subst (Written g.starts s) (sym (ap (λ (x : Read). x.starts) r))
        (onto-written g.starts s (omega (arith, l.starts, m.0, spelled-starts sp)));
    preds = subst (Written g.preds p) (sym (ap (λ (x : Read). x.preds) r)) (onto-written g.preds p (omega (arith, l.preds, m.1)));
  }

accepted : (text w s p : List ℕ) (g : Tables) → Accepts text w s p g → Lent text w s p × Spells text g × Within g
accepted text w s p g a = go (read-accepted text w s p _ _ (said_read (read_text text w s p).answer (length g.weights) (length g.preds) a.says))
  where
    go : (h : Tables) × Lent text w s p × Spells text h × Within h × ReadAs text w s p h → Lent text w s p × Spells text g × Within g
    go (h, l, sp, m, r) = (l, subst (Spells text) (sym same) sp, subst Within (sym same) m)
      where
        b : Accepts text w s p h
        b = accepts text w s p h l sp m r

        counts : graph_read (length g.weights) (length g.preds) ≡ graph_read (length h.weights) (length h.preds)
        counts = sym a.says ∙ b.says

        tasks : length g.weights ≡ length h.weights
        tasks = cc

        edges : length g.preds ≡ length h.preds
        edges = cc

        same : g ≡ h
        same =
            graph_same g h (written_same g.weights h.weights w _ tasks a.weights b.weights)
            (written_same g.starts h.starts s _ (a.starts-count ∙ (ap suc tasks ∙ sym b.starts-count)) a.starts b.starts)
            (written_same g.preds h.preds p _ edges a.preds b.preds)

-- accepted with g exactly if the text spells g and the limits hold
pub accepted-iff : (text w s p : List ℕ) (g : Tables) → Accepts text w s p g ↔ (Lent text w s p × Spells text g × Within g)
accepted-iff text w s p g = (accepted text w s p g, λ h. accepts text w s p g h.0 h.1 h.2 (read-spelled text w s p g h.0 h.1 h.2))

-- accepted at all exactly if accepted with a graph
pub acceptance-iff : (text w s p : List ℕ) → Acceptance (read_says (read_text text w s p).answer) ↔ ((g : Tables) × Accepts text w s p g)
acceptance-iff text w s p = (forth (read_text text w s p).answer refl, λ h. subst Acceptance (sym h.1.says) tt)
  where
    found : (g : Tables) × Lent text w s p × Spells text g × Within g × ReadAs text w s p g → (g : Tables) × Accepts text w s p g
    found (g, l, sp, m, r) = (g, accepts text w s p g l sp m r)

    forth : (a : ReadAnswer) → (read_text text w s p).answer ≡ a → Acceptance (read_says a) → (g : Tables) × Accepts text w s p g
    forth (Err why) e h = absurd h
    forth (Ok (n, d)) e h = found (read-accepted text w s p n d e)

-- a refused text leaves the lists
pub refused-leaves : (text w s p : List ℕ) (n d : ℕ) → read_says (read_text text w s p).answer ≡ refused n d → Leaves text w s p
refused-leaves text w s p n d e =
    let (why, a) = said-refused (read_text text w s p).answer n d e in
    let q : read_text text w s p ≡ read_as (Err why) w s p = refused-same text w s p why a in
    record { weights = ap (λ (x : Read). x.weights) q; starts = ap (λ (x : Read). x.starts) q; preds = ap (λ (x : Read). x.preds) q }

-- What the reader says, by its tests and the verdict.

module _ (text w s p : List ℕ) where
  pub says-wrong : LentWrong w s p → read_says (read_text text w s p).answer ≡ refused 1 0
  says-wrong h = go (answered text w s p)
    where
      go : Answered text w s p → read_says (read_text text w s p).answer ≡ refused 1 0
      go (wrong-length n e) = ap (λ (x : Read). read_says x.answer) e
      go (too_long n l e) = absurd (n h)
      go (as-judged l e) = absurd (lent-right text w s p l h)

  pub says-long : ¬ (LentWrong w s p) → 65536 < length text → read_says (read_text text w s p).answer ≡ refused 2 0
  says-long n l = go (answered text w s p)
    where
      go : Answered text w s p → read_says (read_text text w s p).answer ≡ refused 2 0
      go (wrong-length h e) = absurd (n h)
      go (too_long m k e) = ap (λ (x : Read). read_says x.answer) e
      go (as-judged k e) = absurd (omega (arith, l, k.short))

  pub says-broken : (l : ℕ) → Lent text w s p → verdict text ≡ broken l → read_says (read_text text w s p).answer ≡ refused 13 l
  says-broken l k q = ap (λ (x : Read). read_says x.answer) (lent-judged text w s p k q ∙ laid-broken w s p l)

  pub says-over : Lent text w s p → verdict text ≡ over → read_says (read_text text w s p).answer ≡ refused 2 0
  says-over k q = ap (λ (x : Read). read_says x.answer) (lent-judged text w s p k q ∙ laid-over w s p)
