-- The laws of the lent lists by name: a list that is put is got, another list stays, and what follows for updates of any kind.
use Prim.Native.Nat.{ℕ, ◌+◌, ◌*◌, ◌<◌}
use mathlib.Core.Path.{◌≡◌, refl, sym, ap, ◌∙◌}
use mathlib.Core.Bool.{true, not}
use mathlib.Core.List.{List, [], ◌∷◌, ◌++◌}
use native.Mathlib.Omega.{arith}
use native.Mathlib.Decide.{ℕ_discrete, dec_lt}
use borrow.Author.Tests.{eqb-false, not-true}
use lib.Dec.{eqb}
use lib.ListN.{get_or, set, length, length-set}
use lib.Seq.{set_out, set-get_or, set-set, set_comm, get_or-set_same, get_or-set_other}
use lib.IntN.{pos}
use Rattle.lists.proofs.Told.{and-true}
use Rattle.ring.proofs.Ends.{length-stored, ends-back}
use Rattle.memory.specs.Family.{Family}
use Rattle.memory.specs.Field.{Sort, word, signed, item, ring_ends, entry, row, Field, sort_of, number}
use Rattle.memory.specs.Field as list
use Rattle.memory.specs.Memory.{Mem, Cell, ListOf, get, Any, words, signeds, items, records, any, lists, of_lists, put}
use Rattle.memory.specs.Updates.{Value, store_words, words_from, with_part, own_part, RowLaws, stored_at, found_at, Update, store, updated, written, spares, inverse, inverses}

module _ {F : Family} where
  pub get-put : (f : Field) (l : ListOf F f) (m : Mem F) → get f (put f l m) ≡ l
  get-put list.weights l m = refl
  get-put list.pred_starts l m = refl
  get-put list.preds l m = refl
  get-put list.succ_starts l m = refl
  get-put list.succs l m = refl
  get-put list.degrees l m = refl
  get-put list.fixed l m = refl
  get-put list.rings l m = refl
  get-put list.ends l m = refl
  get-put list.counters l m = refl
  get-put list.buffers l m = refl
  get-put list.executed l m = refl
  get-put list.run l m = refl
  get-put list.rows l m = refl

any_same : (F : Family) (s : Sort) (l l' : List (Cell F s)) → any F s l ≡ any F s l' → l ≡ l'
any_same F word l l' e = cc
any_same F signed l l' e = cc
any_same F item l l' e = cc
any_same F ring_ends l l' e = cc
any_same F entry l l' e = cc
any_same F row l l' e = cc

-- how long it is
abbrev any_length : {F : Family} → Any F → ℕ
any_length (words l) = length l
any_length (signeds l) = length l
any_length (items l) = length l
any_length (records l) = length l

any-length : (F : Family) (s : Sort) (l : List (Cell F s)) → any_length (any F s l) ≡ length l
any-length F word l = refl
any-length F signed l = refl
any-length F item l = refl
any-length F ring_ends l = refl
any-length F entry l = refl
any-length F row l = refl

module _ {F : Family} where
  lists-get : (f : Field) (m : Mem F) → get_or (lists m) (number f) (words []) ≡ any F (sort_of f) (get f m)
  lists-get list.weights m = refl
  lists-get list.pred_starts m = refl
  lists-get list.preds m = refl
  lists-get list.succ_starts m = refl
  lists-get list.succs m = refl
  lists-get list.degrees m = refl
  lists-get list.fixed m = refl
  lists-get list.rings m = refl
  lists-get list.ends m = refl
  lists-get list.counters m = refl
  lists-get list.buffers m = refl
  lists-get list.executed m = refl
  lists-get list.run m = refl
  lists-get list.rows m = refl

  lists-put : (f : Field) (l : ListOf F f) (m : Mem F) → lists (put f l m) ≡ set (lists m) (number f) (any F (sort_of f) l)
  lists-put list.weights l m = refl
  lists-put list.pred_starts l m = refl
  lists-put list.preds l m = refl
  lists-put list.succ_starts l m = refl
  lists-put list.succs l m = refl
  lists-put list.degrees l m = refl
  lists-put list.fixed l m = refl
  lists-put list.rings l m = refl
  lists-put list.ends l m = refl
  lists-put list.counters l m = refl
  lists-put list.buffers l m = refl
  lists-put list.executed l m = refl
  lists-put list.run l m = refl
  lists-put list.rows l m = refl

  pub put-put : (f : Field) (l l' : ListOf F f) (m : Mem F) → put f l' (put f l m) ≡ put f l' m
  put-put f l l' m =
      ap (λ (ls : List (Any F)). of_lists (set ls (number f) (any F (sort_of f) l'))) (lists-put f l m)
      ∙ ap of_lists (set-set (lists m) (number f) (any F (sort_of f) l) (any F (sort_of f) l'))

  pub put-get : (f : Field) (m : Mem F) → put f (get f m) m ≡ m
  put-get f m =
      ap (λ (x : Any F). of_lists (set (lists m) (number f) x)) (sym (lists-get f m))
      ∙ ap of_lists (set-get_or (lists m) (number f) (words []))

  -- another list stays
  pub get_other : (f g : Field) (l : ListOf F f) (m : Mem F) → ¬ (number g ≡ number f) → get g (put f l m) ≡ get g m
  get_other f g l m n =
      any_same F (sort_of g) (get g (put f l m)) (get g m)
      (sym (lists-get g (put f l m))
      ∙ ap (λ (ls : List (Any F)). get_or ls (number g) (words [])) (lists-put f l m)
      ∙ get_or-set_other (lists m) (number f) (number g) (any F (sort_of f) l) (words []) n
      ∙ lists-get g m)

-- a member of a list in place of one of the same measure
same-measure : {A : Type 0} (h : A → ℕ) (l : List A) (i : ℕ) (a d : A) → h a ≡ h (get_or l i d) → (j : ℕ) → h (get_or (set l i a) j d) ≡ h (get_or l j d)
same-measure h l i a d e j = go (ℕ_discrete j i) (dec_lt i (length l))
  where
    go : Dec (j ≡ i) → Dec (i < length l) → h (get_or (set l i a) j d) ≡ h (get_or l j d)
    go (no n) x = ap h (get_or-set_other l i j a d n)
    go (yes q) (yes b) = rw q (ap h (get_or-set_same l i a d b) ∙ e)
    go (yes q) (no b) = ap (λ (x : List _). h (get_or x j d)) (set_out l i a (omega (arith, b)))

module _ {F : Family} where
  -- a list of the same length put in: every list keeps its length
  pub length-put : (f g : Field) (l : ListOf F f) (m : Mem F) → length l ≡ length (get f m) → length (get g (put f l m)) ≡ length (get g m)
  length-put f g l m e =
      sym (any-length F (sort_of g) (get g (put f l m)))
      ∙ ap any_length (sym (lists-get g (put f l m)))
      ∙ ap (λ (ls : List (Any F)). any_length (get_or ls (number g) (words []))) (lists-put f l m)
      ∙ same-measure any_length (lists m) (number f) (any F (sort_of f) l) (words [])
      (any-length F (sort_of f) l ∙ e ∙ sym (any-length F (sort_of f) (get f m)) ∙ ap any_length (sym (lists-get f m))) (number g)
      ∙ ap any_length (lists-get g m)
      ∙ any-length F (sort_of g) (get g m)

-- Words and parts stored, and put back.
module _ {A : Type 0} where
  pub set-again : (l : List A) (i : ℕ) (a d : A) (h : A → A) → set (set l i a) i (h (get_or (set l i a) i d)) ≡ set l i (h a)
  set-again l i a d h = go (dec_lt i (length l))
    where
      go : Dec (i < length l) → set (set l i a) i (h (get_or (set l i a) i d)) ≡ set l i (h a)
      go (yes b) = rw (get_or-set_same l i a d b) (set-set l i a (h a))
      go (no b) = rw (set_out l i a (omega (arith, b)), set_out l i (h (get_or l i d)) (omega (arith, b)), set_out l i (h a) (omega (arith, b)))

pub length-words : (ws l : List ℕ) (x : ℕ) → length (store_words l x ws) ≡ length l
unfolding store_words
length-words [] l x = refl
length-words (w ∷ ws) l x = length-words ws (set l x w) (x + 1) ∙ length-set l x w

-- a word before the words that are stored
set_words : (ws l : List ℕ) (x y w : ℕ) → y < x → set (store_words l x ws) y w ≡ store_words (set l y w) x ws
unfolding store_words
set_words [] l x y w h = refl
set_words (v ∷ ws) l x y w h =
    set_words ws (set l x v) (x + 1) y w (omega arith)
    ∙ ap (λ (k : List ℕ). store_words k (x + 1) ws) (set_comm l x y v w (λ e. omega arith))

words_back : (ws l : List ℕ) (x : ℕ) → store_words (store_words l x ws) x (words_from l x (length ws)) ≡ l
unfolding store_words words_from
words_back [] l x = refl
words_back (w ∷ ws) l x =
    ap (λ (k : List ℕ). store_words k (x + 1) (words_from l (x + 1) (length ws)))
    (set_words ws (set l x w) (x + 1) x (get_or l x 0) (omega arith)
    ∙ ap (λ (k : List ℕ). store_words k (x + 1) ws) (set-set l x w (get_or l x 0) ∙ set-get_or l x 0))
    ∙ words_back ws l (x + 1)

stored-length : (F : Family) (s : Sort) (l : List (Cell F s)) (x : ℕ) (v : Value F s) → length (stored_at F s l x v) ≡ length l
stored-length F word l x v = length-set l x v
stored-length F signed l x v = length-set l x v
stored-length F item l x v = length-set l x v
stored-length F ring_ends l x v = length-stored l x v
stored-length F entry l x v = length-words v l (F.shape.entry_words * x)
stored-length F row l x v = length-set l x (with_part v (get_or l x F.no_row))

put_back : {A : Type 0} (l : List A) (i : ℕ) (a d : A) → set (set l i a) i (get_or l i d) ≡ l
put_back l i a d = set-set l i a (get_or l i d) ∙ set-get_or l i d

stored_back : (F : Family) → RowLaws F → (s : Sort) (l : List (Cell F s)) (x : ℕ) (v : Value F s) → stored_at F s (stored_at F s l x v) x (found_at F s l x v) ≡ l
stored_back F laws word l x v = put_back l x v 0
stored_back F laws signed l x v = put_back l x v (pos 0)
stored_back F laws item l x v = put_back l x v F.no_item
stored_back F laws ring_ends l x v = ends-back l x v
stored_back F laws entry l x v = words_back v l (F.shape.entry_words * x)
stored_back F laws row l x v =
    set-again l x (with_part v (get_or l x F.no_row)) F.no_row (with_part (own_part v (get_or l x F.no_row)))
    ∙ ap (set l x) (laws.back v (get_or l x F.no_row))
    ∙ set-get_or l x F.no_row

module _ {F : Family} where
  -- PROMISE: updates leave every list its length
  pub written-lengths : (us : List (Update F)) (m : Mem F) (g : Field) → length (get g (written us m)) ≡ length (get g m)
  unfolding written updated
  written-lengths [] m g = refl
  written-lengths (store f x v ∷ us) m g =
      written-lengths us (put f (stored_at F (sort_of f) (get f m) x v) m) g
      ∙ length-put f g (stored_at F (sort_of f) (get f m) x v) m (stored-length F (sort_of f) (get f m) x v)

  -- PROMISE: another list stays
  pub written-other : (us : List (Update F)) (m : Mem F) (g : Field) → spares g us ≡ true → get g (written us m) ≡ get g m
  unfolding written updated spares
  written-other [] m g h = refl
  written-other (store f x v ∷ us) m g h =
      let (n, rest) = and-true (not (eqb (number g) (number f))) (spares g us) h in
      written-other us (put f (stored_at F (sort_of f) (get f m) x v) m) g rest
      ∙ get_other f g (stored_at F (sort_of f) (get f m) x v) m (eqb-false (number g) (number f) (not-true (eqb (number g) (number f)) n))

  pub written_both : (us vs : List (Update F)) (m : Mem F) → written (us ++ vs) m ≡ written vs (written us m)
  unfolding written
  written_both [] vs m = refl
  written_both (u ∷ us) vs m = written_both us vs (updated u m)

  module _ (laws : RowLaws F) where
    one-back : (u : Update F) (m : Mem F) → updated (inverse u m) (updated u m) ≡ m
    unfolding inverse updated
    one-back (store f x v) m =
        put-put f (stored_at F (sort_of f) (get f m) x v) _ m
        ∙ rw (get-put f (stored_at F (sort_of f) (get f m) x v) m, stored_back F laws (sort_of f) (get f m) x v) (put-get f m)

    -- PROMISE: updates are taken back by their inverses, whatever the memory
    pub taken_back : (us : List (Update F)) (m : Mem F) → written (inverses us m) (written us m) ≡ m
    unfolding written inverses
    taken_back [] m = refl
    taken_back (u ∷ us) m =
        written_both (inverses us (updated u m)) (inverse u m ∷ []) (written us (updated u m))
        ∙ rw (taken_back us (updated u m)) (one-back u m)
