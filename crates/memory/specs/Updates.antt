-- What an accepted step writes: a short list of updates, each of one place of one lent list.
use Rattle.std.specs.Prelude.{ℕ, zero, suc, ◌+◌, ◌*◌, ◌≡◌, Bool, true, not, ◌&&◌, List, [], ◌∷◌, ◌++◌, get_or, set, length, eqb, ℤ, pos}
use Rattle.task.specs.declared.Ends.{Ends}
use Rattle.ring.specs.Ring.{ends_at, store_ends}
use Rattle.memory.specs.Family.{Family, Hand, Places}
use Rattle.memory.specs.Field.{Sort, word, signed, item, ring_ends, entry, row, Field, sort_of, number}
use Rattle.memory.specs.Memory.{Mem, Cell, get, put}

-- the part of a worker's row that is written
pub data Part (F : Family) : Type 0 where
  hand : Hand F.Item → Part F
  pointer : ℕ → Part F
  places : Places → Part F

-- what is stored at a place; of an entry its words, as many as the family's entries have
abbrev pub Value : Family → Sort → Type 0
Value F word = ℕ
Value F signed = ℤ
Value F item = F.Item
Value F ring_ends = Ends
Value F entry = List ℕ
Value F row = Part F

-- words one after the other, from a place on: stored, and as they stand there
unfoldable pub store_words : List ℕ → ℕ → List ℕ → List ℕ
store_words l x [] = l
store_words l x (w ∷ ws) = store_words (set l x w) (x + 1) ws

unfoldable pub words_from : List ℕ → ℕ → ℕ → List ℕ
words_from l x zero = []
words_from l x (suc n) = get_or l x 0 ∷ words_from l (x + 1) n

module _ {F : Family} where
  -- a row with another part
  abbrev pub with_part : Part F → F.Row → F.Row
  with_part (hand h) r = F.with_hand h r
  with_part (pointer x) r = F.with_pointer x r
  with_part (places x) r = F.with_places x r

  -- the row's own part of that kind
  abbrev pub own_part : Part F → F.Row → Part F
  own_part (hand h) r = hand (F.hand r)
  own_part (pointer x) r = pointer (F.pointer r)
  own_part (places x) r = places (F.places r)

abbrev pub part_number : {F : Family} → Part F → ℕ
part_number (hand h) = 0
part_number (pointer x) = 1
part_number (places x) = 2

-- what a family's rows have to show: a part that is written stands there, the other parts stay, and the part that stood there written again gives the
-- row as it was
pub record RowLaws (F : Family) : Type 0 where
  pub found : (v : Part F) (r : F.Row) → own_part v (with_part v r) ≡ v
  pub other : (v w : Part F) (r : F.Row) → ¬ (part_number v ≡ part_number w) → own_part w (with_part v r) ≡ own_part w r
  pub back : (v : Part F) (r : F.Row) → with_part (own_part v r) (with_part v r) ≡ r

-- the list once a value is stored at place x
abbrev pub stored_at : (F : Family) (s : Sort) → List (Cell F s) → ℕ → Value F s → List (Cell F s)
stored_at F word l x v = set l x v
stored_at F signed l x v = set l x v
stored_at F item l x v = set l x v
stored_at F ring_ends l x v = store_ends l x v
stored_at F entry l x v = store_words l (F.shape.entry_words * x) v
stored_at F row l x v = set l x (with_part v (get_or l x F.no_row))

-- what stands there, where v is to be stored
abbrev pub found_at : (F : Family) (s : Sort) → List (Cell F s) → ℕ → Value F s → Value F s
found_at F word l x v = get_or l x 0
found_at F signed l x v = get_or l x (pos 0)
found_at F item l x v = get_or l x F.no_item
found_at F ring_ends l x v = ends_at l x
found_at F entry l x v = words_from l (F.shape.entry_words * x) (length v)
found_at F row l x v = own_part v (get_or l x F.no_row)

pub data Update (F : Family) : Type 0 where
  store : (f : Field) (place : ℕ) → Value F (sort_of f) → Update F

module _ {F : Family} where
  unfoldable pub updated : Update F → Mem F → Mem F
  updated (store f x v) m = put f (stored_at F (sort_of f) (get f m) x v) m

  -- one update after the other
  unfoldable pub written : List (Update F) → Mem F → Mem F
  written [] m = m
  written (u ∷ us) m = written us (updated u m)

  -- none of the updates is of this list
  unfoldable pub spares : Field → List (Update F) → Bool
  spares g [] = true
  spares g (store f x v ∷ us) = not (eqb (number g) (number f)) && spares g us

  -- the update that takes an update back, and the updates that take a list back, the last one first
  unfoldable pub inverse : Update F → Mem F → Update F
  inverse (store f x v) m = store f x (found_at F (sort_of f) (get f m) x v)

  unfoldable pub inverses : List (Update F) → Mem F → List (Update F)
  inverses [] m = []
  inverses (u ∷ us) m = inverses us (updated u m) ++ (inverse u m ∷ [])
