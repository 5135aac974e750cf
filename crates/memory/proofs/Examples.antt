-- Computed examples: a family whose items are pairs of numbers, with three words an entry and three run words, and what its updates write.
use Prim.Native.Nat.{ℕ, ◌+◌, ◌*◌}
use mathlib.Core.Path.{◌≡◌, refl}
use mathlib.Core.Bool.{true, false}
use mathlib.Core.List.{List, [], ◌∷◌, map}
use lib.IntN.{pos, negsuc}
use Rattle.ring.specs.Ring.{ends_at, store_ends}
use Rattle.memory.specs.Family.{Family}
use Rattle.memory.specs.Field.{Field}
use Rattle.memory.specs.Field as list
use Rattle.memory.specs.Memory.{Mem, mem_of}
use Rattle.memory.specs.Updates.{Part, hand, pointer, places, with_part, own_part, part_number, RowLaws, store_words, words_from, Update, store, updated, written, spares, inverse, inverses}
use Rattle.memory.specs.Shape.{length_of, sizes_in, all_fit, others}

pub record Pair : Type 0 where
  pub first : ℕ
  pub second : ℕ

pub record PairRow : Type 0 where
  pub phase : ℕ
  pub held : Pair
  pub pointer : ℕ
  pub read : ℕ
  pub write : ℕ
  pub cursor : ℕ

abbrev pub pair : ℕ → ℕ → Pair
pair a b = record { first = a; second = b }

abbrev pub row_of : ℕ → Pair → ℕ → ℕ → ℕ → ℕ → PairRow
row_of phase held filler read write cursor =
    record { phase = phase; held = held; pointer = filler; read = read; write = write; cursor = cursor }

abbrev pub pairs : Family
pairs =
    record {
      Item = Pair;
      Row = PairRow;
      hand = λ r. record { phase = r.phase; held = r.held };
      with_hand = λ h r. row_of h.phase h.held r.pointer r.read r.write r.cursor;
      pointer = λ r. r.pointer;
      with_pointer = λ x r. row_of r.phase r.held x r.read r.write r.cursor;
      places = λ r. record { read = r.read; write = r.write; cursor = r.cursor };
      with_places = λ x r. row_of r.phase r.held r.pointer x.read x.write x.cursor;
      no_item = pair 9 9;
      no_row = row_of 9 (pair 9 9) 9 9 9 9;
      shape = record { entry_words = 3; entries = λ n e. e + n; run_words = 3; steps = λ n e. 4 * e + 3 * n; fixes = true };
    }

pair-rows : RowLaws pairs
pair-rows = record { found = found; other = other; back = back }
  where
    found : (v : Part pairs) (r : PairRow) → own_part v (with_part v r) ≡ v
    found (hand h) r = refl
    found (pointer x) r = refl
    found (places x) r = refl

    other : (v w : Part pairs) (r : PairRow) → ¬ (part_number v ≡ part_number w) → own_part w (with_part v r) ≡ own_part w r
    other (hand h) (hand g) r n = absurd (n refl)
    other (hand h) (pointer x) r n = refl
    other (hand h) (places x) r n = refl
    other (pointer x) (hand h) r n = refl
    other (pointer x) (pointer y) r n = absurd (n refl)
    other (pointer x) (places y) r n = refl
    other (places x) (hand h) r n = refl
    other (places x) (pointer y) r n = refl
    other (places x) (places y) r n = absurd (n refl)

    back : (v : Part pairs) (r : PairRow) → with_part (own_part v r) (with_part v r) ≡ r
    back (hand h) r = refl
    back (pointer x) r = refl
    back (places x) r = refl

-- one worker, two slots, one task without edges
abbrev pub small : Mem pairs
small =
    mem_of (5 ∷ []) (0 ∷ 0 ∷ []) [] (0 ∷ 0 ∷ []) [] (0 ∷ []) (9 ∷ []) (pair 0 7 ∷ pair 1 7 ∷ []) (0 ∷ 1 ∷ 1 ∷ []) (pos 5 ∷ []) (4 ∷ []) (6 ∷ 6 ∷ 6 ∷ []) (0 ∷ 0 ∷ 1 ∷ [])
    (row_of 0 (pair 8 8) 0 0 0 0 ∷ [])

abbrev pub some : List (Update pairs)
some =
    store list.degrees 0 3
    ∷ store list.fixed 0 8
    ∷ store list.rings 1 (pair 2 3)
    ∷ store list.ends 0 (record { head = 1; tail = 0; count = 2 })
    ∷ store list.counters 0 (negsuc 1)
    ∷ store list.executed 0 (1 ∷ 2 ∷ 3 ∷ [])
    ∷ store list.rows 0 (hand (record { phase = 1; held = pair 0 7 }))
    ∷ store list.rows 0 (pointer 4)
    ∷ store list.rows 0 (places (record { read = 0; write = 1; cursor = 2 }))
    ∷ []

abbrev pub all : List Field
all = list.weights ∷ list.pred_starts ∷ list.preds ∷ others pairs

pub record Examples : Type 0 where
  -- each update writes its place of its list, a row's part alone its part, and the other lists stay
  pub wrote : written some small
      ≡ mem_of (5 ∷ []) (0 ∷ 0 ∷ []) [] (0 ∷ 0 ∷ []) [] (3 ∷ []) (8 ∷ []) (pair 0 7 ∷ pair 2 3 ∷ []) (1 ∷ 0 ∷ 2 ∷ []) (negsuc 1 ∷ []) (4 ∷ []) (1 ∷ 2 ∷ 3 ∷ []) (0 ∷ 0 ∷ 1 ∷ [])
      (row_of 1 (pair 0 7) 4 0 1 2 ∷ [])
  -- a place that isn't there is not written
  pub beyond : written (store list.weights 1 7 ∷ store list.rows 1 (pointer 4) ∷ store list.executed 1 (1 ∷ 2 ∷ 3 ∷ []) ∷ []) small ≡ small
  -- and taken back
  pub back : written (inverses some small) (written some small) ≡ small
  pub spared : spares list.buffers some ≡ true
  pub named : spares list.rows some ≡ false
  -- P 2, K 4, N 3, E 5
  pub lengths : map (length_of pairs 2 4 3 5) all ≡ 3 ∷ 4 ∷ 5 ∷ 4 ∷ 5 ∷ 3 ∷ 3 ∷ 16 ∷ 12 ∷ 4 ∷ 6 ∷ 24 ∷ 3 ∷ 2 ∷ []
  pub fits : all_fit pairs 1 2 (sizes_in small) (others pairs) ≡ true
  pub misfits : all_fit pairs 1 3 (sizes_in small) (others pairs) ≡ false

pub examples : Examples
unfolding ends_at store_ends store_words words_from updated written spares inverse inverses all_fit
examples =
    record {
      wrote = refl;
      beyond = refl;
      back = refl;
      spared = refl;
      named = refl;
      lengths = refl;
      fits = refl;
      misfits = refl;
    }
