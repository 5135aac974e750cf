-- Laws that the functions on rings cite, and what copies that are read say of their words.
use Prim.Native.Nat.{ℕ, zero, suc, ◌+◌, ◌*◌, ◌<◌}
use mathlib.Core.Path.{◌≡◌, ap}
use mathlib.Core.List.{List}
use native.Mathlib.Omega.{arith}
use lib.ListN.{length, get_or, set}
use lib.Seq.{ext_get_or}
use Rattle.task.specs.declared.Ends.{Ends}
use Rattle.ring.specs.Ring.{slot_at, ends_at, store_ends, tail_on, rings_of, appended_at, Inside}
use Rattle.weak_task.specs.Types.{Copy}
use Rattle.weak_rows.specs.Copies.{copy_in, copies_of}
use Rattle.weak_rows.proofs.Cells.{CellsOf, length-read, read-words}

pub length-copies : (l : List (List ℕ)) → length (copies_of l) ≡ length l
length-copies l = length-read copy_in l

-- an append to ring q, whose ends are known, and the slot that it answers with
module _ (k q : ℕ) (rings : List (List ℕ)) (ends : List ℕ) (e : Ends) (x : ℕ) (read : e ≡ ends_at ends q) (slot : x ≡ e.tail) where
  pub slot-inside : Inside k q (rings_of (copies_of rings) ends) → e.tail < k → q * k + x < length rings
  unfolding slot_at
  slot-inside i h = omega (arith, i.slots, length-copies rings, slot, h)

  pub appended : (new : List ℕ) (slots : List (List ℕ)) (a : Copy) → new ≡ store_ends ends q (tail_on k e) → copies_of slots ≡ set (copies_of rings) (q * k + x) a
      → rings_of (copies_of slots) new ≡ appended_at k q a (rings_of (copies_of rings) ends)
  unfolding appended_at slot_at
  appended new slots a h g = rw (h, g, slot, read)

-- two words are determined by the copy they are read as, and so are lent rings
copy-words : (a b : List ℕ) → length a ≡ 2 → length b ≡ 2 → copy_in a ≡ copy_in b → a ≡ b
copy-words a b ha hb e = ext_get_or 0 a b (omega (arith, ha, hb)) (λ i h. at i (omega (arith, ha, h)))
  where
    at : (i : ℕ) → i < 2 → get_or a i 0 ≡ get_or b i 0
    at zero h = ap (λ (c : Copy). c.task) e
    at (suc zero) h = ap (λ (c : Copy). c.predecessor) e
    at (suc (suc i)) h = absurd (omega arith)

pub copies-words : (l k : List (List ℕ)) → CellsOf 2 l → CellsOf 2 k → copies_of l ≡ copies_of k → l ≡ k
copies-words l k s t e = read-words copy_in 2 copy-words l k s t e
