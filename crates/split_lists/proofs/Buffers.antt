-- A worker's completed buffer: a task joins it at Complete, and at Release its places advance.
use Prim.Native.Nat.{ℕ, suc, ◌+◌, ◌-◌, ◌≤◌, ◌<◌}
use mathlib.Core.Path.{◌≡◌, refl, sym, ap, ◌∙◌}
use mathlib.Core.List.{List, [], ◌∷◌, ◌++◌}
use native.Mathlib.Omega.{arith}
use borrow.Author.Tests.{eq-eqb, ne_eqb}
use lib.ListN.{length, get_or, set}
use lib.Seq.{get_or-set_same, get_or-set_other}
use Rattle.lists.proofs.Blocks.{tabulate-same, tabulate-snoc}
use Rattle.lists.proofs.Places.{place-lt, place_same}
use Rattle.task.specs.Entries.{Entry}
use Rattle.memory.specs.Family.{Family}
use Rattle.memory.specs.Field as list
use Rattle.memory.specs.Memory.{Mem, put}
use Rattle.plans.specs.Memory.{tasks, buffer_at, row_in, phase_in, held, pointer_in, places_in, succ_count, oldest, successor}
use Rattle.plans.specs.Sizes.{Lengths}
use Rattle.plans.specs.Moves.{Ranged}
use Rattle.split_lists.specs.Items.{Thread, thread_with, successors_of, thread_of}
use Rattle.split_lists.specs.Moves.{buffered, passed}
use Rattle.split_lists.specs.Reading.{state_from}
use Rattle.split_lists.proofs.Readings.{successors-at, thread-at, length-successors, successor-at}
use Rattle.split_lists.proofs.Memories.{between, between_first, buffer_from, thread_from, thread-from, places-fit, SameBuffer}

-- what Complete puts in the buffer, told from the number of successors
pub buffered-none : (l : List ℕ) (t : ℕ) (b : List ℕ) → ◌≡◌ {A = ℕ} (length l) 0 → buffered l t b ≡ b
buffered-none [] t b h = refl
buffered-none (x ∷ l) t b h = absurd (omega (arith, h))

pub buffered-some : (l : List ℕ) (t : ℕ) (b : List ℕ) → 0 < length l → buffered l t b ≡ b ++ (t ∷ [])
buffered-some [] t b h = absurd (omega (arith, h))
buffered-some (x ∷ l) t b h = refl

-- Task t joins worker i's buffer, at the write place.
module _ {F : Family} (p k i : ℕ) (m : Mem F) (worker : i < p) (lengths : Lengths p k m) (t read write : ℕ) (places : read ≤ write)
    (room : write < tasks m) where
  abbrev joined : List ℕ
  joined = set m.buffers (buffer_at m i write) t

  -- one more word
  pub buffer-joins : buffer_from (put list.buffers joined m) i read (write + 1) ≡ buffer_from m i read write ++ (t ∷ [])
  buffer-joins =
      places-fit (put list.buffers joined m) i read (write + 1) (omega (arith, places)) (omega (arith, room))
      ∙ rw (places-fit m i read write places (omega (arith, room)), count)
      (tabulate-snoc (write - read) _
      ∙ rw (
        last,
        tabulate-same (write - read) _ (λ x. get_or m.buffers (buffer_at m i (read + x)) 0)
            (λ x l. get_or-set_other m.buffers (buffer_at m i write) (buffer_at m i (read + x)) t 0 (λ q. omega (arith, q, l))),
      ))
    where
      count : write + 1 - read ≡ suc (write - read)
      count = omega (arith, places)

      last : get_or joined (buffer_at m i (read + (write - read))) 0 ≡ t
      last =
          ap (λ (x : ℕ). get_or joined (buffer_at m i x) 0) (omega (arith, places))
          ∙ get_or-set_same m.buffers (buffer_at m i write) t 0 (rw (lengths.list list.buffers) (place-lt (tasks m) p i write worker room))

  -- the other workers' buffers stay
  pub buffers-kept : (h : ℕ) → ¬ (h ≡ i) → SameBuffer m joined h
  buffers-kept h e x l = get_or-set_other m.buffers (buffer_at m i write) (buffer_at m h x) t 0 (λ q. e (place_same (tasks m) h x i write l room q).0)

-- "the oldest task in i's buffer, its successor s at the cursor", as the algorithm's thread has them; `none` stands for no item
module _ {F : Family} (p k i : ℕ) (m : Mem F) (entries : List (Entry F.Item)) (none : F.Item) (worker : i < p) where
  pub thread-is : thread_of none (state_from p k m entries) i ≡ thread_from m i (row_in m i)
  thread-is = thread-at p k m entries none i worker ∙ thread-from m i

  pub buffer-is : (places_in m i).read < (places_in m i).write → (places_in m i).write ≤ tasks m
      → (thread_of none (state_from p k m entries) i).buffer ≡ oldest m i ∷ between m i ((places_in m i).read + 1) (places_in m i).write
  buffer-is some fit =
      ap (λ (t : Thread F.Item). t.buffer) thread-is
      ∙ places-fit m i (places_in m i).read (places_in m i).write (omega (arith, some)) fit
      ∙ between_first m i (places_in m i).read (places_in m i).write some

  module _ (lengths : Lengths p k m) (ranged : Ranged m (oldest m i)) (cursor : (places_in m i).cursor < succ_count m (oldest m i)) where
    pub count-is : length (successors_of (state_from p k m entries) (oldest m i)) ≡ succ_count m (oldest m i)
    count-is = rw (successors-at p k m entries (oldest m i) ranged.below) (length-successors m (oldest m i) (lengths.list list.succs) ranged)

    pub cursor-inside : (thread_of none (state_from p k m entries) i).cursor < length (successors_of (state_from p k m entries) (oldest m i))
    cursor-inside = rw (thread-is, count-is) cursor

    pub successor-is : successor m i
        ≡ get_or (successors_of (state_from p k m entries) (oldest m i)) (thread_of none (state_from p k m entries) i).cursor 0
    successor-is =
        rw (thread-is, successors-at p k m entries (oldest m i) ranged.below) (sym (successor-at m (oldest m i) (places_in m i).cursor cursor))

    -- "The cursor advances"
    pub thread-next : suc (places_in m i).cursor < succ_count m (oldest m i)
        → thread_with (buffer_from m i (places_in m i).read (places_in m i).write) ((places_in m i).cursor + 1) (phase_in m i) (held m i) (pointer_in m i)
        ≡ passed (length (successors_of (state_from p k m entries) (oldest m i)))
        (between m i ((places_in m i).read + 1) (places_in m i).write)
        (thread_of none (state_from p k m entries) i)
    thread-next h = rw (thread-is, count-is, ne_eqb ((places_in m i).cursor + 1) (succ_count m (oldest m i)) (λ e. omega arith))

    -- "after the last successor it returns to 0 and the read place advances"
    pub thread-last : (places_in m i).read < (places_in m i).write → (places_in m i).write ≤ tasks m → suc (places_in m i).cursor ≡ succ_count m (oldest m i)
        → thread_with (buffer_from m i ((places_in m i).read + 1) (places_in m i).write) 0 (phase_in m i) (held m i) (pointer_in m i)
        ≡ passed (length (successors_of (state_from p k m entries) (oldest m i)))
        (between m i ((places_in m i).read + 1) (places_in m i).write)
        (thread_of none (state_from p k m entries) i)
    thread-last some fit h =
        rw (
          thread-is,
          count-is,
          eq-eqb ((places_in m i).cursor + 1) (succ_count m (oldest m i)) (omega arith),
          places-fit m i ((places_in m i).read + 1) (places_in m i).write (omega arith) fit,
        )
