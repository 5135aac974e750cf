-- What the steps have in common: what is read of the memory before and of the one after, and where a search of the rings stops.
use Prim.Native.Nat.{ℕ, suc, ◌+◌, ◌-◌, ◌*◌, ◌%◌, ◌≤◌, ◌<◌}
use mathlib.Core.Path.{◌≡◌, refl, ap, subst, ◌∙◌}
use mathlib.Core.Bool.{true, cond}
use mathlib.Core.List.{List, [], ◌∷◌}
use native.Mathlib.Omega.{arith}
use native.Mathlib.Decide.{dec_le}
use native.Mathlib.Nat.{mod-lt, le_antisymm}
use borrow.Author.Tests.{leb-true, le-leb}
use lib.ListN.{length, get_or, set}
use lib.Seq.{get_or-set_same, get_or-set_other}
use lib.Dec.{leb}
use lib.IntN.{ℤ, pos}
use Rattle.lists.specs.Lists.{tabulate}
use Rattle.lists.specs.Squares.{square, with_cell}
use Rattle.lists.proofs.Decided.{stable}
use Rattle.lists.proofs.Blocks.{tabulate-same}
use Rattle.lists.proofs.Places.{place_end, place-lt, place_same}
use Rattle.lists.proofs.Squares.{tabulate-put, square-put}
use Rattle.lists.proofs.Told.{and-true, cond_same}
use Rattle.task.specs.Entries.{Entry}
use Rattle.task.specs.declared.Ends.{Ends}
use Rattle.ring.specs.Ring.{end_words, Sound, rings_of, queue}
use Rattle.choice.specs.Form.{Taken, Offered}
use Rattle.memory.specs.Family.{Family}
use Rattle.memory.specs.Field as list
use Rattle.memory.specs.Memory.{Mem, put}
use Rattle.plans.specs.Memory.{tasks, ring_number, counter_in, buffer_at, row_in, phase_in, held, pointer_in, places_in}
use Rattle.plans.specs.Sizes.{Lengths}
use Rattle.plans.specs.Tables.{StopsAt}
use Rattle.plans.specs.Words.{places_fit}
use Rattle.split_lists.specs.Items.{Thread, thread_with, state_with, counter_of}
use Rattle.split_lists.specs.Moves.{First}
use Rattle.split_lists.specs.Reading.{buffer_in, thread_in, successors_in, state_from}
use Rattle.split_lists.proofs.Readings.{state-same, counter_at}

-- What worker i's words are read as, were its row this one.
module _ {F : Family} (m : Mem F) (i : ℕ) where
  -- the words of its buffer from place `read` up to place `write`
  abbrev pub between : ℕ → ℕ → List ℕ
  between read write = tabulate (write - read) (λ x. get_or m.buffers (buffer_at m i (read + x)) 0)

  -- its buffer; none where the places are damaged
  abbrev pub buffer_from : ℕ → ℕ → List ℕ
  buffer_from read write = cond (places_fit m read write) (between read write) []

  abbrev pub thread_from : F.Row → Thread F.Item
  thread_from r =
      thread_with (buffer_from (F.places r).read (F.places r).write) (F.places r).cursor (F.hand r).phase (F.hand r).held (F.pointer r)

  pub thread-from : thread_in m i ≡ thread_from (row_in m i)
  unfolding thread_in buffer_in
  thread-from = refl

  -- places that aren't damaged
  pub places-fit : (read write : ℕ) → read ≤ write → write ≤ tasks m → buffer_from read write ≡ between read write
  places-fit read write h l = rw (le-leb read write h, le-leb write (tasks m) l)

  -- the oldest word of its buffer, and those after it
  pub between_first : (read write : ℕ) → read < write → between read write ≡ get_or m.buffers (buffer_at m i read) 0 ∷ between (read + 1) write
  unfolding tabulate
  between_first read write h =
      ap (λ (n : ℕ). tabulate n (λ x. get_or m.buffers (buffer_at m i (read + x)) 0)) one_more
      ∙ rw (
        word (read + 0) read (omega arith),
        tabulate-same (write - (read + 1)) (λ x. get_or m.buffers (buffer_at m i (read + suc x)) 0)
            (λ x. get_or m.buffers (buffer_at m i (read + 1 + x)) 0)
            (λ x l. word (read + suc x) (read + 1 + x) (omega arith)),
      )
    where
      one_more : write - read ≡ suc (write - (read + 1))
      one_more = omega (arith, h)

      word : (x y : ℕ) → x ≡ y → get_or m.buffers (buffer_at m i x) 0 ≡ get_or m.buffers (buffer_at m i y) 0
      word x y e = ap (λ (z : ℕ). get_or m.buffers (buffer_at m i z) 0) e

-- The memory after a step of worker i: weights and tables as they were, its row this one, then the other lists, from the degrees on to the run
-- words.
abbrev pub mem_after : {F : Family} → Mem F → ℕ → F.Row → List ℕ → List ℕ → List F.Item → List ℕ → List ℤ → List ℕ → List ℕ → List ℕ → Mem F
mem_after m i row d f r e c b x n =
    put list.degrees d
    (put list.fixed f
    (put list.rings r
    (put list.ends e
    (put list.counters c
    (put list.buffers b
    (put list.executed x
    (put list.run n
    (put list.rows (set m.rows i row) m))))))))

-- worker h's own N places hold the same words in these buffers as in the memory's
abbrev pub SameBuffer : {F : Family} → Mem F → List ℕ → ℕ → Type 0
SameBuffer m buffers h = (x : ℕ) → x < tasks m → get_or buffers (buffer_at m h x) 0 ≡ get_or m.buffers (buffer_at m h x) 0

module _ {F : Family} (p k i : ℕ) (m : Mem F) (worker : i < p) (lengths : Lengths p k m) (row : F.Row) (d f : List ℕ) (r : List F.Item) (e : List ℕ)
    (c : List ℤ) (b x n : List ℕ) where
  abbrev m' : Mem F
  m' = mem_after m i row d f r e c b x n

  buffer-kept : (h read write : ℕ) → SameBuffer m b h → buffer_from m' h read write ≡ buffer_from m h read write
  buffer-kept h read write same =
      cond_same (places_fit m read write) _ _ [] (λ fit. tabulate-same (write - read) _ _ (λ y l. same (read + y) (inside fit y l)))
    where
      inside : places_fit m read write ≡ true → (y : ℕ) → y < write - read → read + y < tasks m
      inside fit y l = omega (arith, l, leb-true write (tasks m) (and-true (leb read write) (leb write (tasks m)) fit).1)

  -- the other threads stay where their buffers do
  pub threads-after : ((h : ℕ) → ¬ (h ≡ i) → SameBuffer m b h)
      → tabulate p (thread_in m') ≡ set (tabulate p (thread_in m)) i (thread_from m' i row)
  unfolding thread_in buffer_in
  threads-after kept =
      tabulate-put p (thread_in m) (thread_in m') i worker
      (λ h l other. ap (thread_from m' h) (get_or-set_other m.rows i h row F.no_row other)
      ∙ ap (λ (words : List ℕ). thread_with words (places_in m h).cursor (phase_in m h) (held m h) (pointer_in m h))
      (buffer-kept h (places_in m h).read (places_in m h).write (kept h other)))
      ∙ ap (λ (own : F.Row). set (tabulate p (thread_in m)) i (thread_from m' i own))
      (get_or-set_same m.rows i row F.no_row (omega (arith, worker, lengths.list list.rows)))

  -- what is read of it, with these entries of its record
  pub lists-after : ((h : ℕ) → ¬ (h ≡ i) → SameBuffer m b h) → (entries : List (Entry F.Item))
      → state_from p k m' entries
      ≡ state_with m.weights (tabulate (tasks m) (successors_in m)) d
      (square p (λ o j. queue F.no_item k (rings_of r e) (ring_number p o j)))
      (square p (λ o j. get_or c (ring_number p o j) (pos 0)))
      (set (tabulate p (thread_in m)) i (thread_from m' i row))
      entries
  lists-after kept entries = state-same refl refl refl refl refl (threads-after kept) refl

-- The ring of owner o filled by worker j, among the P·P rings.
module _ (p o j : ℕ) (owner : o < p) (filler : j < p) where
  -- of what is read of each ring, by its number, only this ring's changes
  pub rings-put : {A : Type 0} (f g : ℕ → A) → ((q : ℕ) → ¬ (q ≡ ring_number p o j) → g q ≡ f q)
      → square p (λ a b. g (ring_number p a b)) ≡ with_cell (square p (λ a b. f (ring_number p a b))) o j (g (ring_number p o j))
  rings-put f g other =
      square-put p (λ a b. f (ring_number p a b)) (λ a b. g (ring_number p a b)) o j owner filler
      (λ a b ha hb off. other (ring_number p a b) (λ e. off (place_same p a b o j hb filler e)))

  module _ {F : Family} (k : ℕ) (m : Mem F) (lengths : Lengths p k m) where
    pub ends-room : ring_number p o j * end_words + end_words ≤ length m.ends
    ends-room = rw (lengths.list list.ends) (place_end end_words (p * p) (ring_number p o j) (place-lt p p o j owner filler))

    -- this counter alone changes
    pub counters-put : (entries : List (Entry F.Item)) (change : ℤ → ℤ)
        → square p (λ a b. get_or (set m.counters (ring_number p o j) (change (counter_in m (ring_number p o j)))) (ring_number p a b) (pos 0))
        ≡ with_cell (state_from p k m entries).counters o j (change (counter_of (state_from p k m entries) o j))
    counters-put entries change =
        rw (counter_at p k m entries o j owner filler)
        (rings-put (counter_in m) (λ q. get_or (set m.counters number new) q (pos 0)) (λ q. get_or-set_other m.counters number q new (pos 0))
        ∙ ap (λ (c : ℤ). with_cell (square p (λ a b. counter_in m (ring_number p a b))) o j c)
        (get_or-set_same m.counters number new (pos 0) (rw (lengths.list list.counters) (place-lt p p o j owner filler))))
      where
        number : ℕ
        number = ring_number p o j

        new : ℤ
        new = change (counter_in m number)

-- A search from worker `start` upward, modulo P, stops at Algorithm 1's first: `ends h` are the ends of the ring that it looks at for worker h,
-- and a sound ring is skipped where h isn't as `Is` says, and only there.
pub stops_first : (p k : ℕ) (Skip : Ends → Type 0) (Is : ℕ → Type 0) (ends : ℕ → Ends)
    → ((h : ℕ) → h < p → Sound k (ends h) → (Skip (ends h) → ¬ (Is h)) × (¬ (Skip (ends h)) → Is h))
    → (start distance : ℕ) → StopsAt p k Skip (λ d. ends ((start + d) % p)) distance → First p Is start ((start + distance) % p)
stops_first p k Skip Is ends told start distance f =
    record {
      distance = distance;
      inside = f.inside;
      there = refl;
      is = (told ((start + distance) % p) (below distance) f.sound).1 f.stops;
      before = λ d l. (told ((start + d) % p) (below d) (f.goes_on d l).0).0 (f.goes_on d l).1;
    }
  where
    below : (d : ℕ) → (start + d) % p < p
    below d = mod-lt (start + d) (omega (arith, f.inside))

-- A search along the owners offered from worker `start` on stops at the algorithm's first candidate.
pub stops-offered : (p k : ℕ) (Skip : Ends → Type 0) (Candidate Is : ℕ → Type 0) (ends : ℕ → Ends)
    → ((h : ℕ) → Candidate h → Sound k (ends h) → (Skip (ends h) → ¬ (Is h)) × (¬ (Skip (ends h)) → Is h))
    → (start : ℕ) (owners : List ℕ) → Offered p Candidate start owners
    → (e : ℕ) → StopsAt (length owners) k Skip (λ d. ends (get_or owners d 0)) e → First p (λ h. Candidate h × Is h) start (get_or owners e 0)
stops-offered p k Skip Candidate Is ends told start owners offers e f =
    record {
      distance = at-e.distance;
      inside = at-e.near;
      there = at-e.there;
      is = (at-e.candidate, (told (get_or owners e 0) at-e.candidate f.sound).1 f.stops);
      before = λ d l is.
          let (b, h, q) = at-e.nearer d l is.0 in
          let (sound, skip) = f.goes_on b h in
          (told ((start + d) % p) is.0 (subst (λ x. Sound k (ends x)) q sound)).0 (subst (λ x. Skip (ends x)) q skip) is.1;
    }
  where
    at-e : Taken p Candidate start owners e
    at-e = offers.taken e f.inside

pub first-lt : {p : ℕ} {Is : ℕ → Type 0} {start x : ℕ} → First p Is start x → x < p
first-lt {p} {Is} {start} f = rw f.there (mod-lt (start + f.distance) (omega (arith, f.inside)))

-- the first of the numbers from `start` upward, modulo P
distance-le : {p : ℕ} {Is : ℕ → Type 0} {start x y : ℕ} (f : First p Is start x) (g : First p Is start y) → f.distance ≤ g.distance
distance-le f g = stable (dec_le f.distance g.distance) (λ n. f.before g.distance (omega arith) (rw g.there at g.is))

pub first_one : {p : ℕ} {Is : ℕ → Type 0} {start x y : ℕ} → First p Is start x → First p Is start y → x ≡ y
first_one f g = let same = le_antisymm (distance-le f g) (distance-le g f) in cc
