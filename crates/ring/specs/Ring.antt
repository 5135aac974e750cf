-- "A ring's head and tail form one record .. Head is the next slot to take, tail the next free slot"; and as document 02's No. 5 has it: "A
-- ring keeps a count beside head and tail and holds K tasks; empty is count 0, full is count K. A count over K, or head plus count not
-- leading to tail modulo K, is damaged."
use Rattle.std.specs.Prelude.{ℕ, ◌+◌, ◌-◌, ◌*◌, ◌%◌, ◌≤◌, ◌<◌, ◌≡◌, Bool, cond, ◌&&◌, List, length, get_or, set, ltb, leb, eqb}
use Rattle.lists.specs.Lists.{tabulate}
use Rattle.lists.specs.Circles.{after}
use Rattle.task.specs.Types.{engine}
use Rattle.task.specs.declared.Ends.{Ends}

-- how many items a ring of k slots holds: "holds K tasks"
unfoldable pub capacity : ℕ → ℕ
capacity k = k

-- how many words of the rings a ring takes, and how many its ends take
abbrev pub ring_words : ℕ → ℕ
ring_words k = k

abbrev pub end_words : ℕ
end_words = 3

-- slot x of ring q: "the ring .. begins at (i·P + j)·K"
unfoldable pub slot_at : ℕ → ℕ → ℕ → ℕ
slot_at k q x = q * ring_words k + x

-- the ends of ring q: "Heads and tails", head first, and the count beside them
unfoldable pub ends_at : List ℕ → ℕ → Ends
ends_at words q =
    record {
      head = get_or words (q * end_words) 0;
      tail = get_or words (q * end_words + 1) 0;
      count = get_or words (q * end_words + 2) 0;
    }

unfoldable pub store_ends : List ℕ → ℕ → Ends → List ℕ
store_ends words q e = set (set (set words (q * end_words) e.head) (q * end_words + 1) e.tail) (q * end_words + 2) e.count

-- not damaged: "head or tail ≥ K", "A count over K, or head plus count not leading to tail modulo K"
pub record Sound (k : ℕ) (e : Ends) : Type 0 where
  pub head : e.head < k
  pub tail : e.tail < k
  pub count : e.count ≤ k
  pub leads : (e.head + e.count) % k ≡ e.tail

-- "empty is count 0, full is count K"
abbrev pub Empty : Ends → Type 0
Empty e = ◌≡◌ {A = ℕ} e.count 0

abbrev pub Full : ℕ → Ends → Type 0
Full k e = e.count ≡ k

-- the tests of these
unfoldable pub sound : ℕ → Ends → Bool
sound k e = ltb e.head k && ltb e.tail k && leb e.count k && eqb ((e.head + e.count) % k) e.tail

unfoldable pub empty : Ends → Bool
empty e = eqb e.count 0

unfoldable pub full : ℕ → Ends → Bool
full k e = eqb e.count k

-- the ends after a take and after an append
unfoldable pub head_on : ℕ → Ends → Ends
head_on k e = record { head = after k e.head; tail = e.tail; count = e.count - 1 }

unfoldable pub tail_on : ℕ → Ends → Ends
tail_on k e = record { head = e.head; tail = after k e.tail; count = e.count + 1 }

-- the ends of a ring into which n items were put from its first slot on, and from which none was taken
abbrev pub filled_ends : ℕ → ℕ → Ends
filled_ends k n = record { head = 0; tail = n % k; count = n }

-- all rings: their slots, over items of any type, and the words of their ends
pub record Rings (A : Type 0) : Type 0 where
  pub slots : List A
  pub ends : List ℕ

abbrev pub rings_of : {A : Type 0} → List A → List ℕ → Rings A
rings_of s e = record { slots = s; ends = e }

-- how many items a ring holds: its count; none where its ends are damaged
unfoldable pub queued : ℕ → Ends → ℕ
queued k e = cond (sound k e) e.count 0

-- the list that ring q holds, the oldest first: the items of so many slots from head on, modulo K
unfoldable pub queue : {A : Type 0} → A → ℕ → Rings A → ℕ → List A
queue default k r q = tabulate (queued k (ends_at r.ends q)) (λ n. get_or r.slots (slot_at k q (((ends_at r.ends q).head + n) % k)) default)

-- an append to ring q: tail is the slot that the item goes to; the tail moves on, and the count is one more
unfoldable pub appended_at : {A : Type 0} → ℕ → ℕ → A → Rings A → Rings A
appended_at k q a r =
    rings_of (set r.slots (slot_at k q (ends_at r.ends q).tail) a) (store_ends r.ends q (tail_on k (ends_at r.ends q)))

-- a take's item and the ends after it
pub record Taken (A E : Type 0) : Type 0 where
  pub item : A
  pub ends : E

abbrev pub taken_of : {A E : Type 0} → A → E → Taken A E
taken_of a e = record { item = a; ends = e }

-- a take from ring q: the item of the next slot to take, the head moves on, and the count is one less; "the slot's word stays"
unfoldable pub taken_at : {A : Type 0} → A → ℕ → ℕ → Rings A → Taken A (List ℕ)
taken_at default k q r =
    taken_of (get_or r.slots (slot_at k q (ends_at r.ends q).head) default) (store_ends r.ends q (head_on k (ends_at r.ends q)))

-- ring q and its ends lie within the lists, and its slots are at most the engine's
pub record Inside {A : Type 0} (k q : ℕ) (r : Rings A) : Type 0 where
  pub few : k ≤ engine.slots
  pub slots : slot_at k q k ≤ length r.slots
  pub ends : q * end_words + end_words ≤ length r.ends
