-- "Each length is exact.": the length of each lent list, for P workers, K slots, N tasks and E edges.
use Rattle.std.specs.Prelude.{ℕ, ◌+◌, ◌*◌, ◌≡◌, Bool, true, false, ◌&&◌, List, [], ◌∷◌, ◌++◌, length, eqb}
use Rattle.ring.specs.Ring.{ring_words, end_words}
use Rattle.memory.specs.Family.{Family}
use Rattle.memory.specs.Field.{Field}
use Rattle.memory.specs.Field as list
use Rattle.memory.specs.Memory.{Mem, get}

abbrev pub length_of : Family → (p k n e : ℕ) → Field → ℕ
-- "Weights N."
length_of F p k n e list.weights = n
-- "Predecessor starts N+1 and predecessors E"
length_of F p k n e list.pred_starts = n + 1
length_of F p k n e list.preds = e
-- "Successor starts N+1 and successors E"
length_of F p k n e list.succ_starts = n + 1
length_of F p k n e list.succs = e
-- "Degrees N."
length_of F p k n e list.degrees = n
-- a word for each task, where this list is lent
length_of F p k n e list.fixed = n
-- "Rings P·P·K"
length_of F p k n e list.rings = p * p * ring_words k
-- "Heads and tails", "a count beside head and tail": P·P triples
length_of F p k n e list.ends = p * p * end_words
-- "Counters P·P"
length_of F p k n e list.counters = p * p
-- "Completed buffers P·N."
length_of F p k n e list.buffers = p * n
-- "Execution record 2N (task, worker).", of a plain job
length_of F p k n e list.executed = F.shape.entry_words * F.shape.entries n e
-- "Two run words", of a plain job
length_of F p k n e list.run = F.shape.run_words
-- "a record per worker"
length_of F p k n e list.rows = p

-- of a list whose length P and K alone decide: rings, ends, counters, run words, rows
abbrev pub fixed_length : Family → (p k : ℕ) → Field → ℕ
fixed_length F p k f = length_of F p k 0 0 f

-- whether the family is lent this list
abbrev pub lends : Family → Field → Bool
lends F list.weights = true
lends F list.pred_starts = true
lends F list.preds = true
lends F list.succ_starts = true
lends F list.succs = true
lends F list.degrees = true
lends F list.fixed = F.shape.fixes
lends F list.rings = true
lends F list.ends = true
lends F list.counters = true
lends F list.buffers = true
lends F list.executed = true
lends F list.run = true
lends F list.rows = true

-- what is asked of a list that is lent; of another nothing
abbrev pub IfLent : Bool → Type 0 → Type 0
IfLent true T = T
IfLent false T = Unit {0}

-- lists of these sizes have their lengths: "N and E are the lengths of weights and predecessors"
pub record Shaped (F : Family) (p k : ℕ) (size : Field → ℕ) : Type 0 where
  pub list : (f : Field) → IfLent (lends F f) (size f ≡ length_of F p k (size list.weights) (size list.preds) f)

-- how long a memory's lists are
abbrev pub sizes_in : {F : Family} → Mem F → Field → ℕ
sizes_in m f = length (get f m)

-- the test of these lists, one after the other
unfoldable pub all_fit : (F : Family) (p k : ℕ) (size : Field → ℕ) → List Field → Bool
all_fit F p k size [] = true
all_fit F p k size (f ∷ []) = eqb (size f) (length_of F p k (size list.weights) (size list.preds) f)
all_fit F p k size (f ∷ g ∷ fs) = eqb (size f) (length_of F p k (size list.weights) (size list.preds) f) && all_fit F p k size (g ∷ fs)

-- the list of fixed workers, where it is lent
abbrev pub fixed_only : Bool → List Field
fixed_only true = list.fixed ∷ []
fixed_only false = []

-- the lists behind the tables that begin is lent filled, by whether tasks are fixed to workers
abbrev pub others_if : Bool → List Field
others_if fixes =
    list.succ_starts
    ∷ list.succs
    ∷ list.degrees
    ∷ (fixed_only fixes ++ (list.rings ∷ list.ends ∷ list.counters ∷ list.buffers ∷ list.executed ∷ list.run ∷ list.rows ∷ []))

abbrev pub others : Family → List Field
others F = others_if F.shape.fixes
