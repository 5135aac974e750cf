-- "Lent memory, in 32-bit words", of a family of jobs.
use Rattle.std.specs.Prelude.{ℕ, List, [], ◌∷◌, get_or, set, ℤ}
use Rattle.memory.specs.Family.{Family}
use Rattle.memory.specs.Field.{Sort, word, signed, item, ring_ends, entry, row, Field, sort_of, number}
use Rattle.memory.specs.Field as list

-- one field for each lent list, in the paper's order
pub record Mem (F : Family) : Type 0 where
  -- "Weights N."
  pub weights : List ℕ
  -- "Predecessor starts N+1 and predecessors E"
  pub pred_starts : List ℕ
  pub preds : List ℕ
  -- "Successor starts N+1 and successors E"
  pub succ_starts : List ℕ
  pub succs : List ℕ
  -- "Degrees N."
  pub degrees : List ℕ
  -- the worker that each task is fixed to; of a family that isn't lent this list any words, which nothing reads
  pub fixed : List ℕ
  -- "Rings P·P·K"
  pub rings : List F.Item
  -- "Heads and tails", and "A ring keeps a count beside head and tail": P·P triples
  pub ends : List ℕ
  -- "Counters P·P, signed, same place rule."
  pub counters : List ℤ
  -- "Completed buffers P·N."
  pub buffers : List ℕ
  -- "Execution record 2N (task, worker).", of a plain job
  pub executed : List ℕ
  -- "Two run words: entries recorded, steps accepted.", of a plain job
  pub run : List ℕ
  -- "The worker rows are one lent list with a record per worker"
  pub rows : List F.Row

-- what the list is a list of: ends and entries lie there as words, one after the other
abbrev pub Cell : Family → Sort → Type 0
Cell F word = ℕ
Cell F signed = ℤ
Cell F item = F.Item
Cell F ring_ends = ℕ
Cell F entry = ℕ
Cell F row = F.Row

abbrev pub ListOf : Family → Field → Type 0
ListOf F f = List (Cell F (sort_of f))

module _ {F : Family} where
  abbrev pub mem_of : List ℕ → List ℕ → List ℕ → List ℕ → List ℕ → List ℕ → List ℕ → List F.Item → List ℕ → List ℤ → List ℕ → List ℕ → List ℕ → List F.Row → Mem F
  mem_of w ps p ss s d f r e c b x n rows =
      record {
        weights = w;
        pred_starts = ps;
        preds = p;
        succ_starts = ss;
        succs = s;
        degrees = d;
        fixed = f;
        rings = r;
        ends = e;
        counters = c;
        buffers = b;
        executed = x;
        run = n;
        rows = rows;
      }

  abbrev pub get : (f : Field) → Mem F → ListOf F f
  get list.weights m = m.weights
  get list.pred_starts m = m.pred_starts
  get list.preds m = m.preds
  get list.succ_starts m = m.succ_starts
  get list.succs m = m.succs
  get list.degrees m = m.degrees
  get list.fixed m = m.fixed
  get list.rings m = m.rings
  get list.ends m = m.ends
  get list.counters m = m.counters
  get list.buffers m = m.buffers
  get list.executed m = m.executed
  get list.run m = m.run
  get list.rows m = m.rows

-- a list, whatever it is a list of
pub data Any (F : Family) : Type 0 where
  words : List ℕ → Any F
  signeds : List ℤ → Any F
  items : List F.Item → Any F
  records : List F.Row → Any F

abbrev pub any : (F : Family) (s : Sort) → List (Cell F s) → Any F
any F word l = words l
any F signed l = signeds l
any F item l = items l
any F ring_ends l = words l
any F entry l = words l
any F row l = records l

-- a list of words, of signed words, of items, of rows; none of another kind
abbrev pub words_in : {F : Family} → Any F → List ℕ
words_in (words l) = l
words_in (signeds l) = []
words_in (items l) = []
words_in (records l) = []

abbrev pub signeds_in : {F : Family} → Any F → List ℤ
signeds_in (words l) = []
signeds_in (signeds l) = l
signeds_in (items l) = []
signeds_in (records l) = []

abbrev pub items_in : {F : Family} → Any F → List F.Item
items_in (words l) = []
items_in (signeds l) = []
items_in (items l) = l
items_in (records l) = []

abbrev pub records_in : {F : Family} → Any F → List F.Row
records_in (words l) = []
records_in (signeds l) = []
records_in (items l) = []
records_in (records l) = l

module _ {F : Family} where
  -- all lists, in their order, and back
  abbrev pub lists : Mem F → List (Any F)
  lists m =
      any F (sort_of list.weights) m.weights
      ∷ any F (sort_of list.pred_starts) m.pred_starts
      ∷ any F (sort_of list.preds) m.preds
      ∷ any F (sort_of list.succ_starts) m.succ_starts
      ∷ any F (sort_of list.succs) m.succs
      ∷ any F (sort_of list.degrees) m.degrees
      ∷ any F (sort_of list.fixed) m.fixed
      ∷ any F (sort_of list.rings) m.rings
      ∷ any F (sort_of list.ends) m.ends
      ∷ any F (sort_of list.counters) m.counters
      ∷ any F (sort_of list.buffers) m.buffers
      ∷ any F (sort_of list.executed) m.executed
      ∷ any F (sort_of list.run) m.run
      ∷ any F (sort_of list.rows) m.rows
      ∷ []

  abbrev pub of_lists : List (Any F) → Mem F
  of_lists l =
      record {
        weights = words_in (get_or l 0 (words []));
        pred_starts = words_in (get_or l 1 (words []));
        preds = words_in (get_or l 2 (words []));
        succ_starts = words_in (get_or l 3 (words []));
        succs = words_in (get_or l 4 (words []));
        degrees = words_in (get_or l 5 (words []));
        fixed = words_in (get_or l 6 (words []));
        rings = items_in (get_or l 7 (words []));
        ends = words_in (get_or l 8 (words []));
        counters = signeds_in (get_or l 9 (words []));
        buffers = words_in (get_or l 10 (words []));
        executed = words_in (get_or l 11 (words []));
        run = words_in (get_or l 12 (words []));
        rows = records_in (get_or l 13 (words []));
      }

  -- the memory with another list in this place
  abbrev pub put : (f : Field) → ListOf F f → Mem F → Mem F
  put f l m = of_lists (set (lists m) (number f) (any F (sort_of f) l))
