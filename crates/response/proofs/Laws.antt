-- What begin answers decides what is put: its refusal, or the lines of the run that it lets the turns take.
use Prim.Native.Nat.{ℕ, zero, suc, ◌+◌, ◌*◌, ◌≤◌}
use mathlib.Core.Path.{◌≡◌, refl, sym, ap, ◌∙◌}
use mathlib.Core.List.{List, ◌∷◌}
use native.Mathlib.Omega.{arith}
use lib.ListN.{length, take, replicate, length-replicate, length-take}
use lib.IntN.{pos}
use Rattle.std.specs.Prelude.{Err, Ok}
use Rattle.task.specs.declared.refusal.Refusal.{Refusal}
use Rattle.task.specs.Types.{engine, capped}
use Rattle.task.specs.Refusals.{accepted, answer_says, Answer, ReadAnswer, refusal_number, refusal_detail}
use Rattle.task.specs.declared.Limits.{Limits}
use Rattle.layout.specs.Tasks.{Tables}
use Rattle.layout.specs.Layout.{Spells}
use Rattle.layout.specs.Reader.{Read, read_as, read_text}
use Rattle.layout.specs.Tables.{Lent, Within}
use Rattle.layout.proofs.Accepted.{ReadAs, read-accepted}
use Rattle.memory.specs.Field as list
use Rattle.rules.specs.Memory.{Mem, tasks, entries_in, accepted_in}
use Rattle.rules.specs.Sizes.{Fits}
use Rattle.rules.specs.Plans.{result_of}
use Rattle.rules.specs.Begin.{begin}
use Rattle.rules.specs.Desk.{desk_run}
use Rattle.rules.proofs.Begin.{begin-accepted}
use Rattle.desk_rule.specs.Printed.{pair_line}
use Rattle.desk_rule.specs.Output.{refused_line, entry_lines, run_lines, begun_output, graph_output, desk_memory, read_output, desk_read, desk_output}
use Rattle.desk_rule.proofs.Finishes.{desk-finishes}
use Rattle.rows.specs.Rows.{rows_of}
use Rattle.engine_cells.specs.Cells.{cell_mem}
use Rattle.text_put.specs.Appending.{Appends}
use Rattle.text_put.proofs.Laws.{appends-then}

-- what the turns require, and room in the record for the entries
pub record Ready (w p x n : List ℕ) : Type 0 where
  pub tasks : length w ≤ engine.tasks
  pub edges : length p ≤ engine.edges
  pub executed : length x ≡ 2 * length w
  pub run : ◌≡◌ {A = ℕ} (length n) 2

module _ (limits : Limits) (l : limits ≡ engine) (lent begun : Mem) (a : Answer) (h : result_of a begun ≡ begin limits 2 4 lent) where
  answered : graph_output lent ≡ begun_output a begun
  unfolding graph_output
  answered = rw (← l, ← h) refl

  pub refusal-put : (why : Refusal) → a ≡ Err why → {r : ℕ} {before after : List ℕ} → Appends 0 (refused_line (refusal_number why) (refusal_detail why)) before after r
      → Appends 0 (graph_output lent) before after r
  refusal-put why e p = rw (answered, e) p

  module _ (e : a ≡ (Ok tt)) where
    begins : answer_says (begin engine 2 4 lent).answer ≡ accepted
    begins = rw (← l, ← h, e) refl

    fits : Fits engine 2 4 lent
    fits = ((begin-accepted engine 2 4 lent).0 begins).0

    pub begun-ready : Ready lent.weights lent.preds lent.executed lent.run
    unfolding capped
    begun-ready =
        record { tasks = fits.limits.few_tasks; edges = fits.limits.few_edges; executed = fits.lengths.list list.executed; run = fits.lengths.list list.run }

    module _ (ran : Mem) (d : ran ≡ desk_run begun) where
      pub entries-all : entries_in ran ≡ tasks lent
      entries-all = rw (d, begun-left) (desk-finishes lent begins).entries
        where
          begun-left : begun ≡ (begin engine 2 4 lent).memory
          begun-left = rw (← l, ← h) refl

      pub lines-put : {at r : ℕ} {before between after : List ℕ} → Appends 0 (pair_line (tasks ran) (accepted_in ran)) before between at
          → Appends at (entry_lines ran.executed (entries_in ran) 0) between after r → Appends 0 (graph_output lent) before after r
      unfolding run_lines
      lines-put p q = rw (answered, e, ← d) (appends-then p q)

pub part-below : (n m : ℕ) (l : List ℕ) → n ≤ m → length (take n l) ≤ m
part-below n m l h = omega (arith, h, length-take n l)

-- First parts of lists of zeros are the lists of exact lengths.
take-replicate : (n m x : ℕ) → n ≤ m → take n (replicate m x) ≡ replicate n x
take-replicate zero m x h = refl
take-replicate (suc n) zero x h = absurd (omega (arith, h))
take-replicate (suc n) (suc m) x h = ap (λ (l : List ℕ). x ∷ l) (take-replicate n m x (omega (arith, h)))

pub length_part : (n m x : ℕ) → n ≤ m → n ≡ length (take n (replicate m x))
length_part n m x h = sym (ap length (take-replicate n m x h) ∙ length-replicate n x)

pub tables-put : (w ps p : List ℕ) → length w ≤ 1024 → length p ≤ 8192 → {r : ℕ} {before after : List ℕ}
    → Appends 0
    (graph_output
    (cell_mem w ps p (take (length w + 1) (replicate 1025 0)) (take (length p) (replicate 8192 0)) (take (length w) (replicate 1024 0)) (replicate 16 0)
    (replicate 12 0) (replicate 4 (pos 0)) (take (2 * length w) (replicate 2048 0)) (take (2 * length w) (replicate 2048 0)) (replicate 2 0)
    (replicate 2 (replicate 6 0))))
    before after r
    → Appends 0 (graph_output (desk_memory w ps p)) before after r
unfolding desk_memory rows_of
tables-put w ps p h k q =
    rw (
      take-replicate (length w + 1) 1025 0 (omega (arith, h)),
      take-replicate (length p) 8192 0 k,
      take-replicate (length w) 1024 0 h,
      take-replicate (2 * length w) 2048 0 (omega (arith, h)),
    ) at q

-- N and E of an accepted text
abbrev numbers_of : ReadAnswer → ℕ × ℕ
numbers_of (Err why) = (0, 0)
numbers_of (Ok x) = x

-- The text that was read.
module _ (text w s p : List ℕ) (a : ReadAnswer) (h : read_as a w s p ≡ read_text text (replicate 1024 0) (replicate 1025 0) (replicate 8192 0)) where
  read-output : desk_output text ≡ read_output a (read_as a w s p)
  unfolding desk_output desk_read
  read-output = rw (← h) refl

  pub text-refused : (why : Refusal) → a ≡ Err why → {r : ℕ} {before after : List ℕ} → Appends 0 (refused_line (refusal_number why) (refusal_detail why)) before after r
      → Appends 0 (desk_output text) before after r
  text-refused why e q = rw (read-output, e) q

  module _ (n e : ℕ) (k : a ≡ Ok (n, e)) where
    pub text-sizes : (n ≤ 1024) × (e ≤ 8192)
    text-sizes = go (read-accepted text _ _ _ n e (rw (← h) k))
      where
        go : (g : Tables) × Lent text (replicate 1024 0) (replicate 1025 0) (replicate 8192 0) × Spells text g × Within g
            × ReadAs text (replicate 1024 0) (replicate 1025 0) (replicate 8192 0) g → (n ≤ 1024) × (e ≤ 8192)
        go (g, _, _, m, r) =
            let said : a ≡ Ok (length g.weights, length g.preds) = ap (λ (x : Read). x.answer) (h ∙ r) in
            let same : ◌≡◌ {A = ReadAnswer} (Ok (n, e)) (Ok (length g.weights, length g.preds)) = sym k ∙ said in
            let tasks : n ≡ length g.weights = ap (λ (x : ReadAnswer). (numbers_of x).0) same in
            let edges : e ≡ length g.preds = ap (λ (x : ReadAnswer). (numbers_of x).1) same in
            (omega (arith, tasks, m.0), omega (arith, edges, m.1))

    pub text-run : {r : ℕ} {before after : List ℕ} → Appends 0 (graph_output (desk_memory (take n w) (take (n + 1) s) (take e p))) before after r
        → Appends 0 (desk_output text) before after r
    text-run q = rw (read-output, k) q
