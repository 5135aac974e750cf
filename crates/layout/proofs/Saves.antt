-- Tables saved as a text, and tables that are refused, computed.
use mathlib.Core.Path.{◌≡◌, refl}
use Prim.Native.Nat.{ℕ}
use mathlib.Core.List.{List, [], ◌∷◌, ◌++◌}
use native.Mathlib.Decide.{ℕ_discrete, dec_le, dec_lt}
use lib.ListN.{replicate}
use Rattle.lists.specs.Decided.{first_below}
use Rattle.lists.specs.Lists.{occ_of}
use Rattle.task.specs.Types.{capped}
use Rattle.task.specs.Refusals.{Said, refused, bytes_used, write_says}
use Rattle.graph.specs.Graph.{part}
use Rattle.graph.specs.Check.{sizes_fit, first_bad, first_twice, first_on_cycle, tables_answer, check_answer}
use Rattle.graph.specs.Decide.{below?, among?, light?, good?, bad?, ends_fit?, twice?, twice_in?, find-twice, edge?, thru?, path?, leads?, on_cycle?}
use Rattle.layout.specs.Marks.{Each}
use Rattle.layout.specs.Digits.{digits_before, digits_of}
use Rattle.layout.specs.Plain.{spaced, line_text, rows_text, tasks_at, text_of}
use Rattle.layout.specs.Writer.{dummies_fit, write_answer, Saved, write_text}
use Rattle.layout.proofs.Examples.{diamond_text}

-- tables and a buffer, what is answered and the buffer after the call
record Example : Type 0 where
  weights : List ℕ
  starts : List ℕ
  preds : List ℕ
  before : List ℕ
  said : Said
  after : List ℕ

abbrev is : List ℕ → List ℕ → List ℕ → List ℕ → Said → List ℕ → Example
is w s p b x a = record { weights = w; starts = s; preds = p; before = b; said = x; after = a }

abbrev call : Example → Saved
call x = write_text x.weights x.starts x.preds x.before

abbrev table : List Example
table =
    -- the diamond, in a buffer of 34 bytes and in one of 36, whose last two stay
    is (0 ∷ 5 ∷ 3 ∷ 0 ∷ []) (0 ∷ 0 ∷ 1 ∷ 2 ∷ 4 ∷ []) (0 ∷ 0 ∷ 1 ∷ 2 ∷ []) (replicate 34 7) (bytes_used 34) (diamond_text)
    ∷ is (0 ∷ 5 ∷ 3 ∷ 0 ∷ []) (0 ∷ 0 ∷ 1 ∷ 2 ∷ 4 ∷ []) (0 ∷ 0 ∷ 1 ∷ 2 ∷ []) (replicate 36 7) (bytes_used 34) (diamond_text ++ (7 ∷ 7 ∷ []))
    -- in one of 33, and in none at all
    ∷ is (0 ∷ 5 ∷ 3 ∷ 0 ∷ []) (0 ∷ 0 ∷ 1 ∷ 2 ∷ 4 ∷ []) (0 ∷ 0 ∷ 1 ∷ 2 ∷ []) (replicate 33 7) (refused 1 0) (replicate 33 7)
    ∷ is (0 ∷ 5 ∷ 3 ∷ 0 ∷ []) (0 ∷ 0 ∷ 1 ∷ 2 ∷ 4 ∷ []) (0 ∷ 0 ∷ 1 ∷ 2 ∷ []) [] (refused 1 0) []
    -- two tasks without edges: "0␊0 0 0␊1 0 0␊"
    ∷ is (0 ∷ 0 ∷ []) (0 ∷ 0 ∷ 0 ∷ []) [] (replicate 15 7) (bytes_used 14) (48 ∷ 10 ∷ 48 ∷ 32 ∷ 48 ∷ 32 ∷ 48 ∷ 10 ∷ 49 ∷ 32 ∷ 48 ∷ 32 ∷ 48 ∷ 10 ∷ 7 ∷ [])
    -- predecessors 2 0 1 in their table's order: "3␊0 0 0␊1 10 1 0␊2 65535 1 1␊3 7 3 2 0 1␊4 0 1 3␊"
    ∷ is (0 ∷ 10 ∷ 65535 ∷ 7 ∷ 0 ∷ []) (0 ∷ 0 ∷ 1 ∷ 2 ∷ 5 ∷ 6 ∷ []) (0 ∷ 1 ∷ 2 ∷ 0 ∷ 1 ∷ 3 ∷ []) (replicate 49 7) (bytes_used 49) (51 ∷ 10 ∷ 48 ∷ 32 ∷ 48 ∷ 32 ∷ 48 ∷ 10 ∷ 49 ∷ 32 ∷ 49 ∷ 48 ∷ 32 ∷ 49 ∷ 32 ∷ 48 ∷ 10 ∷ 50 ∷ 32 ∷ 54 ∷ 53 ∷ 53 ∷ 51 ∷ 53 ∷ 32 ∷ 49 ∷ 32 ∷ 49 ∷ 10 ∷ 51 ∷ 32 ∷ 55 ∷ 32 ∷ 51 ∷ 32 ∷ 50 ∷ 32 ∷ 48 ∷ 32 ∷ 49 ∷ 10 ∷ 52 ∷ 32 ∷ 48 ∷ 32 ∷ 49 ∷ 32 ∷ 51 ∷ 10 ∷ [])
    -- the last task with a successor is fine: "1␊0 0 0␊1 4 1 2␊2 0 0␊"
    ∷ is (0 ∷ 4 ∷ 0 ∷ []) (0 ∷ 0 ∷ 1 ∷ 1 ∷ []) (2 ∷ []) (replicate 22 7) (bytes_used 22) (49 ∷ 10 ∷ 48 ∷ 32 ∷ 48 ∷ 32 ∷ 48 ∷ 10 ∷ 49 ∷ 32 ∷ 52 ∷ 32 ∷ 49 ∷ 32 ∷ 50 ∷ 10 ∷ 50 ∷ 32 ∷ 48 ∷ 32 ∷ 48 ∷ 10 ∷ [])
    -- 14, each with room and without a buffer: no task
    ∷ is [] (0 ∷ []) [] (replicate 20 7) (refused 14 0) (replicate 20 7)
    ∷ is [] (0 ∷ []) [] [] (refused 14 0) []
    -- one task
    ∷ is (0 ∷ []) (0 ∷ 0 ∷ []) [] (replicate 20 7) (refused 14 0) (replicate 20 7)
    ∷ is (0 ∷ []) (0 ∷ 0 ∷ []) [] [] (refused 14 0) []
    -- task 0 has weight
    ∷ is (1 ∷ 0 ∷ []) (0 ∷ 0 ∷ 0 ∷ []) [] (replicate 20 7) (refused 14 0) (replicate 20 7)
    ∷ is (1 ∷ 0 ∷ []) (0 ∷ 0 ∷ 0 ∷ []) [] [] (refused 14 0) []
    -- task 0 has predecessors
    ∷ is (0 ∷ 0 ∷ []) (0 ∷ 1 ∷ 1 ∷ []) (1 ∷ []) (replicate 20 7) (refused 14 0) (replicate 20 7)
    ∷ is (0 ∷ 0 ∷ []) (0 ∷ 1 ∷ 1 ∷ []) (1 ∷ []) [] (refused 14 0) []
    -- the last task has weight
    ∷ is (0 ∷ 1 ∷ []) (0 ∷ 0 ∷ 0 ∷ []) [] (replicate 20 7) (refused 14 0) (replicate 20 7)
    ∷ is (0 ∷ 1 ∷ []) (0 ∷ 0 ∷ 0 ∷ []) [] [] (refused 14 0) []
    -- a cycle without dummies; the table's example of 5, with a weight on task 0
    ∷ is (1 ∷ 1 ∷ []) (0 ∷ 1 ∷ 2 ∷ []) (1 ∷ 0 ∷ []) [] (refused 5 0) []
    ∷ is (1 ∷ 0 ∷ 0 ∷ []) (0 ∷ 0 ∷ 1 ∷ 2 ∷ []) (2 ∷ 1 ∷ []) (replicate 40 7) (refused 5 1) (replicate 40 7)
    -- a predecessor twice: in task 0, and the table's example of 4
    ∷ is (1 ∷ 0 ∷ []) (0 ∷ 2 ∷ 2 ∷ []) (1 ∷ 1 ∷ []) [] (refused 4 0) []
    ∷ is (1 ∷ 0 ∷ 0 ∷ 0 ∷ []) (0 ∷ 0 ∷ 0 ∷ 0 ∷ 2 ∷ []) (1 ∷ 1 ∷ []) (replicate 40 7) (refused 4 3) (replicate 40 7)
    -- the table's example of 3; a last start that isn't E; no task and an edge
    ∷ is (0 ∷ 0 ∷ []) (0 ∷ 0 ∷ 1 ∷ []) (2 ∷ []) (replicate 40 7) (refused 3 1) (replicate 40 7)
    ∷ is (1 ∷ 0 ∷ []) (0 ∷ 0 ∷ 0 ∷ []) (0 ∷ []) (replicate 40 7) (refused 3 2) (replicate 40 7)
    ∷ is [] (0 ∷ []) (0 ∷ []) [] (refused 3 0) []
    -- short starts and a heavy weight; short starts alone
    ∷ is (65536 ∷ 0 ∷ []) (0 ∷ 0 ∷ []) [] (replicate 40 7) (refused 2 0) (replicate 40 7)
    ∷ is (1 ∷ 0 ∷ []) (0 ∷ 0 ∷ []) [] (replicate 40 7) (refused 1 0) (replicate 40 7)
    ∷ []

pub saves : Each (λ x. (write_says (call x).answer ≡ x.said) × ((call x).text ≡ x.after)) table
unfolding ℕ_discrete dec_le dec_lt first_below occ_of capped part sizes_fit first_bad first_twice first_on_cycle tables_answer check_answer below? among? light? good? bad? ends_fit? twice? twice_in? find-twice edge? thru? path? leads? on_cycle? digits_before digits_of spaced line_text rows_text tasks_at text_of dummies_fit write_answer write_text
saves =
    ((refl, refl), ((refl, refl), ((refl, refl), ((refl, refl), ((refl, refl), ((refl, refl), ((refl, refl), ((refl, refl), ((refl, refl), ((refl, refl), ((refl, refl), ((refl, refl), ((refl, refl), ((refl, refl), ((refl, refl), ((refl, refl), ((refl, refl), ((refl, refl), ((refl, refl), ((refl, refl), ((refl, refl), ((refl, refl), ((refl, refl), ((refl, refl), ((refl, refl), ((refl, refl), tt))))))))))))))))))))))))))
