-- The diamond, and texts that break the layout, computed.
use Prim.Native.Nat.{ℕ}
use mathlib.Core.Path.{◌≡◌, refl}
use mathlib.Core.Logic.{inl, inr}
use mathlib.Core.List.{List, [], ◌∷◌}
use native.Mathlib.Omega.{arith}
use Rattle.lists.specs.Sums.{sum_of}
use Rattle.layout.specs.Marks.{Each}
use Rattle.layout.specs.Tasks.{task, weights_of, starts_from, preds_of, tables}
use Rattle.layout.specs.Layout.{Spells}
use Rattle.layout.specs.Reader.{lines, trim, skipped, fields, digits, value_of, row_of, task_of, contents, tasks_from, Verdict, spelled, broken, over, verdict}
use Rattle.layout.specs.Tables.{Beyond}
use Rattle.layout.proofs.Accepted.{spells-verdict}

-- "2␊0 0 0␊1 5 1 0␊2 3 1 0␊3 0 2 1 2␊"
abbrev pub diamond_text : List ℕ
diamond_text =
    50 ∷ 10
    ∷ 48 ∷ 32 ∷ 48 ∷ 32 ∷ 48 ∷ 10
    ∷ 49 ∷ 32 ∷ 53 ∷ 32 ∷ 49 ∷ 32 ∷ 48 ∷ 10
    ∷ 50 ∷ 32 ∷ 51 ∷ 32 ∷ 49 ∷ 32 ∷ 48 ∷ 10
    ∷ 51 ∷ 32 ∷ 48 ∷ 32 ∷ 50 ∷ 32 ∷ 49 ∷ 32 ∷ 50 ∷ 10 ∷ []

pub diamond : Spells diamond_text (tables (0 ∷ 5 ∷ 3 ∷ 0 ∷ []) (0 ∷ 0 ∷ 1 ∷ 2 ∷ 4 ∷ []) (0 ∷ 0 ∷ 1 ∷ 2 ∷ []))
unfolding lines trim skipped fields digits value_of row_of task_of contents tasks_from verdict weights_of starts_from preds_of
diamond = spells-verdict diamond_text (task 0 [] ∷ task 5 (0 ∷ []) ∷ task 3 (0 ∷ []) ∷ task 0 (1 ∷ 2 ∷ []) ∷ []) refl

-- a comment, a blank line, tabs, both line ends, zeros in front, no last line end, a predecessor that begin will refuse:
-- "# tiles␍␊␉2␍␊␍␊00 0 0␊1 00120␉1 00 ␍␊ 2 47089 1 0␊3 0 2 1 65535"
abbrev loose_text : List ℕ
loose_text =
    35 ∷ 32 ∷ 116 ∷ 105 ∷ 108 ∷ 101 ∷ 115 ∷ 13 ∷ 10
    ∷ 9 ∷ 50 ∷ 13 ∷ 10
    ∷ 13 ∷ 10
    ∷ 48 ∷ 48 ∷ 32 ∷ 48 ∷ 32 ∷ 48 ∷ 10
    ∷ 49 ∷ 32 ∷ 48 ∷ 48 ∷ 49 ∷ 50 ∷ 48 ∷ 9 ∷ 49 ∷ 32 ∷ 48 ∷ 48 ∷ 32 ∷ 13 ∷ 10
    ∷ 32 ∷ 50 ∷ 32 ∷ 52 ∷ 55 ∷ 48 ∷ 56 ∷ 57 ∷ 32 ∷ 49 ∷ 32 ∷ 48 ∷ 10
    ∷ 51 ∷ 32 ∷ 48 ∷ 32 ∷ 50 ∷ 32 ∷ 49 ∷ 32 ∷ 54 ∷ 53 ∷ 53 ∷ 51 ∷ 53 ∷ []

pub loose : Spells loose_text (tables (0 ∷ 120 ∷ 47089 ∷ 0 ∷ []) (0 ∷ 0 ∷ 1 ∷ 2 ∷ 4 ∷ []) (0 ∷ 0 ∷ 1 ∷ 65535 ∷ []))
unfolding lines trim skipped fields digits value_of row_of task_of contents tasks_from verdict weights_of starts_from preds_of
loose = spells-verdict loose_text (task 0 [] ∷ task 120 (0 ∷ []) ∷ task 47089 (0 ∷ []) ∷ task 0 (1 ∷ 65535 ∷ []) ∷ []) refl

-- a text and the verdict on it
record Example : Type 0 where
  text : List ℕ
  judgement : Verdict

abbrev is : List ℕ → Verdict → Example
is t v = record { text = t; judgement = v }

abbrev table : List Example
table =
    -- no line at all: "its count of lines plus 1"
    is [] (broken 1)
    -- a lone LF
    ∷ is (10 ∷ []) (broken 2)
    -- a line is missing, with and without a final LF
    ∷ is (48 ∷ 10 ∷ 48 ∷ 32 ∷ 48 ∷ 32 ∷ 48 ∷ 10 ∷ []) (broken 3)
    ∷ is (48 ∷ 10 ∷ 48 ∷ 32 ∷ 48 ∷ 32 ∷ 48 ∷ []) (broken 3)
    -- the table's example: line "1 5 2 0"
    ∷ is (49 ∷ 10 ∷ 48 ∷ 32 ∷ 48 ∷ 32 ∷ 48 ∷ 10 ∷ 49 ∷ 32 ∷ 53 ∷ 32 ∷ 50 ∷ 32 ∷ 48 ∷ 10 ∷ 50 ∷ 32 ∷ 48 ∷ 32 ∷ 48 ∷ 10 ∷ []) (broken 3)
    -- a line after the last task, a blank line before it counted
    ∷ is (48 ∷ 10 ∷ 48 ∷ 32 ∷ 48 ∷ 32 ∷ 48 ∷ 10 ∷ 49 ∷ 32 ∷ 48 ∷ 32 ∷ 48 ∷ 10 ∷ 10 ∷ 50 ∷ 32 ∷ 48 ∷ 32 ∷ 48 ∷ 10 ∷ []) (broken 5)
    -- a CR at the end of the text is no line end
    ∷ is (48 ∷ 13 ∷ 10 ∷ 48 ∷ 32 ∷ 48 ∷ 32 ∷ 48 ∷ 13 ∷ 10 ∷ 49 ∷ 32 ∷ 48 ∷ 32 ∷ 48 ∷ 13 ∷ []) (broken 3)
    -- but fine in a comment
    ∷ is (48 ∷ 10 ∷ 48 ∷ 32 ∷ 48 ∷ 32 ∷ 48 ∷ 10 ∷ 49 ∷ 32 ∷ 48 ∷ 32 ∷ 48 ∷ 10 ∷ 35 ∷ 13 ∷ []) (spelled (task 0 [] ∷ task 0 [] ∷ []))
    -- a dummy with time, either one; task 0 with predecessors
    ∷ is (48 ∷ 10 ∷ 48 ∷ 32 ∷ 49 ∷ 32 ∷ 48 ∷ 10 ∷ 49 ∷ 32 ∷ 48 ∷ 32 ∷ 48 ∷ 10 ∷ []) (broken 2)
    ∷ is (48 ∷ 10 ∷ 48 ∷ 32 ∷ 48 ∷ 32 ∷ 48 ∷ 10 ∷ 49 ∷ 32 ∷ 49 ∷ 32 ∷ 48 ∷ 10 ∷ []) (broken 3)
    ∷ is (48 ∷ 10 ∷ 48 ∷ 32 ∷ 48 ∷ 32 ∷ 49 ∷ 32 ∷ 48 ∷ 10 ∷ 49 ∷ 32 ∷ 48 ∷ 32 ∷ 48 ∷ 10 ∷ []) (broken 2)
    -- six digits; a value over 65,535; two fields
    ∷ is (48 ∷ 48 ∷ 48 ∷ 48 ∷ 48 ∷ 48 ∷ 10 ∷ []) (broken 1)
    ∷ is (54 ∷ 53 ∷ 53 ∷ 51 ∷ 54 ∷ 10 ∷ []) (broken 1)
    ∷ is (49 ∷ 32 ∷ 49 ∷ 10 ∷ []) (broken 1)
    -- bytes beside the digits, a NUL, a vertical tab, a byte over 127
    ∷ is (47 ∷ 10 ∷ []) (broken 1)
    ∷ is (58 ∷ 10 ∷ []) (broken 1)
    ∷ is (0 ∷ 10 ∷ []) (broken 1)
    ∷ is (11 ∷ 48 ∷ 10 ∷ []) (broken 1)
    ∷ is (160 ∷ 48 ∷ 10 ∷ []) (broken 1)
    -- a predecessor twice is begin's to refuse
    ∷ is (49 ∷ 10 ∷ 48 ∷ 32 ∷ 48 ∷ 32 ∷ 48 ∷ 10 ∷ 49 ∷ 32 ∷ 52 ∷ 48 ∷ 48 ∷ 48 ∷ 48 ∷ 32 ∷ 50 ∷ 32 ∷ 48 ∷ 32 ∷ 48 ∷ 10 ∷ 50 ∷ 32 ∷ 48 ∷ 32 ∷ 48 ∷ 10 ∷ []) (spelled (task 0 [] ∷ task 40000 (0 ∷ 0 ∷ []) ∷ task 0 [] ∷ []))
    -- a last line without its end counts, a blank one and a comment too
    ∷ is (32 ∷ []) (broken 2)
    ∷ is (35 ∷ []) (broken 2)
    -- CR CR LF is no line end, a form feed none either
    ∷ is (48 ∷ 13 ∷ 13 ∷ 10 ∷ []) (broken 1)
    ∷ is (48 ∷ 12 ∷ 10 ∷ []) (broken 1)
    -- any byte in a comment, and # alone starts one
    ∷ is (48 ∷ 10 ∷ 35 ∷ 0 ∷ 255 ∷ 59 ∷ 13 ∷ 35 ∷ 10 ∷ 48 ∷ 32 ∷ 48 ∷ 32 ∷ 48 ∷ 10 ∷ 49 ∷ 32 ∷ 48 ∷ 32 ∷ 48 ∷ 10 ∷ []) (spelled (task 0 [] ∷ task 0 [] ∷ []))
    ∷ is (59 ∷ 10 ∷ []) (broken 1)
    -- the last dummy where n is 1, and the first
    ∷ is (49 ∷ 10 ∷ 48 ∷ 32 ∷ 48 ∷ 32 ∷ 48 ∷ 10 ∷ 49 ∷ 32 ∷ 53 ∷ 32 ∷ 48 ∷ 10 ∷ 50 ∷ 32 ∷ 57 ∷ 32 ∷ 48 ∷ 10 ∷ []) (broken 4)
    ∷ is (49 ∷ 10 ∷ 48 ∷ 32 ∷ 51 ∷ 32 ∷ 48 ∷ 10 ∷ 49 ∷ 32 ∷ 53 ∷ 32 ∷ 48 ∷ 10 ∷ 50 ∷ 32 ∷ 48 ∷ 32 ∷ 48 ∷ 10 ∷ []) (broken 2)
    -- 13 before 2 in one line
    ∷ is (49 ∷ 48 ∷ 50 ∷ 51 ∷ 32 ∷ 49 ∷ 10 ∷ []) (broken 1)
    ∷ is (49 ∷ 10 ∷ 48 ∷ 32 ∷ 48 ∷ 32 ∷ 48 ∷ 10 ∷ 49 ∷ 32 ∷ 53 ∷ 32 ∷ 57 ∷ 48 ∷ 48 ∷ 48 ∷ 32 ∷ 48 ∷ 10 ∷ []) (broken 3)
    -- the largest n
    ∷ is (49 ∷ 48 ∷ 50 ∷ 50 ∷ 10 ∷ []) (broken 2)
    -- n over 1,022, whatever follows
    ∷ is (49 ∷ 48 ∷ 50 ∷ 51 ∷ 10 ∷ 120 ∷ []) over
    ∷ is (54 ∷ 53 ∷ 53 ∷ 51 ∷ 53 ∷ []) over
    ∷ []

pub examples : Each (λ x. verdict x.text ≡ x.judgement) table
unfolding lines trim skipped fields digits value_of row_of task_of contents tasks_from verdict weights_of starts_from preds_of
examples =
    (refl, (refl, (refl, (refl, (refl, (refl, (refl, (refl, (refl, (refl, (refl, (refl, (refl, (refl, (refl, (refl, (refl, (refl, (refl, (refl, (refl, (refl, (refl, (refl, (refl, (refl, (refl, (refl, (refl, (refl, (refl, (refl, (refl, tt)))))))))))))))))))))))))))))))))

-- 8,192 edges are within the limit, 8,193 are not
pub edges-within : ¬ (Beyond ((0 ∷ []) ∷ (0 ∷ 0 ∷ 0 ∷ []) ∷ (1 ∷ 0 ∷ 8192 ∷ []) ∷ []))
unfolding sum_of
edges-within (inl h) = omega (arith, h)
edges-within (inr h) = omega (arith, h)

pub edges-beyond : Beyond ((0 ∷ []) ∷ (0 ∷ 0 ∷ 0 ∷ []) ∷ (1 ∷ 0 ∷ 8193 ∷ []) ∷ [])
unfolding sum_of
edges-beyond = inr (omega arith)
