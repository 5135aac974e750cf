-- The examples of the table's rows 3, 4 and 5, and the diamond, computed.
use mathlib.Core.Path.{◌≡◌, refl}
use mathlib.Core.Bool.{true}
use mathlib.Core.List.{[], ◌∷◌}
use native.Mathlib.Decide.{ℕ_discrete, dec_le, dec_lt}
use Rattle.lists.specs.Decided.{first_below}
use Rattle.lists.specs.Lists.{occ_of}
use Rattle.task.specs.Types.{engine, capped}
use Rattle.task.specs.Refusals.{answer_says, refused, accepted}
use Rattle.graph.specs.Graph.{part}
use Rattle.graph.specs.Check.{sizes_fit, first_bad, first_twice, first_on_cycle, tables_answer, check_answer}
use Rattle.graph.specs.Decide.{below?, among?, light?, good?, bad?, ends_fit?, twice?, twice_in?, find-twice, edge?, thru?, path?, leads?, on_cycle?}

-- 3: "N 2, predecessor 2"
pub example-3 : answer_says (check_answer engine true true (0 ∷ 0 ∷ []) (0 ∷ 0 ∷ 1 ∷ []) (2 ∷ [])) ≡ refused 3 1
unfolding ℕ_discrete dec_le dec_lt first_below occ_of capped part sizes_fit first_bad first_twice first_on_cycle tables_answer check_answer below? among? light? good? bad? ends_fit? twice? twice_in? find-twice edge? thru? path? leads? on_cycle?
example-3 = refl

-- 4: "task 3: 1, 1"
pub example-4 : answer_says (check_answer engine true true (0 ∷ 0 ∷ 0 ∷ 0 ∷ []) (0 ∷ 0 ∷ 0 ∷ 0 ∷ 2 ∷ []) (1 ∷ 1 ∷ [])) ≡ refused 4 3
unfolding ℕ_discrete dec_le dec_lt first_below occ_of capped part sizes_fit first_bad first_twice first_on_cycle tables_answer check_answer below? among? light? good? bad? ends_fit? twice? twice_in? find-twice edge? thru? path? leads? on_cycle?
example-4 = refl

-- 5: "1 after 2, 2 after 1: detail 1"
pub example-5 : answer_says (check_answer engine true true (0 ∷ 0 ∷ 0 ∷ []) (0 ∷ 0 ∷ 1 ∷ 2 ∷ []) (2 ∷ 1 ∷ [])) ≡ refused 5 1
unfolding ℕ_discrete dec_le dec_lt first_below occ_of capped part sizes_fit first_bad first_twice first_on_cycle tables_answer check_answer below? among? light? good? bad? ends_fit? twice? twice_in? find-twice edge? thru? path? leads? on_cycle?
example-5 = refl

pub diamond : answer_says (check_answer engine true true (0 ∷ 5 ∷ 3 ∷ 0 ∷ []) (0 ∷ 0 ∷ 1 ∷ 2 ∷ 4 ∷ []) (0 ∷ 0 ∷ 1 ∷ 2 ∷ [])) ≡ accepted
unfolding ℕ_discrete dec_le dec_lt first_below occ_of capped part sizes_fit first_bad first_twice first_on_cycle tables_answer check_answer below? among? light? good? bad? ends_fit? twice? twice_in? find-twice edge? thru? path? leads? on_cycle?
diamond = refl
