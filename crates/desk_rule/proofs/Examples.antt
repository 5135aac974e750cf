-- PROMISE: what is printed, computed: numbers, the diamond in whole from its text, roots up to as many as there is room for, and refusals.
use Prim.Native.Nat.{ℕ}
use mathlib.Core.Path.{◌≡◌, refl}
use mathlib.Core.List.{List, [], ◌∷◌}
use native.Mathlib.Decide.{ℕ_discrete, dec_le, dec_lt}
use Rattle.lists.specs.Decided.{first_below}
use Rattle.lists.specs.Lists.{occ_of, joined, tabulate, all_of}
use Rattle.lists.specs.Sums.{sum_to, sum_to_z}
use Rattle.lists.specs.Circles.{after, around}
use Rattle.task.specs.Types.{capped}
use Rattle.task.specs.Phases.{next_phase}
use Rattle.graph.specs.Graph.{part}
use Rattle.graph.specs.Check.{sizes_fit, first_bad, first_twice, first_on_cycle, tables_answer, check_answer}
use Rattle.graph.specs.Decide.{below?, among?, light?, good?, bad?, ends_fit?, twice?, twice_in?, find-twice, edge?, thru?, path?, leads?, on_cycle?}
use Rattle.graph.specs.Successors.{succs_below, succ_start, succ_starts_of, succ_words, degree_list, roots}
use Rattle.ring.specs.Ring.{capacity, slot_at, ends_at, store_ends, sound, empty, full, head_on, tail_on}
use Rattle.choice.specs.Least.{load, least_from, least}
use Rattle.choice.specs.Search.{search}
use Rattle.rules.specs.Memory.{all_steps, all_entries}
use Rattle.rules.specs.Sizes.{numbers_fit, others_fit, lengths_fit}
use Rattle.rules.specs.Words.{counters_fit}
use Rattle.memory.specs.Updates.{store_words, updated, written}
use Rattle.memory.specs.Shape.{all_fit}
use Rattle.rules.specs.Plans.{counted, carried_out}
use Rattle.rules.specs.Steps.{scan, fetch_task, fetch_from, fetch_rule, start_rule, complete_sink, complete_inner, complete_rule, advanced, find_room, release_to, release_ready, release_waiting, release_rule, rule_of, step_plan, step}
use Rattle.rules.specs.Begin.{cleared, roots_laid, begun, roots_answer, begin_answer, begin}
use Rattle.rules.specs.Desk.{turn, turns, desk_run}
use Rattle.layout.specs.Tasks.{weights_of, starts_from, preds_of}
use Rattle.layout.specs.Reader.{lines, trim, skipped, fields, digits, value_of, row_of, task_of, contents, tasks_from, verdict, laid, read_text}
use Rattle.layout.proofs.Examples.{diamond_text}
use Rattle.layout.specs.Digits.{digits_before, digits_of}
use Rattle.desk_rule.specs.Printed.{pair_line}
use Rattle.desk_rule.specs.Output.{refused_line, entry_lines, run_lines, graph_output, desk_memory, desk_read, desk_output}

-- "0␊0 0 0␊1 0 0␊"
abbrev two_roots_text : List ℕ
two_roots_text =
    48 ∷ 10
    ∷ 48 ∷ 32 ∷ 48 ∷ 32 ∷ 48 ∷ 10
    ∷ 49 ∷ 32 ∷ 48 ∷ 32 ∷ 48 ∷ 10 ∷ []

-- "6␊0 0 0␊1 0 0␊2 0 0␊3 0 0␊4 0 0␊5 0 0␊6 0 0␊7 0 0␊"
abbrev eight_roots_text : List ℕ
eight_roots_text =
    54 ∷ 10
    ∷ 48 ∷ 32 ∷ 48 ∷ 32 ∷ 48 ∷ 10
    ∷ 49 ∷ 32 ∷ 48 ∷ 32 ∷ 48 ∷ 10
    ∷ 50 ∷ 32 ∷ 48 ∷ 32 ∷ 48 ∷ 10
    ∷ 51 ∷ 32 ∷ 48 ∷ 32 ∷ 48 ∷ 10
    ∷ 52 ∷ 32 ∷ 48 ∷ 32 ∷ 48 ∷ 10
    ∷ 53 ∷ 32 ∷ 48 ∷ 32 ∷ 48 ∷ 10
    ∷ 54 ∷ 32 ∷ 48 ∷ 32 ∷ 48 ∷ 10
    ∷ 55 ∷ 32 ∷ 48 ∷ 32 ∷ 48 ∷ 10 ∷ []

-- "7␊0 0 0␊1 0 0␊2 0 0␊3 0 0␊4 0 0␊5 0 0␊6 0 0␊7 0 0␊8 0 0␊"
abbrev nine_roots_text : List ℕ
nine_roots_text =
    55 ∷ 10
    ∷ 48 ∷ 32 ∷ 48 ∷ 32 ∷ 48 ∷ 10
    ∷ 49 ∷ 32 ∷ 48 ∷ 32 ∷ 48 ∷ 10
    ∷ 50 ∷ 32 ∷ 48 ∷ 32 ∷ 48 ∷ 10
    ∷ 51 ∷ 32 ∷ 48 ∷ 32 ∷ 48 ∷ 10
    ∷ 52 ∷ 32 ∷ 48 ∷ 32 ∷ 48 ∷ 10
    ∷ 53 ∷ 32 ∷ 48 ∷ 32 ∷ 48 ∷ 10
    ∷ 54 ∷ 32 ∷ 48 ∷ 32 ∷ 48 ∷ 10
    ∷ 55 ∷ 32 ∷ 48 ∷ 32 ∷ 48 ∷ 10
    ∷ 56 ∷ 32 ∷ 48 ∷ 32 ∷ 48 ∷ 10 ∷ []

-- "0␊0 0 0␊1 0 1 5␊"
abbrev bad_predecessor_text : List ℕ
bad_predecessor_text =
    48 ∷ 10
    ∷ 48 ∷ 32 ∷ 48 ∷ 32 ∷ 48 ∷ 10
    ∷ 49 ∷ 32 ∷ 48 ∷ 32 ∷ 49 ∷ 32 ∷ 53 ∷ 10 ∷ []

-- "4 16␊0 0␊2 1␊1 0␊3 0␊"
abbrev pub diamond_lines : List ℕ
diamond_lines =
    52 ∷ 32 ∷ 49 ∷ 54 ∷ 10
    ∷ 48 ∷ 32 ∷ 48 ∷ 10
    ∷ 50 ∷ 32 ∷ 49 ∷ 10
    ∷ 49 ∷ 32 ∷ 48 ∷ 10
    ∷ 51 ∷ 32 ∷ 48 ∷ 10 ∷ []

pub record Examples : Type 0 where
  pub nought : digits_of 0 ≡ 48 ∷ []
  pub seven : digits_of 7 ≡ 55 ∷ []
  pub ten : digits_of 10 ≡ 49 ∷ 48 ∷ []
  pub five_digits : digits_of 65535 ≡ 54 ∷ 53 ∷ 53 ∷ 51 ∷ 53 ∷ []
  pub diamond : desk_output diamond_text ≡ diamond_lines
  -- no text at all: "refused 13 1␊"
  pub nothing : desk_output []
      ≡ 114 ∷ 101 ∷ 102 ∷ 117 ∷ 115 ∷ 101 ∷ 100 ∷ 32 ∷ 49 ∷ 51 ∷ 32 ∷ 49 ∷ 10 ∷ []
  -- worker 0 takes the first turn: "2 6␊0 0␊1 1␊"
  pub two_roots : desk_output two_roots_text
      ≡ 50 ∷ 32 ∷ 54 ∷ 10
      ∷ 48 ∷ 32 ∷ 48 ∷ 10
      ∷ 49 ∷ 32 ∷ 49 ∷ 10 ∷ []
  -- as many roots as two rings of four slots hold: "8 24␊0 0␊1 1␊2 0␊3 1␊4 0␊5 1␊6 0␊7 1␊"
  pub eight_roots : desk_output eight_roots_text
      ≡ 56 ∷ 32 ∷ 50 ∷ 52 ∷ 10
      ∷ 48 ∷ 32 ∷ 48 ∷ 10
      ∷ 49 ∷ 32 ∷ 49 ∷ 10
      ∷ 50 ∷ 32 ∷ 48 ∷ 10
      ∷ 51 ∷ 32 ∷ 49 ∷ 10
      ∷ 52 ∷ 32 ∷ 48 ∷ 10
      ∷ 53 ∷ 32 ∷ 49 ∷ 10
      ∷ 54 ∷ 32 ∷ 48 ∷ 10
      ∷ 55 ∷ 32 ∷ 49 ∷ 10 ∷ []
  -- one more; begin's refusal with its detail: "refused 6 9␊"
  pub nine_roots : desk_output nine_roots_text
      ≡ 114 ∷ 101 ∷ 102 ∷ 117 ∷ 115 ∷ 101 ∷ 100 ∷ 32 ∷ 54 ∷ 32 ∷ 57 ∷ 10 ∷ []
  -- and another: "refused 3 1␊"
  pub bad_predecessor : desk_output bad_predecessor_text
      ≡ 114 ∷ 101 ∷ 102 ∷ 117 ∷ 115 ∷ 101 ∷ 100 ∷ 32 ∷ 51 ∷ 32 ∷ 49 ∷ 10 ∷ []

pub examples : Examples
unfolding ℕ_discrete dec_le dec_lt first_below occ_of joined tabulate all_of sum_to after around capped next_phase part sizes_fit first_bad first_twice first_on_cycle tables_answer check_answer below? among? light? good? bad? ends_fit? twice? twice_in? find-twice edge? thru? path? leads? on_cycle? succs_below succ_start succ_starts_of succ_words degree_list roots capacity slot_at ends_at store_ends sound empty full head_on tail_on sum_to_z load least_from least search all_steps all_entries numbers_fit all_fit others_fit lengths_fit counters_fit store_words updated written counted carried_out scan fetch_task fetch_from fetch_rule start_rule complete_sink complete_inner complete_rule advanced find_room release_to release_ready release_waiting release_rule rule_of step_plan step cleared roots_laid begun roots_answer begin_answer begin turn turns desk_run weights_of starts_from preds_of lines trim skipped fields digits value_of row_of task_of contents tasks_from verdict laid read_text digits_before digits_of pair_line refused_line entry_lines run_lines graph_output desk_memory desk_read desk_output
examples = record { nought = refl; seven = refl; ten = refl; five_digits = refl; diamond = refl; nothing = refl; two_roots = refl; eight_roots = refl; nine_roots = refl; bad_predecessor = refl }
