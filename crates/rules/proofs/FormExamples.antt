-- Release by the further forms, of marks (document 02, No. 10) and of lent sums (No. 14): examples on the definitions, computed.
use Prim.Native.Nat.{ℕ, zero, suc}
use mathlib.Core.Path.{◌≡◌, refl}
use mathlib.Core.List.{List, [], ◌∷◌}
use native.Mathlib.Decide.{ℕ_discrete, dec_le, dec_lt}
use lib.ListN.{replicate}
use lib.IntN.{ℤ, pos, negsuc}
use Rattle.lists.specs.Decided.{first_below}
use Rattle.lists.specs.Lists.{occ_of, joined, tabulate, all_of}
use Rattle.lists.specs.Sums.{sum_to, sum_to_z}
use Rattle.lists.specs.Circles.{after, around}
use Rattle.task.specs.Types.{engine, capped}
use Rattle.task.specs.Phases.{next_phase}
use Rattle.task.specs.Refusals.{Said, refused, degree_left, task_placed, step_says, StepAnswer}
use Rattle.task.specs.declared.Step.TheVariants.{Fetch, Start, Complete, Release}
use Rattle.graph.specs.Graph.{part}
use Rattle.graph.specs.Check.{sizes_fit, first_bad, first_twice, first_on_cycle, tables_answer, check_answer}
use Rattle.graph.specs.Decide.{below?, among?, light?, good?, bad?, ends_fit?, twice?, twice_in?, find-twice, edge?, thru?, path?, leads?, on_cycle?}
use Rattle.graph.specs.Successors.{succs_below, succ_start, succ_starts_of, succ_words, degree_list, roots}
use Rattle.ring.specs.Ring.{capacity, slot_at, ends_at, store_ends, sound, empty, full, head_on, tail_on}
use Rattle.choice.specs.Least.{load, least_from, least}
use Rattle.choice.specs.Form.{Form, chosen, each}
use Rattle.plans.specs.Headed.{headed}
use Rattle.plans.specs.Forms.{own_open, lent}
use Rattle.choice.specs.Search.{search}
use Rattle.memory.specs.Shape.{all_fit}
use Rattle.memory.specs.Updates.{store_words, updated, written}
use Rattle.rules.specs.Memory.{Mem, all_steps, all_entries}
use Rattle.rules.specs.Sizes.{numbers_fit, others_fit, lengths_fit}
use Rattle.rules.specs.Words.{counters_fit}
use Rattle.rules.specs.Updates.{put_ends, put_counter}
use Rattle.rules.specs.Plans.{counted, Result, carried_out}
use Rattle.rules.specs.Steps.{scan, fetch_task, fetch_from, fetch_rule, start_rule, complete_sink, complete_inner, complete_rule, advanced, find_room, release_to, release_ready, release_waiting, release_rule, rule_of, step_plan, step}
use Rattle.rules.specs.Begin.{cleared, roots_laid, begun, roots_answer, begin_answer, begin}
use Rattle.rules.specs.Desk.{turn, turns, desk_run}
use Rattle.rules.proofs.Examples.{by, memory_after, answers, diamond, fresh}
use Rattle.rules.proofs.Examples as plain

-- a Release of worker i by a form
abbrev release_by : (Mem → Form) → ℕ → ℕ → ℕ → Mem → Result StepAnswer
release_by form p k i m = carried_out (headed engine p k i Release m (release_rule (form m) p k i m)) m

-- what so many of them say, one after the other
unfoldable pub released : ℕ → (Mem → Form) → ℕ → ℕ → ℕ → Mem → List Said
released zero form p k i m = []
released (suc n) form p k i m = step_says (release_by form p k i m).answer ∷ released n form p k i (release_by form p k i m).memory

-- P 2, K 4: worker 0 has completed the diamond's task 0
abbrev completed : Mem
completed = memory_after 2 4 (by 0 Fetch ∷ by 0 Start ∷ by 0 Complete ∷ []) (fresh 2 4 diamond)

-- and worker 1 task 2, whose Release lowers a degree alone
abbrev lowering : Mem
lowering = memory_after 2 4 (by 0 Release ∷ by 0 Release ∷ by 1 Fetch ∷ by 1 Start ∷ by 1 Complete ∷ []) completed

-- a fan, edges 0→1 to 0→5, P 2, K 2: worker 0 has completed task 0
abbrev fan : Mem
fan = memory_after 2 2 (by 0 Fetch ∷ by 0 Start ∷ by 0 Complete ∷ []) (fresh 2 2 (plain.lent 2 2 (0 ∷ 0 ∷ 0 ∷ 5 ∷ 1 ∷ 2 ∷ []) (0 ∷ 0 ∷ 1 ∷ 2 ∷ 3 ∷ 4 ∷ 5 ∷ []) (replicate 5 0)))

-- a counter, or the ends of a ring, damaged
abbrev counter_at : ℕ → Mem → Mem
counter_at q m = written (put_counter q (pos 1073741825) ∷ []) m

abbrev ends_bad : ℕ → Mem → Mem
ends_bad q m = written (put_ends q (record { head = 9; tail = 9; count = 9 }) ∷ []) m

abbrev marked : ℕ → List ℕ → Mem → Form
marked p marks m = own_open p marks m

abbrev by_sums : ℕ → List ℕ → List ℤ → Mem → Form
by_sums p marks sums m = lent p marks sums m

pub record FormExamples : Type 0 where
  -- No. 10, P 2, worker 0 closing: the diamond's tasks 1 and 2 both go to worker 1
  pub closing : released 2 (marked 2 (1 ∷ 0 ∷ [])) 2 4 0 completed ≡ task_placed 1 1 ∷ task_placed 2 1 ∷ []
  -- all open: as today
  pub all_open : released 2 (marked 2 (0 ∷ 0 ∷ [])) 2 4 0 completed ≡ answers 2 4 (by 0 Release ∷ by 0 Release ∷ []) completed
  -- "another mark, or none open where a target is sought, is 8", and where none is sought no mark is read
  pub other_mark : released 1 (marked 2 (0 ∷ 2 ∷ [])) 2 4 0 completed ≡ refused 8 0 ∷ []
  pub none_open : released 1 (marked 2 (1 ∷ 1 ∷ [])) 2 4 0 completed ≡ refused 8 0 ∷ []
  pub lowers : released 1 (marked 2 (1 ∷ 1 ∷ [])) 2 4 1 lowering ≡ degree_left 1 ∷ []
  -- "neither target nor fallback, nor read as one": its counters and ends may be damaged
  pub not_read : released 2 (marked 2 (1 ∷ 0 ∷ [])) 2 4 0 (counter_at 0 (ends_bad 0 completed)) ≡ task_placed 1 1 ∷ task_placed 2 1 ∷ []
  pub open_read : released 1 (marked 2 (1 ∷ 0 ∷ [])) 2 4 0 (counter_at 3 completed) ≡ refused 8 0 ∷ []
  -- "11 means that all rings of open owners filled by the caller are full"
  pub open_full : released 3 (marked 2 (0 ∷ 1 ∷ [])) 2 2 0 fan ≡ task_placed 1 0 ∷ task_placed 2 0 ∷ refused 11 3 ∷ []
  -- No. 14, the diamond with sums 1 and 0 lent at every Release: tasks 1 and 2 go to worker 1; on equal sums the lowest open one; −2^31 is the least
  pub lent_sums : released 2 (by_sums 2 (0 ∷ 0 ∷ []) (pos 1 ∷ pos 0 ∷ [])) 2 4 0 completed ≡ task_placed 1 1 ∷ task_placed 2 1 ∷ []
  pub lent_equal : released 2 (by_sums 2 (0 ∷ 0 ∷ []) (pos 7 ∷ pos 7 ∷ [])) 2 4 0 completed ≡ task_placed 1 0 ∷ task_placed 2 0 ∷ []
  pub lent_open : released 1 (by_sums 2 (1 ∷ 0 ∷ []) (pos 7 ∷ pos 7 ∷ [])) 2 4 0 completed ≡ task_placed 1 1 ∷ []
  pub lent_least : released 1 (by_sums 2 (0 ∷ 0 ∷ []) (pos 0 ∷ negsuc 2147483647 ∷ [])) 2 4 0 completed ≡ task_placed 1 1 ∷ []
  -- a bad counter elsewhere is no 8, that of the ring really used is, and with all open rings full it is 11
  pub elsewhere : released 1 (by_sums 2 (0 ∷ 0 ∷ []) (pos 1 ∷ pos 0 ∷ [])) 2 4 0 (counter_at 0 completed) ≡ task_placed 1 1 ∷ []
  pub used : released 1 (by_sums 2 (0 ∷ 0 ∷ []) (pos 1 ∷ pos 0 ∷ [])) 2 4 0 (counter_at 2 completed) ≡ refused 8 0 ∷ []
  pub full_first : released 3 (by_sums 2 (0 ∷ 1 ∷ []) (pos 0 ∷ pos 0 ∷ [])) 2 2 0 (counter_at 2 (counter_at 3 fan)) ≡ task_placed 1 0 ∷ task_placed 2 0 ∷ refused 11 3 ∷ []
  -- "The weight joins the counter of the ring really used": target 1's ring is full, worker 0 takes the third
  pub weight_joins : (release_by (by_sums 2 (0 ∷ 0 ∷ []) (pos 1 ∷ pos 0 ∷ [])) 2 2 0
      (release_by (by_sums 2 (0 ∷ 0 ∷ []) (pos 1 ∷ pos 0 ∷ [])) 2 2 0 (release_by (by_sums 2 (0 ∷ 0 ∷ []) (pos 1 ∷ pos 0 ∷ [])) 2 2 0 fan).memory).memory).memory.counters
      ≡ pos 5 ∷ pos 0 ∷ pos 0 ∷ pos 0 ∷ []

pub form-examples : FormExamples
unfolding ℕ_discrete dec_le dec_lt first_below occ_of joined tabulate all_of sum_to after around capped next_phase part sizes_fit first_bad first_twice first_on_cycle tables_answer check_answer below? among? light? good? bad? ends_fit? twice? twice_in? find-twice edge? thru? path? leads? on_cycle? succs_below succ_start succ_starts_of succ_words degree_list roots capacity slot_at ends_at store_ends sound empty full head_on tail_on sum_to_z load least_from least chosen each search all_steps all_entries numbers_fit all_fit others_fit lengths_fit counters_fit store_words updated written counted carried_out scan fetch_task fetch_from fetch_rule start_rule complete_sink complete_inner complete_rule advanced find_room release_to release_ready release_waiting release_rule rule_of step_plan step cleared roots_laid begun roots_answer begin_answer begin turn turns desk_run memory_after answers released
form-examples =
    record {
      closing = refl;
      all_open = refl;
      other_mark = refl;
      none_open = refl;
      lowers = refl;
      not_read = refl;
      open_read = refl;
      open_full = refl;
      lent_sums = refl;
      lent_equal = refl;
      lent_open = refl;
      lent_least = refl;
      elsewhere = refl;
      used = refl;
      full_first = refl;
      weight_joins = refl;
    }
