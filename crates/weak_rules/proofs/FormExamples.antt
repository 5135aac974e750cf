-- Release of weak jobs by the further forms, of marks (document 02, No. 10) and of lent sums (No. 14): examples on the definitions, computed.
use Prim.Native.Nat.{ℕ, zero, suc}
use mathlib.Core.Path.{◌≡◌, refl}
use mathlib.Core.List.{List, [], ◌∷◌}
use native.Mathlib.Decide.{ℕ_discrete, dec_le, dec_lt}
use lib.IntN.{ℤ, pos}
use Rattle.lists.specs.Decided.{first_below}
use Rattle.lists.specs.Lists.{occ_of, joined, tabulate, all_of}
use Rattle.lists.specs.Sums.{sum_to, sum_to_z}
use Rattle.lists.specs.Circles.{after, around}
use Rattle.task.specs.Types.{engine, capped}
use Rattle.task.specs.Phases.{next_phase}
use Rattle.task.specs.Refusals.{Said, refused}
use Rattle.task.specs.declared.Step.TheVariants.{Fetch, Start, Complete, Release}
use Rattle.weak_task.specs.Types.{copy}
use Rattle.weak_task.specs.Says.{WeakAnswer, copy_placed, step_says}
use Rattle.graph.specs.Graph.{part}
use Rattle.graph.specs.Check.{sizes_fit, first_bad, first_twice, first_on_cycle, tables_answer, check_answer}
use Rattle.graph.specs.Decide.{below?, among?, light?, good?, bad?, ends_fit?, twice?, twice_in?, find-twice, edge?, thru?, path?, leads?, on_cycle?}
use Rattle.graph.specs.Successors.{succs_below, succ_start, succ_starts_of, succ_words, roots}
use Rattle.ring.specs.Ring.{capacity, slot_at, ends_at, store_ends, sound, empty, full, head_on, tail_on}
use Rattle.choice.specs.Least.{load, least_from, least}
use Rattle.choice.specs.Form.{Form, chosen, each}
use Rattle.plans.specs.Headed.{headed}
use Rattle.plans.specs.Forms.{own_open, lent}
use Rattle.choice.specs.Search.{search}
use Rattle.memory.specs.Shape.{all_fit}
use Rattle.memory.specs.Updates.{store_words, updated, written}
use Rattle.plans.specs.Sizes.{numbers_fit, others_fit, lengths_fit}
use Rattle.plans.specs.Laying.{roots_laid}
use Rattle.weak_rules.specs.Memory.{Mem, all_steps, all_entries}
use Rattle.weak_rules.specs.Words.{counters_fit}
use Rattle.weak_rules.specs.Updates.{put_counter}
use Rattle.weak_rules.specs.Plans.{counted, Result, carried_out}
use Rattle.weak_rules.specs.Steps.{scan, fetch_copy, fetch_from, fetch_rule, start_rule, complete_copy, complete_sink, complete_inner, complete_last, complete_rule, advanced, find_room, release_to, release_first, release_later, release_rule, rule_of, step_plan, step}
use Rattle.weak_rules.specs.Begin.{weak_degrees, cleared, begun, roots_answer, begin_answer, begin}
use Rattle.weak_rules.proofs.Examples.{by, diamond, fresh, memory_after, answers, turn, turns, desk_run}

-- a Release of worker i by a form, and what so many of them say
abbrev release_by : (Mem → Form) → ℕ → ℕ → ℕ → Mem → Result WeakAnswer
release_by form p k i m = carried_out (headed engine p k i Release m (release_rule (form m) p k i m)) m

unfoldable pub released : ℕ → (Mem → Form) → ℕ → ℕ → ℕ → Mem → List Said
released zero form p k i m = []
released (suc n) form p k i m = step_says (release_by form p k i m).answer ∷ released n form p k i (release_by form p k i m).memory

-- P 2, K 4: worker 0 has completed the weak diamond's task 0
abbrev completed : Mem
completed = memory_after 2 4 (by 0 Fetch ∷ by 0 Start ∷ by 0 Complete ∷ []) (fresh 2 4 diamond)

-- task 3's first copy is made and fixes it to worker 0; worker 1 has completed task 2, and its Release makes the later copy
abbrev later : Mem
later =
    memory_after 2 4
    (by 0 Release ∷ by 0 Release ∷ by 0 Fetch ∷ by 0 Start ∷ by 0 Complete ∷ by 0 Release ∷ by 1 Fetch ∷ by 1 Start ∷ by 1 Complete ∷ []) completed

abbrev counter_at : ℕ → Mem → Mem
counter_at q m = written (put_counter q (pos 1073741825) ∷ []) m

abbrev marked : List ℕ → Mem → Form
marked marks m = own_open 2 marks m

abbrev by_sums : List ℕ → List ℤ → Mem → Form
by_sums marks sums m = lent 2 marks sums m

pub record FormExamples : Type 0 where
  -- No. 10: worker 0 closing, both first copies go to worker 1; none open is 8
  pub closing : released 2 (marked (1 ∷ 0 ∷ [])) 2 4 0 completed ≡ copy_placed (copy 1 0) 1 ∷ copy_placed (copy 2 0) 1 ∷ []
  pub none_open : released 1 (marked (1 ∷ 1 ∷ [])) 2 4 0 completed ≡ refused 8 0 ∷ []
  -- "Later weak copies still follow their task to a closing worker": no mark is read
  pub later_copy : released 1 (marked (1 ∷ 0 ∷ [])) 2 4 1 later ≡ copy_placed (copy 3 2) 0 ∷ []
  pub later_unread : released 1 (marked (1 ∷ 7 ∷ [])) 2 4 1 later ≡ copy_placed (copy 3 2) 0 ∷ []
  -- No. 14: a later copy doesn't look at the sums
  pub lent_sums : released 2 (by_sums (0 ∷ 0 ∷ []) (pos 1 ∷ pos 0 ∷ [])) 2 4 0 completed ≡ copy_placed (copy 1 0) 1 ∷ copy_placed (copy 2 0) 1 ∷ []
  pub lent_later : released 1 (by_sums (0 ∷ 0 ∷ []) (pos 1 ∷ pos 0 ∷ [])) 2 4 1 later ≡ copy_placed (copy 3 2) 0 ∷ []
  pub elsewhere : released 1 (by_sums (0 ∷ 0 ∷ []) (pos 1 ∷ pos 0 ∷ [])) 2 4 0 (counter_at 0 completed) ≡ copy_placed (copy 1 0) 1 ∷ []
  pub used : released 1 (by_sums (0 ∷ 0 ∷ []) (pos 1 ∷ pos 0 ∷ [])) 2 4 0 (counter_at 2 completed) ≡ refused 8 0 ∷ []

pub form-examples : FormExamples
unfolding ℕ_discrete dec_le dec_lt first_below occ_of joined tabulate all_of sum_to after around capped next_phase part sizes_fit first_bad first_twice first_on_cycle tables_answer check_answer below? among? light? good? bad? ends_fit? twice? twice_in? find-twice edge? thru? path? leads? on_cycle? succs_below succ_start succ_starts_of succ_words roots capacity slot_at ends_at store_ends sound empty full head_on tail_on sum_to_z load least_from least chosen each search all_steps all_entries numbers_fit all_fit others_fit lengths_fit counters_fit store_words updated written counted carried_out scan fetch_copy fetch_from fetch_rule start_rule complete_copy complete_sink complete_inner complete_last complete_rule advanced find_room release_to release_first release_later release_rule rule_of step_plan step weak_degrees roots_laid cleared begun roots_answer begin_answer begin turn turns desk_run memory_after answers released
form-examples =
    record {
      closing = refl;
      none_open = refl;
      later_copy = refl;
      later_unread = refl;
      lent_sums = refl;
      lent_later = refl;
      elsewhere = refl;
      used = refl;
    }
