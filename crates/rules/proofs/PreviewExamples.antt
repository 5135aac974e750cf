-- PROMISE: the preview's limits in one table, each answer beside the engine's.
use Prim.Native.Nat.{ℕ, suc, ◌+◌, ◌-◌, ◌≤◌, ◌<◌}
use mathlib.Core.Path.{◌≡◌, refl, sym, ap, ◌∙◌}
use mathlib.Core.Bool.{true, ◌&&◌}
use mathlib.Core.Logic.{inl, inr}
use mathlib.Core.List.{List, [], ◌∷◌}
use native.Mathlib.Omega.{arith}
use native.Mathlib.Decide.{ℕ_discrete, dec_le, dec_lt}
use lib.ListN.{length, get_or, take, replicate, length-replicate, get_or-replicate}
use lib.Seq.{take-nil, drop-nil}
use Rattle.std.specs.Prelude.{Err, Ok}
use Rattle.lists.specs.Decided.{first_below}
use Rattle.lists.specs.Lists.{occ, occ_of, joined, tabulate, all_of}
use Rattle.lists.specs.Sums.{sum_to, sum_to_z}
use Rattle.lists.specs.Circles.{after, around}
use Rattle.lists.proofs.Occurrences.{occ-nil}
use Rattle.lists.proofs.Prefixes.{zeros}
use Rattle.lists.proofs.Told.{neither, told-yes}
use Rattle.task.specs.Types.{engine, preview, capped}
use Rattle.task.specs.Phases.{next_phase}
use Rattle.task.specs.Refusals.{Said, refused, accepted, task_fetched, degree_left, task_placed, answer_says, step_says, Answer}
use Rattle.task.specs.Rows.{Given, Clear, Acceptance}
use Rattle.task.specs.declared.Limits.{Limits}
use Rattle.task.specs.declared.Step.{Step}
use Rattle.task.specs.declared.Step.TheVariants.{Fetch, Start, Complete, Release}
use Rattle.graph.specs.Graph.{Graph, part, preds_of, Edge, Leads, edge, via}
use Rattle.graph.specs.Conditions.{Good}
use Rattle.graph.specs.Check.{sizes_fit, first_bad, first_twice, first_on_cycle, tables_answer, check_answer}
use Rattle.graph.specs.Tables.{Heavy}
use Rattle.graph.specs.Decide.{below?, among?, light?, good?, bad?, ends_fit?, twice?, twice_in?, find-twice, edge?, thru?, path?, leads?, on_cycle?}
use Rattle.graph.specs.Successors.{succs_below, succ_start, succ_starts_of, succ_words, degree_list, roots}
use Rattle.ring.specs.Ring.{capacity, slot_at, ends_at, store_ends, sound, empty, full, head_on, tail_on}
use Rattle.choice.specs.Least.{load, least_from, least}
use Rattle.choice.specs.Search.{search}
use Rattle.memory.specs.Shape.{all_fit}
use Rattle.memory.specs.Updates.{store_words, updated, written}
use Rattle.rules.specs.Memory.{Mem, graph_in, all_steps, all_entries}
use Rattle.rules.specs.Sizes.{numbers_fit, others_fit, lengths_fit}
use Rattle.rules.specs.Words.{counters_fit}
use Rattle.rules.specs.Plans.{counted, carried_out}
use Rattle.rules.specs.Steps.{scan, fetch_task, fetch_from, fetch_rule, start_rule, complete_sink, complete_inner, complete_rule, advanced, find_room, release_to, release_ready, release_waiting, release_rule, rule_of, step_plan, step}
use Rattle.rules.specs.Begin.{cleared, roots_laid, begun, roots_answer, begin_answer, begin}
use Rattle.rules.specs.Desk.{turn, turns}
use Rattle.rules.specs.Tables.{root_count, begin_rows}
use Rattle.plans.proofs.Headers.{lengths-are, limits-told}
use Rattle.rules.proofs.Begin.{begin-follows}
use Rattle.rules.proofs.Examples.{lent, short, fresh, Call, by, diamond, diamond_left}

-- what begin and a step answer by the preview, and what by the engine
abbrev pub begins_beside : ℕ → ℕ → Mem → Said × Said
begins_beside p k m = (answer_says (begin preview p k m).answer, answer_says (begin engine p k m).answer)

abbrev pub steps_beside : ℕ → ℕ → ℕ → Step → Mem → Said × Said
steps_beside p k i s m = (step_says (step preview p k i s m).answer, step_says (step engine p k i s m).answer)

-- what some steps answer one after the other
unfoldable pub answers_at : Limits → ℕ → ℕ → List Call → Mem → List Said
answers_at limits p k [] m = []
answers_at limits p k (c ∷ cs) m =
    step_says (step limits p k c.worker c.taken m).answer ∷ answers_at limits p k cs (step limits p k c.worker c.taken m).memory

-- n tasks without edges, for P 4 and K 8
abbrev pub loose : ℕ → Mem
loose n = lent 4 8 (replicate n 1) (replicate (suc n) 0) []

-- one task that has itself n times as a predecessor, for P 1 and K 2
abbrev pub looped : ℕ → Mem
looped n = lent 1 2 (1 ∷ []) (0 ∷ n ∷ []) (replicate n 0)

-- no tasks
abbrev pub bare : ℕ → ℕ → Mem
bare p k = lent p k [] (0 ∷ []) []

-- one root, and begun by the engine
abbrev pub root : ℕ → ℕ → Mem
root p k = lent p k (1 ∷ []) (0 ∷ 0 ∷ []) []

abbrev pub begun_root : ℕ → ℕ → Mem
begun_root p k = fresh p k (root p k)

-- Within the limits P·K roots are 32 such tasks: proved, as a search for cycles among so many tasks can't be computed.
module _ (n : ℕ) where
  abbrev here : Graph
  here = graph_in (loose n)

  no-preds : (t : ℕ) → preds_of here t ≡ []
  unfolding part
  no-preds t = rw (drop-nil {A = ℕ} (get_or (replicate (suc n) 0) t 0)) (take-nil (get_or here.starts (t + 1) 0 - get_or here.starts t 0))

  no_edge : (u t : ℕ) → ◌≡◌ {A = ℕ} (occ u (preds_of here t)) 0
  no_edge u t = ap (occ u) (no-preds t) ∙ occ-nil ℕ_discrete u

  no-path : (u t : ℕ) → ¬ (Leads (Edge here) u t)
  no-path u t (edge e) = omega (arith, e.predecessor, no_edge u t)
  no-path u t (via {v = v} e l) = omega (arith, e.predecessor, no_edge u v)

  all-good : (t : ℕ) → Good (length (loose n).weights) (replicate (suc n) 0) [] t
  all-good t =
      record {
        rises = omega (arith, zeros (suc n) t);
        inside = omega (arith, zeros (suc n) (t + 1));
        below = λ u h. omega (arith, h, no_edge u t);
      }

  all-light : ¬ (Heavy (replicate n 1))
  all-light (t, (h, w)) = omega (arith, w, get_or-replicate {A = ℕ} n t 1 0 (omega (arith, h, length-replicate {A = ℕ} n 1)))

  ends-fit : (t : ℕ) → ¬ (¬ (◌≡◌ {A = ℕ} (get_or (replicate (suc n) 0) t 0) 0))
  ends-fit t f = f (zeros (suc n) t)

  module _ (l : Limits) (within : numbers_fit l 4 8 && sizes_fit l (length (loose n).weights) 0 ≡ true) (fit : lengths_fit 4 8 (loose n) ≡ true)
      (many : root_count (loose n) ≡ n) where
    -- no row before 6 holds
    rows-passed : Clear (take 6 (begin_rows l 4 8 (loose n)))
    rows-passed = (
      λ d c. neither (told-yes (limits-told l 4 8 (loose n)) within) all-light c.1,
      (
        λ d c. c.1 (lengths-are 4 8 (loose n) fit),
        (
          λ d c. c.such.1 (all-good d),
          (
            λ d c. neither (ends-fit 0) (ends-fit (length (loose n).weights)) c.1,
            (
              λ d c. omega (arith, c.such.1.1, no_edge c.such.1.0 d),
              (
                λ d c. no-path d d c.such,
                tt,
              ),
            ),
          ),
        ),
      ),
    )

    too-many-roots : 32 < n → answer_says (begin l 4 8 (loose n)).answer ≡ refused 6 n
    too-many-roots more = ((begin-follows l 4 8 (loose n)).refuses 6 n).1 (last rows-passed)
      where
        last : Clear (take 6 (begin_rows l 4 8 (loose n))) → Given (begin_rows l 4 8 (loose n)) 6 n
        last (a, (b, (c, (d, (e, (f, _)))))) = inr (a, inr (b, inr (c, inr (d, inr (e, inr (f, inl (refl, (sym many, omega (arith, many, more)))))))))

    all-roots : n ≤ 32 → answer_says (begin l 4 8 (loose n)).answer ≡ accepted
    all-roots few = told (begin l 4 8 (loose n)).answer ((begin-follows l 4 8 (loose n)).accepts.1 (all rows-passed))
      where
        all : Clear (take 6 (begin_rows l 4 8 (loose n))) → Clear (begin_rows l 4 8 (loose n))
        all (a, (b, (c, (d, (e, (f, _)))))) = (a, (b, (c, (d, (e, (f, (λ x h. omega (arith, h.1, many, few), tt)))))))

        told : (a : Answer) → Acceptance (answer_says a) → answer_says a ≡ accepted
        told (Ok u) h = refl
        told (Err why) h = absurd h

pub record PreviewExamples : Type 0 where
  -- "The roots' limit becomes P·K": 32 and 33
  pub roots_held : (begins_beside 4 8 (loose 32) ≡ (accepted, accepted)) × (begins_beside 4 8 (loose 33) ≡ (refused 6 33, refused 6 33))
  -- N 128 and 129
  pub tasks : (begins_beside 4 8 (loose 128) ≡ (refused 6 128, refused 6 128)) × (begins_beside 4 8 (loose 129) ≡ (refused 2 0, refused 6 129))
  pub tasks_step : (steps_beside 4 8 4 Fetch (loose 128) ≡ (refused 7 4, refused 7 4)) × (steps_beside 4 8 4 Fetch (loose 129) ≡ (refused 2 0, refused 7 4))
  -- E 512 and 513
  pub edges : (begins_beside 1 2 (looped 512) ≡ (refused 4 0, refused 4 0)) × (begins_beside 1 2 (looped 513) ≡ (refused 2 0, refused 4 0))
  pub edges_step : (steps_beside 1 2 1 Fetch (looped 512) ≡ (refused 7 1, refused 7 1)) × (steps_beside 1 2 1 Fetch (looped 513) ≡ (refused 2 0, refused 7 1))
  -- P 4, 5 and 0
  pub workers : (begins_beside 4 2 (bare 4 2) ≡ (accepted, accepted)) × (begins_beside 5 2 (bare 5 2) ≡ (refused 2 0, accepted))
  pub workers_step : (steps_beside 4 2 0 Fetch (begun_root 4 2) ≡ (task_fetched 0, task_fetched 0))
      × (steps_beside 5 2 0 Fetch (begun_root 5 2) ≡ (refused 2 0, task_fetched 0))
  pub no_worker : (begins_beside 0 2 (bare 0 2) ≡ (refused 2 0, refused 2 0)) × (steps_beside 0 2 0 Fetch (bare 0 2) ≡ (refused 2 0, refused 2 0))
  -- K 8, 9 and 1
  pub slots : (begins_beside 1 8 (bare 1 8) ≡ (accepted, accepted)) × (begins_beside 1 9 (bare 1 9) ≡ (refused 2 0, accepted))
  pub slots_step : (steps_beside 1 8 0 Fetch (begun_root 1 8) ≡ (task_fetched 0, task_fetched 0))
      × (steps_beside 1 9 0 Fetch (begun_root 1 9) ≡ (refused 2 0, task_fetched 0))
  pub one_slot : (begins_beside 1 1 (bare 1 1) ≡ (refused 2 0, refused 2 0)) × (steps_beside 1 1 0 Fetch (bare 1 1) ≡ (refused 2 0, refused 2 0))
  -- the weights' limit is the engine's
  pub weights : (begins_beside 1 2 (lent 1 2 (65535 ∷ []) (0 ∷ 0 ∷ []) []) ≡ (accepted, accepted))
      × (begins_beside 1 2 (lent 1 2 (65536 ∷ []) (0 ∷ 0 ∷ []) []) ≡ (refused 2 0, refused 2 0))
  -- the refused preview leaves the memory
  pub left : ((begin preview 5 2 (root 5 2)).memory ≡ root 5 2) × ((step preview 5 2 0 Fetch (begun_root 5 2)).memory ≡ begun_root 5 2)
  -- 2 comes before 1: N 129 and degrees a word short; as before 7, above: N 129 or E 513 and a worker that isn't there
  pub wrong_length : begins_beside 4 8 (short (loose 129)) ≡ (refused 2 0, refused 1 0)
  pub wrong_step : steps_beside 4 8 0 Fetch (short (loose 129)) ≡ (refused 2 0, refused 1 0)
  -- the diamond by the preview: its answers, and the words that its turns leave, are those by the engine
  pub diamond_begins : begins_beside 2 4 diamond ≡ (accepted, accepted)
  pub diamond_steps : answers_at preview 2 4
      (by 0 Fetch ∷ by 0 Start ∷ by 0 Complete ∷ by 0 Release ∷ by 0 Release ∷ by 1 Fetch ∷ by 0 Fetch ∷ by 1 Start ∷ by 0 Start ∷ by 1 Complete
      ∷ by 0 Complete ∷ by 1 Release ∷ by 0 Release ∷ by 0 Fetch ∷ by 0 Start ∷ by 0 Complete ∷ []) (begin preview 2 4 diamond).memory
      ≡ task_fetched 0 ∷ accepted ∷ accepted ∷ task_placed 1 0 ∷ task_placed 2 1 ∷ task_fetched 2 ∷ task_fetched 1 ∷ accepted ∷ accepted ∷ accepted
      ∷ accepted ∷ degree_left 1 ∷ task_placed 3 0 ∷ task_fetched 3 ∷ accepted ∷ accepted ∷ []
  pub diamond_whole : turns preview 2 4 32 0 (begin preview 2 4 diamond).memory ≡ diamond_left

pub preview-examples : PreviewExamples
unfolding ℕ_discrete dec_le dec_lt first_below occ_of joined tabulate all_of sum_to after around capped next_phase part sizes_fit first_bad first_twice first_on_cycle tables_answer check_answer below? among? light? good? bad? ends_fit? twice? twice_in? find-twice edge? thru? path? leads? on_cycle? succs_below succ_start succ_starts_of succ_words degree_list roots capacity slot_at ends_at store_ends sound empty full head_on tail_on sum_to_z load least_from least search all_steps all_entries numbers_fit all_fit others_fit lengths_fit counters_fit store_words updated written counted carried_out scan fetch_task fetch_from fetch_rule start_rule complete_sink complete_inner complete_rule advanced find_room release_to release_ready release_waiting release_rule rule_of step_plan step cleared roots_laid begun roots_answer begin_answer begin turn turns answers_at
preview-examples =
    record {
      roots_held = (
        together (all-roots 32 preview refl refl refl (omega arith)) (all-roots 32 engine refl refl refl (omega arith)),
        together (too-many-roots 33 preview refl refl refl (omega arith)) (too-many-roots 33 engine refl refl refl (omega arith)),
      );
      tasks = (
        together (too-many-roots 128 preview refl refl refl (omega arith)) (too-many-roots 128 engine refl refl refl (omega arith)),
        together refl (too-many-roots 129 engine refl refl refl (omega arith)),
      );
      tasks_step = (refl, refl);
      edges = (refl, refl);
      edges_step = (refl, refl);
      workers = (refl, refl);
      workers_step = (refl, refl);
      no_worker = (refl, refl);
      slots = (refl, refl);
      slots_step = (refl, refl);
      one_slot = (refl, refl);
      weights = (refl, refl);
      left = (refl, refl);
      wrong_length = refl;
      wrong_step = refl;
      diamond_begins = refl;
      diamond_steps = refl;
      diamond_whole = refl;
    }
  where
    together : {a b c d : Said} → a ≡ c → b ≡ d → ◌≡◌ {A = Said × Said} (a, b) (c, d)
    together e q = rw (e, q)
