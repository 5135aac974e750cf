-- Programs that the promises about weak runs rule out. Each is the rules with one thing changed, and a run of it on a small memory contradicts a clause of
-- demand 3, `next`, `order`, `steps` or `word`, or of the fixed workers, `recorded`; or two runs of it contradict `two`, since no exchanges join their
-- records.
use Prim.Native.Nat.{ℕ, ◌+◌, ◌*◌, ◌%◌, ◌≤◌, ◌<◌}
use mathlib.Core.Path.{◌≡◌, refl, sym, ◌∙◌}
use mathlib.Core.Bool.{cond}
use mathlib.Core.List.{List, [], ◌∷◌, ◌++◌}
use native.Mathlib.Omega.{arith}
use native.Mathlib.Decide.{ℕ_discrete, dec_le, dec_lt}
use lib.ListN.{length, drop, replicate}
use lib.Dec.{eqb}
use Rattle.std.specs.Prelude.{Err, Ok}
use Rattle.lists.specs.Decided.{first_below}
use Rattle.lists.specs.Lists.{occ_of, place_of, joined, tabulate, all_of}
use Rattle.lists.specs.Sums.{sum_to, sum_to_z}
use Rattle.lists.specs.Circles.{after, around}
use Rattle.task.specs.Types.{nil, engine, capped}
use Rattle.task.specs.Phases.{next_phase, step_number}
use Rattle.task.specs.Refusals.{refusal_number, Said, accepted, wrong_phase, rings_full, answer_says, Answer}
use Rattle.task.specs.Rows.{Acceptance}
use Rattle.task.specs.declared.Limits.{Limits}
use Rattle.task.specs.declared.Step.{Step}
use Rattle.task.specs.declared.Step.TheVariants.{Fetch, Start, Complete, Release}
use Rattle.weak_task.specs.Types.{task_copy}
use Rattle.weak_task.specs.Says.{WeakAnswer, step_says}
use Rattle.weak_task.specs.declared.WeakOutcome.TheVariants.{Moved, Placed}
use Rattle.weak_task.specs.declared.WeakRow.{WeakRow}
use Rattle.graph.specs.Graph.{part}
use Rattle.graph.specs.Check.{sizes_fit, first_bad, first_twice, first_on_cycle, tables_answer, check_answer}
use Rattle.graph.specs.Decide.{below?, among?, light?, good?, bad?, ends_fit?, twice?, twice_in?, find-twice, edge?, thru?, path?, leads?, on_cycle?}
use Rattle.graph.specs.Successors.{succs_below, succ_start, succ_starts_of, succ_words, roots}
use Rattle.ring.specs.Ring.{capacity, slot_at, ends_at, store_ends, sound, empty, full, head_on, tail_on}
use Rattle.choice.specs.Least.{load, least_from, least}
use Rattle.choice.specs.Search.{search}
use Rattle.exchange.specs.Exchange.{Chain, none, more}
use Rattle.copies.specs.Copies.{Copy, copy, same_copy, task_copies, is_copy, Before, CopyExchanges}
use Rattle.copies.proofs.Exchanges.{exchange-copies}
use Rattle.machine.specs.Jobs as jobs
use Rattle.machine.specs.Machine as machine
use Rattle.memory.specs.Family.{Places}
use Rattle.memory.specs.Shape.{all_fit}
use Rattle.memory.specs.Updates.{store_words, updated, written}
use Rattle.plans.specs.Sizes.{KeepsLimits, numbers_fit, others_fit, lengths_fit}
use Rattle.plans.specs.Laying.{roots_laid}
use Rattle.weak_rules.specs.Memory.{Mem, tasks, edges, graph_in, all_steps, all_entries, degree_in, fixed_in, succ_count, row_in, held, entries_in, accepted_in, oldest, successor, made_copy}
use Rattle.weak_rules.specs.Words.{counters_fit}
use Rattle.weak_rules.specs.Updates.{Update, put_degree, put_fixed, put_entry, put_entries, put_accepted, put_places}
use Rattle.weak_rules.specs.Plans.{Plan, refuse, accept, counted, Result, carried_out}
use Rattle.weak_rules.specs.Steps.{scan, fetch_copy, fetch_from, fetch_rule, start_rule, complete_copy, complete_sink, complete_inner, complete_last, complete_rule, advanced, advance, find_room, release_to, release_first, release_later, release_rule, rule_of, step_plan, step}
use Rattle.weak_rules.specs.Begin.{weak_degrees, cleared, begun, roots_answer, begin_answer, begin}
use Rattle.weak_rules.proofs.Examples.{lent, two_roots}
use Rattle.views.proofs.Answers.{steps_among, four_answers, four_refusals, none-accepted}
use Rattle.weak_runs.specs.Calls.{Call, step_call, begin_call, accepted_steps, accepted_completes, weak_calls, Run}
use Rattle.weak_runs.specs.Demand.{copy_words, worker_word, order_of, AllowedOrder, Agree}
use Rattle.weak_runs.proofs.Demand.{lent-sound, lent-once, order-agreed, demand-3}
use Rattle.weak_runs.proofs.FixedWorkers.{fixed-workers}

-- The promises, of any program: a begin and the four steps, each with limits of its own, over the same lent memory.
module _ (on : jobs.Engine Mem) where
  abbrev pub copies_by : jobs.Run on → ℕ
  copies_by r = edges r.lent + length (roots (graph_in r.lent))

  -- "4E + 3R accepted steps"
  abbrev pub steps_by : jobs.Run on → ℕ
  steps_by r = 4 * edges r.lent + 3 * length (roots (graph_in r.lent))

  abbrev pub FinishedBy : jobs.Run on → Type 0
  FinishedBy r = copies_by r ≤ accepted_completes (jobs.events_of on r)

  abbrev pub order_by : jobs.Run on → List Copy
  order_by r = tabulate (copies_by r) (copy_words (jobs.memory_of on r))

  -- what worker i's step with these limits would answer next
  abbrev pub says_next : Limits → jobs.Run on → ℕ → Step → Said
  says_next limits r i s = on.step_says limits r.workers r.slots i s (jobs.memory_of on r)

  abbrev pub AcceptedNext : Limits → jobs.Run on → Type 0
  AcceptedNext limits r = (i : ℕ) × (s : Step) × (i < r.workers) × Acceptance (says_next limits r i s)

  -- demand 3's clauses for one run, as in `OneRun`, that a recorded copy's worker is its task's, as in `FixedWorkers`, and demand 3's clause for two runs
  pub record Keeps : Type 0 where
    pub steps : (r : jobs.Run on) → FinishedBy r → accepted_steps (jobs.events_of on r) ≡ steps_by r
    pub word : (r : jobs.Run on) → accepted_in (jobs.memory_of on r) ≡ accepted_steps (jobs.events_of on r)
    pub full : (r : jobs.Run on) → FinishedBy r → accepted_in (jobs.memory_of on r) ≡ steps_by r
    pub order : (r : jobs.Run on) → FinishedBy r → AllowedOrder r.lent (order_by r)
    pub named : (r : jobs.Run on) → FinishedBy r → (x : ℕ) → x < copies_by r → worker_word (jobs.memory_of on r) x < r.workers
    pub next : (r : jobs.Run on) → ¬ (FinishedBy r) → AcceptedNext r.limits r
    pub next_by : (r : jobs.Run on) → ¬ (FinishedBy r) → (limits : Limits)
        → KeepsLimits limits r.workers r.slots (tasks r.lent) (edges r.lent)
        → AcceptedNext limits r
    pub recorded : (r : jobs.Run on) (x : ℕ) → x < accepted_completes (jobs.events_of on r)
        → worker_word (jobs.memory_of on r) x ≡ fixed_in (jobs.memory_of on r) (copy_words (jobs.memory_of on r) x).task
    pub two : (r r' : jobs.Run on) → Agree r.lent r'.lent → FinishedBy r → FinishedBy r'
        → CopyExchanges (graph_in r.lent) (order_by r) (order_by r')

-- the rules keep them: what is refuted below is the promises' own claim, of other programs
pub rules-keep-them : Keeps weak_calls
unfolding order_of
rules-keep-them =
    record {
      steps = λ r f. (demand-3.one r).steps (record { completes = f });
      word = λ r. (demand-3.one r).word;
      full = λ r f. (demand-3.one r).full (record { completes = f });
      order = λ r f. (demand-3.one r).order (record { completes = f });
      named = λ r f. (demand-3.one r).named (record { completes = f });
      next = λ r n. (demand-3.one r).next (λ f. n f.completes);
      next_by = λ r n. (demand-3.one r).next_by (λ f. n f.completes);
      recorded = λ r. (fixed-workers r).recorded;
      two = λ r r' same f f'. demand-3.two r r' same (record { completes = f }) (record { completes = f' });
    }

-- No program that begins only where the rules do is ruled out by `two` alone: one that keeps `order` keeps `two`, since orders that the graph allows
-- are joined by exchanges. So a program against `two` has a run against `order` too.
pub order-joins : (on : jobs.Engine Mem)
    → ((r : jobs.Run on) → weak_calls.begin_says r.limits r.workers r.slots r.lent ≡ accepted)
    → ((r : jobs.Run on) → FinishedBy on r → AllowedOrder r.lent (order_by on r))
    → (r r' : jobs.Run on)
    → Agree r.lent r'.lent
    → FinishedBy on r
    → FinishedBy on r'
    → CopyExchanges (graph_in r.lent) (order_by on r) (order_by on r')
order-joins on begins order r r' same f f' =
    exchange-copies (graph_in r.lent) (lent-sound (begun_by r)) (lent-once (begun_by r)) (order_by on r) (order_by on r') (order r f)
    (order-agreed (begun_by r) (begun_by r') same (order r' f'))
  where
    -- the rules' own begin of the same lists
    begun_by : jobs.Run on → Run
    begun_by x = record { limits = x.limits; workers = x.workers; slots = x.slots; lent = x.lent; accepts = begins x; calls = [] }

-- Why a list of copies is no order that the graph allows: a copy is missing, or stands before one of its predecessor's.
data Fault (m : Mem) (l : List Copy) : Type 0 where
  missing : (c : Copy) → 0 < is_copy (graph_in m) c → ◌≡◌ {A = ℕ} (occ_of same_copy c l) 0 → Fault m l
  early : (b c : Copy) → Before (graph_in m) b c → place_of same_copy c l < place_of same_copy b l → Fault m l

fault-forbids : (m : Mem) (l : List Copy) → Fault m l → ¬ (AllowedOrder m l)
fault-forbids m l (missing c h none-there) allowed = absurd (omega (arith, h, none-there, allowed.once c))
fault-forbids m l (early b c before ahead) allowed = absurd (omega (arith, ahead, allowed.after b c before))

-- no exchanges lead to a list with a fault
fault-unreached : (m : Mem) {a l : List Copy} {n : ℕ} → Chain same_copy (is_copy (graph_in m)) (Before (graph_in m)) a l n → ¬ (Fault m l)
fault-unreached m (none {a = l} allowed) fault = fault-forbids m l fault allowed
fault-unreached m (more allowed s rest) fault = fault-unreached m rest fault

-- How a run contradicts them.
module _ {on : jobs.Engine Mem} (r : jobs.Run on) where
  -- all its steps are accepted, it isn't finished, and no worker has a step that would be accepted next: all are idle, with nothing in their rings and buffers
  record Stuck : Type 0 where
    taken : accepted_steps (jobs.events_of on r) ≡ steps_among r.calls
    unfinished : accepted_completes (jobs.events_of on r) < copies_by on r
    refusals : tabulate r.workers (four_answers (says_next on r.limits r)) ≡ replicate r.workers (four_refusals 10 9 9 10)

  stuck-fails : Stuck → ¬ (Keeps on)
  stuck-fails stuck keeps =
      none-accepted r.workers (says_next on r.limits r) 10 9 9 10 stuck.refusals (keeps.next r (λ f. omega (arith, f, stuck.unfinished)))

  -- all its steps are accepted, it is finished, and its order is l, with a fault
  record Disordered (l : List Copy) : Type 0 where
    taken : accepted_steps (jobs.events_of on r) ≡ steps_among r.calls
    finished : accepted_completes (jobs.events_of on r) ≡ copies_by on r
    order : order_by on r ≡ l
    fault : Fault r.lent l

  disordered-fails : {l : List Copy} → Disordered l → ¬ (Keeps on)
  disordered-fails {l} d keeps = fault-forbids r.lent l d.fault (rw (sym d.order) (keeps.order r (omega (arith, d.finished))))

  -- it has so many accepted Completes, so many accepted steps, and this accepted word
  record Counted (completes steps word : ℕ) : Type 0 where
    completed : accepted_completes (jobs.events_of on r) ≡ completes
    taken : accepted_steps (jobs.events_of on r) ≡ steps
    written : accepted_in (jobs.memory_of on r) ≡ word

  -- with E + R accepted Completes it is finished
  steps-fail : {completes steps word : ℕ} → Counted completes steps word → completes ≡ copies_by on r → ¬ (steps ≡ steps_by on r) → ¬ (Keeps on)
  steps-fail c all wrong keeps = wrong (sym c.taken ∙ keeps.steps r (omega (arith, c.completed, all)))

  word-fails : {completes steps word : ℕ} → Counted completes steps word → ¬ (word ≡ steps) → ¬ (Keeps on)
  word-fails c wrong keeps = wrong (sym c.written ∙ keeps.word r ∙ c.taken)

  -- a recorded copy is another worker's than its task
  record Astray (x : ℕ) : Type 0 where
    inside : x < accepted_completes (jobs.events_of on r)
    other : worker_word (jobs.memory_of on r) x < fixed_in (jobs.memory_of on r) (copy_words (jobs.memory_of on r) x).task

  astray-fails : {x : ℕ} → Astray x → ¬ (Keeps on)
  astray-fails {x} a keeps = omega (arith, a.other, keeps.recorded r x a.inside)

-- How two runs do: both are finished and of one graph, the orders are l and l', and l' has a fault.
module _ {on : jobs.Engine Mem} (r r' : jobs.Run on) where
  record Unjoined (l l' : List Copy) : Type 0 where
    agree : Agree r.lent r'.lent
    finished : (accepted_completes (jobs.events_of on r) ≡ copies_by on r) × (accepted_completes (jobs.events_of on r') ≡ copies_by on r')
    order : (order_by on r ≡ l) × (order_by on r' ≡ l')
    fault : Fault r.lent l'

  unjoined-fail : {l l' : List Copy} → Unjoined l l' → ¬ (Keeps on)
  unjoined-fail u keeps =
      fault-unreached r.lent
      (keeps.two r r' u.agree (omega (arith, u.finished.0)) (omega (arith, u.finished.1))).chain
      (rw u.order.1 u.fault)

-- The programs: the rules with another begin, with other steps, or with another plan for one of the steps.
abbrev pub program_of : (Limits → ℕ → ℕ → Mem → Result Answer) → (Limits → ℕ → ℕ → ℕ → Step → Mem → Result WeakAnswer) → jobs.Engine Mem
program_of begins takes =
    record {
      step_says = λ limits p k i s m. step_says (takes limits p k i s m).answer;
      step_leaves = λ limits p k i s m. (takes limits p k i s m).memory;
      begin_says = λ limits p k m. answer_says (begins limits p k m).answer;
      begin_leaves = λ limits p k m. (begins limits p k m).memory;
      lookup_says = weak_calls.lookup_says;
    }

abbrev pub but_for : Step → (Limits → ℕ → ℕ → ℕ → Mem → Plan) → jobs.Engine Mem
but_for other plan =
    program_of begin
    (λ limits p k i s m. carried_out (cond (eqb (step_number s) (step_number other)) (plan limits p k i m) (step_plan limits p k i s m)) m)

-- where a plan accepts, it writes these too, after its own updates
abbrev pub also_writing : Plan → List Update → Plan
also_writing (refuse why) us = refuse why
also_writing (accept o vs) us = accept o (vs ++ us)

-- a Complete with which every copy completes its task: the rule's plan for a degree of 1
abbrev pub completes_each : jobs.Engine Mem
completes_each = but_for Complete (λ limits p k i m. step_plan limits p k i Complete (written (put_degree (held m i).task 1 ∷ []) m))

-- a Complete that leaves the degree
abbrev pub leaves_degree : jobs.Engine Mem
leaves_degree =
    but_for Complete
    (λ limits p k i m. also_writing (step_plan limits p k i Complete m) (put_degree (held m i).task (degree_in m (held m i).task) ∷ []))

-- a Release with which every copy picks its ring: the rule's plan for a task without a worker
abbrev pub picks_each : jobs.Engine Mem
picks_each = but_for Release (λ limits p k i m. step_plan limits p k i Release (written (put_fixed (successor m i) nil.0 ∷ []) m))

-- a Release that skips the last successor: it goes on to the next task of the buffer when one successor is left
abbrev pub skipping_places : ℕ → WeakRow → Places
skipping_places count r = cond (eqb (r.cursor + 2) count) (record { read = r.read + 1; write = r.write; cursor = 0 }) (advanced count r)

abbrev pub skips_last : jobs.Engine Mem
skips_last =
    but_for Release
    (λ limits p k i m. also_writing (step_plan limits p k i Release m) (put_places i (skipping_places (succ_count m (oldest m i)) (row_in m i)) ∷ []))

-- a Release that drops the copy when the rings are full: where the rule refuses with 11, it goes on
abbrev pub dropping : ℕ → Mem → Plan → Plan
dropping i m (refuse why) =
    cond (eqb (refusal_number why) rings_full) (counted m (Placed (task_copy (made_copy m i)) (record { 0 = i })) (advance i m ∷ [])) (refuse why)
dropping i m (accept o us) = accept o us

abbrev pub drops_when_full : jobs.Engine Mem
drops_when_full = but_for Release (λ limits p k i m. dropping i m (step_plan limits p k i Release m))

-- a Complete that doesn't record: the entry's words and the entries word stay as they were
abbrev pub no_record : jobs.Engine Mem
no_record =
    but_for Complete
    (λ limits p k i m.
    also_writing (step_plan limits p k i Complete m)
    (put_entry (entries_in m) (copy_words m (entries_in m)) (worker_word m (entries_in m)) ∷ put_entries (entries_in m) ∷ []))

-- a begin that forgets the first root
abbrev pub begin_without : Answer → ℕ → ℕ → Mem → Result Answer
begin_without (Err why) p k m = record { answer = Err why; memory = m }
begin_without (Ok tt) p k m =
    record {
      answer = Ok tt;
      memory = roots_laid p k (λ t. copy t nil.0) (λ n t. put_fixed t (n % p) ∷ []) 0 (drop 1 (roots (graph_in m))) (cleared m);
    }

abbrev pub forgets_root : jobs.Engine Mem
forgets_root = program_of (λ limits p k m. begin_without (begin_answer limits p k m) p k m) step

-- a begin that is refused and clears the memory
abbrev pub clearing : Answer → Mem → Result Answer
clearing (Err why) m = record { answer = Err why; memory = cleared m }
clearing (Ok u) m = record { answer = Ok tt; memory = m }

abbrev pub clears_refused : jobs.Engine Mem
clears_refused = program_of (λ limits p k m. clearing (begin limits p k m).answer (begin limits p k m).memory) step

-- steps that never write the accepted word: it stays as it was
abbrev pub never_counts : jobs.Engine Mem
never_counts = program_of begin (λ limits p k i s m. carried_out (also_writing (step_plan limits p k i s m) (put_accepted (accepted_in m) ∷ [])) m)

-- "an accepted word that is invented": begin writes 4E + 3R there, and each step follows the rule as if it were 0, and puts the old word back
abbrev pub word_invented : Answer → Mem → Result Answer
word_invented (Err why) m = record { answer = Err why; memory = m }
word_invented (Ok u) m = record { answer = Ok tt; memory = written (put_accepted (all_steps m) ∷ []) m }

abbrev pub invents_word : jobs.Engine Mem
invents_word =
    program_of (λ limits p k m. word_invented (begin limits p k m).answer (begin limits p k m).memory)
    (λ limits p k i s m. carried_out (also_writing (step_plan limits p k i s (written (put_accepted 0 ∷ []) m)) (put_accepted (accepted_in m) ∷ [])) m)

-- a Start that is "accepted with nothing moved" where it doesn't suit the phase
abbrev pub idling : Plan → Plan
idling (refuse why) = cond (eqb (refusal_number why) wrong_phase) (accept Moved []) (refuse why)
idling (accept o us) = accept o us

abbrev pub starts_again : jobs.Engine Mem
starts_again = but_for Start (λ limits p k i m. idling (step_plan limits p k i Start m))

-- a Complete that exchanges task number and worker number in the entry: "Task ID and thread ID are two things"
abbrev pub exchanges_numbers : jobs.Engine Mem
exchanges_numbers =
    but_for Complete
    (λ limits p k i m. also_writing (step_plan limits p k i Complete m) (put_entry (entries_in m) (copy i (held m i).predecessor) (held m i).task ∷ []))

-- Their runs: of edges 0→2, 1→2, 2→3
abbrev pub seam : Mem
seam = lent 2 2 (1 ∷ 1 ∷ 1 ∷ 1 ∷ []) (0 ∷ 0 ∷ 0 ∷ 2 ∷ 3 ∷ []) (0 ∷ 1 ∷ 2 ∷ [])

-- edges 0→1, 0→2, 0→3, for one worker
abbrev pub fork : Mem
fork = lent 1 2 (1 ∷ 1 ∷ 1 ∷ 1 ∷ []) (0 ∷ 0 ∷ 1 ∷ 2 ∷ 3 ∷ []) (0 ∷ 0 ∷ 0 ∷ [])

-- one task
abbrev pub single : Mem
single = lent 2 2 (1 ∷ []) (0 ∷ 0 ∷ []) []

-- two roots for one worker and three slots, and `two_roots` for two workers
abbrev pub two_roots_alone : Mem
two_roots_alone = lent 1 3 (4 ∷ 9 ∷ []) (0 ∷ 0 ∷ 0 ∷ []) []

-- a begin with the engine's limits is accepted
abbrev Begins : jobs.Engine Mem → ℕ → ℕ → Mem → Type 0
Begins on p k m = on.begin_says engine p k m ≡ accepted

record RunsBegin : Type 0 where
  of_seam : Begins weak_calls 2 2 seam
  of_fork : Begins weak_calls 1 2 fork
  of_single : Begins weak_calls 2 2 single
  of_two_roots : Begins weak_calls 2 2 two_roots
  of_two_roots_alone : Begins weak_calls 1 3 two_roots_alone
  -- by the programs with another begin
  forgetting : Begins forgets_root 2 2 two_roots
  clearing : Begins clears_refused 2 2 two_roots
  inventing : Begins invents_word 2 2 single

runs-begin : RunsBegin
unfolding ℕ_discrete dec_le dec_lt first_below occ_of joined tabulate all_of sum_to after around capped next_phase part sizes_fit first_bad first_twice first_on_cycle tables_answer check_answer below? among? light? good? bad? ends_fit? twice? twice_in? find-twice edge? thru? path? leads? on_cycle? succs_below succ_start succ_starts_of succ_words roots capacity slot_at ends_at store_ends sound empty full head_on tail_on sum_to_z load least_from least search all_steps all_entries numbers_fit all_fit others_fit lengths_fit counters_fit store_words updated written counted carried_out weak_degrees roots_laid cleared begun roots_answer begin_answer begin
runs-begin =
    record {
      of_seam = refl;
      of_fork = refl;
      of_single = refl;
      of_two_roots = refl;
      of_two_roots_alone = refl;
      forgetting = refl;
      clearing = refl;
      inventing = refl;
    }

abbrev run_of : (on : jobs.Engine Mem) (p k : ℕ) (m : Mem) → Begins on p k m → List Call → jobs.Run on
run_of on p k m b cs = record { limits = engine; workers = p; slots = k; lent = m; accepts = b; calls = cs }

abbrev by : ℕ → Step → Call
by = step_call engine 2 2

abbrev runs_one : ℕ → List Call
runs_one i = by i Fetch ∷ by i Start ∷ by i Complete ∷ []

-- the one worker of K slots
abbrev runs_alone : ℕ → List Call
runs_alone k = step_call engine 1 k 0 Fetch ∷ step_call engine 1 k 0 Start ∷ step_call engine 1 k 0 Complete ∷ []

abbrev releases : Call
releases = step_call engine 1 2 0 Release

-- worker 0 runs task 0 and releases a copy of task 2, runs it and releases task 3, runs this, and only then worker 1 runs task 1
abbrev hasty : jobs.Run completes_each
hasty =
    run_of completes_each 2 2 seam runs-begin.of_seam
    (runs_one 0 ++ (by 0 Release ∷ runs_one 0) ++ (by 0 Release ∷ runs_one 0) ++ runs_one 1 ++ (by 1 Release ∷ runs_one 0))

-- both roots and both copies of task 2 are run
abbrev waiting : jobs.Run leaves_degree
waiting =
    run_of leaves_degree 2 2 seam runs-begin.of_seam (runs_one 0 ++ (by 0 Release ∷ runs_one 1) ++ (by 1 Release ∷ runs_one 0) ++ runs_one 0)

-- worker 0 runs task 0, worker 1 task 1, each releases a copy of task 2, and worker 0 runs its own
abbrev parted : jobs.Run picks_each
parted = run_of picks_each 2 2 seam runs-begin.of_seam (runs_one 0 ++ (by 0 Release ∷ runs_one 1) ++ (by 1 Release ∷ runs_one 0))

-- worker 0 runs the root in its ring
abbrev forgotten : jobs.Run forgets_root
forgotten = run_of forgets_root 2 2 two_roots runs-begin.forgetting (runs_one 0)

-- the one worker runs task 0, releases copies of tasks 1 and 2, and runs them
abbrev skipped : jobs.Run skips_last
skipped = run_of skips_last 1 2 fork runs-begin.of_fork (runs_alone 2 ++ (releases ∷ releases ∷ []) ++ runs_alone 2 ++ runs_alone 2)

-- and a third copy, when the ring holds two
abbrev dropped : jobs.Run drops_when_full
dropped = run_of drops_when_full 1 2 fork runs-begin.of_fork (runs_alone 2 ++ (releases ∷ releases ∷ releases ∷ []) ++ runs_alone 2 ++ runs_alone 2)

-- both roots are run
abbrev unrecorded : jobs.Run no_record
unrecorded = run_of no_record 2 2 two_roots runs-begin.of_two_roots (runs_one 0 ++ runs_one 1)

-- worker 0 runs a root, and a begin with another K than the first one's is refused
abbrev begun_twice : jobs.Run clears_refused
begun_twice = run_of clears_refused 2 2 two_roots runs-begin.clearing (runs_one 0 ++ (begin_call engine 2 3 ∷ []))

-- worker 0 runs the one task
abbrev uncounted : jobs.Run never_counts
uncounted = run_of never_counts 2 2 single runs-begin.of_single (runs_one 0)

-- begun, and then run too
abbrev invented : List Call → jobs.Run invents_word
invented = run_of invents_word 2 2 single runs-begin.inventing

-- worker 0 runs it, with a second Start
abbrev restarted : jobs.Run starts_again
restarted = run_of starts_again 2 2 single runs-begin.of_single (by 0 Fetch ∷ by 0 Start ∷ by 0 Start ∷ by 0 Complete ∷ [])

-- worker i runs task i; one worker runs both
abbrev apart : jobs.Run exchanges_numbers
apart = run_of exchanges_numbers 2 2 two_roots runs-begin.of_two_roots (runs_one 0 ++ runs_one 1)

abbrev together : jobs.Run exchanges_numbers
together = run_of exchanges_numbers 1 3 two_roots_alone runs-begin.of_two_roots_alone (runs_alone 3 ++ runs_alone 3)

-- a root's copy
abbrev root_copy : ℕ → Copy
root_copy t = copy t nil.0

record WrongRuns : Type 0 where
  -- against `order`: task 3's copy stands before task 2's second one
  completes-each : Disordered hasty (root_copy 0 ∷ copy 2 0 ∷ copy 3 2 ∷ root_copy 1 ∷ copy 2 1 ∷ [])
  -- against `order`: both copies are completed, the record's words are begin's
  does-not-record : Disordered unrecorded (copy 0 0 ∷ copy 0 0 ∷ [])
  -- against `next`: task 2 is never complete, with both its copies recorded
  leaves-the-degree : Stuck waiting
  -- against `next`: root 1 is run, root 0 is in no ring
  forgets-a-root : Stuck forgotten
  -- against `next`: no copy of task 3 is made
  skips-the-last-successor : Stuck skipped
  -- against `next`: the ring held copies of tasks 1 and 2, and task 3's is lost
  drops-when-full : Stuck dropped
  -- against `next`: the copy that waits for worker 1 is in no ring after the refused begin
  clears-when-refused : Stuck begun_twice
  -- against `recorded`: task 2 is fixed to worker 1, and worker 0 ran its first copy
  picks-each : Astray parted 2
  -- against `word`: 3 accepted steps, as they should be, and begin's accepted word
  never-counts : Counted uncounted 1 3 0
  -- against `word`: begun, it says 3, and no step is taken; finished, steps and word are what they should be
  invents-the-word : Counted (invented []) 0 0 3
  invented-in-the-end : Counted (invented (runs_one 0)) 1 3 3
  -- against `steps`: a second Start is accepted, and the accepted word is still 3
  starts-again : Counted restarted 1 4 3
  -- against `two`: worker i runs task i, and the record is good; worker 0 runs both, and task 0 stands there twice
  exchanges-numbers : Unjoined apart together (root_copy 0 ∷ root_copy 1 ∷ []) (root_copy 0 ∷ root_copy 0 ∷ [])

wrong-runs : WrongRuns
unfolding ℕ_discrete dec_le dec_lt first_below occ_of joined tabulate all_of sum_to after around capped next_phase part sizes_fit first_bad first_twice first_on_cycle tables_answer check_answer below? among? light? good? bad? ends_fit? twice? twice_in? find-twice edge? thru? path? leads? on_cycle? succs_below succ_start succ_starts_of succ_words roots capacity slot_at ends_at store_ends sound empty full head_on tail_on sum_to_z load least_from least search all_steps all_entries numbers_fit all_fit others_fit lengths_fit counters_fit store_words updated written counted carried_out scan fetch_copy fetch_from fetch_rule start_rule complete_copy complete_sink complete_inner complete_last complete_rule advanced find_room release_to release_first release_later release_rule rule_of step_plan step weak_degrees roots_laid cleared begun roots_answer begin_answer begin machine.began machine.memory_after machine.recalled machine.events_after machine.accepted_of place_of same_copy task_copies is_copy steps_among
wrong-runs =
    record {
      completes-each = record {
        taken = refl;
        finished = refl;
        order = refl;
        fault = early (copy 2 1) (copy 3 2) (record { earlier = omega arith; later = omega arith; predecessor = refl }) (omega arith);
      };
      does-not-record = record { taken = refl; finished = refl; order = refl; fault = missing (root_copy 1) (omega arith) refl };
      leaves-the-degree = record { taken = refl; unfinished = omega arith; refusals = refl };
      forgets-a-root = record { taken = refl; unfinished = omega arith; refusals = refl };
      skips-the-last-successor = record { taken = refl; unfinished = omega arith; refusals = refl };
      drops-when-full = record { taken = refl; unfinished = omega arith; refusals = refl };
      clears-when-refused = record { taken = refl; unfinished = omega arith; refusals = refl };
      picks-each = record { inside = omega arith; other = omega arith };
      never-counts = record { completed = refl; taken = refl; written = refl };
      invents-the-word = record { completed = refl; taken = refl; written = refl };
      invented-in-the-end = record { completed = refl; taken = refl; written = refl };
      starts-again = record { completed = refl; taken = refl; written = refl };
      exchanges-numbers =
          record {
            agree = record { same_tasks = refl; same_edges = λ u t. (λ e. e, λ e. e) };
            finished = (refl, refl);
            order = (refl, refl);
            fault = missing (root_copy 1) (omega arith) refl;
          };
    }

pub every-copy-completes : ¬ (Keeps completes_each)
every-copy-completes = disordered-fails hasty wrong-runs.completes-each

pub degree-left : ¬ (Keeps leaves_degree)
degree-left = stuck-fails waiting wrong-runs.leaves-the-degree

pub no-forgotten-root : ¬ (Keeps forgets_root)
no-forgotten-root = stuck-fails forgotten wrong-runs.forgets-a-root

pub no-skipped-successor : ¬ (Keeps skips_last)
no-skipped-successor = stuck-fails skipped wrong-runs.skips-the-last-successor

pub no-dropped-copy : ¬ (Keeps drops_when_full)
no-dropped-copy = stuck-fails dropped wrong-runs.drops-when-full

pub no-missing-entry : ¬ (Keeps no_record)
no-missing-entry = disordered-fails unrecorded wrong-runs.does-not-record

pub no-clearing-refusal : ¬ (Keeps clears_refused)
no-clearing-refusal = stuck-fails begun_twice wrong-runs.clears-when-refused

pub every-copy-picks : ¬ (Keeps picks_each)
every-copy-picks = astray-fails parted wrong-runs.picks-each

pub no-unwritten-word : ¬ (Keeps never_counts)
no-unwritten-word = word-fails uncounted wrong-runs.never-counts (λ e. omega (arith, e))

pub no-invented-word : ¬ (Keeps invents_word)
no-invented-word = word-fails (invented []) wrong-runs.invents-the-word (λ e. omega (arith, e))

pub no-idle-start : ¬ (Keeps starts_again)
unfolding ℕ_discrete joined part roots
no-idle-start = steps-fail restarted wrong-runs.starts-again refl (λ e. omega (arith, e))

pub no-exchanged-numbers : ¬ (Keeps exchanges_numbers)
no-exchanged-numbers = unjoined-fail apart together wrong-runs.exchanges-numbers
