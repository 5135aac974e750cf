-- Programs that demand 3 rules out. Each is the rules with one thing changed, and a run of it on a small memory contradicts a clause of demand 3:
-- `next`, since no worker has a step that would be accepted; `order`, since the record isn't an order that the graph allows; `steps`, since there aren't
-- 3N + E; `word`, since the accepted word isn't their number; or two runs of it contradict `two`, since no exchanges join their records.
use Prim.Native.Nat.{ℕ, suc, ◌+◌, ◌-◌, ◌*◌, ◌≤◌, ◌<◌, min}
use mathlib.Core.Path.{◌≡◌, refl, sym, ap, ◌∙◌}
use mathlib.Core.Bool.{cond}
use mathlib.Core.List.{List, [], ◌∷◌, ◌++◌}
use native.Mathlib.Omega.{arith}
use native.Mathlib.Decide.{ℕ_discrete, dec_le, dec_lt}
use lib.ListN.{drop, replicate}
use lib.Dec.{ltb, eqb}
use Rattle.std.specs.Prelude.{Err, Ok}
use Rattle.lists.specs.Decided.{first_below}
use Rattle.lists.specs.Lists.{occ, occ_of, place_of, joined, tabulate, all_of}
use Rattle.lists.specs.Sums.{sum_to, sum_to_z}
use Rattle.lists.specs.Circles.{after, around}
use Rattle.lists.proofs.Decided.{tally-yes}
use Rattle.task.specs.Types.{engine, preview, capped}
use Rattle.task.specs.Phases.{next_phase, step_number}
use Rattle.task.specs.Refusals.{refusal_number, Said, accepted, wrong_phase, rings_full, answer_says, step_says, Answer, StepAnswer}
use Rattle.task.specs.Rows.{Acceptance}
use Rattle.task.specs.declared.Limits.{Limits}
use Rattle.task.specs.declared.Row.{Row}
use Rattle.task.specs.declared.Step.{Step}
use Rattle.task.specs.declared.Step.TheVariants.{Fetch, Start, Complete, Release}
use Rattle.task.specs.declared.StepOutcome.TheVariants.{Moved, Released}
use Rattle.task.specs.declared.ReleaseOutcome.TheVariants.{Placed}
use Rattle.graph.specs.Graph.{part, Edge}
use Rattle.graph.specs.Check.{sizes_fit, first_bad, first_twice, first_on_cycle, tables_answer, check_answer}
use Rattle.graph.specs.Decide.{below?, among?, light?, good?, bad?, ends_fit?, twice?, twice_in?, find-twice, edge?, thru?, path?, leads?, on_cycle?}
use Rattle.graph.specs.Successors.{succs_below, succ_start, succ_starts_of, succ_words, degree_list, roots}
use Rattle.ring.specs.Ring.{capacity, slot_at, ends_at, store_ends, sound, empty, full, head_on, tail_on}
use Rattle.choice.specs.Least.{load, least_from, least}
use Rattle.choice.specs.Search.{search}
use Rattle.exchange.specs.Exchange.{Chain, none, more}
use Rattle.exchange.specs.Pairs.{each_once, TaskExchanges}
use Rattle.exchange.proofs.Theorem.{exchange-tasks}
use Rattle.machine.specs.Machine.{Machine}
use Rattle.machine.specs.Machine as machine
use Rattle.machine.proofs.Lists.{Alike, alike-memory, alike-events}
use Rattle.rules.specs.Memory.{Mem, tasks, edges, graph_in, all_steps, all_entries, degree_in, succ_count, row_in, held, entries_in, accepted_in, oldest, successor}
use Rattle.rules.specs.Sizes.{KeepsLimits, numbers_fit, others_fit, lengths_fit}
use Rattle.rules.specs.Words.{counters_fit}
use Rattle.memory.specs.Family.{Places}
use Rattle.memory.specs.Updates.{store_words, updated, written}
use Rattle.memory.specs.Shape.{all_fit}
use Rattle.rules.specs.Updates.{Update, put_degree, put_entry, put_entries, put_accepted, put_places}
use Rattle.rules.specs.Plans.{Plan, refuse, accept, counted, Result, carried_out}
use Rattle.rules.specs.Steps.{scan, fetch_task, fetch_from, fetch_rule, start_rule, complete_sink, complete_inner, complete_rule, advanced, advance, find_room, release_to, release_ready, release_waiting, release_rule, rule_of, step_plan, step}
use Rattle.rules.specs.Begin.{cleared, roots_laid, roots_placed, begun, roots_answer, begin_answer, begin}
use Rattle.rules.proofs.Examples.{lent, Call, by, single, two_roots, fork}
use Rattle.views.proofs.Answers.{steps_among, four_answers, four_refusals, none-accepted}
use Rattle.runs.specs.Calls.{step_call, begin_call, lookup_call, says, leaves, kind_of, plain, Event, Run, memory_of, events_of, view_of}
use Rattle.runs.specs.Calls as calls
use Rattle.runs.specs.Demand.{accepted_of, accepted_steps, accepted_completes, Finished, task_word, worker_word, order_of, AllowedOrder, OneRun, Agree, Demand3}
use Rattle.runs.proofs.Demand.{order-agreed, demand-3}

-- Demand 3 of any program.

-- a begin and the four steps, each with limits of its own
pub record Program : Type 0 where
  pub begins : Limits → (p k : ℕ) → Mem → Result Answer
  pub takes : Limits → (p k worker : ℕ) → Step → Mem → Result StepAnswer

abbrev pub rules : Program
rules = record { begins = begin; takes = step }

-- a begin with some limits, P and K on a memory, and the calls after it: "Fetch, Start, Complete and Release with any worker, P and K, accepted or refused, and
-- refused begins", and lookups
pub record Trial : Type 0 where
  pub limits : Limits
  pub workers : ℕ
  pub slots : ℕ
  pub memory : Mem
  pub calls : List calls.Call

-- what a call answers, and the memory that it leaves; a lookup is lent its lists shared, and is no part of the program
unfoldable pub answer_by : Program → calls.Call → Mem → Said
answer_by g (step_call limits p k i s) m = step_says (g.takes limits p k i s m).answer
answer_by g (begin_call limits p k) m = answer_says (g.begins limits p k m).answer
answer_by g (lookup_call side t) m = says (lookup_call side t) m

unfoldable pub left_by : Program → calls.Call → Mem → Mem
left_by g (step_call limits p k i s) m = (g.takes limits p k i s m).memory
left_by g (begin_call limits p k) m = (g.begins limits p k m).memory
left_by g (lookup_call side t) m = m

-- the machine of these calls, as `plain` is of the rules
abbrev pub machine_of : Program → Machine Mem calls.Call
machine_of g = record { says = answer_by g; leaves = left_by g; kind = kind_of }

abbrev pub BeginAccepted : Program → Trial → Type 0
BeginAccepted g r = answer_says (g.begins r.limits r.workers r.slots r.memory).answer ≡ accepted

abbrev pub begun_by : Program → Trial → Mem
begun_by g r = (g.begins r.limits r.workers r.slots r.memory).memory

abbrev pub end_of : Program → Trial → Mem
end_of g r = machine.memory_after (machine_of g) r.calls (begun_by g r)

abbrev pub events_in : Program → Trial → List Event
events_in g r = machine.events_after (machine_of g) r.calls (begun_by g r) []

abbrev pub order_in : Program → Trial → List ℕ
order_in g r = tabulate (tasks r.memory) (task_word (end_of g r))

-- "The run is finished once N of its Completes are accepted"
abbrev pub FinishedBy : Program → Trial → Type 0
FinishedBy g r = tasks r.memory ≤ accepted_completes (events_in g r)

-- what worker i's step with these limits would answer next
abbrev pub next_answer : Program → Limits → Trial → ℕ → Step → Said
next_answer g limits r i s = answer_by g (step_call limits r.workers r.slots i s) (end_of g r)

-- N, E, P and K keep these limits
abbrev pub TrialKeeps : Limits → Trial → Type 0
TrialKeeps limits r = KeepsLimits limits r.workers r.slots (tasks r.memory) (edges r.memory)

-- demand 3's clauses for one run, as in `OneRun`
pub record OneTrial (g : Program) (r : Trial) : Type 0 where
  pub steps : FinishedBy g r → accepted_steps (events_in g r) ≡ 3 * tasks r.memory + edges r.memory
  pub word : accepted_in (end_of g r) ≡ accepted_steps (events_in g r)
  pub full : FinishedBy g r → accepted_in (end_of g r) ≡ 3 * tasks r.memory + edges r.memory
  pub order : FinishedBy g r → AllowedOrder r.memory (order_in g r)
  pub named : FinishedBy g r → (x : ℕ) → x < tasks r.memory → worker_word (end_of g r) x < r.workers
  pub next : ¬ (FinishedBy g r) → (i : ℕ) × (s : Step) × (i < r.workers) × Acceptance (next_answer g r.limits r i s)
  pub next_by : ¬ (FinishedBy g r) → (limits : Limits) → TrialKeeps limits r → (i : ℕ) × (s : Step) × (i < r.workers) × Acceptance (next_answer g limits r i s)

-- and for two
abbrev pub Joined : Program → Trial → Trial → Type 0
Joined g r r' = TaskExchanges (tasks r.memory) (Edge (graph_in r.memory)) (order_in g r) (order_in g r')

pub record Keeps (g : Program) : Type 0 where
  pub one : (r : Trial) → BeginAccepted g r → OneTrial g r
  pub two : (r r' : Trial) → BeginAccepted g r → BeginAccepted g r' → Agree r.memory r'.memory → FinishedBy g r → FinishedBy g r' → Joined g r r'

-- The rules keep it, by demand 3: what is refuted below is its own claim, of other programs.
same_answer : (c : calls.Call) (m : Mem) → answer_by rules c m ≡ says c m
unfolding answer_by
same_answer (step_call limits p k i s) m = refl
same_answer (begin_call limits p k) m = refl
same_answer (lookup_call side t) m = refl

same_left : (c : calls.Call) (m : Mem) → left_by rules c m ≡ leaves c m
unfolding left_by
same_left (step_call limits p k i s) m = refl
same_left (begin_call limits p k) m = refl
same_left (lookup_call side t) m = refl

alike : Alike plain (machine_of rules)
alike = record { says = λ c m. sym (same_answer c m); leaves = λ c m. sym (same_left c m); kind = λ c. refl }

abbrev as_run : (r : Trial) → BeginAccepted rules r → Run
as_run r b = record { limits = r.limits; workers = r.workers; slots = r.slots; lent = r.memory; accepts = b; calls = r.calls }

module _ (r : Trial) (b : BeginAccepted rules r) where
  memory-is : memory_of (as_run r b) ≡ end_of rules r
  memory-is = alike-memory plain (machine_of rules) alike r.calls (begun_by rules r)

  events-are : events_of (as_run r b) ≡ events_in rules r
  events-are = alike-events plain (machine_of rules) alike r.calls (begun_by rules r) []

  order_is : order_of (view_of (as_run r b)) ≡ order_in rules r
  unfolding order_of
  order_is = ap (λ (m : Mem). tabulate (tasks r.memory) (task_word m)) memory-is

  finished_as : FinishedBy rules r → Finished (view_of (as_run r b))
  finished_as f = record { completes = rw events-are f }

  one_kept : OneRun (view_of (as_run r b)) → OneTrial rules r
  unfolding answer_by
  one_kept kept =
      record {
        steps = λ f. rw (sym events-are) (kept.steps (finished_as f));
        word = rw (sym memory-is, sym events-are) kept.word;
        full = λ f. rw (sym memory-is) (kept.full (finished_as f));
        order = λ f. rw (sym order_is) (kept.order (finished_as f));
        named = λ f. rw (sym memory-is) (kept.named (finished_as f));
        next = λ n. rw (sym memory-is) (kept.next (λ f. n (rw events-are at f.completes)));
        next_by = λ n limits w. rw (sym memory-is) (kept.next_by (λ f. n (rw events-are at f.completes)) limits w);
      }

kept-by-demand : Demand3 → Keeps rules
kept-by-demand demand =
    record {
      one = λ r b. one_kept r b (demand.one (as_run r b));
      two = λ r r' b b' same f f'.
          rw (sym (order_is r b), sym (order_is r' b')) (demand.two (as_run r b) (as_run r' b') same (finished_as r b f) (finished_as r' b' f'));
    }

pub rules-keep-it : Keeps rules
rules-keep-it = kept-by-demand demand-3

-- No program is ruled out by `two` alone: one that keeps `order` keeps `two`, since orders that the graph allows are joined by exchanges. So a program
-- against `two` has a run against `order` too; what `two` says of it is that the records of two runs differ in more than they may.
pub order-joins : (g : Program) → ((r : Trial) → BeginAccepted g r → FinishedBy g r → AllowedOrder r.memory (order_in g r))
    → (r r' : Trial) → BeginAccepted g r → BeginAccepted g r' → Agree r.memory r'.memory → FinishedBy g r → FinishedBy g r' → Joined g r r'
order-joins g order r r' b b' same f f' =
    exchange-tasks (tasks r.memory) (Edge (graph_in r.memory)) (order_in g r) (order_in g r') (order r b f) (order-agreed same (order r' b' f'))

-- How a run contradicts it.

-- all steps of the run are accepted, it isn't finished, and no worker has a step with begin's limits that would be accepted next: each worker's steps
-- are refused with these numbers. They are 10, 9, 9 and 10 for an idle worker with nothing in its rings and its buffer.
record Stuck (g : Program) (r : Trial) (fetch start complete release : ℕ) : Type 0 where
  begins : BeginAccepted g r
  taken : accepted_steps (events_in g r) ≡ steps_among r.calls
  unfinished : accepted_completes (events_in g r) < tasks r.memory
  refusals : tabulate r.workers (four_answers (next_answer g r.limits r)) ≡ replicate r.workers (four_refusals fetch start complete release)

-- why a list of tasks is no order that the graph allows: a task is missing, or stands before a predecessor
data Fault (m : Mem) (l : List ℕ) : Type 0 where
  missing : (t : ℕ) → t < tasks m → ◌≡◌ {A = ℕ} (occ t l) 0 → Fault m l
  early : (u t : ℕ) → Edge (graph_in m) u t → place_of ℕ_discrete t l < place_of ℕ_discrete u l → Fault m l

-- all steps of the run are accepted, it is finished, and its order is l, with a fault
record Disordered (g : Program) (r : Trial) (l : List ℕ) : Type 0 where
  begins : BeginAccepted g r
  taken : accepted_steps (events_in g r) ≡ steps_among r.calls
  finished : accepted_completes (events_in g r) ≡ tasks r.memory
  order : order_in g r ≡ l
  fault : Fault r.memory l

stuck-fails : {g : Program} {r : Trial} {fetch start complete release : ℕ} → Stuck g r fetch start complete release → ¬ (Keeps g)
stuck-fails {g = g} {r = r} {fetch = fetch} {start = start} {complete = complete} {release = release} stuck keeps =
    none-accepted r.workers (next_answer g r.limits r) fetch start complete release stuck.refusals
    ((keeps.one r stuck.begins).next (λ f. absurd (omega (arith, f, stuck.unfinished))))

fault-forbids : (m : Mem) (l : List ℕ) → Fault m l → ¬ (AllowedOrder m l)
fault-forbids m l (missing t h zero-times) allowed = absurd (omega (arith, zero-times, allowed.once t, tally-yes (dec_lt t (tasks m)) h))
fault-forbids m l (early u t edge before) allowed = absurd (omega (arith, before, allowed.after u t edge))

disordered-fails : {g : Program} {r : Trial} {l : List ℕ} → Disordered g r l → ¬ (Keeps g)
disordered-fails {g = g} {r = r} {l = l} d keeps =
    fault-forbids r.memory l d.fault (rw (sym d.order) ((keeps.one r d.begins).order (omega (arith, d.finished))))

-- the run has so many accepted Completes, so many accepted steps, and this accepted word
record Counted (g : Program) (r : Trial) (completes steps word : ℕ) : Type 0 where
  begins : BeginAccepted g r
  completed : accepted_completes (events_in g r) ≡ completes
  taken : accepted_steps (events_in g r) ≡ steps
  written : accepted_in (end_of g r) ≡ word

-- with N accepted Completes it is finished
steps-fail : {g : Program} {r : Trial} {completes steps word : ℕ} → Counted g r completes steps word → completes ≡ tasks r.memory
    → ¬ (steps ≡ 3 * tasks r.memory + edges r.memory) → ¬ (Keeps g)
steps-fail {r = r} c all wrong keeps = wrong (sym c.taken ∙ (keeps.one r c.begins).steps (omega (arith, c.completed, all)))

word-fails : {g : Program} {r : Trial} {completes steps word : ℕ} → Counted g r completes steps word → ¬ (word ≡ steps) → ¬ (Keeps g)
word-fails {r = r} c wrong keeps = wrong (sym c.written ∙ (keeps.one r c.begins).word ∙ c.taken)

-- both runs are finished and of one graph, the orders are l and l', and l' has a fault
record Unjoined (g : Program) (r r' : Trial) (l l' : List ℕ) : Type 0 where
  begins : BeginAccepted g r × BeginAccepted g r'
  agree : Agree r.memory r'.memory
  finished : (accepted_completes (events_in g r) ≡ tasks r.memory) × (accepted_completes (events_in g r') ≡ tasks r'.memory)
  order : (order_in g r ≡ l) × (order_in g r' ≡ l')
  fault : Fault r.memory l'

-- no exchanges lead to a list with a fault
fault-unreached : (m : Mem) {a l : List ℕ} {n : ℕ} → Chain ℕ_discrete (each_once (tasks m)) (Edge (graph_in m)) a l n → ¬ (Fault m l)
fault-unreached m (none {a = l} allowed) fault = fault-forbids m l fault allowed
fault-unreached m (more allowed s rest) fault = fault-unreached m rest fault

unjoined-fail : {g : Program} {r r' : Trial} {l l' : List ℕ} → Unjoined g r r' l l' → ¬ (Keeps g)
unjoined-fail {r = r} {r' = r'} u keeps =
    fault-unreached r.memory
    (keeps.two r r' u.begins.0 u.begins.1 u.agree (omega (arith, u.finished.0)) (omega (arith, u.finished.1))).chain
    (rw u.order.1 u.fault)

-- The programs.

-- a begin that forgets the first root
abbrev pub begin_without : Answer → ℕ → ℕ → Mem → Result Answer
begin_without (Err why) p k m = record { answer = Err why; memory = m }
begin_without (Ok u) p k m = record { answer = Ok tt; memory = roots_placed p k 0 (drop 1 (roots (graph_in m))) (cleared m) }

abbrev pub forgets_root : Program
forgets_root = record { begins = λ limits p k m. begin_without (begin_answer limits p k m) p k m; takes = step }

-- a begin that is refused and clears the memory
abbrev pub clearing : Answer → Mem → Result Answer
clearing (Err why) m = record { answer = Err why; memory = cleared m }
clearing (Ok u) m = record { answer = Ok tt; memory = m }

abbrev pub clears_refused : Program
clears_refused = record { begins = λ limits p k m. clearing (begin limits p k m).answer (begin limits p k m).memory; takes = step }

-- a begin that takes one slot more than its limits: K 9 with the preview's
abbrev pub slot_more : Limits → Limits
slot_more l = record { tasks = l.tasks; edges = l.edges; workers = l.workers; slots = suc l.slots }

abbrev pub takes_slot_more : Program
takes_slot_more = record { begins = λ limits. begin (slot_more limits); takes = step }

-- the rules with another plan for one of the steps, from the limits, P, K, the worker and the memory
abbrev pub but_for : Step → (Limits → ℕ → ℕ → ℕ → Mem → Plan) → Program
but_for other plan =
    record {
      begins = begin;
      takes = λ limits p k i s m. carried_out (cond (eqb (step_number s) (step_number other)) (plan limits p k i m) (step_plan limits p k i s m)) m;
    }

-- where a plan accepts, it writes these too, after its own updates
abbrev pub also_writing : Plan → List Update → Plan
also_writing (refuse why) us = refuse why
also_writing (accept o vs) us = accept o (vs ++ us)

-- a Release that skips the last successor: it goes on to the next task of the buffer when one successor is left
abbrev pub skipping_places : ℕ → Row → Places
skipping_places count r = cond (eqb (r.cursor + 2) count) (record { read = r.read + 1; write = r.write; cursor = 0 }) (advanced count r)

abbrev pub skips_last : Program
skips_last =
    but_for Release
    (λ limits p k i m. also_writing (step_plan limits p k i Release m) (put_places i (skipping_places (succ_count m (oldest m i)) (row_in m i)) ∷ []))

-- a Complete that doesn't record: the entry's words and the entries word stay as they were
abbrev pub entry_kept : Mem → List Update
entry_kept m = put_entry (entries_in m) (task_word m (entries_in m)) (worker_word m (entries_in m)) ∷ put_entries (entries_in m) ∷ []

abbrev pub no_record : Program
no_record = but_for Complete (λ limits p k i m. also_writing (step_plan limits p k i Complete m) (entry_kept m))

-- a Complete that exchanges task number and worker number in the entry: "Task ID and thread ID are two things"
abbrev pub exchanges_numbers : Program
exchanges_numbers = but_for Complete (λ limits p k i m. also_writing (step_plan limits p k i Complete m) (put_entry (entries_in m) i (held m i) ∷ []))

-- steps that never write the accepted word: it stays as it was
abbrev pub never_counts : Program
never_counts =
    record {
      begins = begin;
      takes = λ limits p k i s m. carried_out (also_writing (step_plan limits p k i s m) (put_accepted (accepted_in m) ∷ [])) m;
    }

-- "an accepted word that is invented": begin writes 3N + E there, and each step follows the rule as if it were 0, and puts the old word back
abbrev pub word_invented : Answer → Mem → Result Answer
word_invented (Err why) m = record { answer = Err why; memory = m }
word_invented (Ok u) m = record { answer = Ok tt; memory = written (put_accepted (all_steps m) ∷ []) m }

abbrev pub invents_word : Program
invents_word =
    record {
      begins = λ limits p k m. word_invented (begin limits p k m).answer (begin limits p k m).memory;
      takes = λ limits p k i s m.
          carried_out (also_writing (step_plan limits p k i s (written (put_accepted 0 ∷ []) m)) (put_accepted (accepted_in m) ∷ [])) m;
    }

-- a Start that is "accepted with nothing moved" where it doesn't suit the phase
abbrev pub idling : Plan → Plan
idling (refuse why) = cond (eqb (refusal_number why) wrong_phase) (accept Moved []) (refuse why)
idling (accept o us) = accept o us

abbrev pub starts_again : Program
starts_again = but_for Start (λ limits p k i m. idling (step_plan limits p k i Start m))

-- worker i's successor at the cursor: its degree, and the memory with another degree of it
abbrev pub its_degree : ℕ → Mem → ℕ
its_degree i m = degree_in m (successor m i)

abbrev pub reading : ℕ → ℕ → Mem → Mem
reading d i m = written (put_degree (successor m i) d ∷ []) m

-- a Release that lowers the degree twice where it is above 1: the rule's plan for the degree that is lowered once
abbrev pub once_lowered : ℕ → ℕ
once_lowered d = cond (ltb 1 d) (d - 1) d

abbrev pub lowers_twice : Program
lowers_twice = but_for Release (λ limits p k i m. step_plan limits p k i Release (reading (once_lowered (its_degree i m)) i m))

-- a Release that places the task although its degree stays above 0: the rule's plan for a degree of 1, but the degree falls by one
abbrev pub places_early : Program
places_early =
    but_for Release
    (λ limits p k i m. also_writing (step_plan limits p k i Release (reading (min 1 (its_degree i m)) i m)) (put_degree (successor m i) (its_degree i m - 1) ∷ []))

-- a Release that drops the task when all rings are full: where the rule refuses with 11, it lowers the degree and goes on
abbrev pub dropping : ℕ → ℕ → Mem → Plan → Plan
dropping p i m (refuse why) =
    cond (eqb (refusal_number why) rings_full)
    (counted m (Released (Placed (record { 0 = successor m i }) (record { 0 = least (all_of p) (load p m.counters) })))
    (put_degree (successor m i) 0 ∷ advance i m ∷ []))
    (refuse why)
dropping p i m (accept o us) = accept o us

abbrev pub drops_when_full : Program
drops_when_full = but_for Release (λ limits p k i m. dropping p i m (step_plan limits p k i Release m))

-- Their runs.

-- edges 0→2, 1→2
abbrev meet : Mem
meet = lent 2 2 (1 ∷ 1 ∷ 1 ∷ []) (0 ∷ 0 ∷ 0 ∷ 2 ∷ []) (0 ∷ 1 ∷ [])

-- two roots again, for one worker and three slots
abbrev two_roots_alone : Mem
two_roots_alone = lent 1 3 (4 ∷ 9 ∷ []) (0 ∷ 0 ∷ 0 ∷ []) []

-- a trial whose calls are steps with the engine's limits and begin's P and K
abbrev as_calls : ℕ → ℕ → List Call → List calls.Call
as_calls p k [] = []
as_calls p k (c ∷ cs) = step_call engine p k c.worker c.taken ∷ as_calls p k cs

abbrev trial : ℕ → ℕ → Mem → List Call → Trial
trial p k m cs = record { limits = engine; workers = p; slots = k; memory = m; calls = as_calls p k cs }

-- a worker fetches, starts and completes a task
abbrev runs_one : ℕ → List Call
runs_one i = by i Fetch ∷ by i Start ∷ by i Complete ∷ []

-- worker 0 runs a root, and a begin with another K than the first one's is refused
abbrev begun_twice : Trial
begun_twice = record { limits = engine; workers = 2; slots = 2; memory = two_roots; calls = as_calls 2 2 (runs_one 0) ++ (begin_call engine 2 3 ∷ []) }

-- one root, begun with the preview's limits and K 9
abbrev ninth_slot : Trial
ninth_slot = record { limits = preview; workers = 1; slots = 9; memory = lent 1 9 (1 ∷ []) (0 ∷ 0 ∷ []) []; calls = [] }

-- worker 0 runs task 0, releases task 2 and runs it, and only then worker 1 runs task 1
abbrev hasty : Trial
hasty = trial 2 2 meet (runs_one 0 ++ (by 0 Release ∷ runs_one 0) ++ runs_one 1)

-- task 2 before its predecessor 1
two-early : Fault meet (0 ∷ 2 ∷ 1 ∷ [])
unfolding ℕ_discrete occ_of place_of part
two-early = early 1 2 (record { task = omega arith; predecessor = omega arith }) (omega arith)

record WrongRuns : Type 0 where
  -- against `next`: root 1 is run, root 0 is in no ring
  forgets-a-root : Stuck forgets_root (trial 2 2 two_roots (runs_one 0)) 10 9 9 10
  -- against `next`: task 3 is never placed
  skips-the-last-successor : Stuck skips_last (trial 1 2 fork (runs_one 0 ++ (by 0 Release ∷ by 0 Release ∷ runs_one 0) ++ runs_one 0)) 10 9 9 10
  -- against `next`: the ring holds tasks 1 and 2, and task 3 is lost
  drops-when-full : Stuck drops_when_full (trial 1 2 fork (runs_one 0 ++ (by 0 Release ∷ by 0 Release ∷ by 0 Release ∷ runs_one 0) ++ runs_one 0)) 10 9 9 10
  -- against `next`: the task that waits for worker 1 is in no ring after the refused begin
  clears-when-refused : Stuck clears_refused begun_twice 10 9 9 10
  -- against `next`: every step with the preview's limits is beyond them
  takes-a-slot-more : Stuck takes_slot_more ninth_slot 2 2 2 2
  -- against `order`: both tasks are completed, the record's words are begin's
  does-not-record : Disordered no_record (trial 2 2 two_roots (runs_one 0 ++ runs_one 1)) (0 ∷ 0 ∷ [])
  -- against `order`: task 2 stands before its predecessor 1
  lowers-twice : Disordered lowers_twice hasty (0 ∷ 2 ∷ 1 ∷ [])
  places-early : Disordered places_early hasty (0 ∷ 2 ∷ 1 ∷ [])
  -- against `word`: 3 accepted steps, as they should be, and begin's accepted word
  never-counts : Counted never_counts (trial 2 2 single (runs_one 0)) 1 3 0
  -- against `word`: begun, it says 3, and no step is taken; finished, steps and word are what they should be
  invents-the-word : Counted invents_word (trial 2 2 single []) 0 0 3
  invented-in-the-end : Counted invents_word (trial 2 2 single (runs_one 0)) 1 3 3
  -- against `steps`: a second Start is accepted, and the accepted word is still 3
  starts-again : Counted starts_again (trial 2 2 single (by 0 Fetch ∷ by 0 Start ∷ by 0 Start ∷ by 0 Complete ∷ [])) 1 4 3
  -- against `two`: worker i runs task i, and the record is good; worker 0 runs both, and task 0 stands there twice
  exchanges-numbers : Unjoined exchanges_numbers (trial 2 2 two_roots (runs_one 0 ++ runs_one 1)) (trial 1 3 two_roots_alone (runs_one 0 ++ runs_one 0))
      (0 ∷ 1 ∷ []) (0 ∷ 0 ∷ [])

wrong-runs : WrongRuns
unfolding ℕ_discrete dec_le dec_lt first_below occ_of place_of joined tabulate all_of sum_to after around capped next_phase part sizes_fit first_bad first_twice first_on_cycle tables_answer check_answer below? among? light? good? bad? ends_fit? twice? twice_in? find-twice edge? thru? path? leads? on_cycle? succs_below succ_start succ_starts_of succ_words degree_list roots capacity slot_at ends_at store_ends sound empty full head_on tail_on sum_to_z load least_from least search all_steps all_entries numbers_fit all_fit others_fit lengths_fit counters_fit store_words updated written counted carried_out scan fetch_task fetch_from fetch_rule start_rule complete_sink complete_inner complete_rule advanced find_room release_to release_ready release_waiting release_rule rule_of step_plan step cleared roots_laid begun roots_answer begin_answer begin machine.began machine.memory_after machine.recalled machine.events_after accepted_of answer_by left_by steps_among
wrong-runs =
    record {
      forgets-a-root = record { begins = refl; taken = refl; unfinished = omega arith; refusals = refl };
      skips-the-last-successor = record { begins = refl; taken = refl; unfinished = omega arith; refusals = refl };
      drops-when-full = record { begins = refl; taken = refl; unfinished = omega arith; refusals = refl };
      clears-when-refused = record { begins = refl; taken = refl; unfinished = omega arith; refusals = refl };
      takes-a-slot-more = record { begins = refl; taken = refl; unfinished = omega arith; refusals = refl };
      does-not-record = record { begins = refl; taken = refl; finished = refl; order = refl; fault = missing 1 (omega arith) refl };
      lowers-twice = record { begins = refl; taken = refl; finished = refl; order = refl; fault = two-early };
      places-early = record { begins = refl; taken = refl; finished = refl; order = refl; fault = two-early };
      never-counts = record { begins = refl; completed = refl; taken = refl; written = refl };
      invents-the-word = record { begins = refl; completed = refl; taken = refl; written = refl };
      invented-in-the-end = record { begins = refl; completed = refl; taken = refl; written = refl };
      starts-again = record { begins = refl; completed = refl; taken = refl; written = refl };
      exchanges-numbers =
          record {
            begins = (refl, refl);
            agree = record { same_tasks = refl; same_edges = λ u t. (λ e. e, λ e. e) };
            finished = (refl, refl);
            order = (refl, refl);
            fault = missing 1 (omega arith) refl;
          };
    }

-- Demand 3 rules each of them out.
pub no-forgotten-root : ¬ (Keeps forgets_root)
no-forgotten-root = stuck-fails wrong-runs.forgets-a-root

pub no-skipped-successor : ¬ (Keeps skips_last)
no-skipped-successor = stuck-fails wrong-runs.skips-the-last-successor

pub no-dropped-task : ¬ (Keeps drops_when_full)
no-dropped-task = stuck-fails wrong-runs.drops-when-full

pub no-clearing-refusal : ¬ (Keeps clears_refused)
no-clearing-refusal = stuck-fails wrong-runs.clears-when-refused

pub no-stuck-preview : ¬ (Keeps takes_slot_more)
no-stuck-preview = stuck-fails wrong-runs.takes-a-slot-more

pub no-missing-entry : ¬ (Keeps no_record)
no-missing-entry = disordered-fails wrong-runs.does-not-record

pub no-degree-lowered-twice : ¬ (Keeps lowers_twice)
no-degree-lowered-twice = disordered-fails wrong-runs.lowers-twice

pub no-early-place : ¬ (Keeps places_early)
no-early-place = disordered-fails wrong-runs.places-early

pub no-unwritten-word : ¬ (Keeps never_counts)
no-unwritten-word = word-fails wrong-runs.never-counts (λ e. omega (arith, e))

pub no-invented-word : ¬ (Keeps invents_word)
no-invented-word = word-fails wrong-runs.invents-the-word (λ e. omega (arith, e))

pub no-idle-start : ¬ (Keeps starts_again)
no-idle-start = steps-fail wrong-runs.starts-again refl (λ e. omega (arith, e))

pub no-exchanged-numbers : ¬ (Keeps exchanges_numbers)
no-exchanged-numbers = unjoined-fail wrong-runs.exchanges-numbers
