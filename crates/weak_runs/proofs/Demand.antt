-- PROMISE: demand 3 of weak jobs: a finished run has 4E + 3R accepted steps and a record that holds each copy once, behind all copies of its predecessor,
-- in an unfinished run some step is accepted next, and the records of two finished runs of one graph are joined by exchanges.
use Prim.Native.Nat.{ℕ, ◌+◌, ◌*◌, ◌<◌}
use mathlib.Core.Path.{◌≡◌, sym, ap, subst, ◌∙◌}
use mathlib.Core.List.{List}
use native.Mathlib.Omega.{arith}
use native.Mathlib.Decide.{dec_lt}
use Rattle.lists.specs.Lists.{tabulate}
use Rattle.lists.proofs.Decided.{stable}
use Rattle.task.specs.Rows.{Acceptance}
use Rattle.task.specs.declared.Limits.{Limits}
use Rattle.task.specs.declared.Step.{Step}
use Rattle.graph.specs.Graph.{Graph}
use Rattle.graph.specs.Conditions.{Sound}
use Rattle.graph.proofs.Accepted.{fits-sound}
use Rattle.exchange.specs.Exchange.{Allows}
use Rattle.copies.specs.Copies.{Copy, same_copy, is_copy, Before, NoneTwice}
use Rattle.copies.proofs.Exchanges.{exchange-copies}
use Rattle.copies.proofs.Agree.{same-copies, same-before}
use Rattle.weak_rules.specs.Memory.{Mem, edges, graph_in, roots_word, entries_in, accepted_in}
use Rattle.weak_algorithm.specs.Reading.{state_of}
use Rattle.weak_runs.specs.Calls.{Run, KeptBy, memory_of, roots_of, graph_of, copies_in, view_of}
use Rattle.weak_runs.specs.Demand.{Finished, copy_words, order_of, AllowedOrder, next_says, OneRun, OneGraph, Exchanges, Demand3}
use Rattle.weak_runs.proofs.Invariant.{done_of, meaning, system_in}
use Rattle.weak_runs.proofs.Calls.{graph-reached, edges-reached, begun-within}
use Rattle.weak_runs.proofs.Events.{entries-word, accepted-word, roots-word, entries-few, recorded-copies, recorded-workers}
use Rattle.weak_runs.proofs.Honest.{honest-under, honest-run}
use Rattle.weak_runs.proofs.LiveRelease.{some-step}
use Rattle.weak_runs.proofs.Full as full
use Rattle.weak_runs.proofs.Ranges.{ranges-run}

allowed-as : {g g' : Graph} {l l' : List Copy} → g' ≡ g → l' ≡ l → Allows same_copy (is_copy g) (Before g) l → Allows same_copy (is_copy g') (Before g') l'
allowed-as e q a = rw (e, q) a

-- the memory after a run's calls
module _ (r : Run) where
  abbrev p : ℕ
  p = r.workers

  abbrev k : ℕ
  k = r.slots

  abbrev now : Mem
  now = memory_of r

  pub run_sound : Sound (graph_in (memory_of r))
  run_sound = fits-sound (honest-run r).graph

  pub run-once : NoneTwice (graph_in (memory_of r))
  run-once = (honest-run r).graph.graph.once

  -- the copies recorded are those of the lent words
  pub recorded-words : (system_in r.workers r.slots (memory_of r)).stages.done ≡ tabulate (entries_in (memory_of r)) (copy_words (memory_of r))
  unfolding meaning state_of
  recorded-words = recorded-copies r

  -- "finished once E + R of its Completes are accepted": then the record is full
  module _ (f : Finished (view_of r)) where
    pub finished-full : entries_in (memory_of r) ≡ copies_in (view_of r)
    finished-full = omega (arith, f.completes, entries-word r, entries-few r)

    pub record-full : entries_in (memory_of r) ≡ edges (memory_of r) + roots_word (memory_of r)
    record-full = omega (arith, finished-full, edges-reached r, roots-word r)

    pub finished-order : AllowedOrder r.lent (order_of (view_of r))
    unfolding order_of state_of
    finished-order = allowed-as (sym (graph-reached r)) order_is (full.finished-allowed (honest-run r) record-full)
      where
        order_is : tabulate (copies_in (view_of r)) (copy_words now) ≡ done_of (state_of p k now)
        order_is = ap (λ (n : ℕ). tabulate n (copy_words now)) (sym finished-full) ∙ sym (recorded-copies r)

    pub finished-count : accepted_in (memory_of r) ≡ 4 * edges r.lent + 3 * roots_of (view_of r)
    finished-count = omega (arith, full.finished-count (honest-run r) record-full, edges-reached r, roots-word r)

  unfinished-free : ¬ (Finished (view_of r)) → entries_in now < edges now + roots_word now
  unfinished-free n =
      stable (dec_lt (entries_in now) (edges now + roots_word now))
      (λ m. n (record { completes = omega (arith, m, entries-word r, edges-reached r, roots-word r) }))

  accepted-next : ¬ (Finished (view_of r)) → (limits : Limits) → KeptBy limits (view_of r) → (i : ℕ) × (s : Step) × (i < p) × Acceptance (next_says limits (view_of r) i s)
  accepted-next n limits within = some-step (honest-under r limits within) (ranges-run r) (unfinished-free n)

-- of the graph that begin was lent
pub lent-sound : (r : Run) → Sound (graph_of (view_of r))
lent-sound r = rw (graph-reached r) at (run_sound r)

pub lent-once : (r : Run) → NoneTwice (graph_of (view_of r))
lent-once r = subst NoneTwice (graph-reached r) (run-once r)

-- what one graph allows the same graph in other tables allows
pub order-agreed : (r r' : Run) {l : List Copy} → OneGraph (view_of r) (view_of r') → AllowedOrder r'.lent l → AllowedOrder r.lent l
order-agreed r r' o a =
    record {
      once = λ c. a.once c ∙ sym (same-copies sound sound' once once' o.same_tasks o.same_edges c);
      after = λ b c e. a.after b c (same-before sound sound' once once' o.same_tasks o.same_edges e);
    }
  where
    sound : Sound (graph_of (view_of r))
    sound = lent-sound r

    sound' : Sound (graph_of (view_of r'))
    sound' = lent-sound r'

    once : NoneTwice (graph_of (view_of r))
    once = lent-once r

    once' : NoneTwice (graph_of (view_of r'))
    once' = lent-once r'

two_runs : (r r' : Run) → OneGraph (view_of r) (view_of r') → Finished (view_of r) → Finished (view_of r') → Exchanges (view_of r) (view_of r')
two_runs r r' o f f' =
    exchange-copies (graph_of (view_of r)) (lent-sound r) (lent-once r) (order_of (view_of r)) (order_of (view_of r')) (finished-order r f)
    (order-agreed r r' o (finished-order r' f'))

one-run : (r : Run) → OneRun (view_of r)
one-run r =
    record {
      steps = λ f. omega (arith, accepted-word r, finished-count r f);
      word = accepted-word r;
      full = finished-count r;
      order = finished-order r;
      named = λ f x h. recorded-workers r x (omega (arith, h, f.completes));
      next = λ n. accepted-next r n r.limits (begun-within r);
      next_by = accepted-next r;
    }

pub demand-3 : Demand3
demand-3 = record { one = one-run; two = two_runs }
