-- PROMISE: what stands of a run with a journal is a run without one. So what holds of every run without steps back holds of what stands of every run.
use Prim.Native.Nat.{ℕ}
use mathlib.Core.Path.{◌≡◌, refl, sym, ap, subst, ◌∙◌}
use mathlib.Core.Bool.{Bool, true, false, cond}
use mathlib.Core.List.{List, []}
use lib.ListN.{length, replicate, length-replicate}
use lib.Dec.{eqb}
use borrow.Author.Tests.{eqb-true}
use Rattle.lists.proofs.Apart.{unequal}
use Rattle.task.specs.Refusals.{Said, refused, answered, accepted, wrong_length, beyond_limit}
use Rattle.task.specs.declared.Limits.{Limits}
use Rattle.machine.specs.Machine.{beginning, Machine, accepted_said, memory_after, events_after, begun_in}
use Rattle.machine.specs.Runs.{View, Run, begun_of, events_of, view_of}
use Rattle.journals.specs.Journal.{Journaled, journaled_of, made, Keeping, Accepts, lent_too, fits, says, moves, journaled, Laws}
use Rattle.journals.specs.Net.{stands_of, Net, LastStep}
use Rattle.journals.specs.Runs.{begin_kept, KeptRun, lists_of, last_begun, standing_view}
use Rattle.journals.proofs.Net.{left-moved, net, last_step}

-- what is accepted with a journal, is so without, and the journal has its length
accepted-lent : (f : Bool) (said : Said) → lent_too f said ≡ accepted → (f ≡ true) × (said ≡ accepted)
accepted-lent true said e = (refl, e)
accepted-lent false (refused n d) e = go (eqb n beyond_limit) e
  where
    go : (b : Bool) → cond b (refused n d) (refused wrong_length 0) ≡ accepted → (false ≡ true) × (refused n d ≡ accepted)
    go true e = unequal cc
    go false e = unequal cc
accepted-lent false (answered k vs) e = unequal cc

module _ {M C B : Type 0} (on : Machine M C) (begin_by : Limits → (p k : ℕ) → C) (by : Keeping M C B) (laws : Laws on by)
    (begins : (limits : Limits) (p k : ℕ) → on.kind (begin_by limits p k) ≡ beginning) where
  module _ (r : KeptRun on begin_by by) where
    abbrev pub call : C
    call = begin_by r.limits r.workers r.slots

    -- the memory below the journal that begin left
    abbrev pub begun : M
    begun = on.leaves call r.lent.memory

    pub begin-lent : (fits on by r.lent ≡ true) × (on.says call r.lent.memory ≡ accepted)
    unfolding says
    begin-lent = accepted-lent _ _ (rw (begins r.limits r.workers r.slots) at r.accepts)

    begin-accepts : Accepts on beginning call r.lent.memory
    begin-accepts = (begins r.limits r.workers r.slots, ap accepted_said begin-lent.1)

    -- a run without journal, from the same begin on
    abbrev pub run_on : List C → Run on begin_by
    run_on cs = record { limits = r.limits; workers = r.workers; slots = r.slots; lent = r.lent.memory; accepts = begin-lent.1; calls = cs }

    abbrev blank : List ℕ
    blank = replicate (length r.lent.journal) 0

    begun-is : begun_of (journaled on by) (begin_kept on begin_by by) r ≡ journaled_of begun blank
    unfolding moves
    begun-is =
        left-moved on by (made call) r.lent (ap accepted_said r.accepts) ∙ rw (begins r.limits r.workers r.slots) refl

    blank-long : length blank ≡ by.size begun
    unfolding fits
    blank-long =
        length-replicate (length r.lent.journal) 0 ∙ eqb-true _ _ begin-lent.0 ∙ sym (laws.sized call r.lent.memory begin-accepts.1)

    none-begun : ◌≡◌ {A = ℕ} (by.count begun) 0
    none-begun = laws.begun call r.lent.memory begin-accepts

    pub run-net : Net on by begun (last_begun on begin_by by r) (lists_of on begin_by by r) (events_of (journaled on by) (begin_kept on begin_by by) r)
    run-net =
        subst (λ (x : Journaled M). Net on by begun (begun_in (journaled on by) r.calls x x).memory (memory_after (journaled on by) r.calls x)
        (events_after (journaled on by) r.calls x [])) (sym begun-is) (net on by laws begun blank blank-long r.calls none-begun)

    -- the last step of a run: the calls before it are a run too
    pub run-last : ¬ (◌≡◌ {A = ℕ} (by.count (lists_of on begin_by by r).memory) 0)
        → LastStep on by begun (lists_of on begin_by by r) (stands_of on by (events_of (journaled on by) (begin_kept on begin_by by) r))
    run-last = rw begun-is (last_step on by laws begun blank blank-long r.calls none-begun)

    -- the run that stands
    pub same_view : view_of on begin_by (run_on run-net.calls) ≡ standing_view on begin_by by r
    same_view = rw (sym run-net.memory, sym run-net.events) refl

  pub transferred : (P : View M C → Type 0) → ((r : Run on begin_by) → P (view_of on begin_by r)) → (r : KeptRun on begin_by by) → P (standing_view on begin_by by r)
  transferred P every r = subst P (same_view r) (every (run_on r (run-net r).calls))

  -- and of two
  pub transferred-two : (P : View M C → View M C → Type 0) → ((r r' : Run on begin_by) → P (view_of on begin_by r) (view_of on begin_by r'))
      → (r r' : KeptRun on begin_by by) → P (standing_view on begin_by by r) (standing_view on begin_by by r')
  transferred-two P every r r' =
      subst (λ (v : View M C). P v (standing_view on begin_by by r')) (same_view r)
      (subst (P (view_of on begin_by (run_on r (run-net r).calls))) (same_view r') (every (run_on r (run-net r).calls) (run_on r' (run-net r').calls)))
