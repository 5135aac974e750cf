-- PROMISE: a family's exported calls, one after the other from an accepted begin on, are a run, where the contract of each is its link in what a host
-- sees: its words are those that the calls left, and its events the calls with their replies.
use Prim.Native.Nat.{ℕ, zero, suc, ◌≤◌}
use mathlib.Core.Path.{◌≡◌, refl, sym, ap, ◌∙◌}
use mathlib.Core.List.{List, [], ◌∷◌}
use native.Mathlib.Omega.{arith}
use lib.ListN.{length, take}
use lib.Seq.{take_all}
use Rattle.task.specs.Refusals.{Said, refused, accepted}
use Rattle.task.specs.declared.Limits.{Limits}
use Rattle.task.specs.declared.Side.{Side}
use Rattle.task.specs.declared.Step.{Step}
use Rattle.machine.specs.Machine.{Machine}
use Rattle.machine.specs.Runs.{Run, memory_of, events_of}
use Rattle.machine.specs.Jobs.{Call, step_call, begin_call, lookup_call, Engine, machine_of}
use Rattle.machine.specs.Seen.{Seen, seen_as, calls_made, last_left, Link, Chained, events_seen}
use Rattle.machine.specs.Hosted.{Hosting, begin-accepts}
use Rattle.machine.proofs.Jobs.{Laws}
use Rattle.machine.proofs.Hosted.{hosted}
use Rattle.replies.specs.declared.Reply.{Reply}
use Rattle.hosts.specs.Heard.{heard}
use Rattle.hosts.specs.Made.{Export, step_made, begin_made, lookup_made, reading_made, Refuses, Made, words_made, heard_of, heard_all, Exports, Exporting}
use Rattle.hosts.proofs.Heard.{heard-zero, heard-refused}

-- each contract is a link
pub record Linked {M R : Type 0} (on : Machine M Call) (step_heard : R → Said) (Contract : M → Export R → M → Type 0) : Type 0 where
  pub step : (limits : Limits) (p k i : ℕ) (s : Step) (r : R) (m m' : M) → Contract m (step_made limits p k i s r) m'
      → Link on m (seen_as (step_call limits p k i s) (step_heard r) m')
  pub begin : (limits : Limits) (p k : ℕ) (r : Reply) (m m' : M) → Contract m (begin_made limits p k r) m'
      → Link on m (seen_as (begin_call limits p k) (heard r) m')
  pub lookup : (side : Side) (t : ℕ) (r : Reply) (m m' : M) → Contract m (lookup_made side t r) m'
      → Link on m (seen_as (lookup_call side t) (heard r) m')
  pub reading : (m m' : M) → Contract m reading_made m' → m' ≡ m

-- a refused call leaves the words, where the rules' calls do: "all lent memory keeps its words"
module _ {M R : Type 0} {on : Engine M} {Fit : ℕ → ℕ → M → Type 0} (laws : Laws on Fit) (step_heard : R → Said) (Contract : M → Export R → M → Type 0)
    (linked : Linked (machine_of on) step_heard Contract) (number detail : R → ℕ)
    (hears : (r : R) → 1 ≤ number r → step_heard r ≡ refused (number r) (detail r)) where
  pub refused-made : (m m' : M) (c : Export R) → Contract m c m' → Refuses number c → m' ≡ m
  refused-made m m' (step_made limits p k i s r) contract h =
      let link = linked.step limits p k i s r m m' contract in
      link.written ∙ laws.refused_step limits p k i s m (number r) (detail r) (sym link.answered ∙ hears r h)
  refused-made m m' (begin_made limits p k r) contract h =
      let link = linked.begin limits p k r m m' contract in
      link.written ∙ laws.refused_begin limits p k m r.number r.detail (sym link.answered ∙ heard-refused r h)
  refused-made m m' (lookup_made side t r) contract h = (linked.lookup side t r m m' contract).written
  refused-made m m' reading_made contract h = linked.reading m m' contract

module _ {M R : Type 0} (on : Machine M Call) (step_heard : R → Said) (Contract : M → Export R → M → Type 0) (linked : Linked on step_heard Contract) where
  -- one call more, in front of a chain
  chained_more : (c : Export R) (m m' : M) (later : List (Seen M Call)) → Contract m c m' → Chained on m' later
      → Chained on m (heard_of step_heard c m' later)
  chained_more (step_made limits p k i s r) m m' later contract rest = (linked.step limits p k i s r m m' contract, rest)
  chained_more (begin_made limits p k r) m m' later contract rest = (linked.begin limits p k r m m' contract, rest)
  chained_more (lookup_made side t r) m m' later contract rest = (linked.lookup side t r m m' contract, rest)
  chained_more reading_made m m' later contract rest = rw (linked.reading m m' contract) at rest

  pub exports-chained : (made : List (Made M R)) (m : M) → Exports Contract m made → Chained on m (heard_all step_heard made)
  unfolding heard_all
  exports-chained [] m e = tt
  exports-chained (c ∷ rest) m e = chained_more c.export m c.left (heard_all step_heard rest) e.0 (exports-chained rest c.left e.1)

  -- begin answered 0 is the accepted begin that a run starts at
  pub accepted-start : (limits : Limits) (p k : ℕ) (r : Reply) (m m' : M) → Contract m (begin_made limits p k r) m' → ◌≡◌ {A = ℕ} r.number 0
      → Link on m (seen_as (begin_call limits p k) accepted m')
  accepted-start limits p k r m m' contract e = rw (heard-zero r e) at (linked.begin limits p k r m m' contract)

  abbrev pub hosting_of : Exporting Contract → Hosting on begin_call
  hosting_of e =
      record {
        limits = e.limits;
        workers = e.workers;
        slots = e.slots;
        lent = e.lent;
        begun = e.begun;
        begins = accepted-start e.limits e.workers e.slots e.reply e.lent e.begun e.begins e.accepts;
        seen = heard_all step_heard e.made;
        chained = exports-chained e.made e.begun e.exports;
      }

  -- the first n of the calls
  first-exports : (n : ℕ) (made : List (Made M R)) (m : M) → Exports Contract m made → Exports Contract m (take n made)
  first-exports zero made m e = tt
  first-exports (suc n) [] m e = tt
  first-exports (suc n) (c ∷ rest) m e = (e.0, first-exports n rest c.left e.1)

  abbrev first_made : Exporting Contract → ℕ → Exporting Contract
  first_made e n =
      record {
        limits = e.limits;
        workers = e.workers;
        slots = e.slots;
        lent = e.lent;
        begun = e.begun;
        reply = e.reply;
        begins = e.begins;
        accepts = e.accepts;
        made = take n e.made;
        exports = first-exports n e.made e.begun e.exports;
      }

  -- the run of this begin and the first n calls (all of them, from their number on)
  abbrev pub run_made : Exporting Contract → ℕ → Run on begin_call
  run_made e n =
      record {
        limits = e.limits;
        workers = e.workers;
        slots = e.slots;
        lent = e.lent;
        accepts = begin-accepts on begin_call e.limits e.workers e.slots e.lent e.begun (hosting_of e).begins;
        calls = calls_made (heard_all step_heard (take n e.made));
      }

  -- a call that is not heard leaves the words
  last_more : (c : Export R) (m m' : M) (later : List (Seen M Call)) → Contract m c m' → last_left m (heard_of step_heard c m' later) ≡ last_left m' later
  unfolding last_left
  last_more (step_made limits p k i s r) m m' later contract = refl
  last_more (begin_made limits p k r) m m' later contract = refl
  last_more (lookup_made side t r) m m' later contract = refl
  last_more reading_made m m' later contract = ap (λ (x : M). last_left x later) (sym (linked.reading m m' contract))

  last-heard : (made : List (Made M R)) (m : M) → Exports Contract m made → last_left m (heard_all step_heard made) ≡ words_made m made
  unfolding last_left heard_all words_made
  last-heard [] m e = refl
  last-heard (c ∷ rest) m e = last_more c.export m c.left (heard_all step_heard rest) e.0 ∙ last-heard rest c.left e.1

  module _ (e : Exporting Contract) where
    abbrev heard_first : ℕ → List (Seen M Call)
    heard_first n = heard_all step_heard (take n e.made)

    all-heard : (n : ℕ) → take (length (heard_first n)) (heard_first n) ≡ heard_first n
    all-heard n = take_all (length (heard_first n)) (heard_first n) (omega arith)

    pub words-made : (n : ℕ) → memory_of on begin_call (run_made e n) ≡ words_made e.begun (take n e.made)
    words-made n =
        rw (all-heard n) at ((hosted on begin_call (hosting_of (first_made e n))).words (length (heard_first n)))
        ∙ last-heard (take n e.made) e.begun (first_made e n).exports

    pub events-made : (n : ℕ) → events_of on begin_call (run_made e n) ≡ events_seen on (heard_all step_heard (take n e.made)) []
    events-made n = rw (all-heard n) at ((hosted on begin_call (hosting_of (first_made e n))).events (length (heard_first n)))
