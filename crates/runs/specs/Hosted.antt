-- What a host sees of its calls: one after the other on the lent lists, each with its answer and with the words that it left. The contract of each
-- call says what it answers and leaves (`proofs/Links.antt`); here such single facts are put together.
use Rattle.std.specs.Prelude.{ℕ, ◌≡◌, List}
use Rattle.task.specs.Refusals.{accepted, answer_says}
use Rattle.task.specs.declared.Limits.{Limits}
use Rattle.machine.specs.Hosted as hosted
use Rattle.machine.specs.Seen as seen
pub use Rattle.machine.specs.Seen.{seen_as, event_seen}
unfoldable pub use Rattle.machine.specs.Seen.{calls_made, last_left}
use Rattle.rules.specs.Memory.{Mem}
use Rattle.rules.specs.Begin.{begin}
use Rattle.runs.specs.Calls.{Call, begin_call, plain, Event, Run}

-- a call that a host made, what it was answered, and the words of the lists afterwards
abbrev pub Seen : Type 0
Seen = seen.Seen Mem Call

-- the call was made on the words m, and answered and left what its rule says
abbrev pub Link : Mem → Seen → Type 0
Link = seen.Link plain

-- each call was made on the words that the last one left
abbrev pub Chained : Mem → List Seen → Type 0
Chained = seen.Chained plain

-- the events of the run that then goes on, from calls and answers as they were seen
abbrev pub events_seen : List Seen → List Event → List Event
events_seen = seen.events_seen plain

-- what a host sees from an accepted begin on
abbrev pub Hosting : Type 0
Hosting = hosted.Hosting plain begin_call

abbrev pub begin-accepts : (limits : Limits) (p k : ℕ) (m b : Mem) → Link m (seen_as (begin_call limits p k) accepted b)
    → answer_says (begin limits p k m).answer ≡ accepted
begin-accepts = hosted.begin-accepts plain begin_call

-- the run of this begin and the first n calls (all of them, from their number on), and the words that the host saw then
abbrev pub run_after : Hosting → ℕ → Run
run_after = hosted.run_after plain begin_call

abbrev pub words_after : Hosting → ℕ → Mem
words_after = hosted.words_after plain begin_call

-- PROMISE: these are a run, after each of the calls
abbrev pub Hosted : Hosting → Type 0
Hosted = hosted.Hosted plain begin_call
