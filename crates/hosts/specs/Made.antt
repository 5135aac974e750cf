-- A family's exported calls, one after the other: each with its reply and the words that it left, and with what its contract says of these.
use Rattle.std.specs.Prelude.{ℕ, ◌≤◌, ◌≡◌, List, [], ◌∷◌}
use Rattle.task.specs.Refusals.{Said}
use Rattle.task.specs.declared.Limits.{Limits}
use Rattle.task.specs.declared.Side.{Side}
use Rattle.task.specs.declared.Step.{Step}
use Rattle.machine.specs.Jobs.{Call, step_call, begin_call, lookup_call}
use Rattle.machine.specs.Seen.{Seen, seen_as}
use Rattle.replies.specs.declared.Reply.{Reply}
use Rattle.hosts.specs.Heard.{heard}

-- a call and its reply, a step's being of the family's own type
pub data Export (R : Type 0) : Type 0 where
  -- a step, with the limits that its export stands for
  step_made : Limits → (p k worker : ℕ) → Step → R → Export R
  -- begin, likewise
  begin_made : Limits → (p k : ℕ) → Reply → Export R
  -- `yolluvek_judge_lookup`
  lookup_made : Side → (task : ℕ) → Reply → Export R
  -- A call that is lent the run's lists shared: `yolluvek_lookup`, which hands out a part's place and count, `yolluvek_check_graph`,
  -- `yolluvek_write_text`, whose buffer is none of them, or `yolluvek_windows`, whose result words are none of them. It leaves all words, and its answer
  -- is no part of the run's events. Calls that write such lists otherwise, as `yolluvek_link_graph` and the reader do, are none of a run's: "meanwhile
  -- no other call, the reader included, changes a word of them".
  reading_made : Export R

-- The call was refused: its reply has a number of 1 or more. One that is lent the lists shared leaves them whatever it answers.
module _ {R : Type 0} (number : R → ℕ) where
  abbrev pub Refuses : Export R → Type 0
  Refuses (step_made limits p k i s r) = 1 ≤ number r
  Refuses (begin_made limits p k r) = 1 ≤ r.number
  Refuses (lookup_made side t r) = 1 ≤ r.number
  Refuses reading_made = Unit {0}

-- the call, and the words of the run's lists after it
pub record Made (M R : Type 0) : Type 0 where
  pub export : Export R
  pub left : M

module _ {M R : Type 0} where
  -- the words in the end
  unfoldable pub words_made : M → List (Made M R) → M
  words_made m [] = m
  words_made m (c ∷ rest) = words_made c.left rest

-- what a host sees of a call, the reply read as what was said
module _ {M R : Type 0} (step_heard : R → Said) where
  abbrev pub heard_of : Export R → M → List (Seen M Call) → List (Seen M Call)
  heard_of (step_made limits p k i s r) m' later = seen_as (step_call limits p k i s) (step_heard r) m' ∷ later
  heard_of (begin_made limits p k r) m' later = seen_as (begin_call limits p k) (heard r) m' ∷ later
  heard_of (lookup_made side t r) m' later = seen_as (lookup_call side t) (heard r) m' ∷ later
  heard_of reading_made m' later = later

  unfoldable pub heard_all : List (Made M R) → List (Seen M Call)
  heard_all [] = []
  heard_all (c ∷ rest) = heard_of c.export c.left (heard_all rest)

-- `Contract m c m'` is what the contract of c says, made on the words m and leaving m'
module _ {M R : Type 0} (Contract : M → Export R → M → Type 0) where
  -- "Each finds the words that the last one left"
  abbrev pub Exports : M → List (Made M R) → Type 0
  Exports m [] = Unit {0}
  Exports m (c ∷ rest) = Contract m c.export c.left × Exports c.left rest

  -- exported calls from an accepted begin on: its reply has the number 0
  pub record Exporting : Type 0 where
    -- begin's
    pub limits : Limits
    pub workers : ℕ
    pub slots : ℕ
    -- the words before begin, and after it
    pub lent : M
    pub begun : M
    pub reply : Reply
    pub begins : Contract lent (begin_made limits workers slots reply) begun
    pub accepts : ◌≡◌ {A = ℕ} reply.number 0
    pub made : List (Made M R)
    pub exports : Exports begun made
