-- The accepted Fetches of a worker among a job's calls, and which of them takes an item from one of its rings.
use Rattle.std.specs.Prelude.{ℕ, suc, ◌<◌, ◌≡◌, Bool, true, false, cond, List, [], ◌∷◌, ◌++◌}
use Rattle.task.specs.Refusals.{Said}
use Rattle.task.specs.declared.Limits.{Limits}
use Rattle.task.specs.declared.Step.TheVariants.{Fetch}
use Rattle.machine.specs.Machine.{Machine, event_of, accepted_said, began, memory_after, begins}
use Rattle.machine.specs.Seen.{Seen, event_seen, last_left, begins_seen}
use Rattle.machine.specs.Jobs.{Call, step_call, fetch_by}

-- one more, or not
abbrev pub one_more : Bool → ℕ → ℕ
one_more true n = suc n
one_more false n = n

module _ {M : Type 0} (on : Machine M Call) where
  -- how many of the calls are accepted Fetches by worker i, as long as the run lasts: an accepted begin ends it
  unfoldable pub fetches : ℕ → List Call → M → ℕ
  fetches i [] m = 0
  fetches i (c ∷ cs) m =
      cond (began on (event_of on c m)) 0
      (one_more (cond (fetch_by i c) (accepted_said (on.says c m)) false) (fetches i cs (on.leaves c m)))

  -- and of the calls as they were seen
  unfoldable pub fetches_seen : ℕ → List (Seen M Call) → ℕ
  fetches_seen i [] = 0
  fetches_seen i (s ∷ rest) =
      cond (began on (event_seen s)) 0 (one_more (cond (fetch_by i s.call) (accepted_said s.said) false) (fetches_seen i rest))

  -- of a family whose rings hold items, in a memory with P and K those of an owner that a filler fills, and whose Fetch answers the item
  module _ {A : Type 0} (queue_in : ℕ → ℕ → M → ℕ → ℕ → List A) (fetched : A → Said) where
    -- Of the calls cs from memory m on, one of the first `bound` accepted Fetches by the owner answers t and takes it from the owner's ring that the
    -- filler fills. It is the t that has `behind` behind it (no item stands twice in a run's rings).
    pub record TakenWithin (workers slots owner filler : ℕ) (t : A) (behind : List A) (bound : ℕ) (cs : List Call) (m : M) : Type 0 where
      -- the calls before it, which begin no other run, and those after it
      pub earlier : List Call
      pub later : List Call
      -- its own limits
      pub limits : Limits
      pub split : cs ≡ earlier ++ (step_call limits workers slots owner Fetch ∷ later)
      pub same_run : begins on earlier m ≡ 0
      -- it is one of the first
      pub number : fetches owner earlier m < bound
      -- it answers t
      pub answered : on.says (step_call limits workers slots owner Fetch) (memory_after on earlier m) ≡ fetched t
      -- t stood first in that ring, then came those that were behind it and what has been added since; all these stay
      pub added : List A
      pub first : queue_in workers slots (memory_after on earlier m) owner filler ≡ t ∷ (behind ++ added)
      pub taken : queue_in workers slots (on.leaves (step_call limits workers slots owner Fetch) (memory_after on earlier m)) owner filler
          ≡ behind ++ added

    -- Of the calls seen from the words m on, one of the first `bound` accepted Fetches by the owner is answered t and takes it, the t that has `behind`
    -- behind it, from the owner's ring that the filler fills.
    pub record SeenTaken (workers slots owner filler : ℕ) (t : A) (behind : List A) (bound : ℕ) (later : List (Seen M Call)) (m : M) : Type 0 where
      -- the calls before it, which begin no other run, this one, and those after it
      pub before : List (Seen M Call)
      pub fetch : Seen M Call
      pub rest : List (Seen M Call)
      pub split : later ≡ before ++ (fetch ∷ rest)
      pub same_run : begins_seen on before ≡ 0
      pub number : fetches_seen owner before < bound
      pub limits : Limits
      pub asked : fetch.call ≡ step_call limits workers slots owner Fetch
      pub answered : fetch.said ≡ fetched t
      -- t stood first in that ring, then came those that were behind it and what has been added since; all these stay
      pub added : List A
      pub first : queue_in workers slots (last_left m before) owner filler ≡ t ∷ (behind ++ added)
      pub taken : queue_in workers slots fetch.left owner filler ≡ behind ++ added
