-- What a search of the code found, as the rules have it.
use Rattle.std.specs.Prelude.{ℕ, ◌≡◌, Option, Some, None, Result, Ok, Err}
use Rattle.task.specs.declared.Ends.{Ends}
use Rattle.task.specs.declared.WorkerId.{WorkerId}
use Rattle.task.specs.declared.refusal.Damaged.{Damaged}
use Rattle.choice.specs.Search.{unsound, none, at}
use Rattle.choice.specs.Search as rules

abbrev pub Found : Type 0
Found = Result (Option (WorkerId × Ends)) Damaged

abbrev pub found_of : Found → rules.Found
found_of (Err damaged) = unsound
found_of (Ok None) = none
found_of (Ok (Some (worker, both))) = at worker.0

-- the ends handed out are those of the ring found
abbrev pub Reads : (ℕ → Ends) → Found → Type 0
Reads here (Ok (Some (worker, both))) = both ≡ here worker.0
Reads here (Ok None) = Unit
Reads here (Err damaged) = Unit
