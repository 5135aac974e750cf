use Rattle.engine_cells.proofs.Laws.{two-stored}
use mathlib.Core.Path.{subst}
use Rattle.fetch.specs.Fetch.{HandAndPointer}
use Rattle.rules.specs.Memory.{with_hand, with_pointer}
use Rattle.engine_cells.proofs.store_fetched.Goals as goal

pub returns : goal.returns
returns c = two-stored _ _ _ c.requires.0 c.requires.1.0 _ c.in_ok-outcome.outcome c.in_ok-outcome.after (c.in_ok-outcome.was {u = tt}) (with_hand c.in_ok-outcome.after.phase c.in_ok-outcome.after.held) (with_pointer c.in_ok-outcome.after.pointer.0) (subst (HandAndPointer c.args.row) (c.in_ok-outcome.was {u = tt}) c.requires.1.1) _ _ c.set_hand.ensures c.set_pointer.ensures
