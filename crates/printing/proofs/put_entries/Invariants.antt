-- The lines of the first x entries are put, each of at most 22 bytes.
use Prim.Native.Nat.{◌+◌, ◌*◌, ◌≤◌}
use Rattle.printing.proofs.Laws.{EntriesPut}
use Rattle.printing.proofs.put_entries.Given as goal

abbrev pub invariant-loop-x : goal.invariant-loop-x
invariant-loop-x l = (l.end ≤ l.at + l.x * 22) × EntriesPut l.at l.n l.executed l.initial.out l.x l.out l.end
