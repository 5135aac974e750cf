-- The lent words of a weak job's rings, read as copies: "copies (task, predecessor), two words each".
use Rattle.std.specs.Prelude.{ℕ, List, get_or}
use Rattle.weak_task.specs.Types.{Copy, copy}
use Rattle.weak_rows.specs.Cells.{read_as}

abbrev pub copy_in : List ℕ → Copy
copy_in cells = copy (get_or cells 0 0) (get_or cells 1 0)

abbrev pub copies_of : List (List ℕ) → List Copy
copies_of l = read_as copy_in l
