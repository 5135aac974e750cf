-- What the reader makes of rows and lines: one law for each case of the definitions.
use Prim.Native.Nat.{ℕ, zero, suc}
use mathlib.Core.Path.{◌≡◌, refl}
use mathlib.Core.Bool.{Bool, true, false, ◌&&◌}
use mathlib.Core.Option.{Option, none, some}
use mathlib.Core.List.{List, [], ◌∷◌}
use lib.ListN.{length}
use lib.Dec.{eqb}
use borrow.Author.Tests.{eqb-true, eq-eqb}
use Rattle.lists.proofs.Apart.{unequal}
use Rattle.lists.proofs.Told.{and-true}
use Rattle.layout.specs.Marks.{Line, Numbers}
use Rattle.layout.specs.Tasks.{Task}
use Rattle.layout.specs.Layout.{task_row}
use Rattle.layout.specs.Reader.{lines, skipped, row_of, task_if, dummy_fits, task_of, Numbered, numbered, contents}
use Rattle.layout.specs.Reader.{spelled, broken, more, tasks_from, headed, from_first, verdict}

-- The row of a task.

if_some : (b : Bool) (time : ℕ) (preds : List ℕ) (x : Task) → task_if b time preds ≡ some x → (b ≡ true) × (time ≡ x.time) × (preds ≡ x.preds)
if_some true time preds x e = (refl, cc, cc)
if_some false time preds x e = unequal cc

module _ (t : ℕ) (last : Bool) where
  -- task x may stand where task t is due
  abbrev pub Fitting : Task → Type 0
  Fitting x = dummy_fits t last x.time (length x.preds) ≡ true

  pub task-some : (x : Task) → Fitting x → task_of t last (some (task_row t x)) ≡ some x
  unfolding task_of
  task-some x e = rw (eq-eqb t t refl, eq-eqb (length x.preds) (length x.preds) refl, e) refl

  pub task-is : (o : Option Numbers) (x : Task) → task_of t last o ≡ some x → (o ≡ some (task_row t x)) × Fitting x
  unfolding task_of
  task-is none x e = unequal cc
  task-is (some []) x e = unequal cc
  task-is (some (a ∷ [])) x e = unequal cc
  task-is (some (a ∷ b ∷ [])) x e = unequal cc
  task-is (some (number ∷ time ∷ count ∷ preds)) x e =
      (cc (same, size, read.1, read.2), rw (← read.1, ← read.2, ← size) three.1)
    where
      read : ((eqb number t && (eqb count (length preds) && dummy_fits t last time count)) ≡ true) × (time ≡ x.time) × (preds ≡ x.preds)
      read = if_some (eqb number t && (eqb count (length preds) && dummy_fits t last time count)) time preds x e

      two : (eqb number t ≡ true) × ((eqb count (length preds) && dummy_fits t last time count) ≡ true)
      two = and-true (eqb number t) (eqb count (length preds) && dummy_fits t last time count) read.0

      three : (eqb count (length preds) ≡ true) × (dummy_fits t last time count ≡ true)
      three = and-true (eqb count (length preds)) (dummy_fits t last time count) two.1

      same : number ≡ t
      same = eqb-true number t two.0

      size : count ≡ length preds
      size = eqb-true count (length preds) three.0

  pub task-none : (o : Option Numbers) → ((x : Task) → o ≡ some (task_row t x) → ¬ (Fitting x)) → task_of t last o ≡ none
  task-none o n = go (task_of t last o) refl
    where
      go : (q : Option Task) → task_of t last o ≡ q → q ≡ none
      go none e = refl
      go (some x) e = absurd (n x (task-is o x e).0 (task-is o x e).1)

-- Lines that are not skipped.

pub contents-nil : (l : ℕ) → contents l [] ≡ []
unfolding contents
contents-nil l = refl

module _ (l : ℕ) (c : Line) (cs : List Line) where
  pub contents-skip : skipped c ≡ true → contents l (c ∷ cs) ≡ contents (suc l) cs
  unfolding contents
  contents-skip e = rw e refl

  pub contents-line : skipped c ≡ false → contents l (c ∷ cs) ≡ numbered l c ∷ contents (suc l) cs
  unfolding contents
  contents-line e = rw e refl

-- The verdict.

module _ (end : ℕ) (done : List Task) where
  pub all_read : tasks_from end zero done [] ≡ spelled done
  unfolding tasks_from
  all_read = refl

  pub line_after : (x : Numbered) (later : List Numbered) → tasks_from end zero done (x ∷ later) ≡ broken x.line
  unfolding tasks_from
  line_after x later = refl

  pub ends-early : (left : ℕ) → tasks_from end (suc left) done [] ≡ broken end
  unfolding tasks_from
  ends-early left = refl

  pub one_more : (left : ℕ) (x : Numbered) (later : List Numbered) → tasks_from end (suc left) done (x ∷ later)
      ≡ more x.line (task_of (length done) (eqb left 0) (row_of x.content)) done (λ xs. tasks_from end left xs later)
  unfolding tasks_from
  one_more left x later = refl

pub not-headed : (end l : ℕ) (o : Option Numbers) (later : List Numbered) → ((n : ℕ) → ¬ (o ≡ some (n ∷ []))) → headed end l o later ≡ broken l
not-headed end l none later h = refl
not-headed end l (some []) later h = refl
not-headed end l (some (n ∷ [])) later h = absurd (h n refl)
not-headed end l (some (a ∷ b ∷ row)) later h = refl

pub verdict-is : (text : List ℕ) → verdict text ≡ from_first (suc (length (lines text))) (contents 1 (lines text))
unfolding verdict
verdict-is text = refl
