-- A reply is its answer's number and detail.
use mathlib.Core.Path.{◌≡◌, ap}
use mathlib.Core.List.{List}
use Prim.Native.Nat.{ℕ}
use Rattle.task.specs.Refusals.{Answer}
use Rattle.loads.specs.Windows.{Shown, shown_as}
use Rattle.replies.specs.declared.Reply.{Reply}
use Rattle.replies.specs.Replies.{reply_of}
use Rattle.windows_export.specs.Replies.{replied_of, replied}

pub windows-reply : (r : Reply) (a : Answer) (words : List ℕ) (l : Shown) → r ≡ reply_of a → shown_as a words ≡ l → replied_of r words ≡ replied l
windows-reply r a words l e q = rw e (ap replied q)
