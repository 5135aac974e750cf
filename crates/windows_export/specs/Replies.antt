-- What the exported call answers, "the number and a detail", 0 and 0 where accepted, beside the result words.
use Rattle.std.specs.Prelude.{ℕ, List}
use Rattle.loads.specs.Windows.{Shown}
use Rattle.replies.specs.declared.Reply.{Reply}
use Rattle.replies.specs.Replies.{reply_of}

pub record Replied : Type 0 where
  pub reply : Reply
  pub results : List ℕ

abbrev pub replied_of : Reply → List ℕ → Replied
replied_of r words = record { reply = r; results = words }

abbrev pub replied : Shown → Replied
replied l = replied_of (reply_of l.answer) l.results
