-- A reply is its answer's number and detail, N and E, or the bytes used.
use Prim.Native.Nat.{ℕ}
use mathlib.Core.Path.{◌≡◌, ap}
use mathlib.Core.List.{List}
use Rattle.task.specs.Refusals.{ReadAnswer, WriteAnswer}
use Rattle.layout.specs.Reader.{Read, read_as}
use Rattle.layout.specs.Writer.{Saved, saved_as}
use Rattle.stg_export.specs.declared.ReadReply.{ReadReply}
use Rattle.stg_export.specs.declared.WriteReply.{WriteReply}
use Rattle.stg_export.specs.Replies.{reply_of, replied, replied_of, write_reply_of, write_replied, write_replied_of}

pub read-reply : (r : ReadReply) (a : ReadAnswer) (w s p : List ℕ) (l : Read) → r ≡ reply_of a → read_as a w s p ≡ l → replied_of r w s p ≡ replied l
read-reply r a w s p l e q = rw e (ap replied q)

pub write-reply : (r : WriteReply) (a : WriteAnswer) (t : List ℕ) (l : Saved) → r ≡ write_reply_of a → saved_as a t ≡ l → write_replied_of r t ≡ write_replied l
write-reply r a t l e q = rw e (ap write_replied q)
