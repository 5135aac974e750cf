-- What the exported reader and writer answer: "the number and a detail", 0 and 0 where accepted, then "N and E", or the bytes used.
use Rattle.std.specs.Prelude.{List, ℕ}
use Rattle.task.specs.Refusals.{number_of, detail_of, value_at, read_says, write_says, ReadAnswer, WriteAnswer}
use Rattle.layout.specs.Reader.{Read}
use Rattle.layout.specs.Writer.{Saved}
use Rattle.stg_export.specs.declared.ReadReply.{ReadReply}
use Rattle.stg_export.specs.declared.WriteReply.{WriteReply}

-- N and E are 0 where the text is refused
abbrev pub reply_of : ReadAnswer → ReadReply
reply_of a =
    record {
      number = number_of (read_says a);
      detail = detail_of (read_says a);
      tasks = value_at 0 (read_says a);
      edges = value_at 1 (read_says a);
    }

-- the reply and the lent lists
pub record Replied : Type 0 where
  pub reply : ReadReply
  pub weights : List ℕ
  pub starts : List ℕ
  pub preds : List ℕ

abbrev pub replied_of : ReadReply → List ℕ → List ℕ → List ℕ → Replied
replied_of r w s p = record { reply = r; weights = w; starts = s; preds = p }

abbrev pub replied : Read → Replied
replied l = replied_of (reply_of l.answer) l.weights l.starts l.preds

-- no bytes are used where the graph is refused
abbrev pub write_reply_of : WriteAnswer → WriteReply
write_reply_of a = record { number = number_of (write_says a); detail = detail_of (write_says a); used = value_at 0 (write_says a) }

-- the reply and the buffer
pub record WriteReplied : Type 0 where
  pub reply : WriteReply
  pub text : List ℕ

abbrev pub write_replied_of : WriteReply → List ℕ → WriteReplied
write_replied_of r t = record { reply = r; text = t }

abbrev pub write_replied : Saved → WriteReplied
write_replied l = write_replied_of (write_reply_of l.answer) l.text
