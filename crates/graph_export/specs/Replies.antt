-- What the exported calls answer, beside the lists that they leave.
use Rattle.task.specs.Refusals.{Answer}
use Rattle.std.specs.Prelude.{ℕ, ◌+◌, ◌-◌, cond, List, get_or, eqb, Err, Ok}
use Rattle.task.specs.Types.{engine}
use Rattle.task.specs.declared.Limits.{Limits}
use Rattle.task.specs.declared.Side.{Side}
use Rattle.task.specs.declared.Side.TheVariants.{Predecessors, Successors}
use Rattle.graph.specs.Successors.{Linked}
use Rattle.graph.specs.Lookup.{Lent, starts_on, judge_answer}
use Rattle.graph_export.specs.declared.Part.{Part}
use Rattle.replies.specs.declared.Reply.{Reply}
use Rattle.replies.specs.Replies.{reply_of}

-- limits on N and E; the others are the engine's
abbrev pub limits_of : ℕ → ℕ → Limits
limits_of tasks edges = record { tasks = tasks; edges = edges; workers = engine.workers; slots = engine.slots }

-- side 0 is that of the predecessors, any other that of the successors
abbrev pub side_of : ℕ → Side
side_of n = cond (eqb n 0) Predecessors Successors

-- the reply and the lent lists
pub record Replied : Type 0 where
  pub reply : Reply
  pub starts : List ℕ
  pub succs : List ℕ
  pub degrees : List ℕ

abbrev pub replied_of : Reply → List ℕ → List ℕ → List ℕ → Replied
replied_of r s w d = record { reply = r; starts = s; succs = w; degrees = d }

abbrev pub replied : Linked → Replied
replied l = replied_of (reply_of l.answer) l.starts l.succs l.degrees

-- where a lookup's part stands in the table on the side named, and how many neighbours it has; 0 and 0 where it is refused
abbrev pub part_for : Answer → Side → Lent → ℕ → Part
part_for (Err why) side l t = record { place = 0; count = 0 }
part_for (Ok tt) side l t =
    record { place = get_or (starts_on side l) t 0; count = get_or (starts_on side l) (t + 1) 0 - get_or (starts_on side l) t 0 }

unfoldable pub part_in : Side → Lent → ℕ → Part
part_in side l t = part_for (judge_answer side l t) side l t
