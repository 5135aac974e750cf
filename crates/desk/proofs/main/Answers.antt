use Rattle.desk.proofs.Laws.{put-inside}
use Rattle.desk.proofs.main.Goals as goal

pub slice_bounds-out-end : goal.slice_bounds-out-end
slice_bounds-out-end c = put-inside c.respond-end.ensures
