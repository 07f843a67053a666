use Rattle.point_laws.proofs.Marks.{events_mark_the_gone}
use Rattle.point_laws.proofs.events_mark_the_gone.Goals as goal

pub returns : goal.returns
returns c = events_mark_the_gone
