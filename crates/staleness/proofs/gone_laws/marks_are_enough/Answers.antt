use Rattle.staleness.proofs.Unread.{marks_are_enough}
use Rattle.staleness.proofs.gone_laws.marks_are_enough.Goals as goal

pub returns : goal.returns
returns c = marks_are_enough
