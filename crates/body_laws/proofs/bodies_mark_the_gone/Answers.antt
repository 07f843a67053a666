use Rattle.body_laws.proofs.RightEvents.{bodies_mark, tracks_mark}
use Rattle.body_laws.proofs.bodies_mark_the_gone.Goals as goal

pub returns-clause-bodies : goal.returns-clause-bodies
returns-clause-bodies c = bodies_mark

pub returns-clause-tracks : goal.returns-clause-tracks
returns-clause-tracks c = tracks_mark
