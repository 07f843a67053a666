-- Nothing came.
use Rattle.std.proofs.Common.{refl}
use Rattle.http_talk.proofs.StreamGiven.{new_flows}
use Rattle.http_talk.proofs.stream.Stream.new.Goals as goal

pub returns : goal.returns
returns c = (refl, refl, new_flows _ _ _ _ c.in_ok-with_capacity.ensures.items)
