use Rattle.std.proofs.Common.{◌-◌, ◌<◌, ◌++◌}
use Rattle.otlp_sender.specs.Sending.{IsUnderWay}
use Rattle.otlp_sender.proofs.sending.post_parts.Given as goal

abbrev pub invariant-tries : goal.invariant-tries
invariant-tries g l = record {
  few : l.made < l.tries;
  under_way : IsUnderWay (l.front ++ l.rest) l.made (g.W.Wire.state l.initial.wire) (g.W.Wire.state l.wire);
}

abbrev pub decreases-tries : goal.decreases-tries
decreases-tries g l = l.tries - l.made
