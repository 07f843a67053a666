use Rattle.std.proofs.Common.{◌≡◌, ◌-◌, ◌<◌, take}
use Rattle.bridge_ports.specs.Talks.{got_on}
use Rattle.http_talk.specs.declared.seen.HeadSeen.TheVariants as seen
use Rattle.http_talk.specs.Heads.{Shows}
use Rattle.otlp_sender.proofs.answer.read_answer.Given as goal

abbrev pub invariant-reading : goal.invariant-reading
invariant-reading g l = record {
  within : l.filled < 16384;
  state : g.W.Wire.state l.wire ≡ got_on (take l.filled l.buffer) (g.W.Wire.state l.initial.wire);
  shown : Shows (take l.filled l.buffer) seen.More;
}

abbrev pub decreases-reading : goal.decreases-reading
decreases-reading g l = 16384 - l.filled
