-- The front of the text was sent.
use Rattle.std.proofs.Common.{◌≡◌, ◌-◌, ◌≤◌, length, take}
use Rattle.bridge_ports.specs.Talks.{sent_on}
use Rattle.scrape_client.proofs.talk.send_text.Given as goal

abbrev pub invariant-loop-at : goal.invariant-loop-at
invariant-loop-at g l = record {
  within : l.at ≤ length l.text;
  wire : g.W.Wire.state l.wire ≡ sent_on (take l.at l.text) (g.W.Wire.state l.initial.wire);
}

abbrev pub decreases-loop-at : goal.decreases-loop-at
decreases-loop-at g l = length l.text - l.at
