use Rattle.std.proofs.Common.{◌-◌, ◌≤◌, take}
use Rattle.bridge_ports.specs.Connections.{WereTaken}
use Rattle.page_server.proofs.request.hear_request.Given as goal

abbrev pub invariant-reading : goal.invariant-reading
invariant-reading g l = record {
  within : l.filled ≤ 16384;
  taken : WereTaken (g.K.Conn.seen l.initial.conn) (g.K.Conn.seen l.conn) (take l.filled l.head);
}

abbrev pub decreases-reading : goal.decreases-reading
decreases-reading g l = 16384 - l.filled
