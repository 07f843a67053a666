use Rattle.std.proofs.Common.{◌-◌, ◌≤◌, length, take}
use Rattle.bridge_ports.specs.Connections.{WereWritten}
use Rattle.page_server.proofs.reply.say_all.Given as goal

abbrev pub invariant-loop-at : goal.invariant-loop-at
invariant-loop-at g l = record {
  within : l.at ≤ length l.text;
  written : WereWritten (g.K.Conn.seen l.initial.conn) (g.K.Conn.seen l.conn) (take l.at l.text);
}

abbrev pub decreases-loop-at : goal.decreases-loop-at
decreases-loop-at g l = length l.text - l.at
