use Rattle.std.proofs.Common.{sym, subst, arith}
use Rattle.std.specs.List.{AllZip}
use Rattle.std.proofs.lemmas.List.{nil_from_length}
use Rattle.script_commands.specs.Rounds.{AreWiresOf}
use Rattle.script_commands.proofs.VisitLaws.{wires_more, wires_all}
use Rattle.script_commands.proofs.visiting.wires_of.Goals as goal

pub loop-preserved : goal.loop-preserved
loop-preserved c = (
  wires_more c.args.tracks.items c.loop.left.items c.take_last.new.self.items c.take_last.result c.track_wires.result c.loop.wires.items c.push_reserved.new.self.items c.loop.invariant.0 c.take_last.ensures.items c.push_reserved.ensures.items
      c.track_wires.ensures.wires,
  omega (arith, c.take_last.ensures.len, c.loop.invariant.1),
  omega (arith, c.push_reserved.ensures.len, c.loop.invariant.2),
  omega (arith, c.push_reserved.ensures.capacity, c.loop.invariant.3),
)

pub returns : goal.returns
returns c =
    let none = nil_from_length c.loop.left.items (omega (arith, c.loop.left.ok.0, c.loop.invariant.1, c.loop-test.false, c.len-end.ensures)) in
    subst (AllZip AreWiresOf c.args.tracks.items) (sym c.reverse.ensures.items) (wires_all c.args.tracks.items c.loop.left.items c.loop.wires.items c.loop.invariant.0 none)
