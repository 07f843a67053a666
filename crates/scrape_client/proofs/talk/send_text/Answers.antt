use Rattle.std.proofs.Common.{◌-◌, drop, length, length-drop, arith}
use Rattle.std.proofs.lemmas.List.{length-take}
use Rattle.scrape_client.proofs.Exchanging.{sends_more, sends_less}
use Rattle.scrape_client.proofs.talk.send_text.Goals as goal

pub loop-at-preserved : goal.loop-at-preserved
loop-at-preserved g c =
    let text = c.args.text.now in
    record {
      within = omega (arith, c.in-Ok.ensures.bound, length-take (length text - c.loop-at.at) (drop c.loop-at.at text), length-drop c.loop-at.at text, c.loop-at.invariant.within);
      wire = sends_more (g.W.Wire.state c.args.wire.now) (g.W.Wire.state c.loop-at.wire) (g.W.Wire.state c.write.new.self) text c.loop-at.at c.in-Ok.count
          c.loop-at.invariant.wire c.in-Ok.ensures.done;
    }

pub returns-in-Err-clause-sent : goal.returns-in-Err-clause-sent
returns-in-Err-clause-sent g c =
    sends_less (g.W.Wire.state c.args.wire.now) (g.W.Wire.state c.loop-at.wire) (g.W.Wire.state c.write.new.self) c.args.text.now c.loop-at.at
    c.loop-at.invariant.wire c.in-Err.ensures.failed
