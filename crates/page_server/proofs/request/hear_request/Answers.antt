-- Bytes are read behind those that came, until the status is certain.
use Rattle.std.proofs.Common.{rules, ◌≡◌, ◌≤◌, ◌<◌, ◌-◌, refl, arith, length, take, drop, length-take, length-drop}
use Rattle.page_server.specs.RequestHeads.{waiting, RequestIs}
use Rattle.page_server.proofs.ConnSteps.{more_taken}
use Rattle.page_server.proofs.ServeSteps.{asked_by_end}
use Rattle.page_server.proofs.request.hear_request.Goals as goal

pub returns-in-Ok-eq0 : goal.returns-in-Ok-eq0
returns-in-Ok-eq0 g c =
    let long : length c.reading.head ≡ 16384 = search rules in
    let none : c.in-Ok-eq0.field-0 ≡ 0 = search rules in
    let waits : RequestIs (take c.reading.filled c.reading.head) waiting = rw c.in-Ok-None.field-0-is at c.in-Ok-None.ensures in
    let short : length (take c.reading.filled c.reading.head) < 16384 = waits.0 in
    let some : 0 < length c.hear.new.into = omega (
      arith,
      long,
      short,
      c.hear.auto.into,
      length-take c.reading.filled c.reading.head,
      length-take (16384 - c.reading.filled) (drop c.reading.filled c.reading.head),
      length-drop c.reading.filled c.reading.head,
    ) in
    asked_by_end c.hear.new.into (take c.reading.filled c.reading.head) c.in-Ok-eq0.field-0 (g.K.Conn.seen c.args.conn.now) _ (g.K.Conn.seen c.hear.new.self) none
    c.reading.invariant.taken waits some c.in-Ok-eq0.ensures.heard

pub reading-preserved : goal.reading-preserved
reading-preserved g c =
    let long : length c.reading.head ≡ 16384 = search rules in
    let within : c.reading.filled ≤ length c.reading.head = omega (arith, long, c.reading.invariant.within) in
    let few : c.in-Ok.count ≤ length c.hear.new.into = c.in-Ok.ensures.bound.0 in
    record {
      within = omega (
        arith,
        long,
        few,
        c.reading.invariant.within,
        c.hear.auto.into,
        length-take (16384 - c.reading.filled) (drop c.reading.filled c.reading.head),
        length-drop c.reading.filled c.reading.head,
      );
      taken = more_taken c.reading.head c.hear.new.into _ c.reading.filled (16384 - c.reading.filled) c.in-Ok.count _ _ _ within few refl c.reading.invariant.taken c.in-Ok.ensures.heard;
    }
