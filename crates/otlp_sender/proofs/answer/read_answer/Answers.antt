-- Bytes are read behind those that came, until the head is settled.
use Rattle.std.proofs.Common.{rules, ◌≡◌, ◌≢◌, ◌≤◌, ◌<◌, ◌-◌, refl, sym, arith, length}
use Rattle.http_talk.specs.declared.seen.HeadSeen.TheVariants as seen
use Rattle.http_talk.proofs.Laws.{nothing_shown}
use Rattle.bridge_ports.proofs.Laws.{got_on-nil}
use Rattle.otlp_sender.proofs.WireSteps.{read_step, shown_more, room_left, left_there}
use Rattle.otlp_sender.proofs.answer.read_answer.Goals as goal

pub reading-init : goal.reading-init
reading-init g c = record { within = omega arith; state = sym (got_on-nil _); shown = nothing_shown }

pub returns-then-ne : goal.returns-then-ne
returns-then-ne g c =
    let long : length c.reading.buffer ≡ 16384 = search rules in
    let within : c.reading.filled ≤ length c.reading.buffer = omega (arith, long, c.reading.invariant.within) in
    let few : c.in-Ok.count ≤ length c.read.new.into = c.in-Ok.ensures.bound.0 in
    let some : 0 < c.in-Ok.count = omega (arith, c.if-count-eq0.false) in
    let settled : c.status_of-what.result ≢ seen.More = search rules in
    left_there _ c.status_of-what.result _ _ _ _ c.requires
    (read_step c.reading.buffer c.read.new.into _ c.reading.filled (16384 - c.reading.filled) c.in-Ok.count _ _ _ within few some refl c.reading.invariant.state c.in-Ok.ensures.done)
    c.leave.ensures c.status_of-what.ensures settled c.try_seen.ensures

pub reading-preserved : goal.reading-preserved
reading-preserved g c =
    let long : length c.reading.buffer ≡ 16384 = search rules in
    let within : c.reading.filled ≤ length c.reading.buffer = omega (arith, long, c.reading.invariant.within) in
    let few : c.in-Ok.count ≤ length c.read.new.into = c.in-Ok.ensures.bound.0 in
    let some : 0 < c.in-Ok.count = omega (arith, c.if-count-eq0.false) in
    let more : c.status_of-what.result ≡ seen.More = search rules in
    let shown = shown_more _ _ more c.status_of-what.ensures in
    record {
      within = room_left c.reading.buffer c.read.new.into _ c.reading.filled (16384 - c.reading.filled) c.in-Ok.count within few refl shown;
      state = read_step c.reading.buffer c.read.new.into _ c.reading.filled (16384 - c.reading.filled) c.in-Ok.count _ _ _ within few some refl c.reading.invariant.state c.in-Ok.ensures.done;
      shown = shown;
    }
