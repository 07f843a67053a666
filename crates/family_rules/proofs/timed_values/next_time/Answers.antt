use Rattle.std.proofs.Common.{◌≡◌, arith}
use Rattle.std.specs.Vec.Iter.{into_iter_items}
use Rattle.family_rules.proofs.Timed.{bare_step, times_next}
use Rattle.family_rules.proofs.timed_values.next_time.Goals as goal

pub returns-then-bare-gt0 : goal.returns-then-bare-gt0
returns-then-bare-gt0 c = bare_step c.args.bare.now (into_iter_items c.args.times.now) c.if-bare-gt0.true

pub returns : goal.returns
returns c =
    let none : c.args.bare.now ≡ 0 = omega (arith, c.if-bare-gt0.false) in
    times_next c.args.bare.now c.args.times.now c.next.new.self c.next.result none c.next.ensures.cases
