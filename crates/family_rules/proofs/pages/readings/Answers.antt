use Rattle.std.proofs.Common.{◌≡◌, ◌∙◌, ◌+◌, ◌-◌, ◌++◌, ◌∷◌, [], ℕ, suc, ap, arith}
use Rattle.family_rules.specs.Made.{plain_reading}
use Rattle.family_rules.proofs.Loops.{one_left, readings_step, rest_step}
use Rattle.family_rules.proofs.pages.readings.Goals as goal

pub loop-preserved : goal.loop-preserved
loop-preserved c =
    let left : ℕ = c.args.count - (c.loop.counter + 1) in
    let one_less : c.args.count - c.loop.counter ≡ suc left = omega (arith, c.loop-test.true) in
    let sample = one_left c.in_ok-next.next (c.in-Some.key, c.in-Some.value) c.loop.samples c.next.new.self c.in-Some.is c.in_ok-next.ensures in
    record {
      readings = readings_step c.args.kind c.args.unit.now (c.args.count - c.loop.counter) left c.loop.samples c.next.new.self c.in-Some.key c.in-Some.value c.loop.readings.items c.push_reserved.new.self.items _
          one_less sample (c.push_reserved.ensures.items ∙ ap (λ r. c.loop.readings.items ++ r ∷ []) (c.reading.ensures ∙ ap (λ u. plain_reading c.args.kind u c.in-Some.key c.in-Some.value) c.in_ok-unit.ensures))
          c.loop.invariant.readings;
      room = omega (arith, c.push_reserved.ensures.len, c.push_reserved.ensures.capacity, c.loop.invariant.room, c.loop-test.true);
      rest = rest_step (c.args.count - c.loop.counter) left c.loop.samples c.next.new.self _ (c.in-Some.key, c.in-Some.value) one_less sample c.loop.invariant.rest;
    }
