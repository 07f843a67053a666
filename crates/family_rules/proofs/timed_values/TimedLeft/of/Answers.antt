use Rattle.std.proofs.Common.{◌≡◌, ◌-◌, length, arith}
use Rattle.family_rules.specs.TimedValues.{paired, behind_bare}
use Rattle.family_rules.proofs.timed_values.TimedLeft.of.Goals as goal

pub returns : goal.returns
returns c =
    let all : c.len-all.result ≡ length c.args.values.items = omega (arith, c.len-all.ensures, c.args.values.ok) in
    let kept : c.len-kept.result ≡ length c.args.times.items = omega (arith, c.len-kept.ensures, c.args.times.ok) in
    λ i. paired (c.into_iter.ensures.rest i) (behind_bare (all i - kept i) (c.into_iter-2.ensures.rest i))
