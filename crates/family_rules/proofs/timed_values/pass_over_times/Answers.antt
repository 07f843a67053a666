use Rattle.std.proofs.Common.{◌∙◌, ap, drop}
use Rattle.std.specs.Vec.Iter.{into_iter_items}
use Rattle.family_rules.specs.TimedValues.{behind_bare}
use Rattle.family_rules.proofs.Timed.{drop_bare}
use Rattle.family_rules.proofs.timed_values.pass_over_times.Goals as goal

pub returns : goal.returns
returns c =
    let items = into_iter_items c.args.times.now in
    let times = c.pass_over.ensures ∙ ap (λ n. drop n items) c.saturating_sub-rest.ensures in
    (λ i. behind_bare (c.saturating_sub-left.ensures i) (times i)) ∙ drop_bare c.args.count c.args.bare.now items
