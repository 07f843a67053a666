use Rattle.std.proofs.Common.{◌∙◌, ap, drop}
use Rattle.std.specs.Vec.Iter.{into_iter_items}
use Rattle.family_rules.specs.TimedValues.{paired, times_to_come}
use Rattle.family_rules.proofs.Timed.{paired-drop}
use Rattle.family_rules.proofs.timed_values.TimedLeft.pass_over.Goals as goal

pub returns : goal.returns
returns c = (λ i. paired (c.pass_over.ensures i) (c.pass_over_times.ensures i))
    ∙ paired-drop c.args.count (into_iter_items c.self.inside.values) (times_to_come c.self.inside.bare c.self.inside.times) ∙ ap (drop c.args.count) c.self.view_is
