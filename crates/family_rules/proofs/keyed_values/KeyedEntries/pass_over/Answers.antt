use Rattle.std.proofs.Common.{◌∙◌, ap, drop}
use Rattle.std.specs.List.{zip}
use Rattle.family_rules.specs.KeyedValues.{keys_to_come}
use Rattle.family_rules.proofs.Loops.{zip-drop}
use Rattle.family_rules.proofs.keyed_values.KeyedEntries.pass_over.Goals as goal

pub returns : goal.returns
returns c = (λ i. zip (c.pass_over_keys.ensures i) (c.pass_over.ensures i))
    ∙ zip-drop c.args.count (keys_to_come c.self.inside.keys) c.self.inside.values ∙ ap (drop c.args.count) c.self.view_is
