use Rattle.std.proofs.Common.{◌∙◌, sym}
use Rattle.family_rules.specs.KeyedValues.{keys_to_come}
use Rattle.family_rules.proofs.Loops.{nothing_left, zip-none}
use Rattle.family_rules.proofs.keyed_values.KeyedEntries.next.Goals as goal

pub returns-in_default : goal.returns-in_default
returns-in_default c =
    let done = nothing_left c.next.result c.self.inside.values c.next.new.self c.in_default.is c.next.ensures in
    (sym c.self.view_is ∙ zip-none (keys_to_come c.self.inside.keys) c.self.inside.values done.0, zip-none (keys_to_come c.self.inside.keys) c.next.new.self done.1)
