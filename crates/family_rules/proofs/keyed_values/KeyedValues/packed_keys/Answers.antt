use Rattle.std.proofs.Common.{◌∙◌, List, map, ap, sym}
use Rattle.packed_keys.specs.declared.sample_key.SampleKey.{SampleKey}
use Rattle.family_rules.specs.declared.timed_values.TimedValue.{TimedValue}
use Rattle.family_rules.specs.TimedValues.{timed_values}
use Rattle.family_rules.proofs.Loops.{timed_each}
use Rattle.family_rules.proofs.NewGroups.{zipped_keys}
use Rattle.family_rules.proofs.keyed_values.KeyedValues.packed_keys.Goals as goal

pub returns-in-None : goal.returns-in-None
returns-in-None c =
    let values = c.self.inside.values.items in
    let times = c.self.inside.times.items in
    sym (zipped_keys c.self.inside.seen (timed_values values times) (timed_each values times c.self.inside.seen c.self.invariant.each c.self.invariant.few))
    ∙ ap (λ (l : List (SampleKey × TimedValue)). map (λ (e : SampleKey × TimedValue). e.0) l) c.self.view_is
