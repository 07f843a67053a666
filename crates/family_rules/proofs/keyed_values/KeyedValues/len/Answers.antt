use Rattle.std.proofs.Common.{◌≡◌, ◌∙◌, List, ap, length, rules, sym}
use Rattle.packed_keys.specs.declared.sample_key.SampleKey.{SampleKey}
use Rattle.family_rules.specs.declared.timed_values.TimedValue.{TimedValue}
use Rattle.family_rules.specs.TimedValues.{timed_values}
use Rattle.family_rules.proofs.Loops.{zip-length, timed_each}
use Rattle.family_rules.proofs.Timed.{timed-length}
use Rattle.family_rules.proofs.keyed_values.KeyedValues.len.Goals as goal

pub returns : goal.returns
returns c =
    let values = c.self.inside.values.items in
    let times = c.self.inside.times.items in
    let all : c.len.result ≡ length values = search rules in
    all ∙ sym (timed-length values times c.self.invariant.few)
    ∙ (sym (zip-length c.self.inside.seen (timed_values values times) (timed_each values times c.self.inside.seen c.self.invariant.each c.self.invariant.few))
    ∙ ap (λ (es : List (SampleKey × TimedValue)). length es) c.self.view_is)
