use Rattle.std.proofs.Common.{◌∙◌, ◌++◌, ◌∷◌, [], ap, sym}
use Rattle.family_rules.specs.KeyedValues.{is_key_of}
use Rattle.family_rules.specs.TimedValues.{timed_values, with_time}
use Rattle.family_rules.proofs.Taking.{negated, negated_true}
use Rattle.family_rules.proofs.Loops.{key_in_zip, sample_more, timed_each}
use Rattle.family_rules.proofs.keyed_values.KeyedValues.insert.Goals as goal

pub returns-then-not-added-clause-known : goal.returns-then-not-added-clause-known
returns-then-not-added-clause-known c =
    let values = c.self.inside.values.items in
    let times = c.self.inside.times.items in
    sym (negated c.in_ok-added.added _ c.in_ok-added.ensures.added c.if-not-added.true)
    ∙ (sym (key_in_zip c.args.key c.self.inside.seen (timed_values values times) (timed_each values times c.self.inside.seen c.self.invariant.each c.self.invariant.few)) ∙ ap (is_key_of c.args.key) c.self.view_is)

pub returns-clause-known : goal.returns-clause-known
returns-clause-known c =
    let values = c.self.inside.values.items in
    let times = c.self.inside.times.items in
    sym (negated_true c.in_ok-added.added _ c.in_ok-added.ensures.added c.if-not-added.false)
    ∙ (sym (key_in_zip c.args.key c.self.inside.seen (timed_values values times) (timed_each values times c.self.inside.seen c.self.invariant.each c.self.invariant.few)) ∙ ap (is_key_of c.args.key) c.self.view_is)

pub returns-clause-samples : goal.returns-clause-samples
returns-clause-samples c = sample_more c.args.key c.args.value c.self.inside.seen c.insert.new.self c.self.inside.values.items c.push_reserved.new.self.items
    c.self.inside.times.items c.keep_time.new.times.items c.args.self.now c.in_ok-added.added
    c.self.view_is c.self.invariant.each c.self.invariant.few c.if-not-added.false c.in_ok-added.ensures.keys (c.push_reserved.ensures.items ∙ ap (λ l. l ++ c.args.value.value ∷ []) c.in_ok-reserve.ensures.items)
    (c.keep_time.ensures.times ∙ ap (λ ts. with_time ts c.args.value.time) c.in_ok-make_room_for_time.ensures.same)
