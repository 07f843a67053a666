use Rattle.std.proofs.Common.{◌∙◌, sym}
use Rattle.std.proofs.lemmas.Result.{IfOk-weaker}
use Rattle.label_sets.specs.declared.kind.Kind.TheVariants.{Unknown}
use Rattle.page_model.specs.declared.item.Item.TheVariants as items
use Rattle.family_rules.specs.Steps.{begun, Takes}
use Rattle.family_rules.specs.Samples.{add_stop, with_added}
use Rattle.family_rules.proofs.Taking.{if_ok_both}
use Rattle.family_rules.proofs.Sampled.{other_exemplar, other_named, other_split, other_begins}
use Rattle.family_rules.proofs.checker.ItemChecker.take_other.Goals as goal

pub returns-then-is_some : goal.returns-then-is_some
returns-then-is_some c = other_exemplar c.args.sample c.args.self.now c.args.self.now c.requires (sym c.is_some.ensures ∙ c.if-is_some.true)

pub returns-then-is_current : goal.returns-then-is_current
returns-then-is_current c = IfOk-weaker c.name_rule.result _ _ (other_named c.args.sample c.args.self.now c.name_rule.new.self c.requires (sym c.is_some.ensures ∙ c.if-is_some.false)
    (sym c.if-is_current.ensures)) c.name_rule.ensures

pub returns-then-is_left : goal.returns-then-is_left
returns-then-is_left c = other_split c.args.sample c.args.self.now c.args.self.now c.requires (sym c.is_some.ensures ∙ c.if-is_some.false) (sym c.if-is_current.ensures) (sym c.if-is_left.ensures)

pub returns : goal.returns
returns c =
    if_ok_both _ _ (Takes (items.Sample c.args.sample) c.args.self.now c.begin_with.new.self) c.begin_with.result
    (λ answer stop step. other_begins c.args.sample c.args.self.now c.begin_with.new.self c.requires (sym c.is_some.ensures ∙ c.if-is_some.false) (sym c.if-is_current.ensures) (sym c.if-is_left.ensures) answer
    (stop ∙ (λ i. add_stop (begun c.args.self.now c.args.sample.name) Unknown c.args.sample (c.no_part_or_rule-told.ensures i)))
    (λ none. step none ∙ (λ i. with_added (begun c.args.self.now c.args.sample.name) Unknown c.args.sample (c.no_part_or_rule-told.ensures i))))
    c.begin_with.ensures.broken c.begin_with.ensures.added
