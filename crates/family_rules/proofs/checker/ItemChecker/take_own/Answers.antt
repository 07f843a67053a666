use Rattle.std.proofs.Common.{◌∙◌, sym, refl}
use Rattle.page_model.specs.declared.item.Item.TheVariants as items
use Rattle.family_rules.specs.Steps.{Takes, current_kind}
use Rattle.family_rules.proofs.Taking.{if_ok_both}
use Rattle.family_rules.proofs.Sampled.{own_exemplar, own_added}
use Rattle.family_rules.proofs.checker.ItemChecker.take_own.Goals as goal

pub returns-then-has_bad_exemplar : goal.returns-then-has_bad_exemplar
returns-then-has_bad_exemplar c = own_exemplar c.args.sample c.args.self.now c.args.self.now c.requires (current_kind c.args.self.now.current) refl (sym c.has_bad_exemplar.ensures ∙ c.if-has_bad_exemplar.true)

pub returns : goal.returns
returns c =
    if_ok_both _ _ (Takes (items.Sample c.args.sample) c.args.self.now c.add_sample.new.self) c.add_sample.result
    (λ answer stop step. own_added c.args.sample c.args.self.now c.add_sample.new.self c.requires c.current_kind-kind.result c.current_kind-kind.ensures
    (sym c.has_bad_exemplar.ensures ∙ c.if-has_bad_exemplar.false) c.part_or_rule-told.result c.part_or_rule-told.ensures answer stop step)
    c.add_sample.ensures.broken c.add_sample.ensures.added
