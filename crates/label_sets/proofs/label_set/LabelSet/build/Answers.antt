use Rattle.std.proofs.Common.{rules, ◌≡◌, ◌∙◌, sym, subst}
use Rattle.std.specs.List.{filter}
use Rattle.std.proofs.lemmas.List.Elements.{filter_from_retain}
use Rattle.label_sets.specs.Sets.{IsLabelSet}
use Rattle.label_sets.specs.Labels.{has_value}
use Rattle.label_sets.proofs.Places.{built, built_at}
use Rattle.label_sets.proofs.Repeats.{repeated_at-within}
use Rattle.label_sets.proofs.label_set.LabelSet.build.Goals as goal

pub overflow_cast-result : goal.overflow_cast-result
overflow_cast-result c =
    let within = repeated_at-within c.args.pairs.items c.in-Some.at (built_at c.args.pairs.items c.sort_by_name.new.labels.items c.in_ok-at.field-0 c.in-Some.at c.in_ok-at.ensures c.in-Some.is) in
    search (rules, within)

pub invariant_of-result : goal.invariant_of-result
invariant_of-result c =
    let kept : c.retain.new.self.items ≡ filter has_value c.sort_by_name.new.labels.items = filter_from_retain _ has_value (λ p x b q r. search rules) _ c.sort_by_name.new.labels.items c.retain.new.self.items c.retain.ensures.filtered in
    subst IsLabelSet (sym c.in_ok-labels.ensures) (built c.args.pairs.items c.sort_by_name.new.labels.items c.retain.new.self.items _ c.in_ok-at.ensures c.in_default.is kept).1

pub returns-clause-ok : goal.returns-clause-ok
returns-clause-ok c =
    let kept : c.retain.new.self.items ≡ filter has_value c.sort_by_name.new.labels.items = filter_from_retain _ has_value (λ p x b q r. search rules) _ c.sort_by_name.new.labels.items c.retain.new.self.items c.retain.ensures.filtered in
    c.in_ok-labels.ensures ∙ ((built c.args.pairs.items c.sort_by_name.new.labels.items c.retain.new.self.items _ c.in_ok-at.ensures c.in_default.is kept).0)
