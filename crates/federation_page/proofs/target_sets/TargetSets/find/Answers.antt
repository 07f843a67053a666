use Rattle.std.proofs.Common.{◌≡◌, rules, sym, ◌∙◌}
use Rattle.label_sets.specs.contracts.label_set.LabelSetPartialEq.TheImpl.{ghosts}
use Rattle.label_sets.specs.Labels.{label_sets_eq}
use Rattle.label_sets.proofs.Laws.{sets_decide}
use Rattle.federation_page.proofs.target_sets.TargetSets.find.Goals as goal

pub returns-then-eq : goal.returns-then-eq
returns-then-eq c =
    let own = c.in_ok-one.one.now.own in
    let labels = c.args.labels.now in
    let equal : ghosts.eq own labels ≡ label_sets_eq own labels = search rules in
    let same : own ≡ labels = (sets_decide own labels).0 (sym equal ∙ (sym c.eq.ensures ∙ c.if-eq.true)) in
    (search rules, same)
