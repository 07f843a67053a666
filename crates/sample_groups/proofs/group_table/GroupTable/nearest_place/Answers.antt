use Rattle.sample_groups.specs.Groups.{shared_labels}
use Rattle.std.proofs.Common.{◌∙◌, ap, sym, subst, Some, IfSome}
use Rattle.label_sets.proofs.Laws.{sets_decide}
use Rattle.sample_groups.specs.Placing.{HasPlace}
use Rattle.sample_groups.specs.Nearest.{IsNearest}
use Rattle.sample_groups.proofs.Placing.{at_found}
use Rattle.sample_groups.proofs.group_table.GroupTable.nearest_place.Goals as goal

pub returns-in-Some : goal.returns-in-Some
returns-in-Some c =
    let labels = shared_labels c.args.kind c.args.labels.now in
    let same = (sets_decide labels c.in-Some.nearest.labels).0 (sym c.are_shared.ensures ∙ c.if-are_shared.true) in
    let stands = subst (λ o. IfSome o (IsNearest c.self.inside.sets)) c.in-Some.is c.self.invariant.1 in
    subst (λ v. HasPlace v v labels c.in-Some.nearest.place) c.self.view_is (at_found c.self.inside.sets c.self.inside.groups.items c.in-Some.nearest.place labels c.self.invariant.0 (stands ∙ ap Some (sym same)))
