use Rattle.std.proofs.Common.{◌≡◌, true, Some, take, sym, subst, arith, add-one}
use Rattle.label_sets.specs.declared.label.Label.{Label}
use Rattle.label_sets.specs.Labels.{has_name}
use Rattle.label_sets.specs.Building.{BelongsAt}
use Rattle.label_sets.proofs.Places.{SortedFront, front_start, front_whole, front_repeat, front_more, rotated, belongs_within}
use Rattle.label_sets.proofs.sorting.sort_few.Goals as goal

pub loop-at-init : goal.loop-at-init
loop-at-init c = front_start c.args.labels.now

pub returns-in_default : goal.returns-in_default
returns-in_default c = front_repeat c.args.labels.now c.loop-at.labels c.loop-at.at c.index-all-at.result c.loop-at.invariant (omega arith) (omega arith) c.index-all-at.is
    (subst (λ (m : Label). has_name (take c.loop-at.at c.loop-at.labels) m.name ≡ true) (sym c.index-all-at.is) c.in_default.ensures)

pub loop-at-preserved : goal.loop-at-preserved
loop-at-preserved c =
    let belongs = subst (λ (m : Label). BelongsAt (take c.loop-at.at c.loop-at.labels) m.name (Some c.in-Some.to)) (sym c.index-all-at.is) c.in-Some.ensures in
    subst (SortedFront c.args.labels.now _) (sym (add-one c.loop-at.at))
    (front_more c.args.labels.now c.loop-at.labels _ c.loop-at.at c.in-Some.to c.index-all-at.result c.loop-at.invariant (omega arith) (omega arith) c.index-all-at.is belongs
    (rotated c.loop-at.labels c.rotate_right.new.self c.loop-at.at c.in-Some.to c.index-all-at.result (belongs_within c.loop-at.labels _ c.loop-at.at c.in-Some.to (omega arith) belongs) (omega arith) c.index-all-at.is c.rotate_right.ensures.after))

pub returns : goal.returns
returns c = front_whole c.args.labels.now c.loop-at.labels c.loop-at.at c.loop-at.invariant (omega arith) (omega arith)
