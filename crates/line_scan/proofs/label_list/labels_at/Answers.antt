use Rattle.std.proofs.Common.{◌≡◌, ◌∙◌, ◌-◌, ◌+◌, refl, sym, arith, suc, subst}
use Rattle.line_scan.specs.declared.labels.AfterLabel.TheVariants.{End, More, Broken}
use Rattle.line_scan.specs.LabelReading.{IsNext}
use Rattle.line_scan.proofs.label_list.labels_at.Goals as goal

pub loop-init : goal.loop-init
loop-init g c = record { within = omega arith; utf8 = c.requires; value = let whole : c.args.most - 0 ≡ c.args.most = omega arith in rw whole refl }

pub next_label-requires : goal.next_label-requires
next_label-requires g c = c.loop.invariant.utf8

pub returns-in-End-clause-labels : goal.returns-in-End-clause-labels
returns-in-End-clause-labels g c =
    let next : IsNext g.L.LabelList.labels_at c.loop.rest.now c.loop.labels.items c.next_label.new.labels.items (End c.in-End.after) =
    subst (IsNext g.L.LabelList.labels_at c.loop.rest.now c.loop.labels.items c.next_label.new.labels.items) c.in-End.is c.in_ok-after.ensures in
    let left = c.args.most - (c.loop.counter + 1) in
    let one : c.args.most - c.loop.counter ≡ suc left = omega arith in
    sym (c.loop.invariant.value ∙ rw one (next.1 left))

pub returns-in-End-clause-utf8 : goal.returns-in-End-clause-utf8
returns-in-End-clause-utf8 g c =
    let next : IsNext g.L.LabelList.labels_at c.loop.rest.now c.loop.labels.items c.next_label.new.labels.items (End c.in-End.after) =
    subst (IsNext g.L.LabelList.labels_at c.loop.rest.now c.loop.labels.items c.next_label.new.labels.items) c.in-End.is c.in_ok-after.ensures in
    next.0

pub returns-in-Broken-clause-labels : goal.returns-in-Broken-clause-labels
returns-in-Broken-clause-labels g c =
    let next : IsNext g.L.LabelList.labels_at c.loop.rest.now c.loop.labels.items c.next_label.new.labels.items Broken =
    subst (IsNext g.L.LabelList.labels_at c.loop.rest.now c.loop.labels.items c.next_label.new.labels.items) c.in-Broken.is c.in_ok-after.ensures in
    let left = c.args.most - (c.loop.counter + 1) in
    let one : c.args.most - c.loop.counter ≡ suc left = omega arith in
    sym (c.loop.invariant.value ∙ rw (one, next left) refl)

pub loop-preserved : goal.loop-preserved
loop-preserved g c =
    let next : IsNext g.L.LabelList.labels_at c.loop.rest.now c.loop.labels.items c.next_label.new.labels.items (More c.in-More.more) =
    subst (IsNext g.L.LabelList.labels_at c.loop.rest.now c.loop.labels.items c.next_label.new.labels.items) c.in-More.is c.in_ok-after.ensures in
    let left = c.args.most - (c.loop.counter + 1) in
    let one : c.args.most - c.loop.counter ≡ suc left = omega arith in
    record {
      within = omega arith;
      utf8 = next.0;
      value = c.loop.invariant.value ∙ rw one (next.1 left);
    }

pub returns-clause-labels : goal.returns-clause-labels
returns-clause-labels g c =
    let none : c.args.most - c.loop.counter ≡ 0 = omega arith in
    sym (c.loop.invariant.value ∙ rw (none, g.met.L.LabelList.nothing c.loop.rest.now) refl)
