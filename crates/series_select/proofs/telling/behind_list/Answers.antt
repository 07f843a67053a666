use Rattle.std.proofs.Common.{◌≡◌, ◌∙◌, ◌-◌, ◌+◌, refl, sym, arith, suc, subst, length}
use Rattle.line_scan.specs.declared.labels.AfterLabel.TheVariants.{End, More, Broken}
use Rattle.series_select.specs.SelectorReading.{matchers_at}
use Rattle.series_select.specs.SelectorSteps.{IsNextEnd}
use Rattle.series_select.proofs.telling.behind_list.Goals as goal

pub loop-init : goal.loop-init
loop-init c = record { within = omega arith; end = let whole : length c.args.bytes.now - 0 ≡ length c.args.bytes.now = omega arith in rw whole refl }

pub returns-in-End : goal.returns-in-End
returns-in-End c =
    let next : IsNextEnd c.loop.rest.now (End c.in-End.after) = subst (IsNextEnd c.loop.rest.now) c.in-End.is c.next_end.ensures in
    let left = length c.args.bytes.now - (c.loop.counter + 1) in
    let one : length c.args.bytes.now - c.loop.counter ≡ suc left = omega arith in
    sym (c.loop.invariant.end ∙ rw one (next left))

pub returns-in-Broken : goal.returns-in-Broken
returns-in-Broken c =
    let next : IsNextEnd c.loop.rest.now Broken = subst (IsNextEnd c.loop.rest.now) c.in-Broken.is c.next_end.ensures in
    let left = length c.args.bytes.now - (c.loop.counter + 1) in
    let one : length c.args.bytes.now - c.loop.counter ≡ suc left = omega arith in
    sym (c.loop.invariant.end ∙ rw one (next left))

pub loop-preserved : goal.loop-preserved
loop-preserved c =
    let next : IsNextEnd c.loop.rest.now (More c.in-More.more) = subst (IsNextEnd c.loop.rest.now) c.in-More.is c.next_end.ensures in
    let left = length c.args.bytes.now - (c.loop.counter + 1) in
    let one : length c.args.bytes.now - c.loop.counter ≡ suc left = omega arith in
    record { within = omega arith; end = c.loop.invariant.end ∙ rw one (next left) }

pub returns : goal.returns
unfolding matchers_at
returns c =
    let none : length c.args.bytes.now - c.loop.counter ≡ 0 = omega arith in
    sym (c.loop.invariant.end ∙ rw none refl)
