use Rattle.std.proofs.Common.{◌≡◌, ◌∙◌, ◌-◌, ◌+◌, refl, sym, arith, suc, subst, length}
use Rattle.line_scan.specs.declared.labels.AfterLabel.TheVariants.{End, More, Broken}
use Rattle.series_select.specs.SelectorReading.{matchers_at}
use Rattle.series_select.specs.SelectorSteps.{IsNextMatcher}
use Rattle.series_select.proofs.parsing.matchers_at.Goals as goal

pub loop-init : goal.loop-init
loop-init c = record { within = omega arith; value = let whole : length c.args.bytes.now - 0 ≡ length c.args.bytes.now = omega arith in rw whole refl }

pub returns-in-End : goal.returns-in-End
returns-in-End c =
    let next : IsNextMatcher c.loop.rest.now c.loop.matchers.items c.next_matcher.new.matchers.items (End c.in-End.after) =
    subst (IsNextMatcher c.loop.rest.now c.loop.matchers.items c.next_matcher.new.matchers.items) c.in-End.is c.in_ok-after.ensures in
    let left = length c.args.bytes.now - (c.loop.counter + 1) in
    let one : length c.args.bytes.now - c.loop.counter ≡ suc left = omega arith in
    sym (c.loop.invariant.value ∙ rw one (next left))

pub returns-in-Broken : goal.returns-in-Broken
returns-in-Broken c =
    let next : IsNextMatcher c.loop.rest.now c.loop.matchers.items c.next_matcher.new.matchers.items Broken =
    subst (IsNextMatcher c.loop.rest.now c.loop.matchers.items c.next_matcher.new.matchers.items) c.in-Broken.is c.in_ok-after.ensures in
    let left = length c.args.bytes.now - (c.loop.counter + 1) in
    let one : length c.args.bytes.now - c.loop.counter ≡ suc left = omega arith in
    sym (c.loop.invariant.value ∙ rw (one, next left) refl)

pub loop-preserved : goal.loop-preserved
loop-preserved c =
    let next : IsNextMatcher c.loop.rest.now c.loop.matchers.items c.next_matcher.new.matchers.items (More c.in-More.more) =
    subst (IsNextMatcher c.loop.rest.now c.loop.matchers.items c.next_matcher.new.matchers.items) c.in-More.is c.in_ok-after.ensures in
    let left = length c.args.bytes.now - (c.loop.counter + 1) in
    let one : length c.args.bytes.now - c.loop.counter ≡ suc left = omega arith in
    record {
      within = omega arith;
      value = c.loop.invariant.value ∙ rw one (next left);
    }

pub returns : goal.returns
unfolding matchers_at
returns c =
    let none : length c.args.bytes.now - c.loop.counter ≡ 0 = omega arith in
    sym (c.loop.invariant.value ∙ rw none refl)
