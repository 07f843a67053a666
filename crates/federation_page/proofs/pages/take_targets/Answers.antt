use Rattle.federation_page.proofs.CodeSteps.{all_targets_taken}
use Rattle.federation_page.proofs.pages.take_targets.Goals as goal

pub returns-clause-taken : goal.returns-clause-taken
returns-clause-taken c =
    all_targets_taken c.loop-target.founders.families.items c.args.founders.now.families.items c.args.shown.now c.loop-target.target-index c.loop-target-test.false c.loop-target.invariant.1
