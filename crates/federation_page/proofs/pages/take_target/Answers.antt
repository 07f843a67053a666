use Rattle.std.proofs.Common.{◌∙◌}
use Rattle.federation_page.proofs.CodeSteps.{all_taken}
use Rattle.federation_page.proofs.pages.take_target.Goals as goal

pub returns-clause-taken : goal.returns-clause-taken
returns-clause-taken c =
    all_taken c.args.target.now c.loop-family.founders.families.items c.args.founders.now.families.items c.as_slice-families.result.now c.loop-family.family-index c.loop-family-test.false c.loop-family.invariant.1
    (c.as_slice-families.ensures ∙ c.families.ensures.families)
