use Rattle.std.proofs.Common.{◌∙◌, sym}
use Rattle.family_rules.specs.Made.{families_at, page_at}
use Rattle.family_rules.proofs.checker.ItemChecker.into_parts.Goals as goal

pub returns : goal.returns
unfolding page_at
returns c =
    let seen = c.into_entries.ensures ∙ c.in_ok-left.ensures.seen in
    let families = c.in_ok-families.ensures ∙ (λ i. families_at (c.self.view_is i).setting.format (c.in_ok-left.ensures.left i) (seen i)) in
    sym (λ i. record { families = families i; samples = (c.self.view_is i).samples })
