use Rattle.std.proofs.Common.{◌∙◌, ap, List, ℕ, length, sym}
use Rattle.family_rules.specs.declared.family.FamilySoFar.{FamilySoFar}
use Rattle.family_rules.specs.Steps.{with_left}
use Rattle.family_rules.specs.Made.{page_at}
use Rattle.family_rules.proofs.Loops.{families_count}
use Rattle.family_rules.proofs.checker.ItemChecker.into_counts.Goals as goal

pub returns : goal.returns
unfolding page_at
returns c =
    let families = c.len-families.ensures ∙ ap (λ (es : List (List ℕ × FamilySoFar)). length es) c.in_ok-left.ensures.left
    ∙ sym (families_count c.args.self.setting.format (with_left c.args.self.left c.args.self.current) c.args.self.seen) in
    λ i. record { families = families i; samples = (c.self.view_is i).samples }
