use Rattle.std.proofs.Common.{◌∙◌, ap, sym, List, ℕ, length, ◌≡◌, rules}
use Rattle.family_rules.specs.declared.family.FamilySoFar.{FamilySoFar}
use Rattle.family_rules.proofs.Named.{named_length}
use Rattle.family_rules.proofs.left.LeftFamilies.len.Goals as goal

pub returns : goal.returns
returns c =
    let all : c.len.result ≡ length c.self.inside.families.items = search rules in
    all ∙ (sym (named_length c.self.inside.names c.self.inside.families.items c.self.invariant.each) ∙ ap (λ (es : List (List ℕ × FamilySoFar)). length es) c.self.view_is)
