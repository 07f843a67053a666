use Rattle.std.proofs.Common.{◌≡◌, ◌∙◌, ◌+◌, ◌∷◌, ◌++◌, ℕ, suc, drop, ap, sym, arith, Option}
use Rattle.std.specs.Option.{option_to_list}
use Rattle.std.specs.Vec.Iter.{into_iter_items}
use Rattle.family_rules.specs.declared.family.FamilySoFar.{FamilySoFar}
use Rattle.family_rules.specs.LeftFamilies.{named}
use Rattle.family_rules.proofs.Loops.{next_named}
use Rattle.family_rules.proofs.left.LeftEntries.next.Goals as goal

pub returns : goal.returns
returns c =
    let names = c.self.inside.names in
    let at : ℕ = c.self.inside.at in
    let left = into_iter_items c.next.new.self in
    let items : into_iter_items c.self.inside.families ≡ c.unwrap-family.result ∷ left = c.next.ensures.items ∙ ap (λ (o : Option FamilySoFar). option_to_list o ++ left) c.unwrap-family.ensures in
    let further : suc at ≡ at + 1 = omega arith in
    sym c.self.view_is ∙ (ap (λ fs. named (drop at names) fs) items
    ∙ (next_named names at c.in_ok-name.name c.unwrap-family.result left c.in_ok-name.ensures ∙ ap (λ n. (c.in_ok-name.name, c.unwrap-family.result) ∷ named (drop n names) left) further))
