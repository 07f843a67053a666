use Rattle.std.proofs.Common.{◌∙◌, ap, List, ℕ, ◌≡◌, ◌++◌, ◌∷◌, [], rules, false}
use Rattle.std.specs.List.{list_any}
use Rattle.std.specs.Map.{lookup}
use Rattle.std.specs.Str.{bytes_eq}
use Rattle.indexmap.specs.IndexMap.{insert_entry}
use Rattle.family_rules.specs.declared.family.FamilySoFar.{FamilySoFar}
use Rattle.family_rules.proofs.Named.{unknown_name, put_last, named_more}
use Rattle.family_rules.proofs.left.LeftFamilies.push.Goals as goal

pub invariant_of-self-2 : goal.invariant_of-self-2
invariant_of-self-2 c =
    let none : list_any (bytes_eq c.args.name.now) c.self.inside.names ≡ false = unknown_name c.args.name.now c.self.inside.names c.self.inside.families.items c.self.invariant.each
    (ap (λ (es : List (List ℕ × FamilySoFar)). lookup (bytes_eq c.args.name.now) es) c.self.view_is ∙ c.requires) in
    let families : c.push_reserved.new.self.items ≡ c.self.inside.families.items ++ c.args.family ∷ [] = search rules in
    (named_more c.args.name.now c.self.inside.names c.insert.new.self c.self.inside.families.items c.push_reserved.new.self.items c.args.family c.self.invariant none
    (put_last c.args.name.now c.self.inside.names c.insert.new.self c.in_ok-insert.field-0 none c.in_ok-insert.ensures.found c.in_ok-insert.ensures.added) families).0

pub returns : goal.returns
returns c =
    let none : list_any (bytes_eq c.args.name.now) c.self.inside.names ≡ false = unknown_name c.args.name.now c.self.inside.names c.self.inside.families.items c.self.invariant.each
    (ap (λ (es : List (List ℕ × FamilySoFar)). lookup (bytes_eq c.args.name.now) es) c.self.view_is ∙ c.requires) in
    let families : c.push_reserved.new.self.items ≡ c.self.inside.families.items ++ c.args.family ∷ [] = search rules in
    (named_more c.args.name.now c.self.inside.names c.insert.new.self c.self.inside.families.items c.push_reserved.new.self.items c.args.family c.self.invariant none
    (put_last c.args.name.now c.self.inside.names c.insert.new.self c.in_ok-insert.field-0 none c.in_ok-insert.ensures.found c.in_ok-insert.ensures.added) families).1
    ∙ ap (λ (es : List (List ℕ × FamilySoFar)). insert_entry bytes_eq es c.args.name.now c.args.family) c.self.view_is
