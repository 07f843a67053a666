use Rattle.std.proofs.Common.{◌∙◌, ap, List, ℕ}
use Rattle.std.specs.Prelude.{is_some}
use Rattle.std.specs.Map.{lookup}
use Rattle.std.specs.Str.{bytes_eq}
use Rattle.family_rules.specs.declared.family.FamilySoFar.{FamilySoFar}
use Rattle.family_rules.proofs.Named.{has_named}
use Rattle.family_rules.proofs.left.LeftFamilies.has.Goals as goal

pub returns : goal.returns
returns c = c.is_some.ensures ∙ (has_named c.args.name.now c.self.inside.names c.self.inside.families.items c.find.result c.self.invariant c.find.ensures
    ∙ ap (λ (es : List (List ℕ × FamilySoFar)). is_some (lookup (bytes_eq c.args.name.now) es)) c.self.view_is)
