use Rattle.std.proofs.Common.{◌∙◌, ap, sym, List, ℕ}
use Rattle.std.specs.Map.{lookup}
use Rattle.std.specs.Str.{bytes_eq}
use Rattle.indexmap.specs.IndexMap.{insert_entry}
use Rattle.family_rules.specs.declared.family.FamilySoFar.{FamilySoFar}
use Rattle.family_rules.proofs.Named.{named_none, put_known}
use Rattle.family_rules.proofs.left.LeftFamilies.put.Goals as goal

pub push-requires : goal.push-requires
push-requires c = ap (λ (es : List (List ℕ × FamilySoFar)). lookup (bytes_eq c.args.name.now) es) (sym c.self.view_is)
    ∙ named_none c.args.name.now c.self.inside.names c.self.inside.families.items c.in-None.ensures

pub returns-in-Some : goal.returns-in-Some
returns-in-Some c = sym (put_known c.args.name.now c.self.inside.names c.self.inside.families.items c.in-Some.at c.args.family c.self.invariant.distinct c.self.invariant.each c.in-Some.ensures)
    ∙ ap (λ (es : List (List ℕ × FamilySoFar)). insert_entry bytes_eq es c.args.name.now c.args.family) c.self.view_is
