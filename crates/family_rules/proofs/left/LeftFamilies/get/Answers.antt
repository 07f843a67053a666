use Rattle.std.proofs.Common.{◌∙◌, ap, sym, List, ℕ, ◌≡◌, ◌<◌, length, rules, Some, refl}
use Rattle.std.specs.Prelude.{slice_get}
use Rattle.std.specs.Option.{option_copied}
use Rattle.std.specs.Map.{lookup}
use Rattle.std.specs.Str.{bytes_eq}
use Rattle.std.proofs.lemmas.Option.{slice_get_read}
use Rattle.family_rules.specs.declared.family.FamilySoFar.{FamilySoFar}
use Rattle.family_rules.proofs.Named.{named_none, named_at, within_values}
use Rattle.family_rules.proofs.left.LeftFamilies.get.Goals as goal

pub returns-in_err-at : goal.returns-in_err-at
returns-in_err-at c = ap option_copied c.from_residual.ensures ∙ (sym (named_none c.args.name.now c.self.inside.names c.self.inside.families.items c.in_err-at.ensures)
    ∙ ap (λ (es : List (List ℕ × FamilySoFar)). lookup (bytes_eq c.args.name.now) es) c.self.view_is)

pub index-requires : goal.index-requires
index-requires c =
    let within : c.in_ok-at.at < length c.self.inside.families.items = within_values c.args.name.now c.self.inside.names c.self.inside.families.items c.in_ok-at.at c.self.invariant c.in_ok-at.ensures in
    search (rules, within)

pub returns : goal.returns
returns c =
    let within : c.in_ok-at.at < length c.self.inside.families.items = within_values c.args.name.now c.self.inside.names c.self.inside.families.items c.in_ok-at.at c.self.invariant c.in_ok-at.ensures in
    let got : slice_get c.self.inside.families.items c.in_ok-at.at ≡ Some c.index.result.now =
    slice_get_read c.self.inside.families.items (length c.self.inside.families.items) c.in_ok-at.at c.index.result.now refl within c.index.ensures in
    sym got ∙ (sym (named_at c.args.name.now c.self.inside.names c.self.inside.families.items c.in_ok-at.at c.self.invariant.distinct c.self.invariant.each c.in_ok-at.ensures)
    ∙ ap (λ (es : List (List ℕ × FamilySoFar)). lookup (bytes_eq c.args.name.now) es) c.self.view_is)
