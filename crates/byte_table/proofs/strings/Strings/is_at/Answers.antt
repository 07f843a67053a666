use Rattle.std.proofs.Common.{◌≡◌, ◌<◌, arith, sym, ap, ◌∙◌, length, get_or, [], subst, List, ℕ}
use Rattle.std.proofs.lemmas.List.{get_or-map, length-map}
use Rattle.std.proofs.lemmas.Bool.{ne_eqb}
use Rattle.std.specs.Str.{bytes_eq}
use Rattle.byte_table.specs.Entries.{bytes_of, IsEntry}
use Rattle.byte_table.proofs.Entries.{other_hash}
use Rattle.byte_table.proofs.strings.Strings.is_at.Goals as goal

pub returns-else-entry-hash : goal.returns-else-entry-hash
returns-else-entry-hash c =
    let bytes = c.self.inside.bytes.items in
    let es = c.self.inside.entries.items in
    let e = c.index-entry.result.now in
    let long : length c.args.self.now ≡ length es = ap length (sym c.self.view_is) ∙ length-map es (bytes_of bytes) in
    let within : c.args.at < length c.args.self.now = c.requires.within in
    let lt : c.args.at < length es = omega arith in
    let there : get_or c.args.self.now c.args.at [] ≡ bytes_of bytes e = ap (λ (ss : List (List ℕ)). get_or ss c.args.at []) (sym c.self.view_is) ∙ (get_or-map (bytes_of bytes) es c.args.at e [] lt ∙ ap (bytes_of bytes) (sym c.index-entry.ensures)) in
    ne_eqb _ _ c.if-entry-hash.false ∙ sym (ap (bytes_eq c.args.string.now) there ∙ other_hash bytes c.args.string.now c.args.hash e (subst (IsEntry bytes) (sym c.index-entry.ensures) (c.self.invariant.each c.args.at e lt)) c.requires.hash c.if-entry-hash.false)
