use Rattle.std.proofs.Common.{sym, ap, subst, ◌∙◌, ◌≡◌, ◌<◌, length, [], IsUtf8, rules}
use Rattle.packed_keys.specs.declared.sample_key.SampleKey.{SampleKey}
use Rattle.packed_keys.specs.Packing.{labels_in, key_at}
use Rattle.packed_keys.specs.Texts.{IsPackedKey, IsPackedSet}
use Rattle.packed_keys.proofs.Seen.{labels_packed, key_read, name_text, next_key}
use Rattle.packed_keys.proofs.keys.Keys.next.Goals as goal

pub name_of-requires : goal.name_of-requires
name_of-requires c =
    let lt : c.self.inside.at < length c.self.inside.table = search rules in
    let key : IsPackedKey c.at.result.now = subst IsPackedKey (sym c.at.ensures) (c.self.invariant c.self.inside.at [] lt) in
    subst IsUtf8 (sym c.read_part.ensures.part) (name_text c.at.result.now key)

pub read_set-requires : goal.read_set-requires
read_set-requires c =
    let lt : c.self.inside.at < length c.self.inside.table = search rules in
    let key : IsPackedKey c.at.result.now = subst IsPackedKey (sym c.at.ensures) (c.self.invariant c.self.inside.at [] lt) in
    subst IsPackedSet (sym c.read_part.ensures.rest) (labels_packed c.at.result.now key)

pub returns-clause-steps : goal.returns-clause-steps
returns-clause-steps c =
    let lt : c.self.inside.at < length c.self.inside.table = search rules in
    let key : SampleKey = record { name = c.in_ok-name.name; labels = c.in_ok-labels.labels } in
    let is : key ≡ key_at c.at.result.now = key_read c.at.result.now key (c.in_ok-name.ensures ∙ c.read_part.ensures.part) (c.in_ok-labels.ensures ∙ ap labels_in c.read_part.ensures.rest) in
    sym c.self.view_is ∙ next_key c.self.inside.table c.self.inside.at key lt (is ∙ ap key_at c.at.ensures)
