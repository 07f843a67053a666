use Rattle.std.proofs.Common.{◌∙◌, ◌<◌, [], List, length, slice_get, ap, subst, sym}
use Rattle.std.proofs.lemmas.List.{length-map}
use Rattle.packed_keys.specs.declared.sample_key.SampleKey.{SampleKey}
use Rattle.packed_keys.specs.Packing.{labels_in, key_at}
use Rattle.packed_keys.specs.Texts.{IsPackedKey, IsPackedSet}
use Rattle.packed_keys.proofs.Seen.{labels_packed, key_here, labels_here}
use Rattle.packed_keys.proofs.seen_keys.SeenKeys.packed_labels.Goals as goal

pub returns-clause-set : goal.returns-clause-set
returns-clause-set c =
    let within : c.args.at < length c.self.inside.table = subst (λ n. c.args.at < n) (ap length (sym c.self.view_is) ∙ length-map c.self.inside.table key_at) c.requires in
    let key : IsPackedKey c.at.result.now = subst IsPackedKey (sym c.at.ensures) (c.self.invariant c.args.at [] within) in
    subst IsPackedSet (sym c.read_part.ensures.rest) (labels_packed c.at.result.now key)

pub returns-clause-labels : goal.returns-clause-labels
returns-clause-labels c = λ key here.
    ap labels_in c.read_part.ensures.rest ∙ labels_here c.at.result.now key
    (ap key_at c.at.ensures ∙ key_here c.self.inside.table c.args.at key (ap (λ (keys : List SampleKey). slice_get keys c.args.at) c.self.view_is ∙ here))
