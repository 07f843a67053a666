use Rattle.std.proofs.Common.{◌≡◌, ◌∙◌, List, map, Some, IfOk, slice_get, sym, ap, subst}
use Rattle.label_sets.specs.declared.label.Label.{Label}
use Rattle.label_sets.specs.Labels.{without_label}
use Rattle.packed_keys.specs.Packing.{labels_bytes, labels_in, with_set}
use Rattle.packed_keys.specs.Texts.{IsPackedSet}
use Rattle.packed_keys.proofs.Packed.{set_back}
use Rattle.packed_keys.proofs.Seen.{in_room, set_packed}
use Rattle.packed_keys.proofs.seen_sets.SeenSets.insert_without.Goals as goal

pub insert_packed-requires-clause-set : goal.insert_packed-requires-clause-set
insert_packed-requires-clause-set c =
    let ls = without_label c.args.name.now c.args.labels.now in
    let packed = in_room _ _ _ (labels_bytes ls) c.as_slice.ensures.value c.in_ok-put_labels_without.ensures.added c.clear.ensures.items in
    subst IsPackedSet (sym packed) (set_packed ls c.in_ok-put_labels_without.ensures.text)

pub returns-clause-place : goal.returns-clause-place
returns-clause-place c =
    let ls = without_label c.args.name.now c.args.labels.now in
    let packed = in_room _ _ _ (labels_bytes ls) c.as_slice.ensures.value c.in_ok-put_labels_without.ensures.added c.clear.ensures.items in
    subst (λ (set : List Label). IfOk c.insert_packed.result (λ at. slice_get (map labels_in c.insert_packed.new.table) at ≡ Some set)) (ap labels_in packed ∙ set_back ls) c.insert_packed.ensures.place

pub returns-clause-sets : goal.returns-clause-sets
returns-clause-sets c =
    let ls = without_label c.args.name.now c.args.labels.now in
    let packed = in_room _ _ _ (labels_bytes ls) c.as_slice.ensures.value c.in_ok-put_labels_without.ensures.added c.clear.ensures.items in
    subst (λ (sets : List (List Label)). IfOk c.insert_packed.result (λ at. map labels_in c.insert_packed.new.table ≡ with_set sets ls)) c.self.view_is
    (subst (λ (set : List Label). IfOk c.insert_packed.result (λ at. map labels_in c.insert_packed.new.table ≡ with_set (map labels_in c.self.inside.table) set)) (ap labels_in packed ∙ set_back ls) c.insert_packed.ensures.sets)
