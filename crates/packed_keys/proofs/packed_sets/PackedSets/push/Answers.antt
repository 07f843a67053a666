use Rattle.std.proofs.Common.{◌∙◌, ◌++◌, ◌∷◌, [], ℕ, List, ap, subst, sym}
use Rattle.std.proofs.lemmas.Result.{on_ok_weaker}
use Rattle.packed_keys.specs.Packing.{labels_bytes, labels_in}
use Rattle.packed_keys.specs.Texts.{IsPackedSet}
use Rattle.packed_keys.proofs.Packed.{set_back}
use Rattle.packed_keys.proofs.Seen.{set_packed}
use Rattle.packed_keys.proofs.packed_sets.PackedSets.push.Goals as goal

pub put_packed-requires-clause-set : goal.put_packed-requires-clause-set
put_packed-requires-clause-set c =
    let packed = c.as_slice.ensures.value ∙ c.in_ok-put_labels.ensures.added ∙ ap (λ (l : List ℕ). l ++ labels_bytes c.args.labels.now) c.clear.ensures.items in
    subst IsPackedSet (sym packed) (set_packed c.args.labels.now c.in_ok-put_labels.ensures.text)

pub returns-clause-ok : goal.returns-clause-ok
returns-clause-ok c =
    let packed = c.as_slice.ensures.value ∙ c.in_ok-put_labels.ensures.added ∙ ap (λ (l : List ℕ). l ++ labels_bytes c.args.labels.now) c.clear.ensures.items in
    let set = ap labels_in packed ∙ set_back c.args.labels.now in
    on_ok_weaker c.put_packed.result (λ put. put ∙ (λ i. c.self.view_is i ++ set i ∷ [])) c.put_packed.ensures.put
