use Rattle.std.proofs.Common.{sym, ap, ◌∙◌, ◌++◌, ◌∷◌, [], List, Bool, not, cond}
use Rattle.std.specs.Prelude.{is_none}
use Rattle.std.specs.List.{list_any}
use Rattle.packed_keys.specs.declared.sample_key.SampleKey.{SampleKey}
use Rattle.packed_keys.specs.Packing.{key_bytes, sample_key_eq}
use Rattle.packed_keys.specs.Texts.{IsPackedKey}
use Rattle.packed_keys.proofs.Seen.{in_room, put_packed, still, key_packed, is_new, keys_are}
use Rattle.packed_keys.proofs.Steps.{none_test}
use Rattle.packed_keys.proofs.seen_keys.SeenKeys.insert.Goals as goal

pub invariant_of-self-2 : goal.invariant_of-self-2
invariant_of-self-2 c =
    let packed = in_room _ _ _ (key_bytes c.args.key.now) c.as_slice.ensures.value c.in_ok-put_key.ensures.added c.clear.ensures.items in
    let put = put_packed c.self.inside.table c.insert.new.self _ _ c.in_ok-found.found packed (c.in_ok-found.ensures.found, c.in_ok-found.ensures.added) in
    still IsPackedKey c.self.inside.table c.insert.new.self (key_bytes c.args.key.now) c.in_ok-found.found c.self.invariant (key_packed c.args.key.now c.in_ok-put_key.ensures.text) put

pub returns-clause-added : goal.returns-clause-added
returns-clause-added c =
    let packed = in_room _ _ _ (key_bytes c.args.key.now) c.as_slice.ensures.value c.in_ok-put_key.ensures.added c.clear.ensures.items in
    let put = put_packed c.self.inside.table c.insert.new.self _ _ c.in_ok-found.found packed (c.in_ok-found.ensures.found, c.in_ok-found.ensures.added) in
    none_test c.in_ok-found.found c.is_none.result c.is_none.ensures
    ∙ (is_new c.self.inside.table c.insert.new.self c.args.key.now c.in_ok-found.found c.self.invariant put ∙ ap (λ (ks : List SampleKey). not (list_any (sample_key_eq c.args.key.now) ks)) c.self.view_is)

pub returns-clause-keys : goal.returns-clause-keys
returns-clause-keys c =
    let packed = in_room _ _ _ (key_bytes c.args.key.now) c.as_slice.ensures.value c.in_ok-put_key.ensures.added c.clear.ensures.items in
    let put = put_packed c.self.inside.table c.insert.new.self _ _ c.in_ok-found.found packed (c.in_ok-found.ensures.found, c.in_ok-found.ensures.added) in
    keys_are c.self.inside.table c.insert.new.self c.args.key.now c.in_ok-found.found put
    ∙ (ap (λ (ks : List SampleKey). cond (is_none c.in_ok-found.found) (ks ++ c.args.key.now ∷ []) ks) c.self.view_is
    ∙ ap (λ (b : Bool). cond b (c.args.self.now ++ c.args.key.now ∷ []) c.args.self.now) (sym (none_test c.in_ok-found.found c.is_none.result c.is_none.ensures)))
