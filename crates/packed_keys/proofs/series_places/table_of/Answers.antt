use Rattle.std.proofs.Common.{take, sym, ap, subst, ◌∙◌, arith, List, [], ◌∷◌, ◌++◌, ◌≡◌, ◌+◌}
use Rattle.std.proofs.lemmas.List.{take_more, take_all}
use Rattle.label_sets.specs.declared.series_key.SeriesKey.{SeriesKey}
use Rattle.packed_keys.specs.Packing.{series_bytes}
use Rattle.packed_keys.specs.Places.{AreBytesOf}
use Rattle.packed_keys.proofs.Seen.{in_room, put_packed}
use Rattle.packed_keys.proofs.Series.{no_keys, one_key}
use Rattle.packed_keys.proofs.series_places.table_of.Goals as goal

pub loop-key-init : goal.loop-key-init
loop-key-init c = no_keys c.new-table.result c.new-table.ensures

pub loop-key-preserved : goal.loop-key-preserved
loop-key-preserved c =
    let ks = c.as_slice-key-items.result.now in
    let k = c.key-item.result in
    let front = take c.loop-key.key-index ks in
    let more : take (c.loop-key.key-index + 1) ks ≡ front ++ k ∷ [] = take_more ks c.loop-key.key-index k c.loop-key-test.true ∙ ap (λ (m : SeriesKey). front ++ m ∷ []) (sym c.key-item.is) in
    let packed = in_room _ _ _ (series_bytes k) c.as_slice.ensures.value c.in_ok-put_series.ensures c.clear.ensures.items in
    let put = put_packed c.loop-key.table c.insert.new.self _ _ c.in_ok-insert.field-0 packed (c.in_ok-insert.ensures.found, c.in_ok-insert.ensures.added) in
    rw more (one_key front k c.loop-key.table c.insert.new.self c.in_ok-insert.field-0 c.loop-key.invariant put.0 put.1)

pub returns : goal.returns
returns c =
    let ks = c.as_slice-key-items.result.now in
    let all : take c.loop-key.key-index ks ≡ c.args.keys.now = take_all c.loop-key.key-index ks (omega arith) ∙ c.as_slice-key-items.ensures in
    subst (λ (keys : List SeriesKey). AreBytesOf keys c.loop-key.table) all c.loop-key.invariant
