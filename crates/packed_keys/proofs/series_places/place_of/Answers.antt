use Rattle.packed_keys.specs.Packing.{series_bytes}
use Rattle.packed_keys.proofs.Seen.{in_room}
use Rattle.packed_keys.proofs.Series.{found_place, find_packed}
use Rattle.packed_keys.proofs.series_places.place_of.Goals as goal

pub returns : goal.returns
returns c =
    let packed = in_room _ _ _ (series_bytes c.args.key.now) c.as_slice.ensures.value c.in_ok-put_series.ensures c.clear.ensures.items in
    found_place c.args.keys.now c.args.key.now c.args.table.now c.find.result c.requires (find_packed c.args.table.now c.as_slice.result.now (series_bytes c.args.key.now) c.find.result packed c.find.ensures)
