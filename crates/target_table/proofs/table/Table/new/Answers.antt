use Rattle.std.proofs.Common.{◌∙◌, ap, map}
use Rattle.std.specs.Vec.{vec_capacity}
use Rattle.series_table.specs.HttpTalks.{talking}
use Rattle.series_table.specs.Records.{Kept}
use Rattle.target_table.proofs.Beginning.{is_new_table, room_for_tracks}
use Rattle.target_table.proofs.table.Table.new.Goals as goal

pub invariant_of-table : goal.invariant_of-table
invariant_of-table g c = (
  c.requires.rounds,
  is_new_table talking g.N.RunName.run c.args.tracks.items c.fill.new.slots.items c.open-books.result.0 c.in-Ok.seen.items c.requires.run c.requires.tracks c.requires.unvisited
      c.fill.ensures.filled c.open-books.ensures.books (c.in-Ok.ensures.seen ∙ ap (map (λ (k : Kept). k.shown)) c.as_slice.ensures.value),
  c.fill.ensures.moved,
  room_for_tracks c.args.tracks.items c.fill.new.slots.items c.args.tracks.len (vec_capacity c.args.tracks) (vec_capacity c.fill.new.tracks) c.fill.ensures.filled c.args.tracks.ok.0 c.args.tracks.ok.1 c.fill.ensures.room,
)
