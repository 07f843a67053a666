use Rattle.std.proofs.Common.{refl, sym, ◌∙◌, ap, map}
use Rattle.run_report.specs.Ends.{track_end}
use Rattle.scraper_pool.specs.Turns.{run_of}
use Rattle.world_run.specs.Taken.{end_names, track_names}
use Rattle.series_table.specs.Records.{Kept}
use Rattle.world_run.proofs.Tracks.{right_run, own_run, own_tracks, same_followed, same_names}
use Rattle.world_run.proofs.run.visit_all.Goals as goal

pub run_with_door-requires-clause-run : goal.run_with_door-requires-clause-run
run_with_door-requires-clause-run g c κs within = right_run c.args.config.now c.args.tracks.items c.requires.right c.requires.first c.requires.targets

pub run_with_door-requires-clause-tracks : goal.run_with_door-requires-clause-tracks
run_with_door-requires-clause-tracks g c κs within = own_tracks c.args.config.now c.args.tracks.items c.requires.first

pub renew_ends-requires-after_bounds : goal.renew_ends-requires-after_bounds
renew_ends-requires-after_bounds g c κs within =
    let tracks = c.in-Ok-run_with_door.ended.tracks.items in
    ap (map end_names) c.deref_mut.ensures.value
    ∙ same_names c.args.tracks.items tracks c.in-Ok.ends.items (c.in-Ok.ensures ∙ ap (map track_end) c.as_slice.ensures.value) (same_followed (map (λ (k : Kept). k.followed) c.args.tracks.items) 0 tracks c.in-Ok-run_with_door.ensures.over.tracks_are)
    ∙ ap (map track_names) (sym c.as_slice-in-Ok-run_with_door.ensures.value)

pub returns-in-Err-Memory-clause-back : goal.returns-in-Err-Memory-clause-back
returns-in-Err-Memory-clause-back g c = rw c.in-Err-Memory.ensures.back refl

pub returns-in-Ok-run_with_door-clause-served : goal.returns-in-Ok-run_with_door-clause-served
returns-in-Ok-run_with_door-clause-served g c = record {
  run = run_of c.args.config.now.rounds c.args.tracks.items;
  run_is = own_run c.args.config.now c.args.tracks.items c.requires.first c.requires.targets;
  serves = c.in-Ok-run_with_door.ensures.served;
}
