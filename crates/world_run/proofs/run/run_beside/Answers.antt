use Rattle.std.proofs.Common.{length, ap, arith}
use Rattle.series_table.specs.Records.{Kept}
use Rattle.world_run.proofs.Homes.{out_away}
use Rattle.world_run.proofs.Ended.{as_many_back, back_in_place, few_tracks, run_end, not_begun}
use Rattle.world_run.proofs.run.run_beside.Goals as goal

pub bring_home-requires-clause-few : goal.bring_home-requires-clause-few
bring_home-requires-clause-few g c κs within =
    omega (arith, as_many_back _ _ _ c.in-Ok-visit_all.ensures.over, few_tracks c.args.config.now c.in-Ok.tracks.items c.requires.right c.in-Ok.ensures.targets)

pub bring_home-requires-clause-places : goal.bring_home-requires-clause-places
bring_home-requires-clause-places g c κs within = back_in_place _ _ _ c.in-Ok-visit_all.ensures.over

pub bring_home-requires-clause-away : goal.bring_home-requires-clause-away
bring_home-requires-clause-away g c κs within = out_away c.in-Ok.tracks.items c.in-Ok-visit_all.visited.tracks.items _ c.in-Ok.ensures.out (as_many_back _ _ _ c.in-Ok-visit_all.ensures.over)

pub returns-in-Ok-visit_all-clause-run : goal.returns-in-Ok-visit_all-clause-run
returns-in-Ok-visit_all-clause-run g c =
    run_end c.args.config.now c.in-Ok.tracks.items c.in-Ok-visit_all.visited.tracks.items _ _ _ _ c.in-Ok.ensures.first c.in-Ok.ensures.was c.in-Ok.ensures.targets c.in-Ok.ensures.out c.in-Ok.ensures.rest
    c.in-Ok-visit_all.ensures.over c.in-Ok-visit_all.ensures.ends c.bring_home.ensures.home c.bring_home.ensures.rest c.bring_home.ensures.given

pub bring_home-requires-in-Err-visit_all-clause-away : goal.bring_home-requires-in-Err-visit_all-clause-away
bring_home-requires-in-Err-visit_all-clause-away g c κs within = out_away c.in-Ok.tracks.items c.in-Err-visit_all.tracks.items _ c.in-Ok.ensures.out (ap (length {A = Kept}) c.in-Err-visit_all.ensures.back)

pub returns-in-Err-visit_all-clause-memory : goal.returns-in-Err-visit_all-clause-memory
returns-in-Err-visit_all-clause-memory g c =
    not_begun c.args.config.now c.in-Ok.tracks.items c.in-Err-visit_all.tracks.items _ _ _ c.in-Err-visit_all.ensures.back c.in-Ok.ensures.targets c.in-Ok.ensures.was c.in-Ok.ensures.rest
    c.bring_home-in-Err-visit_all.ensures.home c.bring_home-in-Err-visit_all.ensures.rest
