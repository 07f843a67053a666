use Rattle.std.proofs.Common.{List, [], ◌∷◌, ◌++◌, ◌∙◌, ap, sym, subst}
use Rattle.series_table.specs.HttpTalks.{talking}
use Rattle.series_table.specs.Records.{Kept}
use Rattle.target_table.specs.Runs.{IsRightRun}
use Rattle.scraper_pool.specs.Turns.{run_of}
use Rattle.pool_tests.proofs.OneTrack.{is_right_run}
use Rattle.pool_tests.proofs.calls.one_track.tracks.Goals as goal

pub returns-in-Ok-clause-run : goal.returns-in-Ok-clause-run
returns-in-Ok-clause-run c =
    let k = c.in-Ok.track in
    let items = c.push_reserved.ensures.items ∙ ap (λ (ks : List Kept). ks ++ k ∷ []) c.in_ok-tracks.ensures.items in
    subst (λ ks. IsRightRun (run_of 1 ks)) (sym items) (is_right_run talking k c.in-Ok.ensures.scraped c.in-Ok.ensures.track)
