use Rattle.std.proofs.lemmas.Result.{IfOk-weaker}
use Rattle.bridge_cli.proofs.RunLaws.{right_run, own_tracks, run_left}
use Rattle.bridge_cli.proofs.turns.run_script.Goals as goal

pub run_targets-requires-clause-run : goal.run_targets-requires-clause-run
run_targets-requires-clause-run g c = λ _ _. right_run c.args.keeps c.args.script.now c.in_ok-tracks.tracks.items c.requires c.in_ok-tracks.ensures.are

pub run_targets-requires-clause-tracks : goal.run_targets-requires-clause-tracks
run_targets-requires-clause-tracks g c = λ _ _. own_tracks c.args.keeps c.args.script.now c.in_ok-tracks.tracks.items c.in_ok-tracks.ensures.are

pub returns-in-Ok : goal.returns-in-Ok
returns-in-Ok g c =
    IfOk-weaker c.run_end.result _ _ (λ run left. run_left c.args.keeps c.args.script.now c.in_ok-tracks.tracks.items c.in-Ok.tracks.items run.ends.items run.wires.items c.in_ok-tracks.ensures.are c.in-Ok.ensures.over left)
    c.run_end.ensures
