use Rattle.std.proofs.Common.{◌≡◌, ◌<◌, length, take, get_or, ◌+◌, sym, ap, subst, ◌∙◌, arith}
use Rattle.series_table.specs.HttpTalks.{talking}
use Rattle.series_table.specs.Tracks.{AreTracks, AreUnvisited}
use Rattle.replay_script.specs.declared.script.ScriptTarget.{ScriptTarget}
use Rattle.script_commands.specs.Rounds.{script_followed, script_targets}
use Rattle.script_commands.proofs.VisitLaws.{next_track, unvisited_more}
use Rattle.script_commands.proofs.visiting.new_tracks.Goals as goal

pub loop-at-preserved : goal.loop-at-preserved
loop-at-preserved c =
    let h = c.args.script.now.header in
    let ts = c.args.script.now.targets in
    let t = c.index-targets-at.result in
    let many : length {A = ScriptTarget} c.as_slice-targets.result.now ≡ length {A = ScriptTarget} ts = ap (length {A = ScriptTarget}) c.loop-at.invariant.1 in
    let inside : c.loop-at.at < length {A = ScriptTarget} ts = omega (arith, many, c.loop-at-test.true) in (
      omega (arith, c.loop-at-test.true),
      c.loop-at.invariant.1,
      omega (arith, c.push_reserved.ensures.len, c.loop-at.invariant.2),
      omega (arith, c.push_reserved.ensures.capacity, c.loop-at.invariant.3),
      subst (AreTracks talking 0 (script_targets c.args.keeps h (take (c.loop-at.at + 1) ts))) (sym c.push_reserved.ensures.items)
          (next_track c.args.keeps h ts c.loop-at.at t c.loop-at.tracks.items c.in-Ok.track inside (c.index-targets-at.is ∙ ap (λ us. get_or us c.loop-at.at t) c.loop-at.invariant.1) c.loop-at.invariant.4 c.in-Ok.ensures.at),
      subst AreUnvisited (sym c.push_reserved.ensures.items) (unvisited_more c.loop-at.tracks.items c.in-Ok.track c.loop-at.at (script_followed c.args.keeps h t) c.loop-at.invariant.5 c.in-Ok.ensures),
    )
