use Rattle.std.proofs.Common.{length, ap, ◌∙◌, arith, rules}
use Rattle.replay_script.specs.declared.script.ScriptTarget.{ScriptTarget}
use Rattle.replay_script.specs.RightScripts.{IsRightTarget}
use Rattle.script_commands.proofs.ReplayLaws.{all_at, place_in_same, targets_more, script_cut, script_full}
use Rattle.script_commands.proofs.ShownLaws.{shows_one, shown_more, shown_all}
use Rattle.script_commands.proofs.VisitLaws.{each_more}
use Rattle.script_commands.proofs.replaying.print_targets.Goals as goal

pub print_target-requires-clause-target : goal.print_target-requires-clause-target
print_target-requires-clause-target g c =
    all_at (IsRightTarget c.args.script.now.header) c.args.script.now.targets c.loop-at.at c.index-targets-at.result c.requires.right.targets
    (place_in_same _ _ c.loop-at.at c.index-targets-at.result c.loop-at.invariant.1 c.loop-at-test.true c.index-targets-at.is)

pub loop-at-preserved : goal.loop-at-preserved
loop-at-preserved g c =
    let stands = place_in_same _ _ c.loop-at.at c.index-targets-at.result c.loop-at.invariant.1 c.loop-at-test.true c.index-targets-at.is in
    let next = c.in-Ok.ensures.printed in (
      omega (arith, c.loop-at-test.true),
      c.loop-at.invariant.1,
      targets_more c.args.script.now c.loop-at.at _ _ _ c.index-targets-at.result next.0 c.loop-at.invariant.2 stands next.1 next.2,
      c.in-Ok.ensures.cause ∙ c.loop-at.invariant.3,
      each_more c.args.script.now.header.rounds c.args.visits.now c.loop-at.at _ _ c.loop-at.invariant.4 (omega (arith, c.loop-at-test.true, c.loop-at.invariant.5))
          (all_at (IsRightTarget c.args.script.now.header) c.args.script.now.targets c.loop-at.at c.index-targets-at.result c.requires.right.targets stands).scrapes c.in-Ok.ensures.visited
          (search rules),
      c.loop-at.invariant.5,
      λ asked. shown_more c.args.script.now.header c.args.script.now.targets c.loop-at.at c.index-targets-at.result _ _ stands
          (c.loop-at.invariant.6 asked) (shows_one c.args.script.now.header c.index-targets-at.result c.in-Ok.state _ _ c.in-Ok.ensures.stands (c.in-Ok-keep_shown.ensures asked)),
    )

pub returns-in-Err-clause-printed : goal.returns-in-Err-clause-printed
returns-in-Err-clause-printed g c =
    let stands = place_in_same _ _ c.loop-at.at c.index-targets-at.result c.loop-at.invariant.1 c.loop-at-test.true c.index-targets-at.is in
    script_cut c.args.script.now c.loop-at.at _ _ _ c.index-targets-at.result c.in-Err.cut c.loop-at.invariant.2 stands c.in-Err.ensures.printed

pub returns-in-Err-keep_shown-clause-printed : goal.returns-in-Err-keep_shown-clause-printed
returns-in-Err-keep_shown-clause-printed g c =
    let stands = place_in_same _ _ c.loop-at.at c.index-targets-at.result c.loop-at.invariant.1 c.loop-at-test.true c.index-targets-at.is in
    script_full c.args.script.now c.loop-at.at _ _ _ c.index-targets-at.result c.loop-at.invariant.2 stands c.in-Ok.ensures.printed

pub returns-clause-visited : goal.returns-clause-visited
returns-clause-visited g c = λ k inside. c.loop-at.invariant.4 k (omega (arith, inside, c.loop-at-test.false, c.loop-at.invariant.0, c.loop-at.invariant.5))

pub returns-clause-shown : goal.returns-clause-shown
returns-clause-shown g c = λ asked.
    let same = ap (length {A = ScriptTarget}) c.loop-at.invariant.1 in
    shown_all c.args.script.now.header c.args.script.now.targets c.loop-at.at _ (omega (arith, same, c.loop-at-test.false)) (c.loop-at.invariant.6 asked)
