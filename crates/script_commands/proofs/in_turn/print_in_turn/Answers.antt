use Rattle.std.proofs.Common.{◌+◌, length, ap, get_or, sym, subst, ◌∙◌, arith}
use Rattle.replay_script.specs.declared.script.ScriptTarget.{ScriptTarget}
use Rattle.replay_script.specs.RightScripts.{IsRightTarget}
use Rattle.script_commands.proofs.ReplayLaws.{all_at, place_in_same, targets_more, script_cut}
use Rattle.script_commands.proofs.ShownLaws.{shown_more, shown_all}
use Rattle.script_commands.proofs.TurnLaws.{VisitedFirst, visited_more, visited_all}
use Rattle.script_commands.proofs.VisitLaws.{no_bodies}
use Rattle.script_commands.proofs.in_turn.print_in_turn.Goals as goal

pub print_target-requires-clause-target : goal.print_target-requires-clause-target
print_target-requires-clause-target g c =
    all_at (IsRightTarget c.args.script.now.header) c.args.script.now.targets c.loop-at.at c.index-targets-at.result c.requires.targets
    (place_in_same _ _ c.loop-at.at c.index-targets-at.result c.loop-at.invariant.1 c.loop-at-test.true c.index-targets-at.is)

pub loop-at-preserved : goal.loop-at-preserved
loop-at-preserved g c =
    let script = c.args.script.now in
    let t = c.index-targets-at.result in
    let stands = place_in_same _ _ c.loop-at.at t c.loop-at.invariant.1 c.loop-at-test.true c.index-targets-at.is in
    let many = ap (length {A = ScriptTarget}) c.loop-at.invariant.1 in
    let next = c.in-Ok-print_target.ensures.printed in (
      omega (arith, c.loop-at-test.true),
      c.loop-at.invariant.1,
      targets_more script c.loop-at.at _ _ _ t next.0 c.loop-at.invariant.2 stands next.1 next.2,
      c.in-Ok-print_target.ensures.cause ∙ c.loop-at.invariant.3,
      omega (arith, c.push_reserved.ensures.len, c.loop-at.invariant.4),
      omega (arith, c.push_reserved.ensures.capacity, c.loop-at.invariant.5),
      subst (VisitedFirst c.args.wanted.keeps script (c.loop-at.at + 1)) (sym c.push_reserved.ensures.items)
          (visited_more c.args.wanted.keeps script c.loop-at.at t c.loop-at.wires.items c.in-Ok-print_target.pair (omega (arith, many, c.loop-at-test.true)) (c.index-targets-at.is ∙ ap (λ us. get_or us c.loop-at.at t) c.loop-at.invariant.1) c.loop-at.invariant.6 c.in-Ok-print_target.ensures.wires),
      λ asked. shown_more script.header script.targets c.loop-at.at t _ _ stands (c.loop-at.invariant.7 asked) (c.in-Ok-print_target.ensures.shown asked),
    )

pub returns-in-Err-print_target-clause-printed : goal.returns-in-Err-print_target-clause-printed
returns-in-Err-print_target-clause-printed g c =
    let stands = place_in_same _ _ c.loop-at.at c.index-targets-at.result c.loop-at.invariant.1 c.loop-at-test.true c.index-targets-at.is in
    script_cut c.args.script.now c.loop-at.at _ _ _ c.index-targets-at.result c.in-Err-print_target.cut c.loop-at.invariant.2 stands c.in-Err-print_target.ensures.printed

pub returns-clause-wires : goal.returns-clause-wires
returns-clause-wires g c =
    let many = ap (length {A = ScriptTarget}) c.loop-at.invariant.1 in
    visited_all c.args.wanted.keeps c.args.script.now c.loop-at.at c.loop-at.wires.items (omega (arith, many, c.loop-at-test.false)) c.loop-at.invariant.6

pub returns-clause-shown : goal.returns-clause-shown
returns-clause-shown g c = λ asked.
    let same = ap (length {A = ScriptTarget}) c.loop-at.invariant.1 in
    shown_all c.args.script.now.header c.args.script.now.targets c.loop-at.at _ (omega (arith, same, c.loop-at-test.false)) (c.loop-at.invariant.7 asked)

pub returns-in-Err-clause-printed : goal.returns-in-Err-clause-printed
returns-in-Err-clause-printed g c = no_bodies c.args.script.now (g.O.Sink.held c.args.output.now) c.requires.some_target
