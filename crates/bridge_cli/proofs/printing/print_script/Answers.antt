use Rattle.std.proofs.Common.{◌∙◌}
use Rattle.std.proofs.lemmas.Result.{on_ok_weaker}
use Rattle.script_commands.proofs.Laws.{free_pairs, script_shelved, showable, page_behind, bodies_cut}
use Rattle.bridge_cli.proofs.printing.print_script.Goals as goal

pub end_replay-requires-clause-shown : goal.end_replay-requires-clause-shown
end_replay-requires-clause-shown g c κs within = λ asked. showable c.args.script.now c.in-Ok.over.shown.items c.requires (c.in-Ok.ensures.shown (c.is_some.ensures ∙ asked))

pub end_replay-requires-clause-wires : goal.end_replay-requires-clause-wires
end_replay-requires-clause-wires g c κs within =
    let all = c.in-Ok.ensures.wires in
    free_pairs c.has_shelf.result c.args.script.now all.ends c.in-Ok.over.wires.items all.run

pub returns-in-Ok-clause-printed : goal.returns-in-Ok-clause-printed
returns-in-Ok-clause-printed g c =
    page_behind c.args.page.now c.args.script.now c.in-Ok.over.shown.items _ _ _ c.end_replay.result c.requires.some_target (λ asked. c.in-Ok.ensures.shown (c.is_some.ensures ∙ asked)) c.in-Ok.ensures.printed c.end_replay.ensures.printed

pub returns-in-Ok-clause-shelf : goal.returns-in-Ok-clause-shelf
returns-in-Ok-clause-shelf g c =
    let all = c.in-Ok.ensures.wires in
    on_ok_weaker c.end_replay.result (λ is. script_shelved c.has_shelf.result c.args.script.now all.ends c.in-Ok.over.wires.items _ _ c.requires all.run all.through is c.has_shelf.ensures) c.end_replay.ensures.shelf

pub returns-in-Err-clause-printed : goal.returns-in-Err-clause-printed
returns-in-Err-clause-printed g c = bodies_cut c.args.page.now c.args.script.now _ _ c.in-Err.cut c.in-Err.ensures.printed
