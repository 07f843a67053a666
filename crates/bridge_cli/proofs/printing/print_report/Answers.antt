use Rattle.script_commands.proofs.Laws.{free_pairs, load_shelved, run_reported, none_reported}
use Rattle.bridge_cli.proofs.printing.print_report.Goals as goal

pub end_load-requires-after_bounds : goal.end_load-requires-after_bounds
end_load-requires-after_bounds g c κs within = free_pairs c.has_shelf-keeps.result c.args.script.now c.in-Ok.over.ends.items c.in-Ok.over.wires.items c.in-Ok.ensures

pub returns-in-Ok-clause-printed : goal.returns-in-Ok-clause-printed
returns-in-Ok-clause-printed g c =
    run_reported c.has_shelf-keeps.result c.args.script.now c.in-Ok.over.ends.items c.in-Ok.over.wires.items _ _ c.end_load.result c.requires.right c.requires.taken c.in-Ok.ensures c.end_load.ensures.printed c.end_load.ensures.all

pub returns-in-Ok-clause-shelf : goal.returns-in-Ok-clause-shelf
returns-in-Ok-clause-shelf g c =
    load_shelved c.has_shelf-keeps.result c.args.script.now c.in-Ok.over.ends.items c.in-Ok.over.wires.items _ _ c.end_load.result c.requires.right c.in-Ok.ensures c.end_load.ensures.all c.end_load.ensures.shelf c.has_shelf-keeps.ensures

pub returns-in-Err-clause-printed : goal.returns-in-Err-clause-printed
returns-in-Err-clause-printed g c = none_reported c.args.script.now (g.O.Sink.held c.args.output.now)
