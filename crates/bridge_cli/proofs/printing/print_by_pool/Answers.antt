use Rattle.script_commands.proofs.Laws.{no_bodies}
use Rattle.bridge_cli.proofs.printing.print_by_pool.Goals as goal

pub returns-in-Err-clause-printed : goal.returns-in-Err-clause-printed
returns-in-Err-clause-printed g c = no_bodies c.args.script.now (g.O.Sink.held c.args.output.now) c.requires.some_target
