use Rattle.std.proofs.Common.{inl, subst, ◌∙◌}
use Rattle.bridge_ports.specs.Writing.{WroteFront}
use Rattle.bridge_ports.proofs.Laws.{appends_none}
use Rattle.script_commands.proofs.loading.print_ends.Goals as goal

pub returns-in-Err-clause-printed : goal.returns-in-Err-clause-printed
returns-in-Err-clause-printed g c = inl (appends_none (g.O.Sink.held c.args.output.now))

pub returns-in-Err-write_all-clause-printed : goal.returns-in-Err-write_all-clause-printed
returns-in-Err-write_all-clause-printed g c = subst (WroteFront _ _) (c.as_slice.ensures.value ∙ c.in-Ok.ensures) c.in-Err-write_all.ensures.front
