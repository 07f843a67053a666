use Rattle.std.proofs.Common.{map, ap, ◌∙◌}
use Rattle.run_report.specs.Ends.{track_end}
use Rattle.script_commands.proofs.visiting.run_end.Goals as goal

pub returns-in_ok-wires-in-Ok : goal.returns-in_ok-wires-in-Ok
returns-in_ok-wires-in-Ok c = record { ends_are = c.in-Ok.ensures ∙ ap (map track_end) c.as_slice.ensures.value; wires_are = c.in_ok-wires-in-Ok.ensures }
