use Rattle.std.proofs.Common.{ℕ, length, map, ap, ◌∙◌}
use Rattle.std.proofs.lemmas.List.{length-map}
use Rattle.run_report.specs.declared.target_end.TargetEnd.{TargetEnd}
use Rattle.script_commands.specs.Rounds.{visits_counted}
use Rattle.script_commands.proofs.VisitLaws.{as_many_ends, through_seen, no_bodies}
use Rattle.script_commands.proofs.printing.print_run.Goals as goal

pub returns-in-Err-clause-printed : goal.returns-in-Err-clause-printed
returns-in-Err-clause-printed g c = no_bodies c.args.script.now (g.O.Sink.held c.args.output.now) c.requires.right.some_target

pub print_targets-requires-clause-each : goal.print_targets-requires-clause-each
print_targets-requires-clause-each g c =
    ap (length {A = ℕ}) (c.as_slice-2.ensures.value ∙ c.in-Ok.ensures) ∙ length-map c.as_slice.result.now visits_counted ∙ ap (length {A = TargetEnd}) c.as_slice.ensures.value
    ∙ as_many_ends c.args.wanted.keeps c.args.script.now c.args.run.ends.items c.args.run.wires.items c.requires.run

pub returns-in-Ok-print_targets-clause-wires : goal.returns-in-Ok-print_targets-clause-wires
returns-in-Ok-print_targets-clause-wires g c = record {
  ends = c.args.run.ends.items;
  run = c.requires.run;
  through = through_seen c.args.script.now.header.rounds c.args.run.ends.items c.in-Ok.visits.items c.as_slice-2.result.now (c.in-Ok.ensures ∙ ap (map visits_counted) c.as_slice.ensures.value) c.as_slice-2.ensures.value
      c.in-Ok-print_targets.ensures.visited;
}
