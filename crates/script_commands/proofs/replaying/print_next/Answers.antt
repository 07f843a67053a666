use Rattle.std.proofs.Common.{ℕ, List, subst}
use Rattle.std.specs.Io.KnownBytes.{Appends}
use Rattle.bridge_ports.specs.Writing.{WroteFront}
use Rattle.script_commands.proofs.ReplayLaws.{tree_body}
use Rattle.script_commands.proofs.replaying.print_next.Goals as goal

pub returns-in-Ok-print_line-clause-printed : goal.returns-in-Ok-print_line-clause-printed
returns-in-Ok-print_line-clause-printed g c = λ target earlier stands.
    let made = c.in-Ok.ensures target earlier stands in
    let Grown : List ℕ → Type 0 = λ text. Appends (g.O.Sink.held c.args.output.now) (g.O.Sink.held c.print_line.new.output) text in
    (made.0, made.1, made.2, subst Grown (tree_body c.args.header.now target earlier made.0 c.in-Ok.request made.3) c.in-Ok-print_line.ensures.whole)

pub returns-clause-printed : goal.returns-clause-printed
returns-clause-printed g c = λ target earlier stands.
    let made = c.in-Ok.ensures target earlier stands in
    let Front : List ℕ → Type 0 = λ text. WroteFront (g.O.Sink.held c.args.output.now) (g.O.Sink.held c.print_line.new.output) text in
    (made.0, made.1, subst Front (tree_body c.args.header.now target earlier made.0 c.in-Ok.request made.3) c.in-Err-print_line.ensures.front)
