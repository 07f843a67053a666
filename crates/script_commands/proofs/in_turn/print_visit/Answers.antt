use Rattle.std.proofs.Common.{ℕ, List, ◌++◌, codes, subst}
use Rattle.script_commands.specs.Printing.{PrintsText}
use Rattle.script_commands.proofs.TurnLaws.{on_ok, visit_more, visit_printed}
use Rattle.script_commands.proofs.in_turn.print_visit.Goals as goal

pub returns-in-Some-clause-goes_on : goal.returns-in-Some-clause-goes_on
returns-in-Some-clause-goes_on g c = λ keeps h t place at under.
    on_ok c.print_body.result (visit_more keeps h t place at _ _ c.in-Some.body.items under c.in-Some.ensures.body c.in-Some.ensures.visit)

pub returns-in-Some-clause-printed : goal.returns-in-Some-clause-printed
returns-in-Some-clause-printed g c = λ keeps h t place at reply earlier right under stands_at stands.
    visit_printed keeps h t place at _ _ c.scrape_wire.result.now c.in-Some.body.items reply earlier _ _ c.print_body.result right under c.in-Some.ensures.body c.in-Some.ensures.visit c.scrape_wire.ensures.free c.scrape_wire.ensures.wire
    c.facts.ensures stands_at stands
    (subst (λ (body : List ℕ). PrintsText (body ++ codes "\n") (g.O.Sink.held c.args.output.now) (g.O.Sink.held c.print_body.new.output) c.print_body.result) c.as_slice.ensures.value c.print_body.ensures.printed)
