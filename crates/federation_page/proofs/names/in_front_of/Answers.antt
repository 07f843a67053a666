use Rattle.std.proofs.Common.{◌∙◌}
use Rattle.federation_page.proofs.Ends.{front_is, no_front}
use Rattle.federation_page.proofs.names.in_front_of.Goals as goal

pub returns-in-Some : goal.returns-in-Some
returns-in-Some c =
    let found = c.in-Some.ensures.cases in
    c.nonempty.ensures ∙ front_is c.args.end.now c.args.name.now c.in-Some.front.now found.0 found.1.0 found.1.1 found.2

pub returns-in-None : goal.returns-in-None
returns-in-None c = no_front c.args.end.now c.args.name.now c.in-None.ensures.cases
