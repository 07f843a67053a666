-- A line that is passed over ends in the piece, or goes on behind it.
use Rattle.std.proofs.Common.{arith}
use Rattle.std.proofs.lemmas.List.{length-take-le}
use Rattle.page_lines.proofs.Standing.{HasFeed, step-passing, reach-passed}
use Rattle.page_lines.proofs.Lines.reach.Goals as goal

pub returns-in_default-clause-passing : goal.returns-in_default-clause-passing
returns-in_default-clause-passing c = step-passing _ _ _ _ _ c.args.self.now c.self.view_is c.args.piece.now c.in-Passing.is c.in_default.ensures.none

pub returns-in-Some-clause-reached : goal.returns-in-Some-clause-reached
returns-in-Some-clause-reached c =
    let found = c.in-Some.ensures in
    let f : HasFeed c.args.piece.now c.in-Some.at = record { text = found.found; plain = found.first; places = length-take-le c.in-Some.at c.args.piece.now (omega arith) } in
    rw c.begin-in-Passing.ensures (reach-passed _ _ c.self.inside.line.items _ _ c.args.self.now c.self.view_is c.args.piece.now c.in-Some.at c.in-Passing.is f (omega arith))
