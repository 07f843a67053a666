use Rattle.std.proofs.Common.{refl, sym, ◌∙◌, arith}
use Rattle.replay_script.proofs.Kept.{not_next, not_in_row, header_taken, row_small}
use Rattle.replay_script.proofs.progress.Progress.header_line.Goals as goal

pub returns-then-place-self : goal.returns-then-place-self
returns-then-place-self c = not_next c.args.line c.args.number c.args.self.now _ (omega (arith, c.place.ensures, c.if-place-self.true))

pub returns-then-not-may_have : goal.returns-then-not-may_have
returns-then-not-may_have c = not_in_row c.args.line c.args.number c.args.self.now _ (sym c.may_have.ensures ∙ c.if-not-may_have.true)

pub overflow_cast-number : goal.overflow_cast-number
overflow_cast-number c = let small = row_small c.args.line c.args.number (sym c.may_have.ensures ∙ c.if-not-may_have.false) in omega (arith, small)

pub returns : goal.returns
returns c = header_taken c.args.line c.args.number c.args.self.now _ (omega (arith, c.place.ensures, c.if-place-self.false)) (sym c.may_have.ensures ∙ c.if-not-may_have.false) c.place-self.ensures c.with-self.ensures refl refl refl refl
