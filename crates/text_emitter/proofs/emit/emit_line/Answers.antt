use Rattle.std.proofs.Common.{ap, ◌∙◌, ◌++◌, codes}
use Rattle.text_emitter.specs.Printing.{Printing}
use Rattle.text_emitter.proofs.PrintLaws.{print_folded}
use Rattle.text_emitter.proofs.emit.emit_line.Goals as goal

pub returns-clause-same_reference : goal.returns-clause-same_reference
returns-clause-same_reference g c = ap (λ (p : Printing). p.name) (c.emit.ensures ∙ print_folded c.args.out.now (g.T.Emit.text c.args.value.now ++ codes "\n"))

pub returns-clause-put : goal.returns-clause-put
returns-clause-put g c = c.emit.ensures ∙ print_folded c.args.out.now (g.T.Emit.text c.args.value.now ++ codes "\n")
