use Rattle.std.proofs.Common.{sym, ◌∙◌}
use Rattle.openmetrics_grammar.proofs.SampleSteps.{said-labels, said-exemplar, said-sample}
use Rattle.openmetrics_grammar.proofs.sample.made_sample.Goals as goal

pub returns-in_default : goal.returns-in_default
returns-in_default c = λ w i. said-labels c.args.treatment w c.args.room.now c.args.read i c.if-not-read.false (rw c.in_default.is at c.in_ok-labels.ensures w.labels i.labels)

pub returns-in_default-2 : goal.returns-in_default-2
returns-in_default-2 c = λ w i. said-exemplar c.args.treatment w c.args.room.now c.args.read i c.if-not-read.false c.in-Some.labels (rw c.in-Some.is at c.in_ok-labels.ensures w.labels i.labels)
    (sym c.in_default-2.is ∙ c.in_ok-exemplar.ensures w.exemplar i.exemplar)

pub returns : goal.returns
returns c = λ w i. said-sample c.args.treatment w c.args.room.now c.args.read i c.if-not-read.false c.in-Some.labels (rw c.in-Some.is at c.in_ok-labels.ensures w.labels i.labels)
    c.in-Some-2.exemplar (sym c.in-Some-2.is ∙ c.in_ok-exemplar.ensures w.exemplar i.exemplar) c.in_ok-name.name c.in_ok-name.ensures
