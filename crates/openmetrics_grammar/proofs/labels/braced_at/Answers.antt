use Rattle.std.proofs.Common.{refl, sym}
use Rattle.openmetrics_grammar.specs.LabelLists.{IsTaken}
use Rattle.openmetrics_grammar.proofs.LabelSteps.{braced-end, braced-broken, braced-more}
use Rattle.openmetrics_grammar.proofs.labels.braced_at.Goals as goal

pub returns-in-Some-clause-labels : goal.returns-in-Some-clause-labels
returns-in-Some-clause-labels c = rw (braced-end c.args.inner.now c.in-Some.rest.now c.in-Some.ensures.value, c.requires.none) refl

pub returns-in_default-2-clause-labels : goal.returns-in_default-2-clause-labels
returns-in_default-2-clause-labels c = sym (braced-broken c.args.inner.now c.in_default.ensures.value (rw c.in_default-2.is at c.in_ok-rest.ensures))

pub returns-clause-labels : goal.returns-clause-labels
returns-clause-labels c =
    let taken : IsTaken c.args.inner.now c.args.labels.now.items c.take_label.new.labels.items c.in-Some-2.rest.now = (rw c.in-Some-2.is at c.in_ok-rest.ensures) in
    rw (braced-more c.args.inner.now c.in-Some-2.rest.now c.take_label.new.labels.items c.in_default.ensures.value (rw c.requires.none at taken)) c.labels_at.ensures.labels
