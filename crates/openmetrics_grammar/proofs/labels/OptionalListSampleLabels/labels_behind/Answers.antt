use Rattle.std.proofs.Common.{refl}
use Rattle.openmetrics_grammar.proofs.LabelSteps.{optional-found, optional-none}
use Rattle.openmetrics_grammar.proofs.labels.OptionalListSampleLabels.labels_behind.Goals as goal

pub returns-in-Some-clause-labels : goal.returns-in-Some-clause-labels
returns-in-Some-clause-labels c = rw (optional-found c.args.bytes.now c.in-Some.inner.now c.in-Some.ensures.value) c.braced_at.ensures.labels

pub returns-in-None-clause-labels : goal.returns-in-None-clause-labels
returns-in-None-clause-labels c = rw (optional-none c.args.bytes.now c.in-None.ensures.value, c.requires.none) refl
