use Rattle.page_model.specs.TextItems.{without_leading_blanks}
use Rattle.page_model.specs.TextReading.{begins_blank}
use Rattle.text_grammar.proofs.LabelSteps.{middle-labels, middle-blanks, blanks_mapped}
use Rattle.text_grammar.proofs.labels.BlankedListSampleLabels.labels_behind.Goals as goal

pub returns-in-Some-clause-labels : goal.returns-in-Some-clause-labels
returns-in-Some-clause-labels c = rw (middle-labels c.args.bytes.now c.without_leading_blanks.result.now c.in-Some.inner.now c.without_leading_blanks.ensures.value c.in-Some.ensures.value) c.braced_labels.ensures.labels

pub returns-in-None-clause-labels : goal.returns-in-None-clause-labels
returns-in-None-clause-labels c = rw (c.behind_blanks.ensures.value, middle-blanks c.args.bytes.now c.without_leading_blanks.result.now c.without_leading_blanks.ensures.value c.in-None.ensures.value, c.requires.none) (blanks_mapped (begins_blank c.args.bytes.now) (without_leading_blanks c.args.bytes.now))
