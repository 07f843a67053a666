use Rattle.std.proofs.lemmas.Result.{IfOk-weaker}
use Rattle.page_model.specs.OpenReading.{more_labels_at}
use Rattle.line_scan.specs.LabelReading.{IsNext}
use Rattle.openmetrics_grammar.specs.LabelLists.{IsBehindComma}
use Rattle.openmetrics_grammar.proofs.LabelSteps.{next-end, next-broken, next-behind_comma}
use Rattle.openmetrics_grammar.proofs.labels.LaterLabelsLabelList.next_label.Goals as goal

pub returns-in-End : goal.returns-in-End
returns-in-End c = (c.in-End.ensures.1 c.requires, next-end c.args.bytes.now c.in-End.rest.now c.args.labels.now.items c.in-End.ensures.0)

pub returns-in-More : goal.returns-in-More
returns-in-More c = IfOk-weaker c.after_comma.result (IsBehindComma c.in-More.more.now c.args.labels.now.items c.after_comma.new.labels.items)
    (IsNext more_labels_at c.args.bytes.now c.args.labels.now.items c.after_comma.new.labels.items)
    (λ next h. next-behind_comma c.args.bytes.now c.in-More.more.now c.args.labels.now.items c.after_comma.new.labels.items next c.in-More.ensures.0 c.in-More.ensures.1 h) c.after_comma.ensures

pub returns-in-Broken : goal.returns-in-Broken
returns-in-Broken c = next-broken c.args.bytes.now c.in-Broken.ensures.0 c.in-Broken.ensures.1
