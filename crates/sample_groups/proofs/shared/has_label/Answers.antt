use Rattle.std.proofs.Common.{◌∙◌, ap, is_some}
use Rattle.sample_groups.proofs.LabelNames.{some_copied, has_value_name}
use Rattle.sample_groups.proofs.shared.has_label.Goals as goal

pub returns : goal.returns
returns c = c.is_some.ensures ∙ some_copied c.value.result ∙ ap is_some c.value.ensures ∙ has_value_name c.args.name.now c.args.labels.now
