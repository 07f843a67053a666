use Rattle.std.proofs.Common.{◌∙◌}
use Rattle.label_sets.specs.Labels.{label_inserted}
use Rattle.federation_page.proofs.targets.put.Goals as goal

pub returns : goal.returns
returns c = c.in_ok-insert.ensures ∙ (λ i. label_inserted (record { name = c.in_ok-from_str.ensures i; value = c.in_ok-copy.ensures i }) c.args.labels.now.items)
