use Rattle.std.proofs.Common.{subst}
use Rattle.bridge_config.specs.Makings.{MakesTargets}
use Rattle.bridge_config.specs.Tables.{all_numbered}
use Rattle.bridge_config.proofs.making.document_targets.Goals as goal

pub returns : goal.returns
returns c = subst (λ honor. MakesTargets honor (all_numbered c.args.tables.now) c.targets_of.result) c.key_truth.ensures c.targets_of.ensures
