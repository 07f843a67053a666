use Rattle.std.proofs.Common.{sym}
use Rattle.bridge_config.proofs.CodeSteps.{count_view}
use Rattle.bridge_config.proofs.values.count_of.Goals as goal

pub returns : goal.returns
returns c = sym (count_view c.args.items.now)
