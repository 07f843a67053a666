use Rattle.bridge_config.proofs.RightLaws.{configs_are_right}
use Rattle.bridge_config.proofs.config_laws.configs_are_right.Goals as goal

pub returns : goal.returns
returns c = configs_are_right
