use Rattle.bridge_config.proofs.RightLaws.{numbers_are_right}
use Rattle.bridge_config.proofs.config_laws.numbers_are_right.Goals as goal

pub returns : goal.returns
returns c = numbers_are_right
