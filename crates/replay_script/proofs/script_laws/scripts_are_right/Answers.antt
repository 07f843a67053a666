use Rattle.replay_script.proofs.RightLaws as laws
use Rattle.replay_script.proofs.script_laws.scripts_are_right.Goals as goal

pub returns : goal.returns
returns c = laws.scripts_are_right
