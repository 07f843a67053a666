use Rattle.body_laws.proofs.Tries.{tries_come_of_texts}
use Rattle.body_laws.proofs.tries_come_of_texts.Goals as goal

pub returns : goal.returns
returns c = tries_come_of_texts
