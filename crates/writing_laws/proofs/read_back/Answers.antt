use Rattle.writing_laws.proofs.ReadBack.{reads_back}
use Rattle.writing_laws.proofs.read_back.Goals as goal

pub returns : goal.returns
returns c = reads_back
