use Rattle.federation_page.proofs.Founders.{federated_apart}
use Rattle.federation_page.proofs.gathered_apart.Goals as goal

pub returns : goal.returns
returns c = federated_apart
