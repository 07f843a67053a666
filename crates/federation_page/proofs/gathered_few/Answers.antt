use Rattle.federation_page.proofs.FewGathered.{few_gathered}
use Rattle.federation_page.proofs.gathered_few.Goals as goal

pub returns : goal.returns
returns c = few_gathered
