use Rattle.federation_page.proofs.FilledShown.{filled_gathered}
use Rattle.federation_page.proofs.filled_gathered.Goals as goal

pub returns : goal.returns
returns c = filled_gathered
