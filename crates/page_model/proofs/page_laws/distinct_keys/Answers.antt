use Rattle.page_model.proofs.RightPages.{right-distinct_keys}
use Rattle.page_model.proofs.page_laws.distinct_keys.Goals as goal

pub returns : goal.returns
returns c = right-distinct_keys
