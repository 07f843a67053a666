use Rattle.std.proofs.Common.{◌∙◌}
use Rattle.federation_page.proofs.CodeSteps.{inserted_at}
use Rattle.federation_page.proofs.targets.insert.Goals as goal

pub returns : goal.returns
returns c = c.in_ok-insert.ensures.items ∙ inserted_at c.args.label c.args.labels.now.items c.place_of-place.result (rw c.as_slice.ensures.value at c.place_of-place.ensures.is)
