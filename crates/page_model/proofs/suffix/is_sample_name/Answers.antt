use Rattle.std.proofs.Common.{◌∙◌}
use Rattle.page_model.specs.Suffixes.{suffixes}
use Rattle.page_model.proofs.SampleNames.{allowed_by, none_allowed}
use Rattle.page_model.proofs.suffix.is_sample_name.Goals as goal

pub returns-in-Some : goal.returns-in-Some
returns-in-Some c = c.is_allowed.ensures ∙ allowed_by c.args.family.now c.args.name.now c.in-Some.suffix (suffixes c.args.format c.args.kind) c.in-Some.ensures.found

pub returns-in-None : goal.returns-in-None
returns-in-None c = none_allowed c.args.family.now c.args.name.now c.args.format c.args.kind c.in-None.ensures.only
