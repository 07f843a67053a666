use Rattle.std.proofs.Common.{◌∙◌, ap, unwrap_or}
use Rattle.page_model.specs.declared.suffix.Suffix.TheVariants.{Sum}
use Rattle.sample_groups.proofs.Finds.{found_by}
use Rattle.sample_groups.proofs.part.part_of.Goals as goal

pub returns : goal.returns
returns c = found_by c.args.kind c.args.family.now c.args.sample.now c.unwrap_or-suffix.result c.part_with.result
    (λ x is. c.unwrap_or-suffix.ensures ∙ ap (λ o. unwrap_or o Sum) (c.sample_suffix.ensures.only x is)) c.part_with.ensures
