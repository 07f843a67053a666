use Rattle.std.proofs.Common.{◌∙◌}
use Rattle.std.proofs.lemmas.Result.{IfOk-weaker}
use Rattle.sample_groups.specs.Extras.{extra_in}
use Rattle.sample_groups.proofs.Grown.{value_kept}
use Rattle.sample_groups.proofs.group.Group.value.Goals as goal

pub returns : goal.returns
returns c = IfOk-weaker c.parts_value.result _ _ (λ value is. is ∙ value_kept c.args.kind c.self.inside.parts c.as_slice.result.now (extra_in c.self.inside.extra) c.args.self.now
    c.as_slice.ensures c.self.view_is) c.parts_value.ensures
