use Rattle.std.proofs.Common.{◌∙◌, ap}
use Rattle.std.proofs.lemmas.Result.{IfOk-weaker}
use Rattle.sample_groups.specs.Groups.{Gathered, group_of_parts}
use Rattle.sample_groups.proofs.group.Group.into_exemplars.Goals as goal

pub returns : goal.returns
unfolding group_of_parts
returns c = IfOk-weaker c.kept_exemplars.result _ _ (λ exemplars is. is ∙ ap (λ (g : Gathered). g.exemplars) c.self.view_is) c.kept_exemplars.ensures
