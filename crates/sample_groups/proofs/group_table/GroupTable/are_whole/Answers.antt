use Rattle.std.proofs.Common.{◌∙◌, ap}
use Rattle.std.specs.List.{list_all}
use Rattle.label_sets.specs.declared.label_set.LabelSet.{LabelSet}
use Rattle.sample_groups.specs.Groups.{Gathered, is_whole_group}
use Rattle.sample_groups.proofs.Placing.{whole_beside}
use Rattle.sample_groups.proofs.group_table.GroupTable.are_whole.Goals as goal

pub returns : goal.returns
returns c = c.all_whole.ensures ∙ ap (list_all is_whole_group) c.as_slice.ensures.value ∙ whole_beside c.self.inside.sets c.self.inside.groups.items c.self.invariant.0.many
    ∙ ap (list_all (λ (g : LabelSet × Gathered). is_whole_group g.1)) c.self.view_is
