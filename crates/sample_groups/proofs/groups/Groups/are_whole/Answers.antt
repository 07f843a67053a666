use Rattle.std.proofs.Common.{◌∙◌, ap, sym}
use Rattle.std.specs.List.{list_all}
use Rattle.label_sets.specs.declared.label_set.LabelSet.{LabelSet}
use Rattle.sample_groups.specs.declared.groups.OnlyGroup.{OnlyGroup}
use Rattle.sample_groups.specs.Families.{groups_in}
use Rattle.sample_groups.specs.Groups.{Gathered, is_whole_group}
use Rattle.sample_groups.proofs.Beginning.{only_whole}
use Rattle.sample_groups.proofs.groups.Groups.are_whole.Goals as goal

pub returns-in-One : goal.returns-in-One
returns-in-One c =
    c.is_whole.ensures ∙ ap (λ (only : OnlyGroup). is_whole_group only.group) c.deref.ensures ∙ only_whole c.in-One.only.value.labels c.in-One.only.value.group ∙ ap (list_all (λ (g : LabelSet × Gathered). is_whole_group g.1)) (sym (ap groups_in c.in-One.is) ∙ c.self.view_is)
