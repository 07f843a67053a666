use Rattle.std.proofs.Common.{◌≡◌, drop}
use Rattle.std.specs.List.{list_all}
use Rattle.sample_groups.specs.Groups.{is_whole_group}
use Rattle.sample_groups.proofs.group_table.all_whole.Given as goal

-- the groups that are left decide
abbrev pub invariant-loop-group : goal.invariant-loop-group
invariant-loop-group l = list_all is_whole_group l.groups ≡ list_all is_whole_group (drop l.group-index l.groups)
