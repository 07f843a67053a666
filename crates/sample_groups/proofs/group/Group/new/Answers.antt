use Rattle.std.proofs.Common.{ap}
use Rattle.sample_groups.specs.ExtraValues.{no_extra, group_kept}
use Rattle.sample_groups.proofs.group.Group.new.Goals as goal

pub returns : goal.returns
returns c = ap (λ ps. group_kept ps no_extra) c.new.ensures
