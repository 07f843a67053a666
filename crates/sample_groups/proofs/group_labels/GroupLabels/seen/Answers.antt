use Rattle.std.proofs.Common.{◌<◌, subst}
use Rattle.sample_groups.proofs.Beginning.{packed_more}
use Rattle.sample_groups.proofs.group_labels.GroupLabels.seen.Goals as goal

pub loop-at-preserved : goal.loop-at-preserved
loop-at-preserved c =
    packed_more c.args.self.now c.loop-at.at c.in_ok-labels.labels c.loop-at.sets c.insert.new.self c.requires (subst (λ n. c.loop-at.at < n) c.len-at-end.ensures c.loop-at-test.true)
    c.in_ok-labels.ensures c.loop-at.invariant c.in_ok-insert.ensures.sets
