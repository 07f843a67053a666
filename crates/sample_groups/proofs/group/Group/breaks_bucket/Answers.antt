use Rattle.sample_groups.specs.Extras.{extra_in}
use Rattle.sample_groups.proofs.Grown.{breaks_bucket}
use Rattle.sample_groups.proofs.group.Group.breaks_bucket.Goals as goal

pub returns : goal.returns
returns c = breaks_bucket c.self.inside.parts c.as_slice.result.now (extra_in c.self.inside.extra) c.args.self.now c.args.bucket.now c.last_bucket.result c.breaks_last.result
    c.as_slice.ensures c.self.view_is c.last_bucket.ensures c.breaks_last.ensures
