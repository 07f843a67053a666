use Rattle.family_metrics.proofs.Grouped.{put_new}
use Rattle.family_metrics.proofs.keyed.push_keyed.Goals as goal

pub returns-clause-keys : goal.returns-clause-keys
returns-clause-keys g c = put_new _ _ _ c.in_ok-insert.field-0 c.requires c.in_ok-insert.ensures.found c.in_ok-insert.ensures.added
