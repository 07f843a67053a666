use Rattle.open_writing.proofs.Lasts.{last_count}
use Rattle.open_writing.proofs.readings.observations_of.Goals as goal

pub returns-in-Some : goal.returns-in-Some
returns-in-Some c = last_count c.args.buckets.now c.in-Some.bucket.now c.in-Some.ensures.value
