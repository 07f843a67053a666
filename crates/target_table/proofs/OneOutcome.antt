-- A talk comes to one outcome.
use Rattle.http_talk.proofs.Laws.{outcome_once}
use Rattle.series_table.specs.HttpTalks.{talking}
use Rattle.target_table.specs.Mirrors.{HasOneOutcome}

pub has_one_outcome : HasOneOutcome talking
unfolding talking
has_one_outcome = outcome_once
