use Rattle.series_table.specs.HttpTalks.{talking}
use Rattle.target_table.proofs.Bodies.{bodies_in_every_run}
use Rattle.target_table.proofs.table_laws.bodies_in_every_run.Goals as goal

pub returns : goal.returns
returns c = bodies_in_every_run talking
