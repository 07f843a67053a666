use Rattle.series_table.specs.HttpTalks.{talking}
use Rattle.target_table.proofs.Mirrored.{take_is_a_step, put_is_a_step}
use Rattle.target_table.proofs.VisitSteps.{visit_is_a_step}
use Rattle.target_table.proofs.Paged.{page_is_a_step}
use Rattle.target_table.proofs.table_laws.calls_are_steps.Goals as goal

pub returns-clause-take : goal.returns-clause-take
returns-clause-take c = take_is_a_step talking

pub returns-clause-visit : goal.returns-clause-visit
returns-clause-visit c = visit_is_a_step talking

pub returns-clause-put : goal.returns-clause-put
returns-clause-put c = put_is_a_step talking

pub returns-clause-page : goal.returns-clause-page
returns-clause-page c = page_is_a_step talking
