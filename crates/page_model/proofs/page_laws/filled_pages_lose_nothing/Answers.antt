use Rattle.page_model.proofs.Filled.{filled_is_read, filled_readings}
use Rattle.page_model.proofs.page_laws.filled_pages_lose_nothing.Goals as goal

pub returns-clause-read : goal.returns-clause-read
returns-clause-read c = filled_is_read

pub returns-clause-readings : goal.returns-clause-readings
returns-clause-readings c = filled_readings
