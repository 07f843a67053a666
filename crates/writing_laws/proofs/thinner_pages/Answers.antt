use Rattle.writing_laws.proofs.ThinnerPages.{thinner, fewer}
use Rattle.writing_laws.proofs.thinner_pages.Goals as goal

pub returns-clause-readings : goal.returns-clause-readings
returns-clause-readings c = thinner

pub returns-clause-families : goal.returns-clause-families
returns-clause-families c = fewer
