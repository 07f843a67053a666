use Rattle.page_model.proofs.KindLaws.{kind_stays, kind_of_page}
use Rattle.page_model.proofs.page_laws.kind_stays.Goals as goal

pub returns-clause-stays : goal.returns-clause-stays
returns-clause-stays c = kind_stays

pub returns-clause-page : goal.returns-clause-page
returns-clause-page c = kind_of_page
