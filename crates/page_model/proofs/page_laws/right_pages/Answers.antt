use Rattle.page_model.proofs.RightPages.{text_is_right}
use Rattle.page_model.proofs.page_laws.right_pages.Goals as goal

pub returns-clause-texts : goal.returns-clause-texts
returns-clause-texts c = text_is_right
