use Rattle.federation_page.proofs.Writable.{gathered_writable, gathered_forms, gathered_back}
use Rattle.federation_page.proofs.gathered_pages.Goals as goal

pub returns-clause-writable : goal.returns-clause-writable
returns-clause-writable c = gathered_writable

pub returns-clause-forms : goal.returns-clause-forms
returns-clause-forms c = gathered_forms

pub returns-clause-back : goal.returns-clause-back
returns-clause-back c = gathered_back
