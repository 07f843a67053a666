use Rattle.writing_laws.proofs.ReadBack.{writables_are_open_forms}
use Rattle.writing_laws.proofs.ReadPages.{open_forms_writable, open_forms_back}
use Rattle.writing_laws.proofs.open_forms.Goals as goal

pub returns-clause-writable : goal.returns-clause-writable
returns-clause-writable c = open_forms_writable

pub returns-clause-back : goal.returns-clause-back
returns-clause-back c = open_forms_back

pub returns-clause-made : goal.returns-clause-made
returns-clause-made c = writables_are_open_forms
