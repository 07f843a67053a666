use Rattle.page_model.proofs.Decides.{first_fault_once, page_of_once, fault_or_page, first_fault_read, page_is_read}
use Rattle.page_model.proofs.page_laws.one_fault_or_page.Goals as goal

pub returns-clause-fault : goal.returns-clause-fault
returns-clause-fault c = first_fault_once

pub returns-clause-page : goal.returns-clause-page
returns-clause-page c = page_of_once

pub returns-clause-apart : goal.returns-clause-apart
returns-clause-apart c = fault_or_page

pub returns-clause-faults_read : goal.returns-clause-faults_read
returns-clause-faults_read c = first_fault_read

pub returns-clause-pages_read : goal.returns-clause-pages_read
returns-clause-pages_read c = page_is_read
