use Rattle.page_server.proofs.AskedLaws.{waits_shortly, bad_exactly}
use Rattle.page_server.proofs.serving_laws.bad_requests.Goals as goal

pub returns-clause-waits : goal.returns-clause-waits
returns-clause-waits c = waits_shortly

pub returns-clause-bad : goal.returns-clause-bad
returns-clause-bad c = bad_exactly
