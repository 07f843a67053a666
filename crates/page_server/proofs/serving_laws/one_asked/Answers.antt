use Rattle.page_server.proofs.AskedLaws.{asked_once, asked_stays, asked_by_all}
use Rattle.page_server.proofs.serving_laws.one_asked.Goals as goal

pub returns-clause-once : goal.returns-clause-once
returns-clause-once c = asked_once

pub returns-clause-stays : goal.returns-clause-stays
returns-clause-stays c = asked_stays

pub returns-clause-all : goal.returns-clause-all
returns-clause-all c = asked_by_all
