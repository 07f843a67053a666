use Rattle.http_talk.proofs.Once.{head_once, shows_once}
use Rattle.http_talk.proofs.GoesOn.{shows_stays}
use Rattle.http_talk.proofs.reply_laws.one_head.Goals as goal

pub returns-clause-head : goal.returns-clause-head
returns-clause-head c = head_once

pub returns-clause-shows : goal.returns-clause-shows
returns-clause-shows c = shows_once

pub returns-clause-stays : goal.returns-clause-stays
returns-clause-stays c = shows_stays
