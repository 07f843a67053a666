use Rattle.http_talk.proofs.Once.{known_once, verdict_once}
use Rattle.http_talk.proofs.GoesOn.{verdict_stays}
use Rattle.http_talk.proofs.reply_laws.one_verdict.Goals as goal

pub returns-clause-known : goal.returns-clause-known
returns-clause-known c = known_once

pub returns-clause-verdict : goal.returns-clause-verdict
returns-clause-verdict c = verdict_once

pub returns-clause-stays : goal.returns-clause-stays
returns-clause-stays c = verdict_stays
