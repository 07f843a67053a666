use Rattle.http_talk.proofs.Short.{undecided_is_short, unsettled_is_short}
use Rattle.http_talk.proofs.reply_laws.reading_ends.Goals as goal

pub returns-clause-reply : goal.returns-clause-reply
returns-clause-reply c = undecided_is_short

pub returns-clause-head : goal.returns-clause-head
returns-clause-head c = unsettled_is_short
