use Rattle.http_talk.proofs.Once.{outcome_once}
use Rattle.http_talk.proofs.WholeTalks.{whole_talk_outcome, left_decided}
use Rattle.http_talk.proofs.WholeReply.{whole_reply}
use Rattle.http_talk.proofs.reply_laws.one_outcome.Goals as goal

pub returns-clause-once : goal.returns-clause-once
returns-clause-once c = outcome_once

pub returns-clause-some : goal.returns-clause-some
returns-clause-some c = whole_talk_outcome

pub returns-clause-whole : goal.returns-clause-whole
returns-clause-whole c = whole_reply

pub returns-clause-left : goal.returns-clause-left
returns-clause-left c = left_decided
