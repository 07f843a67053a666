use Rattle.otlp_sender.proofs.TryLaws.{try_once, try_some, tries_counted}
use Rattle.otlp_sender.proofs.post_laws.tries.Goals as goal

pub returns-clause-once : goal.returns-clause-once
returns-clause-once c = try_once

pub returns-clause-some : goal.returns-clause-some
returns-clause-some c = try_some

pub returns-clause-counted : goal.returns-clause-counted
returns-clause-counted c = tries_counted
