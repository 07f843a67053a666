use Rattle.http_talk.proofs.GoesOn.{with_bytes-append, total_is_enough}
use Rattle.http_talk.proofs.reply_laws.chunks_go_on.Goals as goal

pub returns-clause-pieces : goal.returns-clause-pieces
returns-clause-pieces c = with_bytes-append

pub returns-clause-enough : goal.returns-clause-enough
returns-clause-enough c = total_is_enough
