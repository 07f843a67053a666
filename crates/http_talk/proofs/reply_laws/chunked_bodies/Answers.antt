use Rattle.http_talk.proofs.ChunkReading.{bodies_are_read}
use Rattle.http_talk.proofs.ChunkLaws.{wrong_is_no_body}
use Rattle.http_talk.proofs.reply_laws.chunked_bodies.Goals as goal

pub returns-clause-read : goal.returns-clause-read
returns-clause-read c = bodies_are_read

pub returns-clause-wrong : goal.returns-clause-wrong
returns-clause-wrong c = wrong_is_no_body bodies_are_read
