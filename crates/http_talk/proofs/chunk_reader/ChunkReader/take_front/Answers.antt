-- What stands in front of a chunk's bytes, and these.
use Rattle.std.proofs.Common.{refl}
use Rattle.http_talk.proofs.ChunkSteps.{took_front}
use Rattle.http_talk.proofs.chunk_reader.ChunkReader.take_front.Goals as goal

pub returns : goal.returns
returns c = took_front c.args.most c.args.self.now c.skip-from.new.self c.take_bytes.new.self c.args.piece.now _ c.skip-from.result c.take_bytes.result refl c.skip-from.ensures c.take_bytes.ensures
