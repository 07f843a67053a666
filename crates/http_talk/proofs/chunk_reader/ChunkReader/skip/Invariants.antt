-- What was taken so far holds none of a chunk's bytes.
use Rattle.std.proofs.Common.{length, take, [], ◌-◌, ◌≤◌}
use Rattle.http_talk.specs.ChunkFeeding.{TakesChunks}
use Rattle.http_talk.proofs.chunk_reader.ChunkReader.skip.Given as goal

abbrev pub invariant-loop-at : goal.invariant-loop-at
invariant-loop-at l = record {
  within : l.at ≤ length l.piece;
  took : TakesChunks l.most l.initial.self l.self (take l.at l.piece) [];
}

abbrev pub decreases-loop-at : goal.decreases-loop-at
decreases-loop-at l = length l.piece - l.at
