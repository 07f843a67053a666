-- Eight digits fit.
use Rattle.std.proofs.Common.{arith}
use Rattle.http_talk.proofs.ChunkRuns.{hex_room}
use Rattle.http_talk.proofs.chunk_place.ChunkPlace.after_digits.Goals as goal

pub overflow_mul-result : goal.overflow_mul-result
overflow_mul-result c = omega (arith, (hex_room c.args.count c.args.size 0 c.if-count-lt-MOST_DIGITS.true c.requires.1 (omega arith)).1)

pub overflow_add-result-then-count-lt-MOST_DIGITS : goal.overflow_add-result-then-count-lt-MOST_DIGITS
overflow_add-result-then-count-lt-MOST_DIGITS c = omega (arith, (hex_room c.args.count c.args.size c.hex_value.result c.if-count-lt-MOST_DIGITS.true c.requires.1 c.hex_value.ensures.small).1)
