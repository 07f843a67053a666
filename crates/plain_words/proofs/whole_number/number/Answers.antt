use Rattle.std.proofs.Common.{arith}
use Rattle.plain_words.proofs.Finding.{number_only}
use Rattle.plain_words.proofs.whole_number.number.Goals as goal

pub returns-clause-only : goal.returns-clause-only
returns-clause-only c = number_only c.args.most c.args.word.now c.written.result (omega arith) c.written.ensures.found c.written.ensures.none
