use Rattle.std.proofs.Common.{arith}
use Rattle.text_emitter.proofs.Folds.{fold-count_push}
use Rattle.text_emitter.proofs.count.Count.add.Goals as goal

pub returns : goal.returns
returns c = λ text size. omega (arith, fold-count_push c.args.self.now text (omega arith), size)
