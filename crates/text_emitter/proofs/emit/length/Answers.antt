use Rattle.std.proofs.Common.{arith}
use Rattle.text_emitter.proofs.Folds.{fold-count_push}
use Rattle.text_emitter.proofs.emit.length.Goals as goal

pub returns : goal.returns
returns g c = rw (c.bytes.ensures, c.emit.ensures, c.new-count.ensures) (omega (arith, fold-count_push 0 (g.T.Emit.text c.args.value.now) (omega arith)))
