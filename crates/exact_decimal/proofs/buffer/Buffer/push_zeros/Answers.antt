use Rattle.std.proofs.Common.{◌∙◌, ap, arith, ◌++◌, List, ℕ}
use Rattle.std.proofs.lemmas.List.{take-replicate}
use Rattle.exact_decimal.proofs.buffer.Buffer.push_zeros.Goals as goal

pub returns : goal.returns
returns c = c.push.ensures ∙ ap (λ (zs : List ℕ). c.args.self.now ++ zs) (take-replicate c.args.count 64 48 (omega arith))
