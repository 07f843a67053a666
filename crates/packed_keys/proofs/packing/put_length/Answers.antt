use Rattle.std.proofs.Common.{◌++◌, sym, ap, ◌∙◌, arith}
use Rattle.packed_keys.proofs.Packed.{code_short}
use Rattle.packed_keys.proofs.packing.put_length.Goals as goal

pub returns : goal.returns
returns c = c.in_ok-push.ensures.items ∙ ap (λ xs. c.args.out.now.items ++ xs) (sym (code_short c.args.length (omega arith)))
