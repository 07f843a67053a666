use Rattle.std.proofs.Common.{◌++◌, ◌∷◌, [], ◌-◌, sym, ap, ◌∙◌, append_assoc, arith}
use Rattle.packed_keys.specs.Packing.{length_code}
use Rattle.packed_keys.proofs.Packed.{code_short, code_long}
use Rattle.packed_keys.proofs.packing.put_any_length.Goals as goal

pub loop-left-preserved : goal.loop-left-preserved
loop-left-preserved c =
    ap (λ xs. xs ++ length_code (c.loop-left.left - 255)) c.in_ok-push.ensures.items
    ∙ (append_assoc c.loop-left.out.items (255 ∷ []) (length_code (c.loop-left.left - 255))
    ∙ (ap (λ xs. c.loop-left.out.items ++ xs) (sym (code_long c.loop-left.left (omega arith))) ∙ c.loop-left.invariant))

pub returns : goal.returns
returns c = c.in_ok-push-2.ensures.items ∙ (ap (λ xs. c.loop-left.out.items ++ xs) (sym (code_short c.loop-left.left (omega arith))) ∙ c.loop-left.invariant)
