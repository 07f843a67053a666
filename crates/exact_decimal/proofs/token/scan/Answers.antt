use Rattle.std.proofs.Common.{◌+◌, ◌<◌, length, sym, arith, eqb-true, false-eqb}
use Rattle.exact_decimal.proofs.Parts.{split, not_real_empty, not_real_tail, scanned}
use Rattle.exact_decimal.proofs.token.scan.Goals as goal
use Rattle.exact_decimal.proofs.token.scan.Goals.{else-is_empty-via-then-is_empty+else-is_empty-2, else-is_empty-via-else-is_empty}

pub returns-then-is_empty-2 : goal.returns-then-is_empty-2
returns-then-is_empty-2 c =
    not_real_empty _ _ _ _ _ (split _ _ _ _ _ _ _ _ c.split_sign-negative.ensures.rest c.split_digits-whole.ensures c.split_fraction-fraction.ensures)
    (eqb-true _ 0 (sym c.if-is_empty.ensures)) (eqb-true _ 0 (sym c.if-is_empty-2.ensures))

pub returns-in_default : goal.returns-in_default
returns-in_default c = not_real_tail _ _ _ _ _ (split _ _ _ _ _ _ _ _ c.split_sign-negative.ensures.rest c.split_digits-whole.ensures c.split_fraction-fraction.ensures) c.in_default.ensures

pub returns : goal.returns
returns c =
    let some : 0 < length c.split_digits-whole.result.digits.now + length c.split_fraction-fraction.result.digits.now = elim c.else-is_empty.branch [
      | else-is_empty-via-then-is_empty+else-is_empty-2 w ↦ omega (arith, false-eqb _ 0 w.if-is_empty-2.ensures)
      | else-is_empty-via-else-is_empty w ↦ omega (arith, false-eqb _ 0 w.if-is_empty.ensures)
    ] in
    scanned _ _ _ _ _ _ _ _ (split _ _ _ _ _ _ _ _ c.split_sign-negative.ensures.rest c.split_digits-whole.ensures c.split_fraction-fraction.ensures)
    c.split_sign-negative.ensures.minus some c.in-Some.ensures
