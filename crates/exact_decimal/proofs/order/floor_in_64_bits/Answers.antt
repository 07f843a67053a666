use Rattle.std.proofs.Common.{◌≡◌, ◌+◌, ◌∙◌, ap, sym, arith}
use Rattle.exact_decimal.specs.Order.{in_64_bits, floor_of}
use Rattle.exact_decimal.proofs.Powers.{one_le_ten}
use Rattle.exact_decimal.proofs.Tens.{fits_128}
use Rattle.exact_decimal.proofs.Flooring.{floor_of-up, floor_of-down, floor_of-far}
use Rattle.exact_decimal.proofs.order.floor_in_64_bits.Goals as goal

pub returns-then-down-up : goal.returns-then-down-up
returns-then-down-up c =
    rw (← c.up.ensures.up, ← c.down-down.ensures.down, ← c.digits.ensures)
    (c.scaled_in_64_bits.ensures ∙ ap in_64_bits (sym (floor_of-up _ _ _ c.if-down-up.true)))

pub returns-then-down-up-gt38 : goal.returns-then-down-up-gt38
returns-then-down-up-gt38 c =
    let e : floor_of c.args.d.now.digits (c.args.d.now.up + c.args.more) c.args.d.now.down ≡ 0 =
    floor_of-far _ _ _ c.up.ensures.normal.few (omega arith) (omega arith) in
    ap in_64_bits (sym e)

pub pow-requires : goal.pow-requires
pow-requires c = fits_128 _ (omega arith)

pub nonzero_div-digits : goal.nonzero_div-digits
nonzero_div-digits c = rw c.pow.ensures (one_le_ten _)

pub returns : goal.returns
returns c =
    rw (← c.up.ensures.up, ← c.down-down.ensures.down, ← c.digits-2.ensures)
    (c.in_64_bits.ensures ∙ ap in_64_bits (rw c.pow.ensures (sym (floor_of-down _ _ _ (omega arith)))))
