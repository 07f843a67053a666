use Rattle.std.proofs.Common.{◌≡◌, length, sym, length-append, arith}
use Rattle.std.specs.Fmt.{decimal}
use Rattle.exact_decimal.specs.Literals.{size_text, decimal_text}
use Rattle.exact_decimal.proofs.lengths.decimal_len.Goals as goal

pub returns : goal.returns
unfolding decimal_text
returns c =
    let d = c.args.d.now in
    let size : c.size_len.result ≡ length (size_text (decimal d.digits) d.up d.down) =
    rw (← c.up.ensures.up, ← c.down.ensures.down, ← c.digits.ensures) (c.size_len.ensures.size _ (sym c.wide_digit_count-places.ensures.digits)) in
    rw (length-append, ← c.negative.ensures.negative) (omega (arith, c.sign_len.ensures.sign))
