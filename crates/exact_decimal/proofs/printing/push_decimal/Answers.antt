use Rattle.std.proofs.Common.{arith, length-append, append_assoc}
use Rattle.exact_decimal.specs.Literals.{decimal_text}
use Rattle.exact_decimal.proofs.Texts.{short_normal, size_text_short, length-sign_text}
use Rattle.exact_decimal.proofs.printing.push_decimal.Goals as goal

pub push_size-requires-clause-some : goal.push_size-requires-clause-some
push_size-requires-clause-some c =
    rw (c.as_bytes.ensures.value, c.format.ensures.text, c.digits-digits.ensures) ((short_normal c.args.d.now c.up.ensures.normal).some)

pub push_size-requires-clause-room : goal.push_size-requires-clause-room
push_size-requires-clause-room c =
    rw (c.as_bytes.ensures.value, c.format.ensures.text, c.digits-digits.ensures, c.up.ensures.up, c.down.ensures.down, c.push_sign.ensures)
    (simp length-append (omega (arith, size_text_short _ _ _ (short_normal c.args.d.now c.up.ensures.normal), length-sign_text c.negative.result)))

pub push_size-requires-else-digits-clause-some : goal.push_size-requires-else-digits-clause-some
push_size-requires-else-digits-clause-some c =
    rw (c.as_bytes-else-digits.ensures.value, c.format-else-digits.ensures.text, c.digits-digits.ensures) ((short_normal c.args.d.now c.up.ensures.normal).some)

pub push_size-requires-else-digits-clause-room : goal.push_size-requires-else-digits-clause-room
push_size-requires-else-digits-clause-room c =
    rw (c.as_bytes-else-digits.ensures.value, c.format-else-digits.ensures.text, c.digits-digits.ensures, c.up.ensures.up, c.down.ensures.down, c.push_sign.ensures)
    (simp length-append (omega (arith, size_text_short _ _ _ (short_normal c.args.d.now c.up.ensures.normal), length-sign_text c.negative.result)))

pub returns-then-digits : goal.returns-then-digits
unfolding decimal_text
returns-then-digits c =
    rw (c.push_size.ensures, c.push_sign.ensures, c.as_bytes.ensures.value, c.format.ensures.text, c.digits-digits.ensures, c.up.ensures.up, c.down.ensures.down, c.negative.ensures.negative) (simp append_assoc)

pub returns-else-digits : goal.returns-else-digits
unfolding decimal_text
returns-else-digits c =
    rw (c.push_size-else-digits.ensures, c.push_sign.ensures, c.as_bytes-else-digits.ensures.value, c.format-else-digits.ensures.text, c.digits-digits.ensures, c.up.ensures.up, c.down.ensures.down, c.negative.ensures.negative) (simp append_assoc)
