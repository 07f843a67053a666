-- One digit more.
use Rattle.std.proofs.Common.{rules, ◌≡◌, get_or, true, arith}
use Rattle.std.specs.Char.{is_ascii_digit}
use Rattle.http_talk.proofs.WordTests.{number_fits, number_small, number_more, digits_more}
use Rattle.http_talk.proofs.words.digits_number.Goals as goal

pub overflow_mul-number : goal.overflow_mul-number
overflow_mul-number c = omega (arith, number_fits c.loop-digit.number c.loop-digit.digit-index c.loop-digit.invariant.small (omega (arith, c.requires, c.loop-digit-test.true)))

pub overflow_add-number : goal.overflow_add-number
overflow_add-number c =
    omega (arith, c.digit_value.ensures.small, number_fits c.loop-digit.number c.loop-digit.digit-index c.loop-digit.invariant.small (omega (arith, c.requires, c.loop-digit-test.true)))

pub loop-digit-preserved : goal.loop-digit-preserved
loop-digit-preserved c =
    let here : is_ascii_digit (get_or c.args.digits.now c.loop-digit.digit-index 0) ≡ true = search rules in
    let within = c.loop-digit-test.true in
    record {
      digits = digits_more c.args.digits.now c.loop-digit.digit-index within c.loop-digit.invariant.digits here;
      value = number_more c.args.digits.now c.loop-digit.digit-index c.loop-digit.number c.digit_value.result within c.loop-digit.invariant.value c.digit_value.ensures.value;
      small = number_small c.loop-digit.number c.loop-digit.digit-index c.digit_value.result c.loop-digit.invariant.small c.digit_value.ensures.small;
    }
