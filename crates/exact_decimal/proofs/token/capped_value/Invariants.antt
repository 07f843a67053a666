use Rattle.std.proofs.Common.{◌≡◌, take, min}
use Rattle.std.specs.Str.Parse.{digits_value}
use Rattle.exact_decimal.specs.Scans.{AreDigits}
use Rattle.exact_decimal.proofs.token.capped_value.Given as goal

abbrev pub invariant-loop-digit : goal.invariant-loop-digit
invariant-loop-digit l = record {
  are_digits : AreDigits (take l.digit-index l.digits);
  capped : l.value ≡ min (digits_value 10 (take l.digit-index l.digits)) 10000;
}
