use Rattle.std.proofs.Common.{◌≡◌, ◌^◌, ◌<◌, ◌≤◌, ◌-◌, length, take}
use Rattle.std.specs.Str.Parse.{digits_value_after}
use Rattle.exact_decimal.specs.Scans.{AreDigits}
use Rattle.exact_decimal.proofs.token.split_digits.Given as goal

abbrev pub invariant-loop-count : goal.invariant-loop-count
invariant-loop-count l = record {
  within : l.count ≤ length l.bytes;
  are_digits : AreDigits (take l.count l.bytes);
  exact : l.value < 2 ^ 64 - 1 → l.value ≡ digits_value_after 10 l.initial.value (take l.count l.bytes);
  grows : l.initial.value ≤ l.value;
}

abbrev pub decreases-loop-count : goal.decreases-loop-count
decreases-loop-count l = length l.bytes - l.count
