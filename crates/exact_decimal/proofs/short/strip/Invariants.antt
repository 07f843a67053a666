use Rattle.std.proofs.Common.{◌≡◌, ◌≢◌, ◌+◌, ◌*◌, ◌^◌, ◌≤◌}
use Rattle.exact_decimal.proofs.short.strip.Given as goal

abbrev pub invariant-loop-digits : goal.invariant-loop-digits
invariant-loop-digits l = record {
  value : l.digits * 10 ^ l.zeros ≡ l.initial.digits;
  some : l.digits ≢ 0;
  few : l.digits + l.zeros ≤ l.initial.digits;
}

abbrev pub decreases-loop-digits : goal.decreases-loop-digits
decreases-loop-digits l = l.digits
