use Rattle.std.proofs.Common.{◌≡◌, ◌-◌, ◌++◌, length, drop}
use Rattle.otlp_json.proofs.LastDigits.{last_digits}
use Rattle.otlp_json.proofs.hex.hex_digits.Given as goal

abbrev pub invariant-loop-count : goal.invariant-loop-count
invariant-loop-count g l = record {
  long : length l.digits ≡ g.row.N;
  stands : last_digits (g.row.N - l.count) l.left ++ drop (g.row.N - l.count) l.digits ≡ last_digits g.row.N l.n;
}
