use Rattle.std.proofs.Common.{ℕ, ◌+◌, ◌≤◌, List, ◌++◌, take}
use Rattle.exact_decimal.specs.Scans.{Keeps}
use Rattle.exact_decimal.proofs.digits.Kept.push_all.Given as goal

abbrev pub invariant-loop-digit : goal.invariant-loop-digit
invariant-loop-digit l = record {
  keeps : (ds : List ℕ) → Keeps ds l.initial.kept.digits l.initial.kept.zeros l.initial.kept.places → Keeps (ds ++ take l.digit-index l.digits) l.kept.digits l.kept.zeros l.kept.places;
  room : l.kept.zeros ≤ l.initial.kept.zeros + l.digit-index;
}
