use Rattle.std.proofs.Common.{◌≡◌, ◌+◌, drop}
use Rattle.std.specs.List.{prefix_len}
use Rattle.line_scan.proofs.scan.front_len.Given as goal

abbrev pub invariant-loop-byte : goal.invariant-loop-byte
invariant-loop-byte g l = (l.count ≡ l.byte-index) × (prefix_len g.C.CharClass.test l.bytes ≡ l.count + prefix_len g.C.CharClass.test (drop l.count l.bytes))
