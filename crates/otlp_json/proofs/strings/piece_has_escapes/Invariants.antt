use Rattle.std.proofs.Common.{◌≡◌, take}
use Rattle.std.specs.List.{list_any}
use Rattle.otlp_json.specs.Json.{is_escaped}
use Rattle.otlp_json.proofs.strings.piece_has_escapes.Given as goal

abbrev pub invariant-loop-b : goal.invariant-loop-b
invariant-loop-b l = l.any ≡ list_any is_escaped (take l.b-index l.piece)
