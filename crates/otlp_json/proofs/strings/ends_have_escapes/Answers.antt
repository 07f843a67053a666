use Rattle.std.proofs.Common.{◌-◌, length, arith}
use Rattle.std.proofs.lemmas.List.{take_rest}
use Rattle.otlp_json.specs.Json.{is_escaped}
use Rattle.text_emitter.proofs.Laws.{any_ends}
use Rattle.otlp_json.proofs.strings.ends_have_escapes.Goals as goal

pub returns : goal.returns
returns c =
    let text = c.args.text.now in
    let behind = length text - c.args.end in
    rw (c.piece_has_escapes.ensures, c.piece_has_escapes-2.ensures, take_rest text behind) (any_ends text is_escaped c.args.front behind (omega arith))
