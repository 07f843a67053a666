use Rattle.std.proofs.Common.{◌-◌, length, arith}
use Rattle.std.proofs.lemmas.List.{take_rest}
use Rattle.open_writing.specs.Pieces.{is_marked}
use Rattle.text_emitter.proofs.Laws.{any_ends}
use Rattle.open_writing.proofs.strings.ends_have_marks.Goals as goal

pub returns : goal.returns
returns c =
    let text = c.args.text.now in
    let behind = length text - c.args.end in
    rw (c.piece_has_marks.ensures, c.piece_has_marks-2.ensures, take_rest text behind) (any_ends text is_marked c.args.front behind (omega arith))
