use Rattle.exact_decimal.specs.Literals.{number_text}
use Rattle.open_writing.specs.Pieces.{label_with}
use Rattle.open_writing.proofs.Parts.{spaced_around}
use Rattle.text_emitter.proofs.Laws.{emitted}
use Rattle.open_writing.proofs.labels.Gap.emit.Goals as goal

pub returns : goal.returns
returns g c =
    let gap = c.args.self.now in
    rw (spaced_around gap.front.now (label_with gap.name.now (number_text c.args.number.now)) gap.back.now) (simp emitted (cc))
