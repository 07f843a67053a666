use Rattle.open_writing.specs.Pieces.{filled_gap}
use Rattle.page_model.specs.SuffixNames.{suffix_bytes}
use Rattle.open_writing.proofs.Parts.{sample_written}
use Rattle.text_emitter.proofs.Laws.{emitted}
use Rattle.open_writing.proofs.samples.emit_placed.Goals as goal

pub returns : goal.returns
returns g c =
    let name = c.args.name.now in
    rw (sample_written name.family.now (suffix_bytes name.suffix) (filled_gap c.args.gap.now c.args.place.now) c.args.number.now) (simp emitted (cc))
