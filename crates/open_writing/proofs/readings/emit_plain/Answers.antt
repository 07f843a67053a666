use Rattle.page_model.specs.SuffixNames.{suffix_bytes}
use Rattle.open_writing.proofs.Parts.{plain_named}
use Rattle.open_writing.proofs.readings.emit_plain.Goals as goal

pub returns : goal.returns
returns g c =
    let metric = c.args.metric.now in
    let family = metric.family.now in
    rw (plain_named metric.kind family (suffix_bytes c.own_suffix.result) metric.labels.now c.args.number.now (c.own_suffix.ensures family)) (cc)
