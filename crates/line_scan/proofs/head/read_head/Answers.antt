use Rattle.std.proofs.Common.{refl}
use Rattle.line_scan.proofs.LineHeads.{head-no_name, head-no_labels, rest-within, head-read}
use Rattle.line_scan.proofs.head.read_head.Goals as goal

pub returns-in_default : goal.returns-in_default
returns-in_default g c = head-no_name g.L.SampleLabels.format c.args.bytes.now c.in_default.ensures

pub returns-in_default-2 : goal.returns-in_default-2
returns-in_default-2 g c = head-no_labels g.L.SampleLabels.format c.args.bytes.now c.in-Some.name c.in-Some.ensures (rw c.in_default-2.is at c.in_ok-rest.ensures.labels)

pub slice_bounds-result-count : goal.slice_bounds-result-count
slice_bounds-result-count g c = rest-within g.L.SampleLabels.format c.args.bytes.now c.in-Some.name c.in-Some.ensures c.labels_behind.new.labels.items c.in-Some-2.rest.now (rw c.in-Some-2.is at c.in_ok-rest.ensures.labels)

pub returns : goal.returns
returns g c = head-read g.L.SampleLabels.format c.args.bytes.now c.in-Some.name c.in-Some.ensures c.labels_behind.new.labels.items c.in-Some-2.rest.now (rw c.in-Some-2.is at c.in_ok-rest.ensures.labels)
    _ refl refl refl (rw c.in-Some-2.is at c.in_ok-rest.ensures.utf8)
