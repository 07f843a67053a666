use Rattle.std.proofs.Common.{◌≡◌, ◌-◌, ◌≤◌, IsUtf8}
use Rattle.line_scan.specs.LabelReading.{behind_labels}
use Rattle.line_scan.proofs.label_list.labels_at.Given as goal

abbrev pub invariant-loop : goal.invariant-loop
invariant-loop g l = record {
  within : l.counter ≤ l.most;
  utf8 : IsUtf8 l.rest;
  value : behind_labels l.initial.labels.items (g.L.LabelList.labels_at l.most l.bytes) ≡ behind_labels l.labels.items (g.L.LabelList.labels_at (l.most - l.counter) l.rest);
}
