use Rattle.std.proofs.Common.{◌≡◌, ◌-◌, length, string_bytes}
use Rattle.label_sets.specs.Labels.{exported_name}
use Rattle.label_sets.proofs.renaming.free_name.Given as goal

abbrev pub invariant-loop : goal.invariant-loop
invariant-loop l = exported_name (length l.labels) l.labels l.name ≡ exported_name (l.end - l.counter) l.labels (string_bytes l.next)
