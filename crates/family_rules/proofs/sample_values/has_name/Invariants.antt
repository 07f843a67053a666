use Rattle.std.proofs.Common.{◌≡◌, drop}
use Rattle.label_sets.specs.Labels.{has_name}
use Rattle.family_rules.proofs.sample_values.has_name.Given as goal

-- the labels that are left decide
abbrev pub invariant-loop-label : goal.invariant-loop-label
invariant-loop-label l = has_name l.labels l.name ≡ has_name (drop l.label-index l.label-items) l.name
