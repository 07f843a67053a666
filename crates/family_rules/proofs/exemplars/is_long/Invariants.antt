use Rattle.std.proofs.Common.{◌≡◌, ◌+◌, drop}
use Rattle.std.specs.Prelude.{nat_lt}
use Rattle.page_model.specs.Rules.{exemplar_characters}
use Rattle.family_rules.specs.Samples.{label_characters}
use Rattle.family_rules.proofs.exemplars.is_long.Given as goal

-- the labels that are left decide
abbrev pub invariant-loop-label : goal.invariant-loop-label
invariant-loop-label l = nat_lt 128 (exemplar_characters l.exemplar) ≡ nat_lt 128 (l.count + label_characters (drop l.label-index l.label-items))
