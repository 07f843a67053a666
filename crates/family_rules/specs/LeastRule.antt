-- The rules that one sample breaks, of which the one of the least number is told (the bridge's own).
use Rattle.std.specs.Prelude.{nat_le, Option, Some, None, if◌then◌else◌}
use Rattle.page_model.specs.declared.rule.Rule.{Rule}
use Rattle.page_model.specs.RuleNames.{rule_number}

-- the one of the least number of two rules
abbrev pub lesser : Rule → Rule → Rule
lesser a b = if nat_le (rule_number a) (rule_number b) then a else b

-- the one of the least number of the rules that are broken
abbrev pub least : Option Rule → Option Rule → Option Rule
least None b = b
least (Some a) None = Some a
least (Some a) (Some b) = Some (lesser a b)
