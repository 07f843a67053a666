-- The numbers and names of the rules, as the program prints them (the bridge's own).
use Rattle.std.specs.Prelude.{ℕ, List, codes}
use Rattle.page_model.specs.declared.rule.Rule.{Rule}
use Rattle.page_model.specs.declared.rule.Rule.TheVariants as rules

-- the number of a rule, from 1
unfoldable pub rule_number : Rule → ℕ
rule_number rules.TooLong = 1
rule_number rules.Utf8 = 2
rule_number rules.NoNewline = 3
rule_number rules.Syntax = 4
rule_number rules.Range = 5
rule_number rules.Labels = 6
rule_number rules.AfterEof = 7
rule_number rules.NoEof = 8
rule_number rules.Descriptor = 9
rule_number rules.Exemplar = 10
rule_number rules.Split = 11
rule_number rules.Interleaved = 12
rule_number rules.Suffix = 13
rule_number rules.Duplicate = 14
rule_number rules.Value = 15
rule_number rules.Threshold = 16
rule_number rules.Order = 17
rule_number rules.Incomplete = 18
rule_number rules.Unit = 19
rule_number rules.TooMany = 20

-- the name of a rule
unfoldable pub rule_name : Rule → List ℕ
rule_name rules.TooLong = codes "TooLong"
rule_name rules.Utf8 = codes "Utf8"
rule_name rules.NoNewline = codes "NoNewline"
rule_name rules.Syntax = codes "Syntax"
rule_name rules.Range = codes "Range"
rule_name rules.Labels = codes "Labels"
rule_name rules.AfterEof = codes "AfterEof"
rule_name rules.NoEof = codes "NoEof"
rule_name rules.Descriptor = codes "Descriptor"
rule_name rules.Exemplar = codes "Exemplar"
rule_name rules.Split = codes "Split"
rule_name rules.Interleaved = codes "Interleaved"
rule_name rules.Suffix = codes "Suffix"
rule_name rules.Duplicate = codes "Duplicate"
rule_name rules.Value = codes "Value"
rule_name rules.Threshold = codes "Threshold"
rule_name rules.Order = codes "Order"
rule_name rules.Incomplete = codes "Incomplete"
rule_name rules.Unit = codes "Unit"
rule_name rules.TooMany = codes "TooMany"
