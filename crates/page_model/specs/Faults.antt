-- The fault of a page: the least line that breaks a rule, and of the rules broken there the least.
-- The rules are the bridge's own profile of both formats; `Rules.antt` cites the public texts beside each.
use Rattle.std.specs.Prelude.{◌≡◌, ℕ, zero, suc, ◌+◌, ◌-◌, ◌<◌, ◌≤◌, Bool, false, not, ◌&&◌, ◌||◌, ◌⊎◌, IsTrue, List, [], ◌∷◌, length, find, Option, Some, None, option_map, option_and_then, is_none, nat_lt}
use Rattle.std.specs.Option.{option_map_or, option_or}
use Rattle.std.specs.Str.{is_utf8}
use Rattle.label_sets.specs.declared.kind.Kind.{Kind}
use Rattle.label_sets.specs.Lists.{some_passes}
use Rattle.page_model.specs.declared.format.Format.{Format}
use Rattle.page_model.specs.declared.item.Item.{Item}
use Rattle.page_model.specs.declared.item.Item.TheVariants as items
use Rattle.page_model.specs.declared.item.Sample.{Sample}
use Rattle.page_model.specs.declared.rule.Rule.{Rule}
use Rattle.page_model.specs.declared.rule.Rule.TheVariants as rules
use Rattle.page_model.specs.Written.{Written, Setting, line_limit, has_out_of_range, has_bad_labels, item_of}
use Rattle.page_model.specs.RuleNames.{rule_number}
use Rattle.page_model.specs.Items.{sample_of_line}
use Rattle.page_model.specs.Owners.{Owned, kind_of, owner_of, owned_lines, samples_of}
use Rattle.page_model.specs.Rules.{is_open_metrics, is_after_eof, is_without_eof, is_late_descriptor, is_bad_exemplar, is_split, is_interleaved, has_wrong_suffix, is_duplicate, has_bad_value, has_bad_threshold, is_out_of_order, leaves_incomplete, is_bad_unit, is_past_limit}

-- ---- the rules of a line alone

-- a line of a page: its bytes, and what it spells, where it spells something
pub record Line : Type 0 where
  pub bytes : List ℕ
  pub says : Option Written

-- a line breaks a rule that looks at it alone: too long, not UTF-8, no item, a number out of range, a bad label list
unfoldable pub line_breaks : Setting → Line → Rule → Bool
line_breaks st l rules.TooLong = nat_lt (line_limit st.treatment) (length l.bytes)
line_breaks st l rules.Utf8 = not (is_utf8 l.bytes)
line_breaks st l rules.Syntax = is_none l.says
line_breaks st l rules.Range = some_passes (has_out_of_range st.format) l.says
line_breaks st l rules.Labels = some_passes (has_bad_labels st.treatment) l.says
line_breaks st l _ = false

-- the rules of a line alone, in the order of their numbers
abbrev pub line_rules : List Rule
line_rules = rules.TooLong ∷ rules.Utf8 ∷ rules.Syntax ∷ rules.Range ∷ rules.Labels ∷ []

-- the least of these rules that a line breaks
unfoldable pub own_fault : Setting → Line → Option Rule
own_fault st l = find (line_breaks st l) line_rules

-- ---- the rules of an item under the lines above it

-- a sample of a family of this kind breaks a rule, under the owned lines above
unfoldable pub sample_breaks : Setting → List Owned → Kind → List ℕ → Sample → Rule → Bool
sample_breaks st above kind family s rules.Exemplar = is_bad_exemplar kind family s
sample_breaks st above kind family s rules.Interleaved = is_interleaved st kind family (samples_of above family) s
sample_breaks st above kind family s rules.Suffix = has_wrong_suffix st kind family s
sample_breaks st above kind family s rules.Duplicate = is_duplicate st above s
sample_breaks st above kind family s rules.Value = has_bad_value st.format kind family s
sample_breaks st above kind family s rules.Threshold = has_bad_threshold kind family s
sample_breaks st above kind family s rules.Order = is_out_of_order st kind family (samples_of above family) s
sample_breaks st above kind family s _ = false

-- a descriptor or a sample breaks a rule, under the owned lines above
unfoldable pub owned_breaks : Setting → List Owned → Owned → Rule → Bool
owned_breaks st above line rules.Descriptor = is_late_descriptor above line
owned_breaks st above line rules.Split = is_split above line
owned_breaks st above line rules.Incomplete = leaves_incomplete st above (Some line.family)
owned_breaks st above line rules.Unit = is_bad_unit above line
owned_breaks st above line rule = some_passes (λ s. sample_breaks st above (kind_of above line.family) line.family s rule) (sample_of_line line.item)

-- an item breaks a rule, under the items of the lines above, the nearest first
unfoldable pub item_breaks : Setting → List Item → Item → Rule → Bool
item_breaks st earlier item rules.AfterEof = is_after_eof st earlier
item_breaks st earlier (items.Sample s) rules.TooMany = is_past_limit st earlier
item_breaks st earlier items.Eof rules.Incomplete = leaves_incomplete st (owned_lines st.format earlier) None
item_breaks st earlier item rule = let above = owned_lines st.format earlier in
    some_passes (λ family. owned_breaks st above (record { family = family; item = item }) rule) (owner_of st.format above item)

-- the rules of an item under the lines above it, in the order of their numbers
abbrev pub item_rules : List Rule
item_rules = rules.AfterEof ∷ rules.Descriptor ∷ rules.Exemplar ∷ rules.Split ∷ rules.Interleaved ∷ rules.Suffix ∷ rules.Duplicate
    ∷ rules.Value ∷ rules.Threshold ∷ rules.Order ∷ rules.Incomplete ∷ rules.Unit ∷ rules.TooMany ∷ []

-- the least rule that an item breaks
unfoldable pub item_fault : Setting → List Item → Item → Option Rule
item_fault st earlier item = find (item_breaks st earlier item) item_rules

-- ---- the rules of the end

-- the end breaks a rule, behind these lines; clean says that the page is empty or ends with a line feed
unfoldable pub end_breaks : Setting → List Item → Bool → Rule → Bool
end_breaks st earlier clean rules.NoNewline = not (is_open_metrics st.format) && not clean
end_breaks st earlier clean rules.NoEof = is_without_eof st earlier
end_breaks st earlier clean rules.Incomplete = leaves_incomplete st (owned_lines st.format earlier) None
end_breaks st earlier clean _ = false

-- the rules of the end, in the order of their numbers
abbrev pub end_rules : List Rule
end_rules = rules.NoNewline ∷ rules.NoEof ∷ rules.Incomplete ∷ []

-- the least rule that the end breaks
unfoldable pub end_fault : Setting → List Item → Bool → Option Rule
end_fault st earlier clean = find (end_breaks st earlier clean) end_rules

-- ---- the fault of a list of lines

-- the least rule that a line breaks
unfoldable pub line_fault : Setting → List Item → Line → Option Rule
line_fault st earlier l = option_or (own_fault st l) (option_and_then (λ w. item_fault st earlier (item_of st.format w)) l.says)

-- the items above, with that of one line more
abbrev pub with_line : Format → Line → List Item → List Item
with_line f l earlier = option_map_or (λ w. item_of f w ∷ earlier) l.says earlier

-- a fault: the number of the line and the rule
abbrev pub Fault : Type 0
Fault = ℕ × Rule

-- the fault of the lines from number n on, behind these items, and of the end behind them
unfoldable pub fault_from : Setting → List Item → ℕ → List Line → Bool → Option Fault
fault_from st earlier n [] clean = option_map (λ rule. (n, rule)) (end_fault st earlier clean)
fault_from st earlier n (l ∷ ls) clean = option_or (option_map (λ rule. (n, rule)) (line_fault st earlier l)) (fault_from st (with_line st.format l earlier) (n + 1) ls clean)

-- the fault of these lines alone, without an end behind them
unfoldable pub lines_fault : Setting → List Item → ℕ → List Line → Option Fault
lines_fault st earlier n [] = None
lines_fault st earlier n (l ∷ ls) = option_or (option_map (λ rule. (n, rule)) (line_fault st earlier l)) (lines_fault st (with_line st.format l earlier) (n + 1) ls)

-- the items above, with those of these lines in front
unfoldable pub with_lines : Format → List Line → List Item → List Item
with_lines f [] earlier = earlier
with_lines f (l ∷ ls) earlier = with_lines f ls (with_line f l earlier)

-- the fault of a page's lines
abbrev pub fault_of : Setting → List Line → Bool → Option Fault
fault_of st lines clean = fault_from st [] 1 lines clean

-- ---- the fault as the least

-- a line breaks a rule, under the items of the lines above, by what it is alone or by what it says
unfoldable pub breaks_at : Setting → List Item → Line → Rule → Bool
breaks_at st earlier l rule = line_breaks st l rule || some_passes (λ w. item_breaks st earlier (item_of st.format w) rule) l.says

-- one of these lines, counted from 0, breaks a rule behind these items; the line past the last stands for the end
unfoldable pub broken_at : Setting → List Item → List Line → Bool → ℕ → Rule → Bool
broken_at st earlier [] clean zero rule = end_breaks st earlier clean rule
broken_at st earlier [] clean (suc k) rule = false
broken_at st earlier (l ∷ ls) clean zero rule = breaks_at st earlier l rule
broken_at st earlier (l ∷ ls) clean (suc k) rule = broken_at st (with_line st.format l earlier) ls clean k rule

-- line n breaks a rule, lines counted from 1; this looks at the lines up to n alone
abbrev pub Breaks : Setting → List Line → Bool → ℕ → Rule → Type 0
Breaks st ls clean n rule = (0 < n) × IsTrue (broken_at st [] ls clean (n - 1) rule)

-- the least line that breaks a rule, with the least of the rules that it breaks
pub record IsLeastFault (st : Setting) (ls : List Line) (clean : Bool) (fault : Fault) : Type 0 where
  pub broken : Breaks st ls clean fault.0 fault.1
  pub least : (n : ℕ) (rule : Rule) → Breaks st ls clean n rule → (fault.0 < n) ⊎ ((fault.0 ≡ n) × (rule_number fault.1 ≤ rule_number rule))
