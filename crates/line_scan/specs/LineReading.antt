-- What the reading of a line gives: its item, or the least rule that the line alone breaks.
-- Prometheus text format 0.0.4, "Text format details"; OpenMetrics 1.0, "ABNF"; the rules are the bridge's own profile of both.
use Rattle.std.specs.Prelude.{◌≡◌, ℕ, List, Option, Some, None, option_map, if◌then◌else◌}
use Rattle.page_model.specs.declared.format.Format.{Format}
use Rattle.page_model.specs.declared.format.Treatment.{Treatment}
use Rattle.page_model.specs.declared.rule.Rule.{Rule}
use Rattle.page_model.specs.declared.rule.Rule.TheVariants as rules
use Rattle.page_model.specs.Written.{Written, Setting, item_of, has_out_of_range, has_bad_labels}
use Rattle.page_model.specs.Faults.{own_fault}
use Rattle.page_model.specs.PageReading.{line_read, written_of}
use Rattle.line_scan.specs.declared.line.LineRead.{LineRead}
use Rattle.line_scan.specs.declared.line.LineRead.TheVariants as reads

-- how a page of this format is read
abbrev pub setting_of : Format → Treatment → ℕ → Setting
setting_of f t limit = record { format = f; treatment = t; limit = limit }

-- the least rule that a short line of UTF-8 breaks by what it says
abbrev pub says_fault : Format → Treatment → Option Written → Option Rule
says_fault f t None = Some rules.Syntax
says_fault f t (Some w) = if has_out_of_range f w then Some rules.Range else (if has_bad_labels t w then Some rules.Labels else None)

-- this is read of what a line says
abbrev pub Reads : Format → Treatment → Option Written → LineRead → Type 0
Reads f t says (reads.Item item) = (says_fault f t says ≡ None) × (option_map (item_of f) says ≡ Some item)
Reads f t says (reads.Refused rule) = says_fault f t says ≡ Some rule

-- this is read of a line, whatever the limit on samples is
abbrev pub IsRead : Format → Treatment → List ℕ → LineRead → Type 0
IsRead f t line (reads.Item item) = ((limit : ℕ) → own_fault (setting_of f t limit) (line_read f line) ≡ None) × (option_map (item_of f) (written_of f line) ≡ Some item)
IsRead f t line (reads.Refused rule) = (limit : ℕ) → own_fault (setting_of f t limit) (line_read f line) ≡ Some rule
