-- The fault or the page of a text, found by the plain reader of one line.
-- The bridge's own way to find it; that it agrees with `FirstFault` and `IsPageOf` is proved.
use Rattle.std.specs.Prelude.{ℕ, List, map, Option}
use Rattle.page_lines.specs.Lines.{lines_of, ends_clean}
use Rattle.page_model.specs.declared.format.Format.{Format}
use Rattle.page_model.specs.declared.format.Format.TheVariants.{Text, OpenMetrics}
use Rattle.page_model.specs.PageValues.{PageValue}
use Rattle.page_model.specs.Written.{Written, Setting}
use Rattle.page_model.specs.TextReading.{text_line_of}
use Rattle.page_model.specs.OpenReading.{open_line_of}
use Rattle.page_model.specs.Faults.{Line, Fault, fault_of}
use Rattle.page_model.specs.Readings.{page_of}
use Rattle.page_model.specs.Pages.{items_of}

-- what a line of the format spells, where it spells something
abbrev pub written_of : Format → List ℕ → Option Written
written_of Text line = text_line_of line
written_of OpenMetrics line = open_line_of line

-- a line with what it spells
abbrev pub line_read : Format → List ℕ → Line
line_read f bytes = record { bytes = bytes; says = written_of f bytes }

-- the lines of a text
abbrev pub lines_read : Format → List ℕ → List Line
lines_read f bytes = map (line_read f) (lines_of bytes)

-- the fault of a text, where it has one
unfoldable pub text_fault : Setting → List ℕ → Option Fault
text_fault st bytes = fault_of st (lines_read st.format bytes) (ends_clean bytes)

-- the page of a text that has no fault
unfoldable pub text_page : Setting → List ℕ → PageValue
text_page st bytes = page_of st (items_of st.format (lines_read st.format bytes))
