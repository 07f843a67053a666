-- A reader of a page in either format, and which bytes it was fed.
-- Prometheus text format 0.0.4, "Text-based format"; OpenMetrics 1.0, "Overall Structure".
use Rattle.std.specs.Prelude.{◌≡◌, ℕ, List, ◌++◌, Result, Ok, Err, ⊤}
use Rattle.page_model.specs.declared.format.Format.{Format}
use Rattle.page_model.specs.declared.format.Format.TheVariants as formats
use Rattle.page_model.specs.declared.format.Treatment.{Treatment}
use Rattle.page_model.specs.declared.fault.PageFault.{PageFault}
use Rattle.line_scan.specs.LineReading.{setting_of}
use Rattle.page_feeding.specs.PageFeeding.{Fed, Stands, Refuses}
use Rattle.page_reader.specs.declared.any_reader.AnyReader.{AnyReader}
use Rattle.page_reader.specs.declared.any_reader.AnyReader.TheVariants.{Text, OpenMetrics}

-- the format that a reader reads
abbrev pub format_of : AnyReader → Format
format_of (Text page) = formats.Text
format_of (OpenMetrics page) = formats.OpenMetrics

-- how a reader reads, and what it was fed
abbrev pub fed_of : AnyReader → Fed
fed_of (Text page) = page
fed_of (OpenMetrics page) = page

-- a reader of this format, under this treatment and limit, was fed these bytes and has found no fault
pub record StandsIn (f : Format) (t : Treatment) (limit : ℕ) (fed : List ℕ) (reader : AnyReader) : Type 0 where
  pub format : format_of reader ≡ f
  pub stands : Stands (format_of reader) t limit fed (fed_of reader)

-- what a piece gives: it is taken, or a refusal
abbrev pub PieceAnswerIn : Format → Treatment → ℕ → List ℕ → List ℕ → AnyReader → Result ⊤ PageFault → Type 0
PieceAnswerIn f t limit fed piece new (Ok u) = StandsIn f t limit (fed ++ piece) new
PieceAnswerIn f t limit fed piece new (Err fault) = Refuses (setting_of f t limit) (fed ++ piece) fault

-- a piece is taken, whatever was fed before
abbrev pub TakesPieceIn : AnyReader → AnyReader → List ℕ → Result ⊤ PageFault → Type 0
TakesPieceIn old new piece result = (f : Format) (t : Treatment) (limit : ℕ) (fed : List ℕ) → StandsIn f t limit fed old → PieceAnswerIn f t limit fed piece new result
