-- The parts of a script, and the text of each: a head line, and for a record its bytes.
-- The bridge's own.
use Rattle.std.specs.Prelude.{ℕ, List, [], ◌∷◌, ◌++◌, length, codes, Option, Some, None}
use Rattle.std.specs.Fmt.{decimal}
use Rattle.page_model.specs.declared.format.Format.{Format}
use Rattle.page_model.specs.declared.format.Format.TheVariants as formats
use Rattle.plain_words.specs.HeadLines.{head_line}
use Rattle.replay_script.specs.declared.header.HeaderLine.{HeaderLine}
use Rattle.replay_script.specs.declared.ending.Ending.{Ending}
use Rattle.replay_script.specs.declared.ending.Ending.TheVariants.{ConnectFails, WriteFails, ReadFails, PeerEnds}
use Rattle.replay_script.specs.HeaderLines.{header_row}

-- the word of an ending
abbrev pub ending_word : Ending → List ℕ
ending_word ConnectFails = codes "connect"
ending_word WriteFails = codes "write"
ending_word ReadFails = codes "read"
ending_word PeerEnds = codes "ended"

-- the word of a format
abbrev pub format_word : Format → List ℕ
format_word formats.Text = codes "text"
format_word formats.OpenMetrics = codes "openmetrics"

-- what a target line says
pub record TargetLine : Type 0 where
  pub job : List ℕ
  pub host : List ℕ
  pub port : ℕ
  pub path : List ℕ

-- a part of a script: the opening line, a header line, a target line or a record
pub data Part : Type 0 where
  opening : Part
  header : HeaderLine → ℕ → Part
  target : TargetLine → Part
  page : ℕ → Format → List ℕ → Part
  scrape : ℕ → Ending → List ℕ → Part
  post : ℕ → Ending → List ℕ → Part

-- the words of a record's head line
abbrev pub record_words : List ℕ → ℕ → List ℕ → List ℕ → List (List ℕ)
record_words sort at form bytes = sort ∷ decimal at ∷ form ∷ decimal (length bytes) ∷ []

-- the words of a part's head line
unfoldable pub part_words : Part → List (List ℕ)
part_words opening = codes "bridge-script" ∷ codes "1" ∷ []
part_words (header line n) = (header_row line).word ∷ decimal n ∷ []
part_words (target t) = codes "target" ∷ t.job ∷ (t.host ++ (codes ":" ++ decimal t.port)) ∷ t.path ∷ []
part_words (page at format bytes) = record_words (codes "page") at (format_word format) bytes
part_words (scrape at ending bytes) = record_words (codes "scrape") at (ending_word ending) bytes
part_words (post at ending bytes) = record_words (codes "post") at (ending_word ending) bytes

-- the bytes of a record
abbrev pub record_bytes : Part → Option (List ℕ)
record_bytes (page at format bytes) = Some bytes
record_bytes (scrape at ending bytes) = Some bytes
record_bytes (post at ending bytes) = Some bytes
record_bytes _ = None

-- bytes and the line feed behind them, where there are bytes
abbrev pub body_text : Option (List ℕ) → List ℕ
body_text None = []
body_text (Some bytes) = bytes ++ 10 ∷ []

-- the text of a part
abbrev pub part_text : Part → List ℕ
part_text p = head_line (part_words p) ++ body_text (record_bytes p)

-- the text of parts, of which the last comes first
abbrev pub parts_text : List Part → List ℕ
parts_text [] = []
parts_text (p ∷ earlier) = parts_text earlier ++ part_text p
