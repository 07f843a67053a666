-- The part at the front of a text, and the script of bytes, found from left to right: what a reader gives.
-- The bridge's own way to find it; that it agrees with `IsScript` and `HasScriptFault` is proved.
use Rattle.std.specs.Prelude.{ℕ, zero, suc, ◌+◌, ◌-◌, ◌^◌, Bool, true, false, ◌&&◌, ◌==◌, List, [], ◌∷◌, length, take, drop, slice_index, codes, bytes_eq, Option, Some, None, option_map, unwrap_or, Result, Ok, Err, nat_lt, if◌then◌else◌}
use Rattle.label_sets.specs.Lists.{◌>>=◌, when_true, first_some}
use Rattle.page_model.specs.declared.format.Format.{Format}
use Rattle.page_model.specs.declared.format.Format.TheVariants as formats
use Rattle.plain_words.specs.WholeNumbers.{number_in}
use Rattle.plain_words.specs.Places.{place_in}
use Rattle.plain_words.specs.HeadLines.{words_at, line_feeds}
use Rattle.replay_script.specs.declared.script.Script.{Script}
use Rattle.replay_script.specs.declared.header.HeaderLine.{HeaderLine}
use Rattle.replay_script.specs.HeaderLines.{header_lines, header_row}
use Rattle.replay_script.specs.declared.ending.Ending.{Ending}
use Rattle.replay_script.specs.declared.ending.Ending.TheVariants.{ConnectFails, WriteFails, ReadFails, PeerEnds}
use Rattle.replay_script.specs.ScriptParts.{ending_word, format_word, Part, opening, header, target, page, scrape, post, parts_text}
use Rattle.replay_script.specs.ScriptContents.{script_of}
use Rattle.replay_script.specs.ScriptRules.{may_stand_behind, may_end}

-- the greatest number that a head line may have
abbrev pub most_number : ℕ
most_number = 2 ^ 64 - 1

-- so many bytes at the front with a line feed behind them, and what stands behind that
unfoldable pub body_at : ℕ → List ℕ → Option (List ℕ × List ℕ)
body_at count text = when_true (nat_lt count (length text) && slice_index text count == 10) (take count text, drop (count + 1) text)

-- the header line of a word
unfoldable pub header_line_in : List ℕ → Option HeaderLine
header_line_in word = first_some (λ line. when_true (bytes_eq word (header_row line).word) line) header_lines

-- the ending of a word
unfoldable pub ending_in : List ℕ → Option Ending
ending_in word = first_some (λ ending. when_true (bytes_eq word (ending_word ending)) ending) (ConnectFails ∷ WriteFails ∷ ReadFails ∷ PeerEnds ∷ [])

-- the format of a word
unfoldable pub format_in : List ℕ → Option Format
format_in word = first_some (λ format. when_true (bytes_eq word (format_word format)) format) (formats.Text ∷ formats.OpenMetrics ∷ [])

-- the opening line or a header line
unfoldable pub header_in : List ℕ → List ℕ → Option Part
header_in first second = if bytes_eq first (codes "bridge-script") then when_true (bytes_eq second (codes "1")) opening
    else (header_line_in first >>= λ line. number_in most_number second >>= λ n. Some (header line n))

-- a target line
unfoldable pub target_in : List ℕ → List ℕ → List ℕ → Option Part
target_in job place path = place_in 256 place >>= λ p. Some (target (record { job = job; host = p.0; port = p.1; path = path }))

-- a record of bytes
unfoldable pub record_in : List ℕ → ℕ → List ℕ → List ℕ → Option Part
record_in sort at form bytes = if bytes_eq sort (codes "page") then (format_in form >>= λ format. Some (page at format bytes)) else
    (if bytes_eq sort (codes "scrape") then (ending_in form >>= λ ending. Some (scrape at ending bytes)) else
    (if bytes_eq sort (codes "post") then (ending_in form >>= λ ending. Some (post at ending bytes)) else None))

-- a record with the bytes behind its head line
unfoldable pub record_at : List ℕ → List ℕ → List ℕ → List ℕ → List ℕ → Option (Part × List ℕ)
record_at sort time form count text = do
  at ← number_in most_number time
  len ← number_in most_number count
  body ← body_at len text
  part ← record_in sort at form body.0
  Some (part, body.1)

-- a target line or a record
unfoldable pub target_or_record : List ℕ → List ℕ → List ℕ → List ℕ → List ℕ → Option (Part × List ℕ)
target_or_record a b c d text = if bytes_eq a (codes "target") then (target_in b c d >>= λ part. Some (part, text)) else record_at a b c d text

-- the part whose head line has these words, and what stands behind it
unfoldable pub part_with : List (List ℕ) → List ℕ → Option (Part × List ℕ)
part_with (a ∷ b ∷ []) text = header_in a b >>= λ part. Some (part, text)
part_with (a ∷ b ∷ c ∷ d ∷ []) text = target_or_record a b c d text
part_with _ text = None

-- the part at the front of a text, and what stands behind it
unfoldable pub front_part : List ℕ → Option (Part × List ℕ)
front_part text = words_at text >>= λ line. part_with line.0 line.1

-- the part at the front, where it may follow
unfoldable pub next_part : List Part → List ℕ → Option (Part × List ℕ)
next_part earlier text = front_part text >>= λ found. when_true (may_stand_behind earlier found.0) found

-- the text is empty
abbrev pub is_empty : List ℕ → Bool
is_empty [] = true
is_empty (b ∷ bytes) = false

-- all parts, or those in front of the first fault, the last first; the number bounds how many more there are
unfoldable pub parts_from : ℕ → List Part → List ℕ → Result (List Part) (List Part)
parts_from zero earlier text = Err earlier
parts_from (suc more) earlier text = if is_empty text && may_end earlier then Ok earlier
    else unwrap_or (option_map (λ found. parts_from more (found.0 ∷ earlier) found.1) (next_part earlier text)) (Err earlier)

-- a script, or the line of the first fault
abbrev pub answer_of : Result (List Part) (List Part) → Result Script ℕ
answer_of (Ok parts) = Ok (script_of parts)
answer_of (Err parts) = Err (line_feeds (parts_text parts) + 1)

-- what a reader of these bytes gives
abbrev pub script_read : List ℕ → Result Script ℕ
script_read bytes = answer_of (parts_from (length bytes + 1) [] bytes)
