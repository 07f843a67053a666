-- What is told of the lines of a page while its bytes come: a definition that knows no pieces.
-- The limit on a line is the bridge's own.
use Rattle.std.specs.Prelude.{ℕ, List, [], ◌∷◌, ◌++◌, map, length, nat_le, nat_lt, if◌then◌else◌}
use Rattle.page_lines.specs.Lines.{ended_lines, open_line}

-- what is told of a line: its bytes, or only that it has too many
pub data Told : Type 0 where
  whole : List ℕ → Told
  too_long : Told

-- what is told of a line that may have `most` bytes
abbrev pub told_line : ℕ → List ℕ → Told
told_line most line = if nat_le (length line) most then whole line else too_long

-- what is told of a line before its end: only that it is too long, from its first byte past the limit on
abbrev pub told_open : ℕ → List ℕ → List Told
told_open most line = if nat_lt most (length line) then too_long ∷ [] else []

-- what is told, in order, of a page that may go on
unfoldable pub told_of : ℕ → List ℕ → List Told
told_of most page = map (told_line most) (ended_lines page) ++ told_open most (open_line page)
