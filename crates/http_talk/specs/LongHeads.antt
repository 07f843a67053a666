-- A head of more fields than one may have, of which each line is read by itself.
-- The bridge's own.
use Rattle.std.specs.Prelude.{ℕ, ◌==◌, List, [], ◌∷◌, drop, Option, if◌then◌else◌, ⊤}
use Rattle.httparse.specs.Grammar.{LineEnd, Field}
use Rattle.httparse.specs.Pieces.{is_newline, ResponseStart, FieldLines}

-- the bytes from the first on that ends no line
abbrev pub behind_blanks : List ℕ → List ℕ
behind_blanks [] = []
behind_blanks (b ∷ bytes) = if is_newline b then behind_blanks bytes else b ∷ bytes

-- the bytes from the first line feed on
abbrev pub from_line_end : List ℕ → List ℕ
from_line_end [] = []
from_line_end (b ∷ bytes) = if b == 10 then b ∷ bytes else from_line_end bytes

-- the bytes behind the first line
abbrev pub behind_line : List ℕ → List ℕ
behind_line bytes = drop 1 (from_line_end bytes)

-- empty lines and a status line, as the parser reads them
abbrev pub StartTree : Type 0
StartTree = List LineEnd × (ℕ × (⊤ × ((ℕ × (ℕ × ℕ)) × (Option (List ℕ) × LineEnd))))

-- a status line and some fields stand in front of the rest
pub record IsBehindLines (bytes rest : List ℕ) : Type 0 where
  pub start : StartTree
  pub fields : List Field
  pub middle : List ℕ
  pub line : ResponseStart start bytes middle
  pub lines : FieldLines fields middle rest
