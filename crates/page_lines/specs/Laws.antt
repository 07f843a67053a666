-- How the words on lines go together.
-- The bridge's own.
use Rattle.std.specs.Prelude.{◌≡◌, ℕ, ◌<◌, List, [], ◌∷◌, ◌++◌, map, length}
use Rattle.page_lines.specs.Lines.{lines_of, ended_lines, open_line, without_empty_last}
use Rattle.page_lines.specs.Told.{Told, whole, too_long, told_line, told_of}

-- the lines of a page that goes on are its ended lines, and those of its open line that goes on
abbrev pub LinesGoOn : Type 0
LinesGoOn = (page more : List ℕ) → lines_of (page ++ more) ≡ ended_lines page ++ lines_of (open_line page ++ more)

-- the lines of a page that ends are its ended lines, and its open line unless that is empty
abbrev pub LinesEnd : Type 0
LinesEnd = (page : List ℕ) → lines_of page ≡ ended_lines page ++ without_empty_last (open_line page ∷ [])

-- what a page told stays told, however it goes on
abbrev pub ToldGoesOn : Type 0
ToldGoesOn = (most : ℕ) (page more : List ℕ) → (others : List Told) × (told_of most (page ++ more) ≡ told_of most page ++ others)

-- the lines of which a page told so far are its first ones, however it goes on
abbrev pub ToldAreFirst : Type 0
ToldAreFirst = (most : ℕ) (page more : List ℕ) (told : List (List ℕ)) → told_of most page ≡ map whole told
    → (others : List (List ℕ)) × (lines_of (page ++ more) ≡ told ++ others)

-- where a page told last that a line is too long, the line behind the lines told is, however the page goes on
abbrev pub TooLongIsNext : Type 0
TooLongIsNext = (most : ℕ) (page more : List ℕ) (told : List (List ℕ)) → told_of most page ≡ map whole told ++ too_long ∷ []
    → (line : List ℕ) × (others : List (List ℕ)) × (most < length line) × (lines_of (page ++ more) ≡ told ++ line ∷ others)

-- lines of which all was told are just what was told
abbrev pub WholeLinesAreLines : Type 0
WholeLinesAreLines = (most : ℕ) (lines told : List (List ℕ)) → map (told_line most) lines ≡ map whole told → lines ≡ told
