-- The header lines of a script: a word and a number, each line at most once and in this order.
-- The bridge's own.
use Rattle.std.specs.Prelude.{ℕ, Bool, List, [], ◌∷◌, codes, Option, Some, None}
use Rattle.std.specs.Int.{is_in_range}
use Rattle.replay_script.specs.declared.header.HeaderLine.{HeaderLine}
use Rattle.replay_script.specs.declared.header.HeaderLine.TheVariants.{Keep, Tries, Limit, MaxPage, Cut, Honor, Rounds}

-- what a header line says: its word, its range, and what holds where the line is left out
pub record HeaderRow : Type 0 where
  pub word : List ℕ
  pub least : ℕ
  pub most : ℕ
  pub default : Option ℕ

-- the table of header lines
unfoldable pub header_row : HeaderLine → HeaderRow
header_row Keep = record { word = codes "keep"; least = 0; most = 4; default = Some 2 }
header_row Tries = record { word = codes "tries"; least = 1; most = 8; default = Some 3 }
header_row Limit = record { word = codes "limit"; least = 1; most = 200000; default = Some 20000 }
header_row MaxPage = record { word = codes "maxpage"; least = 1024; most = 67108864; default = Some 16777216 }
header_row Cut = record { word = codes "cut"; least = 1; most = 65536; default = Some 4096 }
header_row Honor = record { word = codes "honor"; least = 0; most = 1; default = Some 0 }
header_row Rounds = record { word = codes "rounds"; least = 1; most = 1000000; default = None }

-- the place of a line in the order of the header
abbrev pub place_of : HeaderLine → ℕ
place_of Keep = 1
place_of Tries = 2
place_of Limit = 3
place_of MaxPage = 4
place_of Cut = 5
place_of Honor = 6
place_of Rounds = 7

-- all header lines in their order
abbrev pub header_lines : List HeaderLine
header_lines = Keep ∷ Tries ∷ Limit ∷ MaxPage ∷ Cut ∷ Honor ∷ Rounds ∷ []

-- the number is in the line's range
abbrev pub is_in_row : HeaderRow → ℕ → Bool
is_in_row row n = is_in_range row.least row.most n
