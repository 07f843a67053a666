-- The lines of a page: the pieces between line feeds, without an empty piece after the last line feed.
-- Prometheus text format 0.0.4, "Line format" (lines are separated by a line feed); OpenMetrics 1.0, "Overall Structure".
use Rattle.std.specs.Prelude.{◌≡◌, ℕ, Bool, true, false, List, [], ◌∷◌, ◌==◌, All}
use Rattle.std.specs.List.{slice_split}

-- LF
abbrev pub is_line_feed : ℕ → Bool
is_line_feed c = c == 10

-- no byte is a line feed
abbrev pub Plain : List ℕ → Type 0
Plain bytes = All (λ c. is_line_feed c ≡ false) bytes

-- the pieces without the last, where that is empty
abbrev pub without_empty_last : List (List ℕ) → List (List ℕ)
without_empty_last [] = []
without_empty_last ([] ∷ []) = []
without_empty_last (piece ∷ pieces) = piece ∷ without_empty_last pieces

-- the lines of a page in order; line n is the n-th, and the line after the last stands for the end
unfoldable pub lines_of : List ℕ → List (List ℕ)
lines_of page = without_empty_last (slice_split is_line_feed page)

-- the page is empty or its last byte is a line feed
unfoldable pub ends_clean : List ℕ → Bool
ends_clean [] = true
ends_clean (c ∷ []) = is_line_feed c
ends_clean (c ∷ cs) = ends_clean cs

-- the pieces but the last
abbrev pub but_last : List (List ℕ) → List (List ℕ)
but_last [] = []
but_last (piece ∷ []) = []
but_last (piece ∷ pieces) = piece ∷ but_last pieces

-- the last piece
abbrev pub last_piece : List (List ℕ) → List ℕ
last_piece [] = []
last_piece (piece ∷ []) = piece
last_piece (piece ∷ pieces) = last_piece pieces

-- the lines that a line feed ends
unfoldable pub ended_lines : List ℕ → List (List ℕ)
ended_lines page = but_last (slice_split is_line_feed page)

-- the bytes behind the last line feed
unfoldable pub open_line : List ℕ → List ℕ
open_line page = last_piece (slice_split is_line_feed page)
