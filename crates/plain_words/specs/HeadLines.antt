-- Head lines: words with a space between each two, ended by a line feed.
-- The bridge's own.
use Rattle.std.specs.Prelude.{ℕ, Bool, ◌==◌, List, [], ◌∷◌, ◌++◌, Option}
use Rattle.std.specs.List.{before_first, after_first, list_any, join_with_byte, slice_split, count_by}
use Rattle.label_sets.specs.Lists.{when_true}

-- the text of a head line
abbrev pub head_line : List (List ℕ) → List ℕ
head_line words = join_with_byte 32 words ++ 10 ∷ []

-- what stands before the first such byte, and what behind it
unfoldable pub cut_first : ℕ → List ℕ → Option (List ℕ × List ℕ)
cut_first byte text = when_true (list_any (λ c. c == byte) text) (before_first (λ c. c == byte) text, after_first (λ c. c == byte) text)

-- a line feed
abbrev pub is_newline : ℕ → Bool
is_newline c = c == 10

-- a space
abbrev pub is_space : ℕ → Bool
is_space c = c == 32

-- the words of the line at the front, and what stands behind its line feed
unfoldable pub words_at : List ℕ → Option (List (List ℕ) × List ℕ)
words_at text = when_true (list_any is_newline text) (slice_split is_space (before_first is_newline text), after_first is_newline text)

-- how many line feeds stand in a text
abbrev pub line_feeds : List ℕ → ℕ
line_feeds text = count_by is_newline text
