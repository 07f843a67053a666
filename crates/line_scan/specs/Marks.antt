-- Steps over the bytes of a quoted value and of an escaped text.
-- Prometheus text format 0.0.4, "Comments, help text, and type information".
use Rattle.std.specs.Prelude.{◌≡◌, ℕ, ◌<◌, ◌≤◌, ◌||◌, Bool, true, false, List, [], ◌∷◌, ◌++◌, length, take, drop, slice_index, Option, Some, None, if◌then◌else◌}
use Rattle.std.specs.List.{list_any}
use Rattle.label_sets.specs.Lists.{◌>>=◌}
use Rattle.label_sets.specs.Escapes.{help_escape, quote_escape, unescaped, is_quote, is_backslash}
use Rattle.line_scan.specs.declared.quoted.Escapes.{Escapes}
use Rattle.line_scan.specs.declared.quoted.Escapes.TheVariants.{Help, Quoted}

-- what a character behind a backslash stands for
abbrev pub escape_of : Escapes → ℕ → Option ℕ
escape_of Help = help_escape
escape_of Quoted = quote_escape

-- these bytes in front of what was found
abbrev pub behind_front : List ℕ → Option (List ℕ × List ℕ) → Option (List ℕ × List ℕ)
behind_front front found = found >>= λ x. Some (front ++ x.0, x.1)

-- a quote or a backslash
abbrev pub is_mark : ℕ → Bool
is_mark c = is_quote c || is_backslash c

-- no quote and no backslash stands in bytes
abbrev pub HasNoMark : List ℕ → Type 0
HasNoMark bytes = list_any is_mark bytes ≡ false

-- the first quote or backslash stands at this place
pub record IsFirstMark (bytes : List ℕ) (at : ℕ) : Type 0 where
  pub within : at < length bytes
  pub mark : is_mark (slice_index bytes at) ≡ true
  pub before : HasNoMark (take at bytes)

-- how many bytes a byte takes with what it escapes
abbrev pub step_over : ℕ → ℕ
step_over c = if is_backslash c then 2 else 1

-- what the escape at the front stands for, where one is there
abbrev pub escape_at : (ℕ → Option ℕ) → List ℕ → Option ℕ
escape_at escape [] = None
escape_at escape (c ∷ []) = None
escape_at escape (c ∷ d ∷ cs) = if is_backslash c then escape d else None

-- the first of the unescaped bytes, and how many of the written bytes it takes
pub record IsFirstOf (escape : ℕ → Option ℕ) (written : List ℕ) (byte used : ℕ) : Type 0 where
  pub some : 0 < used
  pub taken : used ≤ length written
  pub stands : unescaped escape written ≡ byte ∷ unescaped escape (drop used written)
