-- When a line on a target may be said.
-- The bridge's own.
use Rattle.std.specs.Prelude.{ℕ, ◌+◌, ◌≤◌, Option, Some, None, ⊤}

-- none was said in the minute before this moment, in nanoseconds
abbrev pub IsQuiet : Option ℕ → ℕ → Type 0
IsQuiet None now = ⊤
IsQuiet (Some said) now = said + 60000000000 ≤ now
