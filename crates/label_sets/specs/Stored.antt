-- Where the bytes of a text lie.
-- The bridge's own.
use Rattle.std.specs.Prelude.{ℕ, List}
use Rattle.std.specs.Arc.{arc_str_bytes}
use Rattle.label_sets.specs.declared.text.Stored.{Stored}
use Rattle.label_sets.specs.declared.text.Stored.TheVariants.{Short, Shared}

-- the bytes, wherever they lie
abbrev pub stored_bytes : Stored → List ℕ
stored_bytes (Short text) = text
stored_bytes (Shared text) = arc_str_bytes text
