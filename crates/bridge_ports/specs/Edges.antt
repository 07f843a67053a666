-- What tells no bytes, as the streams of the machine.
-- The bridge's own.
use Rattle.std.specs.Prelude.{ℕ, List, Option, None}

-- what is told of bytes: nothing
abbrev pub untold : Option (List ℕ)
untold = None
