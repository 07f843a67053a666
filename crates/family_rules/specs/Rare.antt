-- A text in memory of its own, where there is one (the bridge's own).
use Rattle.std.specs.Prelude.{ℕ, List, Option, None, Some}
use Rattle.std.specs.declared.alloc.Global.{Global}
use Rattle.std.specs.declared.boxed.Box.{Box}

-- the text, wherever it lies
abbrev pub rare_text : Option (Box (List ℕ) Global) → Option (List ℕ)
rare_text None = None
rare_text (Some b) = Some b.value
