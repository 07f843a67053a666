-- A law of selectors. It is proved, and a call of the crate stands for it.
-- The bridge's own.
use Rattle.std.specs.Prelude.{◌≡◌, ℕ, List}
use Rattle.series_select.specs.declared.selector.Selector.{Selector}
use Rattle.series_select.specs.Selectors.{SpellsSelector}

-- a text is at most one selector
abbrev pub SelectorOnce : Type 0
SelectorOnce = (text : List ℕ) (s t : Selector) → SpellsSelector text s → SpellsSelector text t → s ≡ t
