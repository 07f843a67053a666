-- What the steps of the reader of a query give: words of this crate's own functions.
-- The bridge's own.
use Rattle.std.specs.Prelude.{◌≡◌, ℕ, ◌+◌, ◌⊎◌, true, false, ⊤, List, [], ◌∷◌, ◌++◌, length}
use Rattle.series_select.specs.declared.fault.QueryFault.{QueryFault}
use Rattle.series_select.specs.declared.fault.QueryFault.TheVariants as faults
use Rattle.series_select.specs.declared.selector.Selector.{Selector}
use Rattle.series_select.specs.Selectors.{SpellsSelector, IsNoSelector, SpellEach, is_match}

-- the selector that a text is stands behind those that were there
abbrev pub AddsSelector : List ℕ → List Selector → List Selector → Type 0
AddsSelector text before after = (s : Selector) × SpellsSelector text s × (after ≡ before ++ s ∷ [])

-- a text is no selector, and its number is one more than that of those that were there, unless memory is wanting
abbrev pub StopsAt : List ℕ → List Selector → QueryFault → Type 0
StopsAt text before (faults.Selector number) = (number ≡ length before + 1) × IsNoSelector text
StopsAt text before faults.Memory = ⊤

-- the selector that a pair carries, where its name says that it carries one, stands behind those that were there
abbrev pub TakesPair : List ℕ → List ℕ → List Selector → List Selector → Type 0
TakesPair name value before after = ((is_match name ≡ false) × (after ≡ before)) ⊎ ((is_match name ≡ true) × AddsSelector value before after)

-- the name of a pair says that it carries a selector, and its value is none, unless memory is wanting
abbrev pub StopsAtPair : List ℕ → List ℕ → List Selector → QueryFault → Type 0
StopsAtPair name value before (faults.Selector number) = (is_match name ≡ true) × (number ≡ length before + 1) × IsNoSelector value
StopsAtPair name value before faults.Memory = ⊤

-- these selectors were read of the texts so far, and the others are left
pub record AreReadTo (texts left : List (List ℕ)) (selectors : List Selector) : Type 0 where
  pub done : List (List ℕ)
  pub whole : texts ≡ done ++ left
  pub spelled : SpellEach done selectors
