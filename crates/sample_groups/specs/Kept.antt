-- What is kept of a group beside its parts (the bridge's own).
use Rattle.std.specs.Prelude.{◌≡◌, List, [], ◌∷◌, ◌++◌, filter_map, Option, Some, None, ⊤}
use Rattle.std.specs.Option.{option_or}
use Rattle.exact_decimal.specs.Decimals.{DecimalValue}
use Rattle.exact_decimal.specs.declared.number.Number.{Number}
use Rattle.page_model.specs.declared.page.Quantile.{Quantile}
use Rattle.sample_groups.specs.Members.{Member}
use Rattle.sample_groups.specs.declared.part.Part.{Part}
use Rattle.sample_groups.specs.ExtraValues.{ExtraValue, with_exemplar, first_time}
use Rattle.sample_groups.specs.Groups.{quantile_in, time_in, exemplar_in}
use Rattle.sample_groups.specs.Places.{HasPlacesOf}

-- the quantiles of these parts, and one more at this place with this value
abbrev pub with_place : List Part → DecimalValue → Number → List Quantile
with_place ps at value = filter_map quantile_in ps ++ record { at = at; value = value } ∷ []

-- the places of the quantiles are known, where they are kept
abbrev pub KnowsPlaces : Option (List DecimalValue) → List Quantile → Type 0
KnowsPlaces None qs = ⊤
KnowsPlaces (Some places) qs = HasPlacesOf qs places

-- with a part more, the places of the quantiles are still known, and nothing else has changed
pub record AddsPlace (old : ExtraValue) (ps : List Part) (p : Part) (new : ExtraValue) : Type 0 where
  pub places : KnowsPlaces new.places (filter_map quantile_in (ps ++ p ∷ []))
  pub rest : new ≡ record old { places = new.places }

-- with a member more, the time is still the first one's that is more than a created time, and nothing else has changed
pub record AddsTime (old : ExtraValue) (ps : List Part) (m : Member) (new : ExtraValue) : Type 0 where
  pub first : first_time (ps ++ m.part ∷ []) new.time ≡ option_or (first_time ps old.time) (time_in m)
  pub rest : new ≡ record old { time = new.time }

-- all that is kept with a member more
pub record AddsMember (old : ExtraValue) (ps : List Part) (m : Member) (new : ExtraValue) : Type 0 where
  pub places : KnowsPlaces new.places (filter_map quantile_in (ps ++ m.part ∷ []))
  pub first : first_time (ps ++ m.part ∷ []) new.time ≡ option_or (first_time ps old.time) (time_in m)
  pub exemplars : new.exemplars ≡ (with_exemplar old (exemplar_in m)).exemplars
