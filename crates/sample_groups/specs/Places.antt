-- The places of a summary's quantiles.
-- OpenMetrics 1.0, "Summary": the quantiles of a MetricPoint are unique.
use Rattle.std.specs.Prelude.{◌≡◌, Bool, List}
use Rattle.std.specs.List.{list_any}
use Rattle.exact_decimal.specs.Decimals.{DecimalValue}
use Rattle.exact_decimal.specs.declared.number.Number.TheVariants.{Finite}
use Rattle.exact_decimal.specs.Order.{same}
use Rattle.page_model.specs.declared.page.Quantile.{Quantile}

-- one of the quantiles stands at this place
abbrev pub has_place : List Quantile → DecimalValue → Bool
has_place qs at = list_any (λ (q : Quantile). same (Finite q.at) (Finite at)) qs

-- the place is one of these
abbrev pub is_place_in : List DecimalValue → DecimalValue → Bool
is_place_in places at = list_any (λ p. same (Finite p) (Finite at)) places

-- the places are those of the quantiles
abbrev pub HasPlacesOf : List Quantile → List DecimalValue → Type 0
HasPlacesOf qs places = (at : DecimalValue) → is_place_in places at ≡ has_place qs at
