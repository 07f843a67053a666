-- The order of places (the bridge's own).
use Rattle.std.specs.Ordering.{on}
use Rattle.std.specs.Cmp.{IsTotalOrder, on_total}
use Rattle.std.specs.declared.cmp.Ordering.{Ordering}
use Rattle.exact_decimal.specs.Decimals.{decimal_cmp}
use Rattle.exact_decimal.proofs.Laws.{decimal_cmp_total}
use Rattle.sample_groups.specs.declared.places.Place.{Place}

-- the order of places is that of their values
abbrev pub place_cmp : Place → Place → Ordering
place_cmp = on (λ (p : Place). p.at) decimal_cmp

-- it is total
pub place_cmp_total : IsTotalOrder place_cmp
place_cmp_total = on_total (λ (p : Place). p.at) decimal_cmp_total
