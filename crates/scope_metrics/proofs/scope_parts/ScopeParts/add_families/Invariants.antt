use Rattle.std.proofs.Common.{◌≡◌, [], map, take, drop, Option}
use Rattle.page_model.specs.declared.page.Reading.{Reading}
use Rattle.start_times.specs.declared.row.Placed.{Placed}
use Rattle.family_metrics.specs.PlacedMarkers.{family_readings}
use Rattle.scope_metrics.specs.ScopeParts.{items_by_scope, all_placed_items}
use Rattle.scope_metrics.proofs.scope_parts.ScopeParts.add_families.Given as goal

-- the readings of the families so far are put, and the places of the others are left
abbrev pub invariant-loop-number : goal.invariant-loop-number
invariant-loop-number l = l.initial.self ≡ items_by_scope [] → (place : Reading → Option Placed) → l.fn.places ≡ map place (family_readings l.families)
    → (l.self ≡ items_by_scope (all_placed_items place 0 (take l.number l.families))) × (l.left ≡ map place (family_readings (drop l.number l.families)))
