use Rattle.std.proofs.Common.{◌≡◌, ◌++◌, Option}
use Rattle.std.specs.List.{AllByRecursion, flat_map}
use Rattle.std.specs.Vec.Iter.{into_iter_items}
use Rattle.page_model.specs.declared.page.Reading.{Reading}
use Rattle.start_times.specs.declared.row.Placed.{Placed}
use Rattle.scope_metrics.specs.ScopeParts.{HasOwnPlaces, scope_of_part}
use Rattle.scope_metrics.proofs.page_scopes.scopes_of_parts.Given as goal

-- the scopes so far, and those of the parts that are left, are all
abbrev pub invariant-loop-part : goal.invariant-loop-part
invariant-loop-part l = (place : Reading → Option Placed) → AllByRecursion (HasOwnPlaces place) (into_iter_items l.initial.part-iterator)
    → AllByRecursion (HasOwnPlaces place) (into_iter_items l.part-iterator)
    × (l.scopes.items ++ flat_map (scope_of_part place) (into_iter_items l.part-iterator) ≡ flat_map (scope_of_part place) (into_iter_items l.initial.part-iterator))
