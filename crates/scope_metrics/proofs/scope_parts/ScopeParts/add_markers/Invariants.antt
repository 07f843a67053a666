use Rattle.std.proofs.Common.{◌≡◌, List, ◌++◌, map}
use Rattle.std.specs.Vec.Iter.{into_iter_items}
use Rattle.scope_metrics.specs.ScopeParts.{Item, of_marker, items_by_scope}
use Rattle.scope_metrics.proofs.scope_parts.ScopeParts.add_markers.Given as goal

-- the markers so far are put, and they and those that are left are all
abbrev pub invariant-loop-marker : goal.invariant-loop-marker
invariant-loop-marker l = (items : List Item) → l.initial.self ≡ items_by_scope items
    → (put : List Item) × (l.self ≡ items_by_scope (items ++ put)) × (put ++ map of_marker (into_iter_items l.marker-iterator) ≡ map of_marker (into_iter_items l.initial.marker-iterator))
