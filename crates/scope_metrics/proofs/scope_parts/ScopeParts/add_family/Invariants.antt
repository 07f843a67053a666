use Rattle.std.proofs.Common.{◌≡◌, ◌++◌, List, filter_map}
use Rattle.std.specs.List.{zip}
use Rattle.std.specs.Iterator.Adapters.{zip_first, zip_second}
use Rattle.std.specs.Slice.Iter.{iter_rest}
use Rattle.family_metrics.specs.Points.{MayAllBeLaidOut}
use Rattle.scope_metrics.specs.ScopeParts.{Item, placed_item, items_by_scope}
use Rattle.scope_metrics.proofs.scope_parts.ScopeParts.add_family.Given as goal

-- the readings so far are put, and they and those of the readings and places that are left are all
abbrev pub invariant-loop-reading : goal.invariant-loop-reading
invariant-loop-reading l = record {
  left : MayAllBeLaidOut (iter_rest (zip_first l.reading-iterator));
  done : (items : List Item) → l.initial.self ≡ items_by_scope items → (put : List Item) × (l.self ≡ items_by_scope (items ++ put))
      × (put ++ filter_map (placed_item l.number l.family) (zip (iter_rest (zip_first l.reading-iterator)) (iter_rest (zip_second l.reading-iterator))) ≡ filter_map (placed_item l.number l.family) (zip l.family.readings l.places));
}
