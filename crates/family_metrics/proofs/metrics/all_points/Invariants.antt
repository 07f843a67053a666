use Rattle.std.proofs.Common.{◌≡◌, ◌++◌, filter_map, option_and_then}
use Rattle.std.specs.List.{zip}
use Rattle.std.specs.Iterator.Adapters.{zip_first, zip_second}
use Rattle.std.specs.Slice.Iter.{iter_rest}
use Rattle.family_metrics.specs.Points.{point_in, MayAllBeLaidOut, MayAllBeScoped}
use Rattle.family_metrics.proofs.metrics.all_points.Given as goal

-- the points so far, and those of the readings and places that are left, are all
abbrev pub invariant-loop-reading : goal.invariant-loop-reading
invariant-loop-reading g l = record {
  points : l.points.items ++ filter_map (λ p. option_and_then g.F.PointForm.form_of (point_in p.1 p.0)) (zip (iter_rest (zip_first l.reading-iterator)) (iter_rest (zip_second l.reading-iterator)))
      ≡ filter_map (λ p. option_and_then g.F.PointForm.form_of (point_in p.1 p.0)) (zip l.fn.readings l.fn.places);
  left : MayAllBeLaidOut (iter_rest (zip_first l.reading-iterator));
  unnamed : MayAllBeScoped l.fn.scoped (iter_rest (zip_first l.reading-iterator));
}
