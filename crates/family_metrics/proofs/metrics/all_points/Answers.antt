use Rattle.std.proofs.Common.{option_and_then, sym, ◌∙◌}
use Rattle.std.specs.List.{zip}
use Rattle.std.proofs.lemmas.List.Elements.{All-rest}
use Rattle.std.proofs.lemmas.Slice.Zip.{Zip-more, either_empty_from_Zip}
use Rattle.page_model.specs.declared.page.Reading.{Reading}
use Rattle.family_metrics.specs.Points.{point_in, MayBeLaidOut, MayBeScoped}
use Rattle.family_metrics.proofs.Placing.{pair_placed, pair_passed, pairs_end, filter_map-filter_map}
use Rattle.family_metrics.proofs.metrics.all_points.Goals as goal

pub loop-reading-preserved-in-Continue-branch-4 : goal.loop-reading-preserved-in-Continue-branch-4
loop-reading-preserved-in-Continue-branch-4 g c =
    let more = Zip-more c.loop-reading.reading-iterator c.next.new.self _ _ c.in-Some.is c.next.ensures.steps in
    record {
      points = pair_placed (λ p. option_and_then g.F.PointForm.form_of (point_in p.1 p.0)) c.loop-reading.points.items _ _ _ _ _ _ _ _ c.in-Some-2.point c.in_ok-push.ensures.items more.0 more.1
          (sym c.in_ok-point.ensures ∙ c.in-Some-2.is) c.loop-reading.invariant.points;
      left = All-rest (λ (r : Reading). MayBeLaidOut r.value) _ _ _ more.0 c.loop-reading.invariant.left;
      unnamed = All-rest (λ (r : Reading). MayBeScoped c.args.scoped r.key.labels) _ _ _ more.0 c.loop-reading.invariant.unnamed;
    }

pub loop-reading-preserved : goal.loop-reading-preserved
loop-reading-preserved g c =
    let more = Zip-more c.loop-reading.reading-iterator c.next.new.self _ _ c.in-Some.is c.next.ensures.steps in
    record {
      points = pair_passed (λ p. option_and_then g.F.PointForm.form_of (point_in p.1 p.0)) c.loop-reading.points.items _ _ _ _ _ _ _ more.0 more.1 (sym c.in_ok-point.ensures ∙ c.in_default.is)
          c.loop-reading.invariant.points;
      left = All-rest (λ (r : Reading). MayBeLaidOut r.value) _ _ _ more.0 c.loop-reading.invariant.left;
      unnamed = All-rest (λ (r : Reading). MayBeScoped c.args.scoped r.key.labels) _ _ _ more.0 c.loop-reading.invariant.unnamed;
    }

pub returns : goal.returns
returns g c =
    let spent = either_empty_from_Zip c.loop-reading.reading-iterator c.next.new.self _ c.in-None.is c.next.ensures.steps in
    pairs_end (λ p. option_and_then g.F.PointForm.form_of (point_in p.1 p.0)) c.loop-reading.points.items _ _ _ spent c.loop-reading.invariant.points
    ∙ sym (filter_map-filter_map g.F.PointForm.form_of (λ p. point_in p.1 p.0) (zip c.args.readings.now c.args.places.now))
