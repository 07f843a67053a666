use Rattle.std.proofs.Common.{◌∙◌}
use Rattle.form_urlencoded.specs.Parse.{pairs_left}
use Rattle.series_select.specs.Selectors.{match_values}
use Rattle.series_select.proofs.ReadTexts.{pair_read, pair_stops}
use Rattle.series_select.proofs.queries.query.Goals as goal

pub returns-in-Err-take_pair-clause-other : goal.returns-in-Err-take_pair-clause-other
returns-in-Err-take_pair-clause-other c =
    let step = c.in-Some.ensures.steps.0 in
    let decoded = rw c.in-Ok.is at step.3 in
    pair_stops (match_values c.args.text.now) step.0 step.1 (pairs_left c.loop-pair.pair-iterator) (pairs_left c.next.new.self) c.loop-pair.selectors.items step.2 c.as_str.result.now c.as_str-in-loop-pair.result.now
    (c.as_str.ensures.value ∙ decoded.0.2) (c.as_str-in-loop-pair.ensures.value ∙ decoded.1.2) c.loop-pair.invariant c.in-Err-take_pair.fault c.in-Err-take_pair.ensures.other

pub loop-pair-preserved-in-Ok-take_pair : goal.loop-pair-preserved-in-Ok-take_pair
loop-pair-preserved-in-Ok-take_pair c =
    let step = c.in-Some.ensures.steps.0 in
    let decoded = rw c.in-Ok.is at step.3 in
    pair_read (match_values c.args.text.now) step.0 step.1 (pairs_left c.loop-pair.pair-iterator) (pairs_left c.next.new.self) c.loop-pair.selectors.items step.2 c.as_str.result.now c.as_str-in-loop-pair.result.now
    (c.as_str.ensures.value ∙ decoded.0.2) (c.as_str-in-loop-pair.ensures.value ∙ decoded.1.2) c.loop-pair.invariant c.take_pair.new.selectors.items c.in-Ok-take_pair.ensures.ok

pub loop-pair-preserved : goal.loop-pair-preserved
loop-pair-preserved c =
    let step = c.in-Some.ensures.steps.0 in
    let decoded = rw c.in-Ok.is at step.3 in
    pair_read (match_values c.args.text.now) step.0 step.1 (pairs_left c.loop-pair.pair-iterator) (pairs_left c.next.new.self) c.loop-pair.selectors.items step.2 c.as_str.result.now c.as_str-in-loop-pair.result.now
    (c.as_str.ensures.value ∙ decoded.0.2) (c.as_str-in-loop-pair.ensures.value ∙ decoded.1.2) c.loop-pair.invariant c.take_pair.new.selectors.items c.in-Ok-take_pair.ensures.ok
