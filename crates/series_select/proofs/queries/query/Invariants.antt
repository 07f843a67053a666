use Rattle.form_urlencoded.specs.Parse.{pairs_left}
use Rattle.series_select.specs.Selectors.{match_values, selector_texts}
use Rattle.series_select.specs.QuerySteps.{AreReadTo}
use Rattle.series_select.proofs.queries.query.Given as goal

-- the selectors so far are those of the values so far
abbrev pub invariant-loop-pair : goal.invariant-loop-pair
invariant-loop-pair l = AreReadTo (match_values l.text) (selector_texts (pairs_left l.pair-iterator)) l.selectors.items
