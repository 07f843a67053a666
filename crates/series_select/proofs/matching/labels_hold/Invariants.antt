use Rattle.std.proofs.Common.{◌≡◌, drop}
use Rattle.std.specs.List.{list_all}
use Rattle.series_select.specs.SelectionSteps.{label_holds}
use Rattle.series_select.proofs.matching.labels_hold.Given as goal

-- the matchers passed hold
abbrev pub invariant-loop-matcher : goal.invariant-loop-matcher
invariant-loop-matcher l = list_all (label_holds l.reading) l.matchers ≡ list_all (label_holds l.reading) (drop l.matcher-index l.matchers)
