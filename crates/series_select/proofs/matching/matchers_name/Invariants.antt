use Rattle.std.proofs.Common.{◌≡◌, drop}
use Rattle.std.specs.List.{list_all}
use Rattle.series_select.specs.SelectionSteps.{name_holds}
use Rattle.series_select.proofs.matching.matchers_name.Given as goal

-- the matchers passed hold
abbrev pub invariant-loop-matcher : goal.invariant-loop-matcher
invariant-loop-matcher l = list_all (name_holds l.family) l.matchers ≡ list_all (name_holds l.family) (drop l.matcher-index l.matchers)
