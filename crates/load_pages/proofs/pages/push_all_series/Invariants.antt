use Rattle.std.proofs.Common.{◌≡◌, ◌-◌, ◌≤◌, ◌++◌}
use Rattle.load_pages.specs.GeneratedPages.{series_texts, most_series}
use Rattle.load_pages.proofs.pages.push_all_series.Given as goal

-- the lines of the series so far
abbrev pub invariant-loop-series : goal.invariant-loop-series
invariant-loop-series l = (l.series ≤ most_series) × (l.text.items ≡ l.initial.text.items ++ series_texts l.number l.target l.round l.series)

abbrev pub decreases-loop-series : goal.decreases-loop-series
decreases-loop-series l = most_series - l.series
