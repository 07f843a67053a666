-- What a page has, as its contracts see it.
-- OpenMetrics 1.0, "Data Model" (MetricSet).
use Rattle.std.specs.Prelude.{ℕ, List}
use Rattle.page_model.specs.declared.page.Family.{Family}

-- a page: its families in the order of their first lines, and how many sample lines it has
pub record PageValue : Type 0 where
  pub families : List Family
  pub samples : ℕ
