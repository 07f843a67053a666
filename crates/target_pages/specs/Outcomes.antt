-- What is seen of an event of a target before its tree is made.
-- Prometheus, "Jobs and instances" (up).
use Rattle.std.specs.Prelude.{◌≡◌, ℕ}
use Rattle.label_sets.specs.declared.label_set.LabelSet.{LabelSet}
use Rattle.page_model.specs.declared.page.Page.{Page}
use Rattle.page_model.specs.declared.event.Outcome.{Outcome}
use Rattle.page_model.specs.declared.event.Outcome.TheVariants as outcomes
use Rattle.page_model.specs.Presence.{page_of_outcome}
use Rattle.target_pages.specs.Thinned.{shown_page}
use Rattle.target_pages.specs.Stretches.{without_info, attributes_after}

-- 1 where the scrape gave a page, else 0
abbrev pub up_of : Outcome → ℕ
up_of (outcomes.Page page) = 1
up_of (outcomes.Failed cause) = 0

-- an outcome comes to 1 or 0 for whether its scrape gave a page, to these attributes beside those before, to this page without what describes the
-- target, and to this page as it is shown
pub record IsSeen (before : LabelSet) (outcome : Outcome) (up : ℕ) (resource : LabelSet) (series page : Page) : Type 0 where
  pub up_is : up ≡ up_of outcome
  pub resource_is : resource ≡ attributes_after before outcome
  pub series_is : series ≡ without_info (page_of_outcome outcome)
  pub page_is : page ≡ shown_page (page_of_outcome outcome)
