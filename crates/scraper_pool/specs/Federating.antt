-- What is told of a page that was made of what a table under a lock shows: that it is of some table of the run.
-- Prometheus, "Federation"; what a lock lets a contract say is the bridge's own.
use Rattle.std.specs.Prelude.{◌≡◌, ℕ, List}
use Rattle.page_model.specs.declared.event.Shown.{Shown}
use Rattle.page_model.specs.declared.page.Page.{Page}
use Rattle.open_writing.specs.OpenForms.{IsOpenForm}
use Rattle.series_select.specs.declared.selector.Selector.{Selector}
use Rattle.series_select.specs.Selection.{selected_text}
use Rattle.series_table.specs.Talking.{Talking}
use Rattle.federation_page.specs.Gathering.{AreShowable, federated_page}
use Rattle.target_table.specs.Runs.{Run}
use Rattle.target_table.specs.Tables.{Held, IsTable}

-- readers of some table of the run see this of its targets, in order; it may be gathered
pub record AreSeen (w : Talking) (run : Run) (shown : List Shown) : Type 0 where
  pub held : Held
  pub table : IsTable w run held
  pub seen : shown ≡ held.seen
  pub showable : AreShowable shown

-- the federation page of what such readers see, which is in OpenMetrics form
pub record IsSeenPage (w : Talking) (run : Run) (page : Page) : Type 0 where
  pub shown : List Shown
  pub seen : AreSeen w run shown
  pub page_is : page ≡ federated_page shown
  pub form : IsOpenForm page

-- the text of such a page with the readings that these selectors match
pub record IsSelectedPage (w : Talking) (run : Run) (list : List Selector) (text : List ℕ) : Type 0 where
  pub page : Page
  pub seen : IsSeenPage w run page
  pub text_is : text ≡ selected_text list page
