-- The scopes of the families of a page are those of the page.
use Rattle.std.proofs.Common.{◌≡◌, List, Option, ap}
use Rattle.page_model.specs.declared.page.Reading.{Reading}
use Rattle.page_model.specs.declared.page.Family.{Family}
use Rattle.page_model.specs.declared.page.Page.{Page}
use Rattle.start_times.specs.declared.row.Placed.{Placed}
use Rattle.family_metrics.specs.declared.markers.Marker.{Marker}
use Rattle.family_metrics.specs.PlacedMarkers.{families_page}
use Rattle.scope_metrics.specs.PageScopes.{series_scopes}

pub page_scopes_are : (place : Reading → Option Placed) (ms : List Marker) (page : Page) (fs : List Family) → fs ≡ page.families → series_scopes place ms (families_page fs) ≡ series_scopes place ms page
unfolding series_scopes
page_scopes_are place ms page fs same = ap (λ l. series_scopes place ms (families_page l)) same
