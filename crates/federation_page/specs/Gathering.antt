-- The federation page of what all targets show.
-- Prometheus, "Federation"; OpenMetrics 1.0, "MetricFamily". The rules of conflict are the bridge's own.
use Rattle.std.specs.Prelude.{ℕ, ◌≤◌, Bool, ◌&&◌, List, length, All, IsTrue}
use Rattle.std.specs.List.{flat_map, IsDistinct}
use Rattle.std.specs.Str.{bytes_eq, is_utf8}
use Rattle.page_model.specs.declared.page.Family.{Family}
use Rattle.page_model.specs.declared.page.Page.{Page}
use Rattle.page_model.specs.declared.event.Shown.{Shown}
use Rattle.page_model.specs.Pages.{IsScrapedPage}
use Rattle.open_writing.specs.FamilyKeys.{family_key}
use Rattle.open_writing.specs.Writing.{page_with}
use Rattle.federation_page.specs.Candidates.{candidates_of}
use Rattle.federation_page.specs.Conflicts.{gathered_by}

-- a family with the readings of all these
abbrev pub with_readings_of : Family → List Family → Family
with_readings_of f fs = record f { readings = flat_map (λ (g : Family). g.readings) fs }

-- the families of the page of these candidates
unfoldable pub gathered_families : List Family → List Family
gathered_families candidates = gathered_by family_key with_readings_of candidates

-- the federation page of what is shown, targets in order
unfoldable pub federated_page : List Shown → Page
federated_page shown = page_with (gathered_families (flat_map candidates_of shown))

-- ---- what may be gathered

-- both are of one job and instance
abbrev pub is_one_target : Shown → Shown → Bool
is_one_target a b = bytes_eq a.job b.job && bytes_eq a.instance b.instance

-- a text that isn't empty, of at most so many bytes
pub record IsTargetName (most : ℕ) (name : List ℕ) : Type 0 where
  pub text : IsTrue (is_utf8 name)
  pub some : 1 ≤ length name
  pub short : length name ≤ most

-- what a target may show: its names are texts of their lengths, and its page is a scraped one of at most 200,000 samples
pub record IsShowable (s : Shown) : Type 0 where
  pub job : IsTargetName 256 s.job
  pub instance : IsTargetName 262 s.instance
  pub page : IsScrapedPage s.page
  pub samples : s.page.samples ≤ 200000

-- what may be gathered: at most 256 targets, no two of one job and instance
pub record AreShowable (shown : List Shown) : Type 0 where
  pub few : length shown ≤ 256
  pub distinct : IsDistinct is_one_target shown
  pub each : All IsShowable shown
