-- Laws of gathering. A call of the crate stands for each that is proved.
-- The bridge's own.
use Rattle.std.specs.Prelude.{◌≡◌, ℕ, ◌<◌, ◌≤◌, ◌^◌, List, map}
use Rattle.page_model.specs.declared.format.Treatment.TheVariants.{Written}
use Rattle.page_model.specs.declared.event.Shown.{Shown}
use Rattle.page_model.specs.Written.{open_setting}
use Rattle.page_model.specs.Pages.{IsPageOf}
use Rattle.page_model.specs.Presence.{filled_page}
use Rattle.open_writing.specs.Writing.{sample_lines, written_text}
use Rattle.open_writing.specs.FamilyKeys.{AreApart}
use Rattle.open_writing.specs.OpenForms.{IsOpenForm, AreWritable}
use Rattle.federation_page.specs.Gathering.{AreShowable, federated_page}

-- no two families of the page clash, whatever is shown
abbrev pub GatheredAreApart : Type 0
GatheredAreApart = (shown : List Shown) → AreApart (federated_page shown).families

-- what is gathered has at most twice as many sample lines as the pages have samples, so that 32 bits count them
abbrev pub GatheredAreFew : Type 0
GatheredAreFew = (shown : List Shown) → AreShowable shown → sample_lines (federated_page shown).families < 2 ^ 32

-- what is gathered can be written
abbrev pub GatheredAreWritable : Type 0
GatheredAreWritable = (shown : List Shown) → AreShowable shown → AreWritable (federated_page shown).families

-- so some text of OpenMetrics says the gathered page
abbrev pub GatheredAreOpenForms : Type 0
GatheredAreOpenForms = (shown : List Shown) → AreShowable shown → IsOpenForm (federated_page shown)

-- and its own text reads back as the page
abbrev pub GatheredReadBack : Type 0
GatheredReadBack = (shown : List Shown) (limit : ℕ) → AreShowable shown → sample_lines (federated_page shown).families ≤ limit
    → IsPageOf (open_setting Written limit) (written_text (federated_page shown)) (federated_page shown)

-- the same, and of its page the families that have readings
abbrev pub with_filled_page : Shown → Shown
with_filled_page s = record { job = s.job; instance = s.instance; moment = s.moment; page = filled_page s.page }

-- families that have no reading are nothing on the page, so it is the same where they are not shown
abbrev pub FilledGatherTheSame : Type 0
FilledGatherTheSame = (shown : List Shown) → federated_page (map with_filled_page shown) ≡ federated_page shown
