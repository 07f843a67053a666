-- Pages that can be written and read back: said by some text, and by their form.
-- OpenMetrics 1.0, "Overall Structure", "MetricFamily". The most bytes of a written line are the bridge's own.
use Rattle.std.specs.Prelude.{◌≡◌, ℕ, ◌≤◌, List, [], length, None, All}
use Rattle.page_model.specs.declared.format.Format.TheVariants.{OpenMetrics}
use Rattle.page_model.specs.declared.format.Treatment.TheVariants.{Written}
use Rattle.page_model.specs.declared.item.Item.{Item}
use Rattle.page_model.specs.declared.page.Reading.{Reading}
use Rattle.page_model.specs.declared.page.Family.{Family}
use Rattle.page_model.specs.declared.page.Page.{Page}
use Rattle.page_model.specs.Written.{open_setting, line_limit}
use Rattle.page_model.specs.Pages.{IsPageOf}
use Rattle.open_writing.specs.Writing.{item_text, page_items}
use Rattle.open_writing.specs.FamilyKeys.{AreApart}
use Rattle.open_writing.specs.Forms.{AreFormed}

-- no line that is written for the families has more bytes
abbrev pub HaveShortLines : ℕ → List Family → Type 0
HaveShortLines most families = All (λ (item : Item). length (item_text item) ≤ most) (page_items families)

-- a reading without a page timestamp and without exemplars, which are not written
pub record IsBareReading (r : Reading) : Type 0 where
  pub no_stamp : r.stamp ≡ None
  pub no_exemplars : r.exemplars ≡ []

-- none of the readings has a timestamp or exemplars
abbrev pub AreBare : List Family → Type 0
AreBare families = All (λ (f : Family). All IsBareReading f.readings) families

-- a page in OpenMetrics form: some OpenMetrics text says it, no two families clash, and its written lines are not too long
pub record IsOpenForm (page : Page) : Type 0 where
  pub text : List ℕ
  pub limit : ℕ
  pub said : IsPageOf (open_setting Written limit) text page
  pub bare : AreBare page.families
  pub apart : AreApart page.families
  pub short_lines : HaveShortLines (line_limit Written) page.families

-- families that can be written, by their form alone
pub record AreWritable (families : List Family) : Type 0 where
  pub formed : AreFormed OpenMetrics Written families
  pub bare : AreBare families
  pub apart : AreApart families
  pub short_lines : HaveShortLines (line_limit Written) families
