-- Laws of writing. Each is proved, and a call of the crate stands for it.
-- OpenMetrics 1.0, "Text Format". The statements are the bridge's own.
use Rattle.std.specs.Prelude.{◌≡◌, ℕ, ◌≤◌, ◌+◌, List, length}
use Rattle.page_model.specs.declared.format.Treatment.TheVariants.{Written, Scraped}
use Rattle.page_model.specs.declared.page.Family.{Family}
use Rattle.page_model.specs.declared.page.Page.{Page}
use Rattle.page_model.specs.Written.{Setting, open_setting}
use Rattle.page_model.specs.Pages.{IsPageOf, IsPageRead, AreThinnerFamilies, AreSomeOf}
use Rattle.page_model.specs.Presence.{all_readings}
use Rattle.open_writing.specs.Writing.{written_text, page_with, sample_lines}
use Rattle.open_writing.specs.Forms.{AreFormed}
use Rattle.open_writing.specs.OpenForms.{HaveShortLines, IsOpenForm, AreWritable}

-- what a text says has its form, also with families, readings, timestamps and exemplars taken out
abbrev pub ReadPagesAreFormed : Type 0
ReadPagesAreFormed = (st : Setting) (page : Page) → IsPageRead st page → AreFormed st.format st.treatment page.families

-- a page in OpenMetrics form can be written, by its form alone
abbrev pub OpenFormsAreWritable : Type 0
OpenFormsAreWritable = (page : Page) → IsOpenForm page → AreWritable page.families

-- the text of families that can be written reads back as their page
abbrev pub ReadsBack : Type 0
ReadsBack = (families : List Family) (limit : ℕ) → AreWritable families → sample_lines families ≤ limit
    → IsPageOf (open_setting Written limit) (written_text (page_with families)) (page_with families)

-- so families that can be written make a page in OpenMetrics form
abbrev pub WritablesAreOpenForms : Type 0
WritablesAreOpenForms = (families : List Family) → AreWritable families → IsOpenForm (page_with families)

-- and what is written of a page in OpenMetrics form reads back as its families, with as many samples as were written
abbrev pub OpenFormsReadBack : Type 0
OpenFormsReadBack = (page : Page) (limit : ℕ) → IsOpenForm page → sample_lines page.families ≤ limit
    → IsPageOf (open_setting Written limit) (written_text page) (page_with page.families)

-- families that can be written can be written without some of them, and without some readings of the others
abbrev pub ThinnerAreWritable : Type 0
ThinnerAreWritable = (whole thin : List Family) → AreWritable whole → AreThinnerFamilies whole thin → AreWritable thin

-- so without some of the families
abbrev pub FewerAreWritable : Type 0
FewerAreWritable = (whole fewer : List Family) → AreWritable whole → AreSomeOf (λ f g. g ≡ f) whole fewer → AreWritable fewer

-- a page that was read has at most twice as many written sample lines as it was read from
abbrev pub WritesFewLines : Type 0
WritesFewLines = (st : Setting) (page : Page) → IsPageRead st page → sample_lines page.families ≤ page.samples + page.samples

-- and at most as many readings
abbrev pub ReadsFewReadings : Type 0
ReadsFewReadings = (st : Setting) (page : Page) → IsPageRead st page → length (all_readings page) ≤ page.samples

-- the most bytes of a line that is written of a page of a target: twice those of its own lines, and 2,048 more
abbrev pub most_scraped_line : ℕ
most_scraped_line = 133120

-- each line that is written of a page of a target has so many bytes at most
abbrev pub WritesShortLines : Type 0
WritesShortLines = (st : Setting) (page : Page) → st.treatment ≡ Scraped → IsPageRead st page → HaveShortLines most_scraped_line page.families
