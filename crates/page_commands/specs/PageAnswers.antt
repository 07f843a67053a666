-- What the commands that read a page answer. The bridge's own.
use Rattle.std.specs.Prelude.{ℕ, ◌<◌, ◌≤◌, List, length}
use Rattle.page_model.specs.declared.format.Format.{Format}
use Rattle.page_model.specs.declared.format.Treatment.TheVariants.{Scraped}
use Rattle.page_model.specs.declared.page.Page.{Page}
use Rattle.page_model.specs.declared.rule.Rule.{Rule}
use Rattle.page_model.specs.Written.{Setting}
use Rattle.page_model.specs.Pages.{FirstFault, IsPageOf}
use Rattle.program_words.specs.declared.status.Status.TheVariants.{Done, Refused, TooLong}
use Rattle.program_words.specs.Limits.{most_page, most_samples}
use Rattle.program_words.specs.Statuses.{code_of}
use Rattle.program_words.specs.Stops.{refused_text, too_long_text}

-- how pages of a format are read: as a target wrote them, with at most 200,000 samples
abbrev pub page_setting : Format → Setting
page_setting f = record { format = f; treatment = Scraped; limit = most_samples }

-- the bytes on the input are this page
pub record IsPageInput (st : Setting) (page : Page) (bytes : List ℕ) : Type 0 where
  pub short : length bytes ≤ most_page
  pub is : IsPageOf st bytes page

-- the bytes on the input are a page with this fault
pub record IsFaultyInput (st : Setting) (line : ℕ) (rule : Rule) (bytes : List ℕ) : Type 0 where
  pub short : length bytes ≤ most_page
  pub has : FirstFault st bytes (line, rule)

-- what a command that prints a text of a page answers to the bytes on the input: a status and a text
pub data IsPageAnswer (st : Setting) (text_of : Page → List ℕ) (bytes : List ℕ) : ℕ → List ℕ → Type 0 where
  page_done : (page : Page) → IsPageInput st page bytes → IsPageAnswer st text_of bytes (code_of Done) (text_of page)
  page_refused : (line : ℕ) (rule : Rule) → IsFaultyInput st line rule bytes → IsPageAnswer st text_of bytes (code_of Refused) (refused_text line rule)
  page_too_long : most_page < length bytes → IsPageAnswer st text_of bytes (code_of TooLong) too_long_text
