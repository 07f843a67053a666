-- A page that is fed while it is read. The bridge's own.
use Rattle.std.specs.Prelude.{◌≡◌, ℕ, ◌+◌, ◌^◌, ◌<◌, ◌≤◌, ◌-◌, List, length, Option, ⊤}
use Rattle.page_model.specs.declared.fault.PageFault.TheVariants as faults
use Rattle.page_model.specs.declared.format.Format.{Format}
use Rattle.page_model.specs.declared.format.Treatment.TheVariants.{Scraped}
use Rattle.page_model.specs.declared.counts.PageCounts.{PageCounts}
use Rattle.page_model.specs.declared.page.Page.{Page}
use Rattle.page_model.specs.Counts.{counts_of}
use Rattle.page_feeding.specs.PageFeeding.{Refuses}
use Rattle.page_reader.specs.AnyReading.{fed_of, StandsIn}
use Rattle.page_commands.specs.declared.pages.FedPage.{FedPage}
use Rattle.page_commands.specs.declared.pages.FedPage.TheVariants.{Reading, Faulty}
use Rattle.program_words.specs.Limits.{most_page, most_samples}
use Rattle.bridge_ports.specs.Inputs.{IsInput, Took}
use Rattle.page_commands.specs.PageAnswers.{page_setting, IsPageInput}

-- a page of this format was fed these bytes: it has no fault yet, or this one however the bytes go on
abbrev pub IsFed : Format → List ℕ → FedPage → Type 0
IsFed f bytes (Reading page) = StandsIn f Scraped most_samples bytes page
IsFed f bytes (Faulty line rule) = Refuses (page_setting f) bytes (faults.Refused line rule)

-- so many bytes more may be fed to a page
abbrev pub HasRoomFor : ℕ → FedPage → Type 0
HasRoomFor count (Reading page) = (fed_of page).lines.fed + count < 2 ^ 32 - 1
HasRoomFor count (Faulty line rule) = ⊤

-- so many bytes of an input were taken and fed to its page
pub record WasFed (f : Format) (left after : Option (List ℕ)) (taken : ℕ) (page : FedPage) : Type 0 where
  pub took : Took left after taken
  pub few : taken ≤ most_page
  pub fed : IsFed f took.bytes page

-- all the bytes of an input were fed to its page
pub record IsFedWhole (f : Format) (left : Option (List ℕ)) (page : FedPage) : Type 0 where
  pub bytes : List ℕ
  pub on_input : IsInput left bytes
  pub short : length bytes ≤ most_page
  pub fed : IsFed f bytes page

-- the bytes on the input are this page
pub record HoldsPage (f : Format) (left : Option (List ℕ)) (page : Page) : Type 0 where
  pub bytes : List ℕ
  pub on_input : IsInput left bytes
  pub is : IsPageInput (page_setting f) page bytes

-- the bytes on the input are a page of so many families and samples
pub record HoldsCounts (f : Format) (left : Option (List ℕ)) (counts : PageCounts) : Type 0 where
  pub page : Page
  pub holds : HoldsPage f left page
  pub counted : counts ≡ counts_of page
