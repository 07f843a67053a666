-- Pages as a whole: the first fault of a text, or the page that it says.
-- Prometheus text format 0.0.4, "Text-based format"; OpenMetrics 1.0, "Text Format", "Overall Structure".
use Rattle.std.specs.Prelude.{◌≡◌, ℕ, ◌⊎◌, List, [], ◌∷◌, Option, Some, None, ⊤}
use Rattle.std.specs.List.{fold}
use Rattle.page_lines.specs.Lines.{lines_of, ends_clean, Plain}
use Rattle.page_model.specs.declared.format.Format.{Format}
use Rattle.page_model.specs.declared.format.Format.TheVariants.{Text, OpenMetrics}
use Rattle.page_model.specs.declared.format.Treatment.TheVariants.{Scraped}
use Rattle.page_model.specs.declared.item.Item.{Item}
use Rattle.page_model.specs.declared.page.Reading.{Reading}
use Rattle.page_model.specs.declared.page.Family.{Family}
use Rattle.page_model.specs.PageValues.{PageValue}
use Rattle.page_model.specs.Written.{Written, Setting, item_of}
use Rattle.page_model.specs.TextItems.{SpellsText}
use Rattle.page_model.specs.OpenItems.{SpellsOpen}
use Rattle.page_model.specs.Faults.{Line, Fault, own_fault, item_fault, fault_of, with_line}
use Rattle.page_model.specs.Readings.{page_of}

-- ---- the lines of a text

-- what a line of the format spells
abbrev pub Spells : Format → List ℕ → Written → Type 0
Spells Text line w = SpellsText line w
Spells OpenMetrics line w = SpellsOpen line w

-- what a line says is what it spells, and it says nothing only where it spells nothing
abbrev pub SaysWhatItSpells : Format → List ℕ → Option Written → Type 0
SaysWhatItSpells f bytes (Some w) = Spells f bytes w
SaysWhatItSpells f bytes None = (w : Written) → ¬ Spells f bytes w

-- these are the lines with what each of them spells
abbrev pub AreLines : Format → List (List ℕ) → List Line → Type 0
AreLines f [] [] = ⊤
AreLines f [] (l ∷ ls) = ⊥
AreLines f (bytes ∷ pieces) [] = ⊥
AreLines f (bytes ∷ pieces) (l ∷ ls) = (l.bytes ≡ bytes) × SaysWhatItSpells f bytes l.says × AreLines f pieces ls

-- the items of lines, the last first
abbrev pub items_of : Format → List Line → List Item
items_of f ls = fold (λ earlier l. with_line f l earlier) [] ls

-- an item that some line spells which breaks no rule of a line alone
pub record IsItemOfLine (st : Setting) (item : Item) : Type 0 where
  pub line : List ℕ
  pub written : Written
  pub one_line : Plain line
  pub spelled : Spells st.format line written
  pub without_fault : own_fault st (record { bytes = line; says = Some written }) ≡ None
  pub item_is : item ≡ item_of st.format written

-- each of the items is of such a line
abbrev pub AreItemsOfLines : Setting → List Item → Type 0
AreItemsOfLines st [] = ⊤
AreItemsOfLines st (item ∷ earlier) = IsItemOfLine st item × AreItemsOfLines st earlier

-- none of the items, the last first, breaks a rule under those above it
abbrev pub AreFaultless : Setting → List Item → Type 0
AreFaultless st [] = ⊤
AreFaultless st (item ∷ earlier) = (item_fault st earlier item ≡ None) × AreFaultless st earlier

-- ---- a text's fault or page

-- the text has this fault
pub record FirstFault (st : Setting) (bytes : List ℕ) (fault : Fault) : Type 0 where
  pub lines : List Line
  pub are_lines : AreLines st.format (lines_of bytes) lines
  pub has_fault : fault_of st lines (ends_clean bytes) ≡ Some fault

-- the text has no fault and says this page
pub record IsPageOf (st : Setting) (bytes : List ℕ) (page : PageValue) : Type 0 where
  pub lines : List Line
  pub are_lines : AreLines st.format (lines_of bytes) lines
  pub without_fault : fault_of st lines (ends_clean bytes) ≡ None
  pub page_is : page ≡ page_of st (items_of st.format lines)

-- ---- right pages

-- the second list is what is left of the first once some elements are taken out, each as the relation says
abbrev pub AreSomeOf : {A : Type 0} → (A → A → Type 0) → List A → List A → Type 0
AreSomeOf IsLeft [] [] = ⊤
AreSomeOf IsLeft [] (y ∷ ys) = ⊥
AreSomeOf IsLeft (x ∷ xs) [] = AreSomeOf IsLeft xs []
AreSomeOf IsLeft (x ∷ xs) (y ∷ ys) = (IsLeft x y × AreSomeOf IsLeft xs ys) ⊎ AreSomeOf IsLeft xs (y ∷ ys)

-- the same reading, perhaps without its stamp or some exemplars
pub record IsThinnerReading (whole thin : Reading) : Type 0 where
  pub key : thin.key ≡ whole.key
  pub value : thin.value ≡ whole.value
  pub created : thin.created ≡ whole.created
  pub stamp : (thin.stamp ≡ whole.stamp) ⊎ (thin.stamp ≡ None)
  pub exemplars : AreSomeOf (λ a b. b ≡ a) whole.exemplars thin.exemplars

-- the same family, perhaps without some readings, stamps or exemplars
pub record IsThinnerFamily (whole thin : Family) : Type 0 where
  pub name : thin.name ≡ whole.name
  pub kind : thin.kind ≡ whole.kind
  pub help : thin.help ≡ whole.help
  pub unit : thin.unit ≡ whole.unit
  pub readings : AreSomeOf IsThinnerReading whole.readings thin.readings

-- the same families in order, perhaps without some, each perhaps thinner
abbrev pub AreThinnerFamilies : List Family → List Family → Type 0
AreThinnerFamilies whole thin = AreSomeOf IsThinnerFamily whole thin

-- a page of some text read in this way, or such a page with families, readings, stamps or exemplars taken out
pub record IsPageRead (st : Setting) (page : PageValue) : Type 0 where
  pub text : List ℕ
  pub whole : PageValue
  pub read : IsPageOf st text whole
  pub families : AreThinnerFamilies whole.families page.families
  pub samples : page.samples ≡ whole.samples

-- a right page: one of some text, in some format and under some treatment and limit
abbrev pub IsRightPage : PageValue → Type 0
IsRightPage page = (st : Setting) × IsPageRead st page

-- a right page of a target's text
abbrev pub IsScrapedPage : PageValue → Type 0
IsScrapedPage page = (st : Setting) × (st.treatment ≡ Scraped) × IsPageRead st page
