-- Laws of the definitions. Each is proved, and a call of the crate stands for it.
-- The bridge's own.
use Rattle.std.specs.Prelude.{◌≡◌, ◌≢◌, ◌↔◌, ℕ, Bool, List, [], ◌++◌, map, reverse, true, Some, None}
use Rattle.std.specs.List.{IsDistinct}
use Rattle.label_sets.specs.Keys.{key_eq}
use Rattle.page_lines.specs.Lines.{lines_of}
use Rattle.page_model.specs.declared.format.Format.{Format}
use Rattle.page_model.specs.declared.format.Treatment.{Treatment}
use Rattle.page_model.specs.declared.item.Item.{Item}
use Rattle.page_model.specs.PageValues.{PageValue}
use Rattle.page_model.specs.Written.{Written, Setting, text_setting}
use Rattle.page_model.specs.Owners.{kind_of, owned_lines, samples_of}
use Rattle.page_model.specs.Faults.{Line, Fault, end_fault, lines_fault, fault_of, IsLeastFault}
use Rattle.page_model.specs.Readings.{page_of}
use Rattle.page_model.specs.Pages.{Spells, FirstFault, IsPageOf, AreItemsOfLines, AreFaultless, IsPageRead, IsRightPage}
use Rattle.page_model.specs.PageReading.{written_of, line_read, text_fault, text_page}
use Rattle.page_model.specs.Presence.{empty_page, all_readings, keys_of, filled_page}

-- a line spells at most one item
abbrev pub SpellsOnce : Type 0
SpellsOnce = (f : Format) (line : List ℕ) (v w : Written) → Spells f line v → Spells f line w → v ≡ w

-- the plain reader of one line gives what the line spells, and nothing else
abbrev pub ReadsLines : Type 0
ReadsLines = (f : Format) (line : List ℕ) (w : Written) → (written_of f line ≡ Some w) ↔ Spells f line w

-- a text has the fault that the plain readers find, and no other
abbrev pub ReadsFaults : Type 0
ReadsFaults = (st : Setting) (bytes : List ℕ) (fault : Fault) → FirstFault st bytes fault ↔ (text_fault st bytes ≡ Some fault)

-- a text says the page that the plain readers find, where they find no fault, and no other
abbrev pub ReadsPages : Type 0
ReadsPages = (st : Setting) (bytes : List ℕ) (page : PageValue) → IsPageOf st bytes page ↔ ((text_fault st bytes ≡ None) × (page ≡ text_page st bytes))

-- a text has at most one fault
abbrev pub FaultOnce : Type 0
FaultOnce = (st : Setting) (bytes : List ℕ) (e f : Fault) → FirstFault st bytes e → FirstFault st bytes f → e ≡ f

-- a text has at most one page
abbrev pub PageOnce : Type 0
PageOnce = (st : Setting) (bytes : List ℕ) (a b : PageValue) → IsPageOf st bytes a → IsPageOf st bytes b → a ≡ b

-- a text with a fault has no page
abbrev pub NeverBoth : Type 0
NeverBoth = (st : Setting) (bytes : List ℕ) (fault : Fault) (page : PageValue) → FirstFault st bytes fault → ¬ IsPageOf st bytes page

-- the fault of the first lines is that of the page, however it goes on
abbrev pub FaultStays : Type 0
FaultStays = (st : Setting) (ls ms : List Line) (clean : Bool) (fault : Fault) → lines_fault st [] 1 ls ≡ Some fault → fault_of st (ls ++ ms) clean ≡ Some fault

-- a fault of a text's first lines, as they are read, is its fault, whatever follows them
abbrev pub FrontFault : Type 0
FrontFault = (st : Setting) (bytes : List ℕ) (pieces others : List (List ℕ)) (fault : Fault) → lines_of bytes ≡ pieces ++ others
    → lines_fault st [] 1 (map (line_read st.format) pieces) ≡ Some fault → FirstFault st bytes fault

-- the fault of a page's lines is the least line that breaks a rule, with the least rule that it breaks
abbrev pub FaultIsLeast : Type 0
FaultIsLeast = (st : Setting) (ls : List Line) (clean : Bool) (fault : Fault) → (fault_of st ls clean ≡ Some fault) ↔ IsLeastFault st ls clean fault

-- the keys of a page's readings are distinct
abbrev pub DistinctKeys : Type 0
DistinctKeys = (page : PageValue) → IsRightPage page → IsDistinct key_eq (keys_of page)

-- the page of a text is right, and that of a target's text is scraped
abbrev pub TextsAreRight : Type 0
TextsAreRight = (st : Setting) (bytes : List ℕ) (page : PageValue) → IsPageOf st bytes page → IsPageRead st page

-- items of lines without a fault are those of some text, which then says their page
abbrev pub ItemsMakeTexts : Type 0
ItemsMakeTexts = (st : Setting) (items : List Item) → AreItemsOfLines st items → AreFaultless st items → end_fault st items true ≡ None → IsPageRead st (page_of st items)

-- behind a sample of a family its kind is what it was there
abbrev pub KindStays : Type 0
KindStays = (st : Setting) (later earlier : List Item) (family : List ℕ) → AreFaultless st (later ++ earlier) → samples_of (owned_lines st.format earlier) family ≢ []
    → kind_of (owned_lines st.format (later ++ earlier)) family ≡ kind_of (owned_lines st.format earlier) family

-- a family's kind is the same from the first line on and from the last
abbrev pub KindOfPage : Type 0
KindOfPage = (st : Setting) (items : List Item) (family : List ℕ) → AreFaultless st items
    → kind_of (reverse (owned_lines st.format items)) family ≡ kind_of (owned_lines st.format items) family

-- the page without families is right under either treatment
abbrev pub NothingIsRight : Type 0
NothingIsRight = (treatment : Treatment) (limit : ℕ) → IsPageRead (text_setting treatment limit) empty_page

-- a page that was read is still one without the families that have no reading
abbrev pub FilledAreRead : Type 0
FilledAreRead = (st : Setting) (page : PageValue) → IsPageRead st page → IsPageRead st (filled_page page)

-- and its readings are the same
abbrev pub FilledLoseNothing : Type 0
FilledLoseNothing = (page : PageValue) → all_readings (filled_page page) ≡ all_readings page
