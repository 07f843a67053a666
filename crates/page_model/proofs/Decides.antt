-- The plain readers decide what a line spells, and so which fault or page a text has.
use Rattle.std.proofs.Common.{◌≡◌, ℕ, List, [], ◌∷◌, ◌++◌, map, Option, Some, None, refl, sym, ap, ◌∙◌, ◌↔◌}
use Rattle.std.proofs.lemmas.Option.{none-some, same_Some}
use Rattle.std.proofs.lemmas.List.{map-append}
use Rattle.page_lines.specs.Lines.{lines_of, ends_clean}
use Rattle.page_model.specs.declared.format.Format.{Format}
use Rattle.page_model.specs.declared.format.Format.TheVariants.{Text, OpenMetrics}
use Rattle.page_model.specs.PageValues.{PageValue}
use Rattle.page_model.specs.Written.{Written, Setting}
use Rattle.page_model.specs.Faults.{Line, Fault, lines_fault, fault_of}
use Rattle.page_model.specs.Readings.{page_of}
use Rattle.page_model.specs.Pages.{Spells, SaysWhatItSpells, AreLines, items_of, FirstFault, IsPageOf}
use Rattle.page_model.specs.PageReading.{written_of, line_read, lines_read, text_fault, text_page}
use Rattle.page_model.proofs.Prefixes.{fault_stays}
use Rattle.page_model.proofs.TextSound.{text_line_sound}
use Rattle.page_model.proofs.TextComplete.{text_line_complete}
use Rattle.page_model.proofs.OpenSound.{open_line_sound}
use Rattle.page_model.proofs.OpenComplete.{open_line_complete}

-- ---- one line

-- what is read of a line is what it spells
pub written_sound : (f : Format) (line : List ℕ) (w : Written) → written_of f line ≡ Some w → Spells f line w
written_sound Text line w e = text_line_sound line w e
written_sound OpenMetrics line w e = open_line_sound line w e

-- what a line spells is read
pub written_complete : (f : Format) (line : List ℕ) (w : Written) → Spells f line w → written_of f line ≡ Some w
written_complete Text line w s = text_line_complete line w s
written_complete OpenMetrics line w s = open_line_complete line w s

-- a line spells at most one item
pub spells_once : (f : Format) (line : List ℕ) (v w : Written) → Spells f line v → Spells f line w → v ≡ w
spells_once f line v w p q = same_Some v w (sym (written_complete f line v p) ∙ written_complete f line w q)

-- a line says what is read of it
pub says_read : (f : Format) (line : List ℕ) (says : Option Written) → SaysWhatItSpells f line says → written_of f line ≡ says
says_read f line (Some w) s = written_complete f line w s
says_read f line None s = go (written_of f line) refl
  where
    go : (o : Option Written) → written_of f line ≡ o → written_of f line ≡ None
    go None e = e
    go (Some w) e = absurd (s w (written_sound f line w e))

-- what is read of a line is what it says
pub read_says : (f : Format) (line : List ℕ) (says : Option Written) → written_of f line ≡ says → SaysWhatItSpells f line says
read_says f line (Some w) e = written_sound f line w e
read_says f line None e = λ w s. none-some w (sym e ∙ written_complete f line w s)

-- ---- the lines of a text

-- the lines as they are read are the lines
pub lines_are_read : (f : Format) (pieces : List (List ℕ)) → AreLines f pieces (map (line_read f) pieces)
lines_are_read f [] = tt
lines_are_read f (bytes ∷ pieces) = (refl, read_says f bytes (written_of f bytes) refl, lines_are_read f pieces)

-- there are no other lines
pub read_lines_are : (f : Format) (pieces : List (List ℕ)) (ls : List Line) → AreLines f pieces ls → ls ≡ map (line_read f) pieces
read_lines_are f [] [] a = refl
read_lines_are f [] (l ∷ ls) a = absurd a
read_lines_are f (bytes ∷ pieces) [] a = absurd a
read_lines_are f (bytes ∷ pieces) (l ∷ ls) a =
    let says : l.says ≡ written_of f bytes = sym (says_read f bytes l.says a.1) in
    let rest = read_lines_are f pieces ls a.2 in
    λ i. record { bytes = a.0 i; says = says i } ∷ rest i

-- ---- a text

-- a text has the fault that is read, and no other
pub first_fault_read : (st : Setting) (bytes : List ℕ) (fault : Fault) → FirstFault st bytes fault ↔ (text_fault st bytes ≡ Some fault)
unfolding text_fault
first_fault_read st bytes fault = (
  λ h. ap (λ ls. fault_of st ls (ends_clean bytes)) (sym (read_lines_are st.format (lines_of bytes) h.lines h.are_lines)) ∙ h.has_fault,
  λ e. record { lines = lines_read st.format bytes; are_lines = lines_are_read st.format (lines_of bytes); has_fault = e },
)

-- a text says the page that is read, where no fault is, and no other
pub page_is_read : (st : Setting) (bytes : List ℕ) (page : PageValue) → IsPageOf st bytes page ↔ ((text_fault st bytes ≡ None) × (page ≡ text_page st bytes))
unfolding text_fault text_page
page_is_read st bytes page = (
  λ h.
      let same = read_lines_are st.format (lines_of bytes) h.lines h.are_lines in
      (ap (λ ls. fault_of st ls (ends_clean bytes)) (sym same) ∙ h.without_fault, h.page_is ∙ ap (λ ls. page_of st (items_of st.format ls)) same),
  λ e. record { lines = lines_read st.format bytes; are_lines = lines_are_read st.format (lines_of bytes); without_fault = e.0; page_is = e.1 },
)

-- a text has at most one fault
pub first_fault_once : (st : Setting) (bytes : List ℕ) (e f : Fault) → FirstFault st bytes e → FirstFault st bytes f → e ≡ f
first_fault_once st bytes e f p q = same_Some e f (sym ((first_fault_read st bytes e).0 p) ∙ (first_fault_read st bytes f).0 q)

-- a text has at most one page
pub page_of_once : (st : Setting) (bytes : List ℕ) (a b : PageValue) → IsPageOf st bytes a → IsPageOf st bytes b → a ≡ b
page_of_once st bytes a b p q = ((page_is_read st bytes a).0 p).1 ∙ sym (((page_is_read st bytes b).0 q).1)

-- a text never has both
pub fault_or_page : (st : Setting) (bytes : List ℕ) (fault : Fault) (page : PageValue) → FirstFault st bytes fault → IsPageOf st bytes page → ⊥
fault_or_page st bytes fault page p q = none-some fault (sym (((page_is_read st bytes page).0 q).0) ∙ (first_fault_read st bytes fault).0 p)

-- a fault of a text's first lines is its fault, whatever follows them
pub front_fault : (st : Setting) (bytes : List ℕ) (pieces others : List (List ℕ)) (fault : Fault)
    → lines_of bytes ≡ pieces ++ others → lines_fault st [] 1 (map (line_read st.format) pieces) ≡ Some fault → FirstFault st bytes fault
unfolding text_fault
front_fault st bytes pieces others fault split e =
    let lines : lines_read st.format bytes ≡ map (line_read st.format) pieces ++ map (line_read st.format) others =
    ap (map (line_read st.format)) split ∙ map-append (line_read st.format) pieces others in
    (first_fault_read st bytes fault).1
    (ap (λ ls. fault_of st ls (ends_clean bytes)) lines ∙ fault_stays st (map (line_read st.format) pieces) (map (line_read st.format) others) (ends_clean bytes) fault e)
