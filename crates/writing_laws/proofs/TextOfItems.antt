-- The text of written items says their page, where they break no rule.
use Rattle.std.proofs.Common.{◌≡◌, ℕ, ◌≤◌, true, List, [], ◌∷◌, ◌++◌, length, reverse, None, sym, ap, subst, ◌∙◌}
use Rattle.std.specs.List.{flat_map}
use Rattle.std.proofs.lemmas.List.{append-nil, reverse-append}
use Rattle.std.proofs.lemmas.Grind.{flat_map-append}
use Rattle.page_model.specs.declared.format.Treatment.TheVariants as treatments
use Rattle.page_model.specs.declared.item.Item.{Item}
use Rattle.page_model.specs.Written.{open_setting}
use Rattle.page_model.specs.Faults.{end_fault}
use Rattle.page_model.specs.Readings.{page_of}
use Rattle.page_model.specs.Pages.{AreFaultless, IsPageOf}
use Rattle.page_model.proofs.Laws.{Made, nothing_made, made_more, made_says}
use Rattle.open_writing.specs.Writing.{item_text, line_text}
use Rattle.writing_laws.proofs.Spelled.{IsWritableItem}
use Rattle.writing_laws.proofs.LineRules.{HasText, HasLabelSet, written_line}

-- an item that can be written on a line of its own
pub record IsWritableLine (item : Item) : Type 0 where
  pub can : IsWritableItem item
  pub text : HasText item
  pub labels : HasLabelSet item
  pub short : length (item_text item) ≤ 262144

-- each can
abbrev pub AreWritableLines : List Item → Type 0
AreWritableLines [] = Unit {0}
AreWritableLines (item ∷ items) = IsWritableLine item × AreWritableLines items

written_made : (limit : ℕ) (items : List Item) → AreWritableLines items → AreFaultless (open_setting treatments.Written limit) items → Made (open_setting treatments.Written limit) items (flat_map line_text (reverse items))
written_made limit [] w f = nothing_made (open_setting treatments.Written limit)
written_made limit (item ∷ earlier) w f =
    let st = open_setting treatments.Written limit in
    let i = written_line limit item w.0.can w.0.text w.0.labels w.0.short in
    let m = made_more st item earlier (flat_map line_text (reverse earlier)) (written_made limit earlier w.1 f.1) i.0 f.0 in
    let text : flat_map line_text (reverse (item ∷ earlier)) ≡ flat_map line_text (reverse earlier) ++ (i.0.line ++ 10 ∷ [])
    = ap (flat_map line_text) (reverse-append (item ∷ []) earlier) ∙ flat_map-append line_text (reverse earlier) (item ∷ []) ∙ ap (λ t. flat_map line_text (reverse earlier) ++ t) (append-nil (line_text item))
    ∙ ap (λ t. flat_map line_text (reverse earlier) ++ (t ++ 10 ∷ [])) (sym i.1) in
    subst (Made st (item ∷ earlier)) (sym text) m

-- the text of items without a fault says their page
pub written_items_say : (limit : ℕ) (items : List Item) → AreWritableLines items → AreFaultless (open_setting treatments.Written limit) items → end_fault (open_setting treatments.Written limit) items true ≡ None
    → IsPageOf (open_setting treatments.Written limit) (flat_map line_text (reverse items)) (page_of (open_setting treatments.Written limit) items)
written_items_say limit items w f e =
    made_says (open_setting treatments.Written limit) items (flat_map line_text (reverse items)) (written_made limit items w f) e
