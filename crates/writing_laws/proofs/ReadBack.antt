-- The text of families that can be written reads back as their page.
use Rattle.std.proofs.Common.{◌≡◌, List, [], ◌∷◌, reverse, sym, ap, subst, ◌∙◌, All, arith}
use Rattle.std.specs.List.{flat_map, AllByRecursion}
use Rattle.std.proofs.lemmas.List.Elements.{recursion_from_All}
use Rattle.page_model.specs.declared.format.Format.TheVariants.{OpenMetrics}
use Rattle.page_model.specs.declared.format.Treatment.TheVariants as treatments
use Rattle.page_model.specs.declared.item.Item.{Item}
use Rattle.page_model.specs.declared.item.Item.TheVariants as items
use Rattle.page_model.specs.declared.page.Family.{Family}
use Rattle.page_model.specs.Written.{Setting, open_setting}
use Rattle.page_model.specs.Owners.{owned_lines}
use Rattle.page_model.specs.Pages.{IsPageOf}
use Rattle.page_model.specs.Readings.{page_of}
use Rattle.open_writing.specs.Writing.{line_text, family_items, page_items, sample_lines, page_with, written_text}
use Rattle.open_writing.specs.Forms.{IsFormedFamily}
use Rattle.open_writing.specs.OpenForms.{IsBareReading}
use Rattle.writing_laws.specs.WritingLaws.{ReadsBack, WritablesAreOpenForms}
use Rattle.writing_laws.proofs.Turned.{turn, turn-append, reverse-turn}
use Rattle.writing_laws.proofs.TextOfItems.{AreWritableLines, written_items_say}
use Rattle.writing_laws.proofs.PagesFree.{separate, families_follow, nothing_above, eof_free, end_free, page_lines}
use Rattle.writing_laws.proofs.FamiliesBack.{page_back}

items_turned : (fs : List Family) → turn (page_items fs) [] ≡ items.Eof ∷ turn (flat_map family_items fs) []
unfolding page_items
items_turned fs = turn-append (flat_map family_items fs) (items.Eof ∷ []) []

text_is : (fs : List Family) → flat_map line_text (reverse (items.Eof ∷ turn (flat_map family_items fs) [])) ≡ written_text (page_with fs)
unfolding written_text
text_is fs = ap (λ is. flat_map line_text (reverse is)) (sym (items_turned fs)) ∙ ap (flat_map line_text) (reverse-turn (page_items fs) [])

pub reads_back : ReadsBack
unfolding sample_lines owned_lines
reads_back fs limit w few =
    let st : Setting = open_setting treatments.Written limit in
    let forms : AllByRecursion (λ f. IsFormedFamily OpenMetrics treatments.Written f) fs = recursion_from_All (λ f. IsFormedFamily OpenMetrics treatments.Written f) fs w.formed.each in
    let bare : AllByRecursion (λ (f : Family). All IsBareReading f.readings) fs = recursion_from_All (λ (f : Family). All IsBareReading f.readings) fs w.bare in
    let earlier : List Item = turn (flat_map family_items fs) [] in
    let follow = families_follow limit fs [] forms (separate fs w.formed.names w.apart) (nothing_above limit fs few) in
    let lines : AreWritableLines (items.Eof ∷ earlier) = subst AreWritableLines (items_turned fs) (page_lines limit fs forms w.short_lines) in
    let said = written_items_say limit (items.Eof ∷ earlier) lines (eof_free limit earlier follow.0, follow.0.faultless) (end_free limit earlier follow.0) in
    let page : page_of st (items.Eof ∷ earlier) ≡ page_with fs = page_back limit fs forms bare w.formed.names follow.1 in
    subst (λ p. IsPageOf st (written_text (page_with fs)) p) page (subst (λ t. IsPageOf st t (page_of st (items.Eof ∷ earlier))) (text_is fs) said)

-- so it makes a page in OpenMetrics form
pub writables_are_open_forms : WritablesAreOpenForms
writables_are_open_forms fs w = record {
  text = written_text (page_with fs);
  limit = sample_lines fs;
  said = reads_back fs (sample_lines fs) w (omega arith);
  bare = w.bare;
  apart = w.apart;
  short_lines = w.short_lines;
}
