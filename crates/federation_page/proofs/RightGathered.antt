-- A page that can be written is a right one, and what may be gathered has the form of scraped pages.
use Rattle.std.proofs.Common.{List, [], ◌∷◌, subst, All}
use Rattle.std.specs.List.{AllByRecursion}
use Rattle.std.proofs.lemmas.List.Elements.{All-from_recursion, recursion_from_All}
use Rattle.page_model.specs.declared.format.Treatment.{Treatment}
use Rattle.page_model.specs.declared.format.Treatment.TheVariants.{Written}
use Rattle.page_model.specs.declared.page.Page.{Page}
use Rattle.page_model.specs.declared.event.Shown.{Shown}
use Rattle.page_model.specs.Written.{open_setting}
use Rattle.page_model.specs.Pages.{IsRightPage}
use Rattle.page_model.proofs.Laws.{text_is_right}
use Rattle.open_writing.specs.Forms.{AreFormed}
use Rattle.open_writing.specs.OpenForms.{IsOpenForm}
use Rattle.writing_laws.proofs.Laws.{read_pages}
use Rattle.federation_page.specs.Candidates.{IsFormedTarget}
use Rattle.federation_page.specs.Gathering.{IsShowable, AreShowable}
use Rattle.federation_page.proofs.FormedReadings.{not_empty}

pub right_form : (page : Page) → IsOpenForm page → IsRightPage page
right_form page form = (open_setting Written form.limit, text_is_right (open_setting Written form.limit) form.text page form.said)

formed_target : (s : Shown) → IsShowable s → IsFormedTarget s
formed_target s able = record {
  names = record { job = not_empty 256 s.job able.job; instance = not_empty 262 s.instance able.instance };
  format = able.page.0.format;
  formed = subst (λ (t : Treatment). AreFormed able.page.0.format t s.page.families) able.page.1 (read_pages able.page.0 s.page able.page.2);
}

each_formed : (shown : List Shown) → AllByRecursion IsShowable shown → AllByRecursion IsFormedTarget shown
each_formed [] h = tt
each_formed (s ∷ shown) h = (formed_target s h.0, each_formed shown h.1)

pub formed_targets : (shown : List Shown) → AreShowable shown → All IsFormedTarget shown
formed_targets shown able = All-from_recursion IsFormedTarget shown (each_formed shown (recursion_from_All IsShowable shown able.each))
