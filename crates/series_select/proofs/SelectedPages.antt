-- A selected page has OpenMetrics form, and 32 bits count its sample lines.
use Rattle.std.proofs.Common.{◌≡◌, ℕ, suc, ◌≤◌, ◌<◌, ◌^◌, ◌+◌, true, false, List, [], ◌∷◌, map, length, refl, sym, ap, ◌∙◌, inl, inr, arith}
use Rattle.std.specs.Prelude.{◌==◌}
use Rattle.page_model.specs.declared.format.Treatment.TheVariants.{Written}
use Rattle.page_model.specs.declared.page.Family.{Family}
use Rattle.page_model.specs.declared.page.Page.{Page}
use Rattle.page_model.specs.PageValues.{PageValue}
use Rattle.page_model.specs.Written.{Setting, open_setting}
use Rattle.page_model.specs.Pages.{AreSomeOf, IsThinnerReading, IsThinnerFamily, AreThinnerFamilies, IsPageRead, IsRightPage}
use Rattle.page_model.specs.Presence.{has_readings}
use Rattle.page_model.proofs.Laws.{some_filtered, whole_family, text_is_right}
use Rattle.open_writing.specs.Writing.{page_with, sample_lines}
use Rattle.open_writing.specs.OpenForms.{IsOpenForm, AreWritable}
use Rattle.writing_laws.proofs.Laws.{read_pages, few_lines, thinner, writables_are_open_forms}
use Rattle.series_select.specs.declared.selector.Selector.{Selector}
use Rattle.series_select.specs.Selection.{is_selected, thinned, selected_families, selected_page}

-- ---- some are taken out

-- what is made thinner is thinner still
some_changed : {A : Type 0} (IsLeft : A → A → Type 0) (g : A → A) → ((x y : A) → IsLeft x y → IsLeft x (g y)) → (xs ys : List A) → AreSomeOf IsLeft xs ys → AreSomeOf IsLeft xs (map g ys)
some_changed IsLeft g keep [] [] h = tt
some_changed IsLeft g keep [] (y ∷ ys) h = absurd h
some_changed IsLeft g keep (x ∷ xs) [] h = h
some_changed IsLeft g keep (x ∷ xs) (y ∷ ys) (inl h) = inl (keep x y h.0, some_changed IsLeft g keep xs ys h.1)
some_changed IsLeft g keep (x ∷ xs) (y ∷ ys) (inr h) = inr (some_changed IsLeft g keep xs (y ∷ ys) h)

thinned_left : (list : List Selector) (f g : Family) → IsThinnerFamily f g → IsThinnerFamily f (thinned list g)
unfolding thinned
thinned_left list f g h = record {
  name = h.name;
  kind = h.kind;
  help = h.help;
  unit = h.unit;
  readings = some_filtered IsThinnerReading (is_selected list g) f.readings g.readings h.readings;
}

selected_left : (list : List Selector) (whole fs : List Family) → AreThinnerFamilies whole fs → AreThinnerFamilies whole (selected_families list fs)
unfolding selected_families
selected_left list whole fs h = some_filtered IsThinnerFamily has_readings whole (map (thinned list) fs) (some_changed IsThinnerFamily (thinned list) (thinned_left list) whole fs h)

all_left : (fs : List Family) → AreThinnerFamilies fs fs
all_left [] = tt
all_left (f ∷ fs) = inl (whole_family f, all_left fs)

-- ---- the form of what is left

form_read : (page : Page) (form : IsOpenForm page) → IsPageRead (open_setting Written form.limit) page
form_read page form = text_is_right (open_setting Written form.limit) form.text page form.said

form_writable : (page : Page) → IsOpenForm page → AreWritable page.families
form_writable page form = record { formed = read_pages (open_setting Written form.limit) page (form_read page form); bare = form.bare; apart = form.apart; short_lines = form.short_lines }

pub selected_form : (list : List Selector) (page : Page) → IsOpenForm page → IsOpenForm (page_with (selected_families list page.families))
selected_form list page form =
    let left = selected_families list page.families in
    writables_are_open_forms left (thinner page.families left (form_writable page form) (selected_left list page.families page.families (all_left page.families)))

pub form_is_right : (page : Page) → IsOpenForm page → IsRightPage page
form_is_right page form = (open_setting Written form.limit, form_read page form)

-- ---- its sample lines

selected_read : (st : Setting) (list : List Selector) (page : PageValue) → IsPageRead st page → IsPageRead st (record { families = selected_families list page.families; samples = page.samples })
selected_read st list page read = record {
  text = read.text;
  whole = read.whole;
  read = read.read;
  families = selected_left list read.whole.families page.families read.families;
  samples = read.samples;
}

pub few_selected : (list : List Selector) (page : PageValue) → IsRightPage page → page.samples ≤ 2147483647 → sample_lines (selected_families list page.families) < 2 ^ 32
few_selected list page right few =
    let left : PageValue = record { families = selected_families list page.families; samples = page.samples } in
    let lines : sample_lines (selected_families list page.families) ≤ page.samples + page.samples = few_lines right.0 left (selected_read right.0 list page right.1) in
    omega (arith, lines, few)

-- ---- the page

some_none : (n : ℕ) → (suc n == 0) ≡ false
some_none n = grind arith

pub whole_page : (list : List Selector) (page : Page) → (length list == 0) ≡ true → page ≡ selected_page list page
unfolding selected_page
whole_page [] page h = refl
whole_page (s ∷ ss) page h = absurd (let f : false ≡ true = sym (some_none (length ss)) ∙ h in cc)

pub some_page : (list : List Selector) (page : Page) (left : List Family) → (length list == 0) ≡ false → left ≡ selected_families list page.families → page_with left ≡ selected_page list page
unfolding selected_page
some_page [] page left h e = absurd (let f : true ≡ false = h in cc)
some_page (s ∷ ss) page left h e = ap page_with e
