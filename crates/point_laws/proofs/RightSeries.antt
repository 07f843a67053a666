-- A right page with readings taken out is right, and its keys are those that are left.
use Rattle.std.proofs.Common.{◌≡◌, Bool, not, List, [], ◌∷◌, ◌++◌, map, filter, refl, sym, ap, ◌∙◌, inl, inr}
use Rattle.std.specs.List.{flat_map}
use Rattle.std.proofs.lemmas.List.Elements.{filter-append}
use Rattle.page_model.specs.declared.format.Treatment.TheVariants.{Scraped}
use Rattle.page_model.specs.declared.page.Reading.{Reading}
use Rattle.page_model.specs.declared.page.Family.{Family}
use Rattle.page_model.specs.declared.page.Page.{Page}
use Rattle.page_model.specs.declared.event.Event.{Event}
use Rattle.page_model.specs.Written.{text_setting}
use Rattle.page_model.specs.Pages.{IsThinnerReading, IsThinnerFamily, AreThinnerFamilies, IsRightPage}
use Rattle.page_model.specs.Presence.{empty_page, all_readings, keys_of, page_of_outcome}
use Rattle.page_model.proofs.Laws.{some_filtered, nothing_is_right}
use Rattle.start_times.specs.Scrapes.{last_page, scrape_after, scrapes_of}
use Rattle.family_metrics.specs.Scopes.{Scope}
use Rattle.target_pages.specs.Thinned.{page_where}
use Rattle.target_pages.specs.Stretches.{is_info, without_info, stretch_scrape, stretch_of}
use Rattle.scope_metrics.specs.PageScopes.{is_in_scope}
use Rattle.point_laws.specs.MarkerLaws.{is_key_in}
use Rattle.point_laws.proofs.Parts.{filter-map}

-- ---- right pages

-- the family with the readings that pass a test
abbrev pub family_with : (Reading → Bool) → Family → Family
family_with test f = record { name = f.name; kind = f.kind; help = f.help; unit = f.unit; readings = filter test f.readings }

thinner_with : (test : Reading → Bool) (f g : Family) → IsThinnerFamily f g → IsThinnerFamily f (family_with test g)
thinner_with test f g thin = record { name = thin.name; kind = thin.kind; help = thin.help; unit = thin.unit; readings = some_filtered IsThinnerReading test f.readings g.readings thin.readings }

families_with : (test : Reading → Bool) (fs gs : List Family) → AreThinnerFamilies fs gs → AreThinnerFamilies fs (map (family_with test) gs)
families_with test [] [] h = tt
families_with test [] (g ∷ gs) h = absurd h
families_with test (f ∷ fs) [] h = h
families_with test (f ∷ fs) (g ∷ gs) (inl h) = inl (thinner_with test f g h.0, families_with test fs gs h.1)
families_with test (f ∷ fs) (g ∷ gs) (inr h) = inr (families_with test fs (g ∷ gs) h)

pub right_with : (test : Reading → Bool) (page : Page) → IsRightPage page → IsRightPage (page_where test page)
right_with test page right =
    let read = right.1 in
    (right.0, record { text = read.text; whole = read.whole; read = read.read; families = families_with test read.whole.families page.families read.families; samples = read.samples })

-- so is the page without what describes the target
pub series_right : (page : Page) → IsRightPage page → IsRightPage (without_info page)
unfolding without_info
series_right page right = right_with (λ r. not (is_info r)) page right

-- the page without families is right
pub nothing_right : IsRightPage empty_page
nothing_right = (text_setting Scraped 0, nothing_is_right Scraped 0)

-- the last page since the attributes changed is right where the last page is
pub last_right : (earlier : List Event) → IsRightPage (last_page (scrapes_of earlier)) → IsRightPage (last_page (stretch_of earlier))
unfolding scrape_after stretch_scrape
last_right [] right = right
last_right (e ∷ earlier) right = series_right (page_of_outcome e.outcome) right

-- ---- keys

readings_with : (test : Reading → Bool) (fs : List Family) → flat_map (λ (f : Family). f.readings) (map (family_with test) fs) ≡ filter test (flat_map (λ (f : Family). f.readings) fs)
readings_with test [] = refl
readings_with test (f ∷ fs) = ap (λ rs. filter test f.readings ++ rs) (readings_with test fs) ∙ sym (filter-append test f.readings (flat_map (λ (g : Family). g.readings) fs))

-- the keys of the readings of a scope are those keys that name it
pub scope_keys : (s : Scope) (page : Page) → keys_of (page_where (is_in_scope s) page) ≡ filter (is_key_in s) (keys_of page)
scope_keys s page = ap (map (λ (r : Reading). r.key)) (readings_with (is_in_scope s) page.families) ∙ sym (filter-map (λ (r : Reading). r.key) (is_key_in s) (all_readings page))
