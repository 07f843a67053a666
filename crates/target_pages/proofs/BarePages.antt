-- Pages without exemplars are right, and a page that has none is one.
use Rattle.std.proofs.Common.{◌≡◌, ℕ, Bool, true, false, not, List, [], ◌∷◌, map, length, refl, sym, ap, subst, ◌∙◌, inl, inr, arith}
use Rattle.std.specs.Prelude.{◌==◌, ◌||◌}
use Rattle.std.specs.List.{list_any}
use Rattle.page_model.specs.declared.item.Exemplar.{Exemplar}
use Rattle.page_model.specs.declared.page.Reading.{Reading}
use Rattle.page_model.specs.declared.page.Family.{Family}
use Rattle.page_model.specs.PageValues.{PageValue}
use Rattle.page_model.specs.Written.{Setting}
use Rattle.page_model.specs.Pages.{AreSomeOf, IsThinnerReading, IsThinnerFamily, IsPageRead, IsRightPage}
use Rattle.target_pages.specs.Thinned.{bare_of_exemplars, bare_family, without_exemplars, has_exemplars, family_has_exemplars}

-- ---- exemplars taken out

-- all are taken out
none_left : {A : Type 0} (IsLeft : A → A → Type 0) (xs : List A) → AreSomeOf IsLeft xs []
none_left IsLeft [] = tt
none_left IsLeft (x ∷ xs) = none_left IsLeft xs

-- what is made thinner is thinner still
pub some_changed : {A : Type 0} (IsLeft : A → A → Type 0) (g : A → A) → ((x y : A) → IsLeft x y → IsLeft x (g y)) → (xs ys : List A) → AreSomeOf IsLeft xs ys → AreSomeOf IsLeft xs (map g ys)
some_changed IsLeft g keep [] [] h = tt
some_changed IsLeft g keep [] (y ∷ ys) h = absurd h
some_changed IsLeft g keep (x ∷ xs) [] h = h
some_changed IsLeft g keep (x ∷ xs) (y ∷ ys) (inl h) = inl (keep x y h.0, some_changed IsLeft g keep xs ys h.1)
some_changed IsLeft g keep (x ∷ xs) (y ∷ ys) (inr h) = inr (some_changed IsLeft g keep xs (y ∷ ys) h)

reading_left : (r s : Reading) → IsThinnerReading r s → IsThinnerReading r (bare_of_exemplars s)
reading_left r s h = record {
  key = h.key;
  value = h.value;
  created = h.created;
  stamp = h.stamp;
  exemplars = none_left {A = Exemplar} (λ a b. b ≡ a) r.exemplars;
}

family_left : (f g : Family) → IsThinnerFamily f g → IsThinnerFamily f (bare_family g)
family_left f g h = record {
  name = h.name;
  kind = h.kind;
  help = h.help;
  unit = h.unit;
  readings = some_changed IsThinnerReading bare_of_exemplars reading_left f.readings g.readings h.readings;
}

pub bare_is_read : (st : Setting) (page : PageValue) → IsPageRead st page → IsPageRead st (without_exemplars page)
unfolding without_exemplars
bare_is_read st page read = record {
  text = read.text;
  whole = read.whole;
  read = read.read;
  families = some_changed IsThinnerFamily bare_family family_left read.whole.families page.families read.families;
  samples = read.samples;
}

-- ---- what is made

-- the page of these families
pub bare_page : (page : PageValue) (fs left : List Family) (samples : ℕ) → fs ≡ page.families → left ≡ map bare_family fs → samples ≡ page.samples
    → ◌≡◌ {A = PageValue} (record { families = left; samples = samples }) (without_exemplars page)
unfolding without_exemplars
bare_page page fs left samples own is same = λ i. record { families = (is ∙ ap (map bare_family) own) i; samples = same i }

pub bare_is_right : (page : PageValue) (fs left : List Family) (samples : ℕ) → fs ≡ page.families → left ≡ map bare_family fs → samples ≡ page.samples
    → IsRightPage page → IsRightPage (record { families = left; samples = samples })
bare_is_right page fs left samples own is same right = subst IsRightPage (sym (bare_page page fs left samples own is same)) (right.0, bare_is_read right.0 page right.1)

-- ---- no exemplars

pub neither : (a b : Bool) → (a || b) ≡ false → (a ≡ false) × (b ≡ false)
neither true b h = absurd (let f : true ≡ false = h in cc)
neither false b h = (refl, h)

-- a list is what a function makes of it, where none passes a test and the function leaves those alone
unchanged : {A : Type 0} (p : A → Bool) (g : A → A) → ((x : A) → p x ≡ false → g x ≡ x) → (xs : List A) → list_any p xs ≡ false → map g xs ≡ xs
unchanged p g same [] h = refl
unchanged p g same (x ∷ xs) h =
    let none = neither (p x) (list_any p xs) h in
    λ i. same x none.0 i ∷ unchanged p g same xs none.1 i

none_given : (es : List Exemplar) → not (length es == 0) ≡ false → [] ≡ es
none_given [] h = refl
none_given (e ∷ es) h = absurd (grind arith)

bare_itself : (r : Reading) → has_exemplars r ≡ false → bare_of_exemplars r ≡ r
bare_itself r h = λ i. record { key = r.key; value = r.value; created = r.created; stamp = r.stamp; exemplars = none_given r.exemplars h i }

pub family_itself : (f : Family) → family_has_exemplars f ≡ false → bare_family f ≡ f
family_itself f h = λ i. record { name = f.name; kind = f.kind; help = f.help; unit = f.unit; readings = unchanged has_exemplars bare_of_exemplars bare_itself f.readings h i }

-- a page without exemplars is left as it is
pub page_itself : (page : PageValue) (fs : List Family) → fs ≡ page.families → list_any family_has_exemplars fs ≡ false → without_exemplars page ≡ page
unfolding without_exemplars
page_itself page fs own none = λ i. record { families = unchanged family_has_exemplars bare_family family_itself page.families (ap (list_any family_has_exemplars) (sym own) ∙ none) i; samples = page.samples }
