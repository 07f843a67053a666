-- The page without the families that have no reading.
use Rattle.std.proofs.Common.{◌≡◌, ℕ, suc, ◌≤◌, Bool, true, false, cond, not, List, [], ◌∷◌, ◌++◌, filter, length, refl, sym, ap, subst, ◌∙◌, arith}
use Rattle.std.specs.Prelude.{◌==◌, count_by}
use Rattle.std.specs.List.{flat_map}
use Rattle.std.proofs.lemmas.List.Sums.{length-filter}
use Rattle.page_model.specs.declared.page.Reading.{Reading}
use Rattle.page_model.specs.declared.page.Family.{Family}
use Rattle.page_model.specs.PageValues.{PageValue}
use Rattle.page_model.specs.Written.{Setting}
use Rattle.page_model.specs.Pages.{IsThinnerFamily, IsPageRead, IsRightPage}
use Rattle.page_model.specs.Presence.{all_readings, has_readings, filled_families, filled_page}
use Rattle.page_model.proofs.SomeOf.{some_filtered}

-- ---- it was read

pub filled_is_read : (st : Setting) (page : PageValue) → IsPageRead st page → IsPageRead st (filled_page page)
filled_is_read st page read = record {
  text = read.text;
  whole = read.whole;
  read = read.read;
  families = some_filtered IsThinnerFamily has_readings read.whole.families page.families read.families;
  samples = read.samples;
}

-- ---- its readings

zero_of_some : (n : ℕ) → (suc n == 0) ≡ false
zero_of_some n = grind arith

-- a family that is left out has no reading
pub no_readings : (rs : List Reading) → not (length rs == 0) ≡ false → rs ≡ []
no_readings [] h = refl
no_readings (r ∷ rs) h = absurd (let f : true ≡ false = sym (ap not (zero_of_some (length rs))) ∙ h in cc)

families_filled : (fs : List Family) → flat_map (λ (f : Family). f.readings) (filled_families fs) ≡ flat_map (λ (f : Family). f.readings) fs
families_filled [] = refl
families_filled (f ∷ fs) = go (has_readings f) refl (families_filled fs)
  where
    go : (b : Bool) → has_readings f ≡ b → flat_map (λ (g : Family). g.readings) (filled_families fs) ≡ flat_map (λ (g : Family). g.readings) fs
        → flat_map (λ (g : Family). g.readings) (cond b (f ∷ filled_families fs) (filled_families fs)) ≡ f.readings ++ flat_map (λ (g : Family). g.readings) fs
    go true e ih = ap (λ (rs : List Reading). f.readings ++ rs) ih
    go false e ih = ih ∙ ap (λ (rs : List Reading). rs ++ flat_map (λ (g : Family). g.readings) fs) (sym (no_readings f.readings e))

-- its readings are those of the page
pub filled_readings : (page : PageValue) → all_readings (filled_page page) ≡ all_readings page
filled_readings page = families_filled page.families

-- ---- what is made

few_pass : {A : Type 0} (p : A → Bool) (xs : List A) → length (filter p xs) ≤ length xs
few_pass p [] = omega arith
few_pass p (x ∷ xs) = go (p x) (few_pass p xs)
  where
    go : (b : Bool) → length (filter p xs) ≤ length xs → length (cond b (x ∷ filter p xs) (filter p xs)) ≤ suc (length xs)
    go true few = omega (arith, few)
    go false few = omega (arith, few)

-- where as many pass as there are, all do
all_pass : {A : Type 0} (p : A → Bool) (xs : List A) → length (filter p xs) ≡ length xs → filter p xs ≡ xs
all_pass p [] e = refl
all_pass p (x ∷ xs) e = go (p x) (few_pass p xs) e (all_pass p xs)
  where
    go : (b : Bool) → length (filter p xs) ≤ length xs → length (cond b (x ∷ filter p xs) (filter p xs)) ≡ suc (length xs) → (length (filter p xs) ≡ length xs → filter p xs ≡ xs)
        → cond b (x ∷ filter p xs) (filter p xs) ≡ x ∷ xs
    go true few e ih = ap (λ ys. x ∷ ys) (ih (omega (arith, e)))
    go false few e ih = absurd (omega (arith, few, e))

-- where as many families have readings as there are, none is left out
pub none_left_out : (page : PageValue) (fs : List Family) → fs ≡ page.families → count_by has_readings fs ≡ length fs → page ≡ filled_page page
none_left_out page fs own all = λ i. record { families = (sym own ∙ sym (all_pass has_readings fs (length-filter has_readings fs ∙ all)) ∙ ap filled_families own) i; samples = page.samples }

-- the page of those that are left
pub left_page : (page : PageValue) (fs left : List Family) (samples : ℕ) → fs ≡ page.families → left ≡ filled_families fs → samples ≡ page.samples
    → ◌≡◌ {A = PageValue} (record { families = left; samples = samples }) (filled_page page)
left_page page fs left samples own is same = λ i. record { families = (is ∙ ap filled_families own) i; samples = same i }

pub left_is_right : (page : PageValue) (fs left : List Family) (samples : ℕ) → fs ≡ page.families → left ≡ filled_families fs → samples ≡ page.samples
    → IsRightPage page → IsRightPage (record { families = left; samples = samples })
left_is_right page fs left samples own is same right = subst IsRightPage (sym (left_page page fs left samples own is same)) (right.0, filled_is_read right.0 page right.1)
