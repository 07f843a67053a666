-- The first reading that describes the target, found family by family.
use Rattle.std.proofs.Common.{◌≡◌, ℕ, ◌+◌, ◌<◌, Bool, true, false, not, List, [], ◌∷◌, ◌++◌, find, drop, length, get_or, Option, Some, None, is_some, refl, sym, ap, ◌∙◌, add-one, Bor}
use Rattle.std.specs.List.{flat_map}
use Rattle.std.specs.Option.{option_copied}
use Rattle.std.proofs.Math.Seq.{drop-cons}
use Rattle.page_model.specs.declared.page.Reading.{Reading}
use Rattle.page_model.specs.declared.page.Family.{Family}
use Rattle.target_pages.specs.Stretches.{is_info}

abbrev readings_of : List Family → List Reading
readings_of fs = flat_map (λ (f : Family). f.readings) fs

found_in : (test : Reading → Bool) (xs ys : List Reading) (r : Reading) → find test xs ≡ Some r → find test (xs ++ ys) ≡ Some r
found_in test [] ys r h = absurd cc
found_in test (x ∷ xs) ys r h = go (test x) refl (found_in test xs ys r)
  where
    go : (b : Bool) → test x ≡ b → (find test xs ≡ Some r → find test (xs ++ ys) ≡ Some r) → find test (x ∷ xs ++ ys) ≡ Some r
    go true e rest = let f : Some x ≡ Some r = rw e at h in rw e f
    go false e rest = let f : find test xs ≡ Some r = rw e at h in rw e (rest f)

not_in : (test : Reading → Bool) (xs ys : List Reading) → find test xs ≡ None → find test (xs ++ ys) ≡ find test ys
not_in test [] ys h = refl
not_in test (x ∷ xs) ys h = go (test x) refl (not_in test xs ys)
  where
    go : (b : Bool) → test x ≡ b → (find test xs ≡ None → find test (xs ++ ys) ≡ find test ys) → find test (x ∷ xs ++ ys) ≡ find test ys
    go true e rest = absurd (let f : Some x ≡ None = rw e at h in cc)
    go false e rest = let f : find test xs ≡ None = rw e at h in rw e (rest f)

-- what a call answers that found nothing
pub nothing_found : (o : Option (Bor Reading)) (b : Bool) (found : Option Reading) → is_some o ≡ not b → b ≡ true → option_copied o ≡ found → found ≡ None
nothing_found None b found e h is = sym is
nothing_found (Some x) b found e h is = absurd (let f : true ≡ false = e ∙ ap not h in cc)

-- the readings from a family on
readings_from : (fs : List Family) (i : ℕ) (f : Family) → i < length fs → f ≡ get_or fs i f → readings_of (drop i fs) ≡ f.readings ++ readings_of (drop (i + 1) fs)
readings_from fs i f within read =
    ap readings_of (drop-cons fs i f within) ∙ (λ j. (sym read j).readings ++ readings_of (drop (sym (add-one i) j) fs))

pub found_here : (fs : List Family) (i : ℕ) (f : Family) (o : Option (Bor Reading)) (b : Bool) → i < length fs → f ≡ get_or fs i f → option_copied o ≡ find is_info f.readings → is_some o ≡ b → b ≡ true
    → option_copied o ≡ find is_info (readings_of (drop i fs))
found_here fs i f None b within read is e h = absurd (let g : false ≡ true = e ∙ h in cc)
found_here fs i f (Some x) b within read is e h = sym (ap (find is_info) (readings_from fs i f within read) ∙ found_in is_info f.readings (readings_of (drop (i + 1) fs)) x.now (sym is))

pub not_here : (fs : List Family) (i : ℕ) (f : Family) (o : Option (Bor Reading)) (b : Bool) → i < length fs → f ≡ get_or fs i f → option_copied o ≡ find is_info f.readings → is_some o ≡ b → b ≡ false
    → find is_info (readings_of (drop i fs)) ≡ find is_info (readings_of (drop (i + 1) fs))
not_here fs i f None b within read is e h = ap (find is_info) (readings_from fs i f within read) ∙ not_in is_info f.readings (readings_of (drop (i + 1) fs)) (sym is)
not_here fs i f (Some x) b within read is e h = absurd (let g : true ≡ false = e ∙ h in cc)
