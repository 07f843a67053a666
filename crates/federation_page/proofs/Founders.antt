-- No two families of the federation page clash.
use Rattle.std.proofs.Common.{◌≡◌, ℕ, Bool, true, false, ◌||◌, cond, List, [], ◌∷◌, map, filter, reverse, refl, sym, ap, subst, ◌∙◌}
use Rattle.std.specs.List.{flat_map, list_any, AllByRecursion, IsDistinct}
use Rattle.std.specs.Str.{bytes_eq}
use Rattle.std.proofs.lemmas.Bool.{or_parts}
use Rattle.label_sets.specs.Labels.{name_before}
use Rattle.label_sets.proofs.Laws.{bytes_eq-swap}
use Rattle.page_model.specs.declared.page.Family.{Family}
use Rattle.open_writing.specs.FamilyKeys.{FamilyKey, family_key, sample_names, share_sample_name, clash, is_one_family, AreApart}
use Rattle.federation_page.specs.Conflicts.{founders, placed_by_name, sorted_by_name, gathered_by}
use Rattle.page_model.specs.declared.event.Shown.{Shown}
use Rattle.federation_page.specs.Candidates.{candidates_of}
use Rattle.federation_page.specs.Gathering.{with_readings_of, gathered_families, federated_page}

-- ---- clashing goes both ways

none : {A : Type 0} (ys : List A) → list_any (λ (y : A). false) ys ≡ false
none [] = refl
none (y ∷ ys) = none ys

pub any_or : {A : Type 0} (p q : A → Bool) (ys : List A) → list_any (λ y. p y || q y) ys ≡ (list_any p ys || list_any q ys)
any_or p q [] = refl
any_or p q (y ∷ ys) = ap (λ b. (p y || q y) || b) (any_or p q ys) ∙ by (p y) (q y) (list_any p ys) (list_any q ys)
  where
    by : (a b c d : Bool) → ((a || b) || (c || d)) ≡ ((a || c) || (b || d))
    by true b c d = refl
    by false true true d = refl
    by false true false d = refl
    by false false c d = refl

any_turned : (x : List ℕ) (ys : List (List ℕ)) → list_any (bytes_eq x) ys ≡ list_any (λ y. bytes_eq y x) ys
any_turned x [] = refl
any_turned x (y ∷ ys) = ap (λ b. b || list_any (bytes_eq x) ys) (bytes_eq-swap x y) ∙ ap (λ b. bytes_eq y x || b) (any_turned x ys)

pub shared_turned : (xs ys : List (List ℕ)) → list_any (λ x. list_any (bytes_eq x) ys) xs ≡ list_any (λ y. list_any (bytes_eq y) xs) ys
shared_turned [] ys = sym (none ys)
shared_turned (x ∷ xs) ys =
    ap (λ b. list_any (bytes_eq x) ys || b) (shared_turned xs ys) ∙ ap (λ b. b || list_any (λ y. list_any (bytes_eq y) xs) ys) (any_turned x ys)
    ∙ sym (any_or (λ y. bytes_eq y x) (λ y. list_any (bytes_eq y) xs) ys)

pub clash_turned : (j k : FamilyKey) → clash j k ≡ clash k j
unfolding clash share_sample_name
clash_turned j k = ap (λ b. b || list_any (λ x. list_any (bytes_eq x) (sample_names k)) (sample_names j)) (bytes_eq-swap j.name k.name)
    ∙ ap (λ b. bytes_eq k.name j.name || b) (shared_turned (sample_names j) (sample_names k))

-- ---- founders are apart

-- this one clashes with none of them
abbrev Clear : FamilyKey → List FamilyKey → Type 0
Clear j ks = AllByRecursion (λ k. clash j k ≡ false) ks

clear_of : (x : Family) (ys : List Family) → list_any (λ y. clash (family_key y) (family_key x)) ys ≡ false → Clear (family_key x) (map family_key ys)
clear_of x [] h = tt
clear_of x (y ∷ ys) h = by (clash (family_key y) (family_key x)) refl h (clear_of x ys)
  where
    by : (b : Bool) → clash (family_key y) (family_key x) ≡ b → (b || list_any (λ z. clash (family_key z) (family_key x)) ys) ≡ false
        → (list_any (λ z. clash (family_key z) (family_key x)) ys ≡ false → Clear (family_key x) (map family_key ys)) → Clear (family_key x) (family_key y ∷ map family_key ys)
    by true e k ih = absurd cc
    by false e k ih = (clash_turned (family_key x) (family_key y) ∙ e, ih k)

pub founders_apart : (xs : List Family) → AreApart (founders family_key xs)
unfolding founders IsDistinct
founders_apart [] = tt
founders_apart (x ∷ xs) = by (list_any (λ y. clash (family_key y) (family_key x)) (founders family_key xs)) refl (founders_apart xs)
  where
    by : (b : Bool) → list_any (λ y. clash (family_key y) (family_key x)) (founders family_key xs) ≡ b → AreApart (founders family_key xs)
        → AreApart (cond b (founders family_key xs) (x ∷ founders family_key xs))
    by true e ih = ih
    by false e ih = (clear_of x (founders family_key xs) e, ih)

-- ---- and stay so in another order

placed_clear : (j : FamilyKey) (x : Family) (ys : List Family) → clash j (family_key x) ≡ false → Clear j (map family_key ys) → Clear j (map family_key (placed_by_name family_key x ys))
placed_clear j x [] e h = (e, tt)
placed_clear j x (y ∷ ys) e h = by (name_before x.name y.name) (placed_clear j x ys e h.1)
  where
    by : (b : Bool) → Clear j (map family_key (placed_by_name family_key x ys)) → Clear j (map family_key (cond b (x ∷ y ∷ ys) (y ∷ placed_by_name family_key x ys)))
    by true ih = (e, h)
    by false ih = (h.0, ih)

placed_apart : (x : Family) (ys : List Family) → Clear (family_key x) (map family_key ys) → AreApart ys → AreApart (placed_by_name family_key x ys)
unfolding IsDistinct
placed_apart x [] c a = (tt, tt)
placed_apart x (y ∷ ys) c a = by (name_before x.name y.name) (placed_apart x ys c.1 a.1)
  where
    by : (b : Bool) → AreApart (placed_by_name family_key x ys) → AreApart (cond b (x ∷ y ∷ ys) (y ∷ placed_by_name family_key x ys))
    by true ih = (c, a)
    by false ih = (placed_clear (family_key y) x ys (clash_turned (family_key y) (family_key x) ∙ c.0) a.0, ih)

sorted_clear : (j : FamilyKey) (xs : List Family) → Clear j (map family_key xs) → Clear j (map family_key (sorted_by_name family_key xs))
sorted_clear j [] h = tt
sorted_clear j (x ∷ xs) h = placed_clear j x (sorted_by_name family_key xs) h.0 (sorted_clear j xs h.1)

pub sorted_apart : (xs : List Family) → AreApart xs → AreApart (sorted_by_name family_key xs)
unfolding IsDistinct
sorted_apart [] a = tt
sorted_apart (x ∷ xs) a = placed_apart x (sorted_by_name family_key xs) (sorted_clear (family_key x) xs a.0) (sorted_apart xs a.1)

-- ---- the families that are gathered

keys_kept : (cs xs : List Family) → map family_key (map (λ x. with_readings_of x (filter (λ y. is_one_family (family_key x) (family_key y)) cs)) xs) ≡ map family_key xs
keys_kept cs [] = refl
keys_kept cs (x ∷ xs) = ap (λ ks. family_key x ∷ ks) (keys_kept cs xs)

pub gathered_apart : (candidates : List Family) → AreApart (gathered_families candidates)
unfolding gathered_families gathered_by
gathered_apart cs = subst (IsDistinct clash) (sym (keys_kept cs (sorted_by_name family_key (founders family_key (reverse cs))))) (sorted_apart (founders family_key (reverse cs)) (founders_apart (reverse cs)))

pub federated_apart : (shown : List Shown) → AreApart (federated_page shown).families
unfolding federated_page
federated_apart shown = gathered_apart (flat_map candidates_of shown)

-- ---- names

-- families that are apart have distinct names
pub names_apart : (fs : List Family) → AreApart fs → IsDistinct bytes_eq (map (λ (f : Family). f.name) fs)
unfolding IsDistinct clash
names_apart [] a = tt
names_apart (f ∷ fs) a = (others fs a.0, names_apart fs a.1)
  where
    others : (gs : List Family) → AllByRecursion (λ k. clash (family_key f) k ≡ false) (map family_key gs) → AllByRecursion (λ name. bytes_eq f.name name ≡ false) (map (λ (g : Family). g.name) gs)
    others [] h = tt
    others (g ∷ gs) h = ((or_parts (bytes_eq f.name g.name) (share_sample_name (family_key f) (family_key g)) h.0).0, others gs h.1)
