-- What the code keeps of the families of the page, with one candidate more.
use Rattle.std.proofs.Common.{◌≡◌, ℕ, zero, suc, ◌+◌, ◌<◌, Bool, true, false, ◌&&◌, ◌||◌, cond, List, [], ◌∷◌, ◌++◌, map, take, drop, length, get_or, Option, Some, None, refl, sym, ap, subst, ◌∙◌, arith}
use Rattle.std.specs.Prelude.{slice_get, slice_set, MatchOption, is_some}
use Rattle.std.specs.List.{list_any, flat_map, AllByRecursion, IsDistinct}
use Rattle.std.specs.Str.{bytes_eq}
use Rattle.std.specs.Cmp.Lexicographic.{bytes_decides}
use Rattle.std.proofs.lemmas.Bool.{or_parts, or_from}
use Rattle.std.proofs.lemmas.List.{map-append}
use Rattle.std.proofs.lemmas.List.Folds.{list_any-append}
use Rattle.std.proofs.lemmas.Simd.{map-map}
use Rattle.std.proofs.Math.Bool.{or-false, or_assoc}
use Rattle.byte_table.proofs.Laws.{among}
use Rattle.label_sets.specs.Keys.{kind_eq}
use Rattle.label_sets.proofs.Laws.{any-map, bytes_eq-swap}
use Rattle.page_model.specs.declared.format.Format.TheVariants.{OpenMetrics}
use Rattle.page_model.specs.declared.page.Family.{Family}
use Rattle.page_model.specs.declared.suffix.Suffix.{Suffix}
use Rattle.page_model.specs.Suffixes.{suffixes}
use Rattle.page_model.specs.SuffixNames.{suffix_bytes}
use Rattle.open_writing.specs.FamilyKeys.{FamilyKey, family_key, sample_names, share_sample_name, clash, is_one_family, AreApart}
use Rattle.federation_page.specs.Conflicts.{joined_by, meets, with_candidate}
use Rattle.federation_page.specs.Founding.{is_name_among, all_sample_names, AreFounders}
use Rattle.federation_page.specs.declared.conflicts.Founders.{Founders}
use Rattle.federation_page.proofs.Founders.{any_or, shared_turned}
use Rattle.federation_page.proofs.Groups.{distinct_joined}

-- ---- lists

pub default_free : {A : Type 0} (xs : List A) (i : ℕ) (d e : A) → i < length xs → get_or xs i d ≡ get_or xs i e
default_free [] i d e h = absurd (omega arith)
default_free (x ∷ xs) zero d e h = refl
default_free (x ∷ xs) (suc i) d e h = default_free xs i d e (omega arith)

pub drop_here : {A : Type 0} (xs : List A) (i : ℕ) (x : A) → i < length xs → x ≡ get_or xs i x → drop i xs ≡ x ∷ drop (suc i) xs
drop_here [] i x h e = absurd (omega arith)
drop_here (y ∷ ys) zero x h e = ap (λ z. z ∷ ys) (sym e)
drop_here (y ∷ ys) (suc i) x h e = drop_here ys i x (omega arith) e

pub take_here : {A : Type 0} (xs : List A) (i : ℕ) (x : A) → i < length xs → x ≡ get_or xs i x → take (suc i) xs ≡ take i xs ++ x ∷ []
take_here [] i x h e = absurd (omega arith)
take_here (y ∷ []) zero x h e = ap (λ z. z ∷ []) (sym e)
take_here (y ∷ z ∷ ys) zero x h e = ap (λ w. w ∷ []) (sym e)
take_here (y ∷ ys) (suc i) x h e = ap (λ zs. y ∷ zs) (take_here ys i x (omega arith) e)

pub any_here : {A : Type 0} (p : A → Bool) (xs : List A) (i : ℕ) (x : A) → i < length xs → x ≡ get_or xs i x → p x ≡ true → list_any p xs ≡ true
any_here p [] i x h e t = absurd (omega arith)
any_here p (y ∷ ys) zero x h e t = ap (λ b. b || list_any p ys) (ap p (sym e) ∙ t)
any_here p (y ∷ ys) (suc i) x h e t = by (p y) (any_here p ys i x (omega arith) e t)
  where
    by : (b : Bool) {c : Bool} → c ≡ true → (b || c) ≡ true
    by true k = refl
    by false k = k

any_same : {A : Type 0} (p q : A → Bool) → ((x : A) → p x ≡ q x) → (xs : List A) → list_any p xs ≡ list_any q xs
any_same p q same [] = refl
any_same p q same (x ∷ xs) = ap (λ b. b || list_any p xs) (same x) ∙ ap (λ b. q x || b) (any_same p q same xs)

any_flat : {A B : Type 0} (p : B → Bool) (g : A → List B) (xs : List A) → list_any p (flat_map g xs) ≡ list_any (λ x. list_any p (g x)) xs
any_flat p g [] = refl
any_flat p g (x ∷ xs) = list_any-append p (g x) (flat_map g xs) ∙ ap (λ b. list_any p (g x) || b) (any_flat p g xs)

-- ---- tables

-- a look-up finds what is among the names
pub looked_up : (table : List (List ℕ)) (name : List ℕ) (found : Option ℕ) → MatchOption found (list_any (bytes_eq name) table ≡ false) (λ at. slice_get table at ≡ Some name) → is_some found ≡ is_name_among table name
looked_up table name None m = sym m
looked_up table name (Some at) m = sym (among table name at m)

-- a name that was put in is among the names
pub put_in : (old new : List (List ℕ)) (name : List ℕ) (found : Option ℕ) → MatchOption found (list_any (bytes_eq name) old ≡ false) (λ at. slice_get old at ≡ Some name)
    → MatchOption found (new ≡ old ++ name ∷ []) (λ at. new ≡ old) → (q : List ℕ) → is_name_among new q ≡ (is_name_among old q || bytes_eq q name)
put_in old new name None m e q = ap (λ t. is_name_among t q) e ∙ list_any-append (bytes_eq q) old (name ∷ []) ∙ ap (λ b. is_name_among old q || b) (or-false (bytes_eq q name))
put_in old new name (Some at) m e q = ap (λ t. is_name_among t q) e ∙ go (bytes_eq q name) refl
  where
    other : (b : Bool) → b ≡ true → b ≡ (b || true)
    other b h = h ∙ sym (by b)
      where
        by : (c : Bool) → (c || true) ≡ true
        by true = refl
        by false = refl

    go : (b : Bool) → bytes_eq q name ≡ b → is_name_among old q ≡ (is_name_among old q || b)
    go false h = sym (or-false (is_name_among old q))
    go true h = other (is_name_among old q) (ap (is_name_among old) ((bytes_decides q name).0 h) ∙ among old name at m)

-- a name that was not there is put behind the others
pub put_behind : (old new : List (List ℕ)) (name : List ℕ) (found : Option ℕ) → is_name_among old name ≡ false → MatchOption found (list_any (bytes_eq name) old ≡ false) (λ at. slice_get old at ≡ Some name)
    → MatchOption found (new ≡ old ++ name ∷ []) (λ at. new ≡ old) → new ≡ old ++ name ∷ []
put_behind old new name None none m e = e
put_behind old new name (Some at) none m e = absurd (let there : is_name_among old name ≡ true = among old name at m in let bad : true ≡ false = sym there ∙ none in cc)

-- ---- sample names

pub sample_names_are : (ss : List Suffix) (k : FamilyKey) → map suffix_bytes ss ≡ suffixes OpenMetrics k.kind → map (λ s. k.name ++ suffix_bytes s) ss ≡ sample_names k
sample_names_are ss k e = sym (map-map (λ suffix. k.name ++ suffix) suffix_bytes ss) ∙ ap (map (λ suffix. k.name ++ suffix)) e

-- the name with this suffix is one of the table
pub shares_here : (table : List (List ℕ)) (ss : List Suffix) (k : FamilyKey) (i : ℕ) (s : Suffix) (name : List ℕ) (found : Option ℕ) → map suffix_bytes ss ≡ suffixes OpenMetrics k.kind → i < length ss → s ≡ get_or ss i s
    → name ≡ k.name ++ suffix_bytes s → MatchOption found (list_any (bytes_eq name) table ≡ false) (λ at. slice_get table at ≡ Some name) → is_some found ≡ true → true ≡ list_any (is_name_among table) (sample_names k)
shares_here table ss k i s name found are h e is m some =
    sym (ap (list_any (is_name_among table)) (sym (sample_names_are ss k are)) ∙ any-map (is_name_among table) (λ s. k.name ++ suffix_bytes s) ss
    ∙ any_here (λ s. is_name_among table (k.name ++ suffix_bytes s)) ss i s h e (ap (is_name_among table) (sym is) ∙ sym (looked_up table name found m) ∙ some))

-- one sample name more
pub one_more : (start old new : List (List ℕ)) (front : List ℕ) (ss : List Suffix) (i : ℕ) (s : Suffix) (name : List ℕ) → i < length ss → s ≡ get_or ss i s → name ≡ front ++ suffix_bytes s
    → ((q : List ℕ) → is_name_among new q ≡ (is_name_among old q || bytes_eq q name))
    → ((q : List ℕ) → is_name_among old q ≡ (is_name_among start q || is_name_among (map (λ s. front ++ suffix_bytes s) (take i ss)) q))
    → (q : List ℕ) → is_name_among new q ≡ (is_name_among start q || is_name_among (map (λ s. front ++ suffix_bytes s) (take (i + 1) ss)) q)
one_more start old new front ss i s name h e is step before q =
    let f : Suffix → List ℕ = λ s. front ++ suffix_bytes s in
    let count : suc i ≡ i + 1 = omega arith in
    let more : map f (take (i + 1) ss) ≡ map f (take i ss) ++ f s ∷ [] = ap (λ n. map f (take n ss)) (sym count) ∙ ap (map f) (take_here ss i s h e) ∙ map-append f (take i ss) (s ∷ []) in
    step q ∙ ap (λ b. b || bytes_eq q name) (before q) ∙ or_assoc (is_name_among start q) (is_name_among (map f (take i ss)) q) (bytes_eq q name)
    ∙ ap (λ b. is_name_among start q || b) (ap (λ n. is_name_among (map f (take i ss)) q || bytes_eq q n) is ∙ ap (λ b. is_name_among (map f (take i ss)) q || b) (sym (or-false (bytes_eq q (f s)))) ∙ sym (list_any-append (bytes_eq q) (map f (take i ss)) (f s ∷ [])) ∙ ap (λ ns. is_name_among ns q) (sym more))

pub all_added : (start table : List (List ℕ)) (ss all : List Suffix) (k : FamilyKey) → all ≡ ss → map suffix_bytes ss ≡ suffixes OpenMetrics k.kind
    → ((q : List ℕ) → is_name_among table q ≡ (is_name_among start q || is_name_among (map (λ s. k.name ++ suffix_bytes s) all) q)) → (q : List ℕ) → is_name_among table q ≡ (is_name_among start q || is_name_among (sample_names k) q)
all_added start table ss all k whole are h q = h q ∙ ap (λ ns. is_name_among start q || is_name_among ns q) (ap (map (λ s. k.name ++ suffix_bytes s)) whole ∙ sample_names_are ss k are)

-- ---- families

abbrev names_of : List Family → List (List ℕ)
names_of fs = map (λ (g : Family). g.name) fs

pub kept_none : (f : Founders) → f.names ≡ [] → f.sample_names ≡ [] → f.families.items ≡ [] → AreFounders f
unfolding IsDistinct
kept_none f n s e = record {
  names = n ∙ ap names_of (sym e);
  sample_names = λ name. ap (λ t. is_name_among t name) s ∙ ap (λ fs. is_name_among (all_sample_names fs) name) (sym e);
  apart = subst AreApart (sym e) tt;
}

-- a candidate shares a sample name with a family or has its name, or clashes with none
meets_by : (fs : List Family) (k : FamilyKey) → meets fs k ≡ (is_name_among (names_of fs) k.name || list_any (is_name_among (all_sample_names fs)) (sample_names k))
unfolding clash share_sample_name
meets_by fs k =
    any_or (λ f. bytes_eq f.name k.name) (λ f. list_any (λ n. list_any (bytes_eq n) (sample_names k)) (sample_names (family_key f))) fs
    ∙ ap (λ b. b || list_any (λ f. list_any (λ n. list_any (bytes_eq n) (sample_names k)) (sample_names (family_key f))) fs)
    (any_same (λ (f : Family). bytes_eq f.name k.name) (λ (f : Family). bytes_eq k.name f.name) (λ f. bytes_eq-swap f.name k.name) fs ∙ sym (any-map (bytes_eq k.name) (λ (g : Family). g.name) fs))
    ∙ ap (λ b. is_name_among (names_of fs) k.name || b)
    (sym (any_flat (λ n. list_any (bytes_eq n) (sample_names k)) (λ f. sample_names (family_key f)) fs) ∙ shared_turned (all_sample_names fs) (sample_names k))

pub meets_is : (f : Founders) (c : Family) → AreFounders f → is_name_among f.names c.name ≡ false → meets f.families.items (family_key c) ≡ list_any (is_name_among f.sample_names) (sample_names (family_key c))
meets_is f c kept new =
    meets_by f.families.items (family_key c)
    ∙ ap (λ b. b || list_any (is_name_among (all_sample_names f.families.items)) (sample_names (family_key c))) (ap (λ ns. is_name_among ns c.name) (sym kept.names) ∙ new)
    ∙ any_same (is_name_among (all_sample_names f.families.items)) (is_name_among f.sample_names) (λ n. sym (kept.sample_names n)) (sample_names (family_key c))

-- of another name, a family stays as it is
other_name : (c f : Family) → bytes_eq c.name f.name ≡ false → joined_by c f ≡ f
unfolding is_one_family
other_name c f h = ap (λ b. cond (b && kind_eq f.kind c.kind && bytes_eq f.unit c.unit) (record f { readings = f.readings ++ c.readings }) f) (bytes_eq-swap f.name c.name ∙ h)

others_stay : (c : Family) (fs : List Family) → is_name_among (names_of fs) c.name ≡ false → map (joined_by c) fs ≡ fs
others_stay c [] h = refl
others_stay c (f ∷ fs) h = let both = or_parts (bytes_eq c.name f.name) (is_name_among (names_of fs) c.name) h in ap (λ g. g ∷ map (joined_by c) fs) (other_name c f both.0) ∙ ap (λ gs. f ∷ gs) (others_stay c fs both.1)

-- a candidate of a new name that shares a sample name is left out
pub left_out : (f : Founders) (c : Family) → AreFounders f → is_name_among f.names c.name ≡ false → list_any (is_name_among f.sample_names) (sample_names (family_key c)) ≡ true → f.families.items ≡ with_candidate f.families.items c
left_out f c kept new shares =
    sym (ap (λ b. cond b (map (joined_by c) f.families.items) (f.families.items ++ c ∷ [])) (meets_is f c kept new ∙ shares) ∙ others_stay c f.families.items (ap (λ ns. is_name_among ns c.name) (sym kept.names) ∙ new))

-- and one that shares none founds a family
pub founded : (fs : List Family) (c : Family) → meets fs (family_key c) ≡ false → fs ++ c ∷ [] ≡ with_candidate fs c
founded fs c free = sym (ap (λ b. cond b (map (joined_by c) fs) (fs ++ c ∷ [])) free)

-- ---- a family that was founded

no_clash : (fs : List Family) (k : FamilyKey) → meets fs k ≡ false → AllByRecursion (λ j. list_any (clash j) (k ∷ []) ≡ false) (map family_key fs)
no_clash [] k h = tt
no_clash (f ∷ fs) k h = let both = or_parts (clash (family_key f) k) (meets fs k) h in (or_from (clash (family_key f) k) false both.0 refl, no_clash fs k both.1)

new_name : (fs : List Family) (k : FamilyKey) → meets fs k ≡ false → is_name_among (names_of fs) k.name ≡ false
new_name fs k h = (or_parts (is_name_among (names_of fs) k.name) (list_any (is_name_among (all_sample_names fs)) (sample_names k)) (sym (meets_by fs k) ∙ h)).0

flat_more : (fs : List Family) (c : Family) (q : List ℕ) → is_name_among (all_sample_names (fs ++ c ∷ [])) q ≡ (is_name_among (all_sample_names fs) q || is_name_among (sample_names (family_key c)) q)
flat_more fs c q =
    any_flat (bytes_eq q) (λ f. sample_names (family_key f)) (fs ++ c ∷ []) ∙ list_any-append (λ f. list_any (bytes_eq q) (sample_names (family_key f))) fs (c ∷ [])
    ∙ ap (λ b. b || (is_name_among (sample_names (family_key c)) q || false)) (sym (any_flat (bytes_eq q) (λ f. sample_names (family_key f)) fs)) ∙ ap (λ b. is_name_among (all_sample_names fs) q || b) (or-false (is_name_among (sample_names (family_key c)) q))

pub kept_founded : (f g : Founders) (c : Family) (found : Option ℕ) → AreFounders f → meets f.families.items (family_key c) ≡ false
    → MatchOption found (list_any (bytes_eq c.name) f.names ≡ false) (λ at. slice_get f.names at ≡ Some c.name) → MatchOption found (g.names ≡ f.names ++ c.name ∷ []) (λ at. g.names ≡ f.names)
    → ((q : List ℕ) → is_name_among g.sample_names q ≡ (is_name_among f.sample_names q || is_name_among (sample_names (family_key c)) q)) → g.families.items ≡ f.families.items ++ c ∷ [] → AreFounders g
unfolding IsDistinct
kept_founded f g c found kept free m e samples families =
    let new : is_name_among f.names c.name ≡ false = ap (λ ns. is_name_among ns c.name) kept.names ∙ new_name f.families.items (family_key c) free in
    record {
      names = put_behind f.names g.names c.name found new m e ∙ ap (λ ns. ns ++ c.name ∷ []) kept.names ∙ sym (map-append (λ (h : Family). h.name) f.families.items (c ∷ [])) ∙ ap names_of (sym families);
      sample_names = λ q. samples q ∙ ap (λ b. b || is_name_among (sample_names (family_key c)) q) (kept.sample_names q) ∙ sym (flat_more f.families.items c q) ∙ ap (λ fs. is_name_among (all_sample_names fs) q) (sym families);
      apart = subst AreApart (sym families) (subst (IsDistinct clash) (sym (map-append family_key f.families.items (c ∷ []))) (distinct_joined clash (map family_key f.families.items) (family_key c ∷ []) kept.apart (tt, tt) (no_clash f.families.items (family_key c) free)));
    }

-- ---- a family that was joined

joined_key : (c f : Family) → family_key (joined_by c f) ≡ family_key f
joined_key c f = go (is_one_family (family_key f) (family_key c))
  where
    go : (b : Bool) → family_key (cond b (record f { readings = f.readings ++ c.readings }) f) ≡ family_key f
    go true = refl
    go false = refl

keys_same : (c : Family) (fs : List Family) → map family_key (map (joined_by c) fs) ≡ map family_key fs
keys_same c [] = refl
keys_same c (f ∷ fs) = ap (λ k. k ∷ map family_key (map (joined_by c) fs)) (joined_key c f) ∙ ap (λ ks. family_key f ∷ ks) (keys_same c fs)

names_from : (fs : List Family) → names_of fs ≡ map (λ (k : FamilyKey). k.name) (map family_key fs)
names_from fs = sym (map-map (λ (k : FamilyKey). k.name) family_key fs)

samples_from : (fs : List Family) → all_sample_names fs ≡ flat_map sample_names (map family_key fs)
samples_from [] = refl
samples_from (f ∷ fs) = ap (λ ns. sample_names (family_key f) ++ ns) (samples_from fs)

pub kept_joined : (f g : Founders) (c : Family) → AreFounders f → g.names ≡ f.names → g.sample_names ≡ f.sample_names → g.families.items ≡ map (joined_by c) f.families.items → AreFounders g
kept_joined f g c kept n s e =
    let keys : map family_key g.families.items ≡ map family_key f.families.items = ap (map family_key) e ∙ keys_same c f.families.items in
    record {
      names = n ∙ kept.names ∙ names_from f.families.items ∙ ap (map (λ (k : FamilyKey). k.name)) (sym keys) ∙ sym (names_from g.families.items);
      sample_names = λ q. ap (λ t. is_name_among t q) s ∙ kept.sample_names q ∙ ap (λ ns. is_name_among ns q) (samples_from f.families.items ∙ ap (flat_map sample_names) (sym keys) ∙ sym (samples_from g.families.items));
      apart = subst (IsDistinct clash) (sym keys) kept.apart;
    }

-- where the name stands, the candidate joins; elsewhere nothing changes
set_joined : (c : Family) (fs : List Family) (place : ℕ) (old new : Family) → AreApart fs → slice_get (names_of fs) place ≡ Some c.name → old ≡ get_or fs place old → new ≡ joined_by c old → slice_set fs place new ≡ map (joined_by c) fs
unfolding IsDistinct clash
set_joined c [] place old new apart there is e = absurd cc
set_joined c (f ∷ fs) zero old new apart there is e =
    let name : f.name ≡ c.name = cc in
    ap (λ g. g ∷ fs) (e ∙ ap (joined_by c) is) ∙ ap (λ gs. joined_by c f ∷ gs) (sym (others_stay c fs (elsewhere fs name apart.0)))
  where
    elsewhere : (gs : List Family) → f.name ≡ c.name → AllByRecursion (λ k. (bytes_eq f.name k.name || share_sample_name (family_key f) k) ≡ false) (map family_key gs) → is_name_among (names_of gs) c.name ≡ false
    elsewhere [] n h = refl
    elsewhere (g ∷ gs) n h = or_from (bytes_eq c.name g.name) (is_name_among (names_of gs) c.name) (ap (λ m. bytes_eq m g.name) (sym n) ∙ (or_parts (bytes_eq f.name g.name) (share_sample_name (family_key f) (family_key g)) h.0).0) (elsewhere gs n h.1)
set_joined c (f ∷ fs) (suc place) old new apart there is e =
    ap (λ g. g ∷ slice_set fs place new) (sym (other_name c f (first fs place apart.0 there))) ∙ ap (λ gs. joined_by c f ∷ gs) (set_joined c fs place old new apart.1 there is e)
  where
    first : (gs : List Family) (at : ℕ) → AllByRecursion (λ k. (bytes_eq f.name k.name || share_sample_name (family_key f) k) ≡ false) (map family_key gs) → slice_get (names_of gs) at ≡ Some c.name → bytes_eq c.name f.name ≡ false
    first [] at h t = absurd cc
    first (g ∷ gs) zero h t =
        let name : g.name ≡ c.name = cc in
        ap (λ m. bytes_eq m f.name) (sym name) ∙ bytes_eq-swap g.name f.name ∙ (or_parts (bytes_eq f.name g.name) (share_sample_name (family_key f) (family_key g)) h.0).0
    first (g ∷ gs) (suc at) h t = first gs at h.1 t

met : (fs : List Family) (c : Family) (place : ℕ) → slice_get (names_of fs) place ≡ Some c.name → meets fs (family_key c) ≡ true
met fs c place there = meets_by fs (family_key c) ∙ ap (λ b. b || list_any (is_name_among (all_sample_names fs)) (sample_names (family_key c))) (among (names_of fs) c.name place there)

pub joined : (f : Founders) (c : Family) (place : ℕ) (old new : Family) → AreFounders f → slice_get f.names place ≡ Some c.name → old ≡ get_or f.families.items place old → new ≡ joined_by c old
    → slice_set f.families.items place new ≡ map (joined_by c) f.families.items
joined f c place old new kept there is e = set_joined c f.families.items place old new kept.apart (ap (λ ns. slice_get ns place) (sym kept.names) ∙ there) is e

pub joined_is : (f : Founders) (c : Family) (place : ℕ) → AreFounders f → slice_get f.names place ≡ Some c.name → map (joined_by c) f.families.items ≡ with_candidate f.families.items c
joined_is f c place kept there = sym (ap (λ b. cond b (map (joined_by c) f.families.items) (f.families.items ++ c ∷ [])) (met f.families.items c place (ap (λ ns. slice_get ns place) (sym kept.names) ∙ there)))
