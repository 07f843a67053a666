-- The families of the page are gathered by one candidate after another.
use Rattle.std.proofs.Common.{◌≡◌, ℕ, Bool, true, false, ◌||◌, ◌&&◌, cond, List, [], ◌∷◌, ◌++◌, map, filter, reverse, refl, sym, ap, ◌∙◌, append-nil}
use Rattle.std.specs.List.{flat_map, list_any}
use Rattle.std.specs.Str.{bytes_eq}
use Rattle.std.specs.Cmp.Lexicographic.{bytes_decides}
use Rattle.std.proofs.lemmas.Bool.{and_parts, or_parts}
use Rattle.std.proofs.lemmas.List.{map-append, reverse-append}
use Rattle.std.proofs.lemmas.List.Elements.{filter-append}
use Rattle.std.proofs.lemmas.Grind.{flat_map-append}
use Rattle.std.proofs.lemmas.Simd.{map-map}
use Rattle.label_sets.specs.Keys.{kind_eq}
use Rattle.label_sets.proofs.Laws.{kind_decides, any-reverse, any-map, filter-none}
use Rattle.page_model.specs.declared.page.Family.{Family}
use Rattle.open_writing.specs.FamilyKeys.{FamilyKey, family_key, share_sample_name, clash, is_one_family}
use Rattle.federation_page.specs.Conflicts.{founders, joined_by, meets, with_candidate}
use Rattle.federation_page.specs.Gathering.{with_readings_of}
use mathlib.Core.List.{reverse-cons}

-- ---- lists

map_same : {A B : Type 0} (f g : A → B) → ((x : A) → f x ≡ g x) → (xs : List A) → map f xs ≡ map g xs
map_same f g same [] = refl
map_same f g same (x ∷ xs) = ap (λ y. y ∷ map f xs) (same x) ∙ ap (λ ys. g x ∷ ys) (map_same f g same xs)

-- ---- keys

pub itself : (name : List ℕ) → bytes_eq name name ≡ true
itself name = (bytes_decides name name).1 refl

clash_itself : (k : FamilyKey) → clash k k ≡ true
unfolding clash
clash_itself k = ap (λ b. b || share_sample_name k k) (itself k.name)

one_itself : (k : FamilyKey) → is_one_family k k ≡ true
unfolding is_one_family
one_itself k =
    ap (λ b. b && kind_eq k.kind k.kind && bytes_eq k.unit k.unit) (itself k.name)
    ∙ ap (λ b. b && bytes_eq k.unit k.unit) ((kind_decides k.kind k.kind).1 refl)
    ∙ itself k.unit

pub one_key : (j k : FamilyKey) → is_one_family j k ≡ true → j ≡ k
unfolding is_one_family
one_key j k h =
    let first = and_parts (bytes_eq j.name k.name && kind_eq j.kind k.kind) (bytes_eq j.unit k.unit) h in
    let second = and_parts (bytes_eq j.name k.name) (kind_eq j.kind k.kind) first.0 in
    let name : j.name ≡ k.name = (bytes_decides j.name k.name).0 second.0 in
    let kind : j.kind ≡ k.kind = (kind_decides j.kind k.kind).0 second.1 in
    let unit : j.unit ≡ k.unit = (bytes_decides j.unit k.unit).0 first.1 in
    λ i. record { name = name i; kind = kind i; unit = unit i }

-- ---- what the candidates so far come to

-- the candidates that are one with a family
abbrev ones : List Family → Family → List Family
ones cs x = filter (λ y. is_one_family (family_key x) (family_key y)) cs

-- a founder with the readings of all that are one with it
abbrev pub founded_of : List Family → Family → Family
founded_of cs x = with_readings_of x (ones cs x)

-- the families of the page so far, in the order in which they were founded
abbrev pub so_far : List Family → List Family
so_far cs = map (founded_of cs) (reverse (founders family_key (reverse cs)))

-- a family that clashes with no founder is one with no candidate
none_is_one : (above : List Family) (k : FamilyKey) → meets (founders family_key above) k ≡ false → list_any (λ y. is_one_family k (family_key y)) above ≡ false
unfolding founders
none_is_one [] k h = refl
none_is_one (y ∷ above) k h = go (meets (founders family_key above) (family_key y)) refl h (is_one_family k (family_key y)) refl (none_is_one above k)
  where
    go : (b : Bool) → meets (founders family_key above) (family_key y) ≡ b → meets (cond b (founders family_key above) (y ∷ founders family_key above)) k ≡ false
        → (o : Bool) → is_one_family k (family_key y) ≡ o → (meets (founders family_key above) k ≡ false → list_any (λ z. is_one_family k (family_key z)) above ≡ false)
        → (o || list_any (λ z. is_one_family k (family_key z)) above) ≡ false
    go true e h true one ih = absurd (let same : k ≡ family_key y = one_key k (family_key y) one in let bad : true ≡ false = sym e ∙ ap (meets (founders family_key above)) (sym same) ∙ h in cc)
    go true e h false one ih = ih h
    go false e h true one ih =
        absurd (let same : k ≡ family_key y = one_key k (family_key y) one in let self : clash (family_key y) k ≡ true = ap (clash (family_key y)) same ∙ clash_itself (family_key y) in
        let bad : true ≡ false = sym (ap (λ b. b || meets (founders family_key above) k) self) ∙ h in cc)
    go false e h false one ih = ih (or_parts (clash (family_key y) k) (meets (founders family_key above) k) h).1

-- ---- one candidate more

module _ (cs : List Family) (c : Family) where
  -- a founder's readings with one candidate more
  more_readings : (x : Family) → founded_of (cs ++ c ∷ []) x ≡ joined_by c (founded_of cs x)
  more_readings x = ap (with_readings_of x) (filter-append (λ y. is_one_family (family_key x) (family_key y)) cs (c ∷ [])) ∙ go (is_one_family (family_key x) (family_key c))
    where
      go : (b : Bool) → with_readings_of x (ones cs x ++ cond b (c ∷ []) []) ≡ cond b (record (founded_of cs x) { readings = (founded_of cs x).readings ++ c.readings }) (founded_of cs x)
      go true = ap (λ rs. record x { readings = rs }) (flat_map-append (λ (g : Family). g.readings) (ones cs x) (c ∷ []) ∙ ap (λ rs. flat_map (λ (g : Family). g.readings) (ones cs x) ++ rs) (append-nil c.readings))
      go false = ap (with_readings_of x) (append-nil (ones cs x))

  -- it meets the families so far where it meets a founder
  meets_same : meets (so_far cs) (family_key c) ≡ meets (founders family_key (reverse cs)) (family_key c)
  meets_same = any-map (λ f. clash (family_key f) (family_key c)) (founded_of cs) (reverse (founders family_key (reverse cs)))
      ∙ any-reverse (λ f. clash (family_key f) (family_key c)) (founders family_key (reverse cs))

  -- what meets none of these founders is one with none
  stay : (xs : List Family) → meets xs (family_key c) ≡ false → map (founded_of (cs ++ c ∷ [])) xs ≡ map (founded_of cs) xs
  stay [] h = refl
  stay (x ∷ xs) h =
      let both = or_parts (clash (family_key x) (family_key c)) (meets xs (family_key c)) h in
      ap (λ y. y ∷ map (founded_of (cs ++ c ∷ [])) xs) (more_readings x ∙ go (is_one_family (family_key x) (family_key c)) refl both.0)
      ∙ ap (λ ys. founded_of cs x ∷ ys) (stay xs both.1)
    where
      go : (o : Bool) → is_one_family (family_key x) (family_key c) ≡ o → clash (family_key x) (family_key c) ≡ false
          → cond o (record (founded_of cs x) { readings = (founded_of cs x).readings ++ c.readings }) (founded_of cs x) ≡ founded_of cs x
      go true e h = absurd (let self : clash (family_key x) (family_key c) ≡ true = ap (clash (family_key x)) (sym (one_key (family_key x) (family_key c) e)) ∙ clash_itself (family_key x) in let bad : true ≡ false = sym self ∙ h in cc)
      go false e h = refl

  -- a new founder has its own readings
  own : meets (founders family_key (reverse cs)) (family_key c) ≡ false → founded_of (cs ++ c ∷ []) c ≡ c
  own h =
      let above = none_is_one (reverse cs) (family_key c) h in
      let none = sym (any-reverse (λ y. is_one_family (family_key c) (family_key y)) cs) ∙ above in
      ap (with_readings_of c) (filter-append (λ y. is_one_family (family_key c) (family_key y)) cs (c ∷ [])
      ∙ ap (λ ys. ys ++ filter (λ y. is_one_family (family_key c) (family_key y)) (c ∷ [])) (filter-none (λ y. is_one_family (family_key c) (family_key y)) cs none)
      ∙ ap (λ b. cond b (c ∷ []) []) (one_itself (family_key c)))
      ∙ ap (λ rs. record c { readings = rs }) (append-nil c.readings)

  -- the families so far with one candidate more
  pub step : so_far (cs ++ c ∷ []) ≡ with_candidate (so_far cs) c
  unfolding founders
  step = ap (λ (above : List Family). map (founded_of (cs ++ c ∷ [])) (reverse (founders family_key above))) (reverse-append cs (c ∷ [])) ∙ go (meets (founders family_key (reverse cs)) (family_key c)) refl
    where
      go : (b : Bool) → meets (founders family_key (reverse cs)) (family_key c) ≡ b
          → map (founded_of (cs ++ c ∷ [])) (reverse (cond b (founders family_key (reverse cs)) (c ∷ founders family_key (reverse cs)))) ≡ with_candidate (so_far cs) c
      go true e =
          map_same (founded_of (cs ++ c ∷ [])) (λ x. joined_by c (founded_of cs x)) more_readings (reverse (founders family_key (reverse cs)))
          ∙ sym (map-map (joined_by c) (founded_of cs) (reverse (founders family_key (reverse cs))))
          ∙ sym (ap (λ t. cond t (map (joined_by c) (so_far cs)) (so_far cs ++ c ∷ [])) (meets_same ∙ e))
      go false e =
          ap (λ (xs : List Family). map (founded_of (cs ++ c ∷ [])) xs) (reverse-cons c (founders family_key (reverse cs)))
          ∙ map-append (founded_of (cs ++ c ∷ [])) (reverse (founders family_key (reverse cs))) (c ∷ [])
          ∙ ap (λ ys. ys ++ founded_of (cs ++ c ∷ []) c ∷ []) (stay (reverse (founders family_key (reverse cs))) (any-reverse (λ f. clash (family_key f) (family_key c)) (founders family_key (reverse cs)) ∙ e))
          ∙ ap (λ y. so_far cs ++ y ∷ []) (own e)
          ∙ sym (ap (λ t. cond t (map (joined_by c) (so_far cs)) (so_far cs ++ c ∷ [])) (meets_same ∙ e))
