-- The keys of a page's readings are distinct, for every list of items.
use Rattle.std.proofs.Common.{◌≡◌, ℕ, Bool, true, false, not, ◌&&◌, List, [], ◌∷◌, ◌++◌, map, filter, filter_map, Option, Some, None, refl, sym, ap, ◌∙◌, codes, reverse, subst}
use Rattle.std.specs.List.{AllByRecursion, IsDistinct, flat_map, cons_option}
use Rattle.std.specs.Str.{bytes_eq}
use Rattle.std.specs.Cmp.Lexicographic.{bytes_decides}
use Rattle.std.specs.Prelude.{option_map, unwrap_or}
use Rattle.std.proofs.lemmas.List.{append_cancel_right}
use Rattle.std.proofs.lemmas.Bool.{and_parts, not-true}
use Rattle.std.proofs.lemmas.Option.{none-some, same_Some}
use Rattle.std.proofs.Math.Bool.{and-false}
use Rattle.label_sets.proofs.Laws.{distinct_kept, kind_decides, filter-passes, all-weaker}
use Rattle.label_sets.specs.declared.kind.Kind.{Kind}
use Rattle.label_sets.specs.declared.kind.Kind.TheVariants.{Counter, Gauge, Info}
use Rattle.label_sets.specs.declared.label_set.LabelSet.{LabelSet}
use Rattle.label_sets.specs.declared.series_key.SeriesKey.{SeriesKey}
use Rattle.label_sets.specs.Lists.{first_of_each, first_some}
use Rattle.label_sets.specs.Labels.{label_sets_eq}
use Rattle.label_sets.specs.Keys.{key_eq, kind_eq}
use Rattle.page_model.specs.declared.format.Format.{Format}
use Rattle.page_model.specs.declared.item.Item.{Item}
use Rattle.page_model.specs.declared.item.Sample.{Sample}
use Rattle.page_model.specs.declared.page.Reading.{Reading}
use Rattle.page_model.specs.declared.page.Family.{Family}
use Rattle.page_model.specs.declared.page.Value.{Value}
use Rattle.page_model.specs.Written.{Setting}
use Rattle.page_model.specs.Owners.{Owned, owned_lines, kind_of, samples_of}
use Rattle.page_model.specs.Readings.{counter_suffix, unit_in, key_name, value_of, value_with, stamp_of, exemplars_of, reading_labels, reading_of, readings_of, family_of, families_of, page_of}
use Rattle.page_model.specs.PageValues.{PageValue}
use Rattle.page_model.specs.Pages.{items_of, IsPageOf}
use Rattle.page_model.specs.Presence.{all_readings, keys_of}

-- ---- lists

module _ {A : Type 0} where
  pub first_of_each_distinct : (e : A → A → Bool) (xs : List A) → IsDistinct e (first_of_each e xs)
  unfolding IsDistinct
  first_of_each_distinct e [] = tt
  first_of_each_distinct e (x ∷ xs) =
      let rest = first_of_each e xs in (
        all-weaker (λ y. not (e x y) ≡ true) (λ y. e x y ≡ false) (λ y h. not-true (e x y) h) (filter (λ y. not (e x y)) rest) (filter-passes (λ y. not (e x y)) rest),
        distinct_kept e (λ y. not (e x y)) rest (first_of_each_distinct e xs),
      )

-- ---- the readings of one family

-- one reading's key isn't the other's
abbrev keys_differ : Reading → Reading → Bool
keys_differ r s = key_eq r.key s.key

module _ (f : LabelSet → Option Reading) (key : LabelSet → SeriesKey) (keyed : (L : LabelSet) (r : Reading) → f L ≡ Some r → r.key ≡ key L)
    (apart : (L M : LabelSet) → label_sets_eq L M ≡ false → key_eq (key L) (key M) ≡ false) where
  others_differ : (r : Reading) (L : LabelSet) → r.key ≡ key L → (Ms : List LabelSet) → AllByRecursion (λ M. label_sets_eq L M ≡ false) Ms → AllByRecursion (λ s. keys_differ r s ≡ false) (filter_map f Ms)
  others_differ r L e [] h = tt
  others_differ r L e (M ∷ Ms) h = go (f M) refl (others_differ r L e Ms h.1)
    where
      go : (o : Option Reading) → f M ≡ o → AllByRecursion (λ s. keys_differ r s ≡ false) (filter_map f Ms) → AllByRecursion (λ s. keys_differ r s ≡ false) (cons_option o (filter_map f Ms))
      go None g ih = ih
      go (Some s) g ih = (ap (λ k. key_eq k s.key) e ∙ ap (λ k. key_eq (key L) k) (keyed M s g) ∙ apart L M h.0, ih)

  readings_distinct : (Ls : List LabelSet) → IsDistinct label_sets_eq Ls → IsDistinct keys_differ (filter_map f Ls)
  unfolding IsDistinct
  readings_distinct [] h = tt
  readings_distinct (L ∷ Ls) h = go (f L) refl (readings_distinct Ls h.1)
    where
      go : (o : Option Reading) → f L ≡ o → IsDistinct keys_differ (filter_map f Ls) → IsDistinct keys_differ (cons_option o (filter_map f Ls))
      go None g ih = ih
      go (Some r) g ih = (others_differ r L (keyed L r g) Ls h.0, ih)

-- ---- the readings of two families

append_distinct : {A : Type 0} (e : A → A → Bool) (xs ys : List A) → IsDistinct e xs → IsDistinct e ys → AllByRecursion (λ x. AllByRecursion (λ y. e x y ≡ false) ys) xs → IsDistinct e (xs ++ ys)
unfolding IsDistinct
append_distinct e [] ys h k cross = k
append_distinct e (x ∷ xs) ys h k cross = (both e x xs ys h.0 cross.0, append_distinct e xs ys h.1 k cross.1)
  where
    both : {A : Type 0} (e : A → A → Bool) (x : A) (xs ys : List A) → AllByRecursion (λ y. e x y ≡ false) xs → AllByRecursion (λ y. e x y ≡ false) ys → AllByRecursion (λ y. e x y ≡ false) (xs ++ ys)
    both e x [] ys h k = k
    both e x (z ∷ zs) ys h k = (h.0, both e x zs ys h.1 k)

kind_is : (k l : Kind) → kind_eq k l ≡ true → k ≡ l
kind_is k l h = (kind_decides k l).0 h

-- under one kind the name of a key tells the family
family_is : (f : Format) (k : Kind) (F G : List ℕ) → key_name f k F ≡ key_name f k G → F ≡ G
family_is f Counter F G e = append_cancel_right F G (counter_suffix f) e
family_is f Info F G e = append_cancel_right F G (codes "_info") e
family_is f Gauge F G e = e
family_is f _ F G e = e

-- the reading is named as one of this family
abbrev IsNamed : Format → List ℕ → Reading → Type 0
IsNamed f F r = r.key.name ≡ key_name f r.key.kind F

families_apart : (f : Format) (F G : List ℕ) (r s : Reading) → bytes_eq F G ≡ false → IsNamed f F r → IsNamed f G s → keys_differ r s ≡ false
families_apart f F G r s differ n m = go (keys_differ r s) refl
  where
    go : (b : Bool) → keys_differ r s ≡ b → keys_differ r s ≡ false
    go false e = e
    go true e =
        let a = and_parts (bytes_eq r.key.name s.key.name && kind_eq r.key.kind s.key.kind && bytes_eq r.key.unit s.key.unit) (label_sets_eq r.key.labels s.key.labels) e in
        let b = and_parts (bytes_eq r.key.name s.key.name && kind_eq r.key.kind s.key.kind) (bytes_eq r.key.unit s.key.unit) a.0 in
        let c = and_parts (bytes_eq r.key.name s.key.name) (kind_eq r.key.kind s.key.kind) b.0 in
        let kinds : r.key.kind ≡ s.key.kind = kind_is r.key.kind s.key.kind c.1 in
        let names : key_name f r.key.kind F ≡ key_name f r.key.kind G =
        sym n ∙ (bytes_decides r.key.name s.key.name).0 c.0 ∙ m ∙ ap (λ k. key_name f k G) (sym kinds) in
        let same : bytes_eq F G ≡ true = (bytes_decides F G).1 (family_is f r.key.kind F G names) in
        absurd (let h : true ≡ false = sym same ∙ differ in cc)

-- ---- the page

-- the readings of a family have its name
named : (st : Setting) (k : Kind) (F unit : List ℕ) (samples : List Sample) (L : LabelSet) (r : Reading) → reading_of st k F unit samples L ≡ Some r
    → r.key ≡ record { name = key_name st.format k F; kind = k; unit = unit; labels = L }
unfolding reading_of
named st k F unit samples L r e =
    let own = filter (λ s. label_sets_eq (reading_labels st k F s) L) samples in
    go (value_of st.format k F own) e
  where
    own : List Sample
    own = filter (λ s. label_sets_eq (reading_labels st k F s) L) samples

    made : Value → Reading
    made v = record { key = record { name = key_name st.format k F; kind = k; unit = unit; labels = L }; value = v; created = value_with F (codes "_created") own; stamp = stamp_of st.format F own; exemplars = exemplars_of k F own }

    go : (o : Option Value) → option_map made o ≡ Some r → r.key ≡ record { name = key_name st.format k F; kind = k; unit = unit; labels = L }
    go None e = absurd (none-some r e)
    go (Some v) e = sym (ap (λ (q : Reading). q.key) (same_Some (made v) r e))

module _ (st : Setting) (lines : List Owned) where
  -- the readings of a family of the page
  abbrev family_readings : List ℕ → List Reading
  family_readings F = (family_of st lines F).readings

  one_family_distinct : (k : Kind) (F unit : List ℕ) (samples : List Sample) → IsDistinct keys_differ (readings_of st k F unit samples)
  unfolding readings_of
  one_family_distinct k F unit samples =
      readings_distinct (reading_of st k F unit samples) (λ L. record { name = key_name st.format k F; kind = k; unit = unit; labels = L }) (named st k F unit samples)
      (λ L M h. rw h (and-false (bytes_eq (key_name st.format k F) (key_name st.format k F) && kind_eq k k && bytes_eq unit unit)))
      (first_of_each label_sets_eq (map (reading_labels st k F) samples)) (first_of_each_distinct label_sets_eq (map (reading_labels st k F) samples))

  all_named : (k : Kind) (F unit : List ℕ) (samples : List Sample) (Ls : List LabelSet) → AllByRecursion (IsNamed st.format F) (filter_map (reading_of st k F unit samples) Ls)
  all_named k F unit samples [] = tt
  all_named k F unit samples (L ∷ Ls) = go (reading_of st k F unit samples L) refl (all_named k F unit samples Ls)
    where
      go : (o : Option Reading) → reading_of st k F unit samples L ≡ o → AllByRecursion (IsNamed st.format F) (filter_map (reading_of st k F unit samples) Ls)
          → AllByRecursion (IsNamed st.format F) (cons_option o (filter_map (reading_of st k F unit samples) Ls))
      go None e ih = ih
      go (Some r) e ih =
          let key = named st k F unit samples L r e in
          let kind : k ≡ r.key.kind = ap (λ (q : SeriesKey). q.kind) (sym key) in
          (ap (λ (q : SeriesKey). q.name) key ∙ ap (λ j. key_name st.format j F) kind, ih)

  family_named : (F : List ℕ) → AllByRecursion (IsNamed st.format F) (family_readings F)
  unfolding readings_of family_of
  family_named F = all_named (kind_of lines F) F (unwrap_or (first_some (unit_in F) lines) []) (samples_of lines F)
      (first_of_each label_sets_eq (map (reading_labels st (kind_of lines F) F) (samples_of lines F)))

  -- the readings of the families of these names
  readings_under : List (List ℕ) → List Reading
  readings_under names = flat_map (λ (f : Family). f.readings) (map (family_of st lines) names)

  cross_one : (F G : List ℕ) (r : Reading) → bytes_eq F G ≡ false → IsNamed st.format F r → (rs : List Reading) → AllByRecursion (IsNamed st.format G) rs → AllByRecursion (λ s. keys_differ r s ≡ false) rs
  cross_one F G r differ n [] h = tt
  cross_one F G r differ n (s ∷ rs) h = (families_apart st.format F G r s differ n h.0, cross_one F G r differ n rs h.1)

  all_append : (P : Reading → Type 0) (xs ys : List Reading) → AllByRecursion P xs → AllByRecursion P ys → AllByRecursion P (xs ++ ys)
  all_append P [] ys h k = k
  all_append P (x ∷ xs) ys h k = (h.0, all_append P xs ys h.1 k)

  cross_names : (F : List ℕ) (r : Reading) → IsNamed st.format F r → (names : List (List ℕ)) → AllByRecursion (λ G. bytes_eq F G ≡ false) names → AllByRecursion (λ s. keys_differ r s ≡ false) (readings_under names)
  unfolding readings_under
  cross_names F r n [] h = tt
  cross_names F r n (G ∷ names) h = all_append (λ s. keys_differ r s ≡ false) (family_readings G) (readings_under names) (cross_one F G r h.0 n (family_readings G) (family_named G)) (cross_names F r n names h.1)

  cross_all : (F : List ℕ) (names : List (List ℕ)) → AllByRecursion (λ G. bytes_eq F G ≡ false) names → (rs : List Reading) → AllByRecursion (IsNamed st.format F) rs
      → AllByRecursion (λ r. AllByRecursion (λ s. keys_differ r s ≡ false) (readings_under names)) rs
  cross_all F names h [] n = tt
  cross_all F names h (r ∷ rs) n = (cross_names F r n.0 names h, cross_all F names h rs n.1)

  under_distinct : (names : List (List ℕ)) → IsDistinct bytes_eq names → IsDistinct keys_differ (readings_under names)
  unfolding IsDistinct readings_under family_of
  under_distinct [] h = tt
  under_distinct (F ∷ names) h =
      append_distinct keys_differ (family_readings F) (readings_under names)
      (one_family_distinct (kind_of lines F) F (unwrap_or (first_some (unit_in F) lines) []) (samples_of lines F))
      (under_distinct names h.1) (cross_all F names h.0 (family_readings F) (family_named F))

keys_distinct : (rs : List Reading) → IsDistinct keys_differ rs → IsDistinct key_eq (map (λ (r : Reading). r.key) rs)
unfolding IsDistinct
keys_distinct [] h = tt
keys_distinct (r ∷ rs) h = (others rs h.0, keys_distinct rs h.1)
  where
    others : (ss : List Reading) → AllByRecursion (λ s. keys_differ r s ≡ false) ss → AllByRecursion (λ k. key_eq r.key k ≡ false) (map (λ (s : Reading). s.key) ss)
    others [] h = tt
    others (s ∷ ss) h = (h.0, others ss h.1)

-- the keys of a page's readings are distinct
pub keys_of-page_of : (st : Setting) (items : List Item) → IsDistinct key_eq (keys_of (page_of st items))
unfolding readings_under page_of families_of
keys_of-page_of st items =
    let lines = reverse (owned_lines st.format items) in
    keys_distinct (all_readings (page_of st items)) (under_distinct st lines (families_of lines) (first_of_each_distinct bytes_eq (map (λ (o : Owned). o.family) lines)))

-- the keys of the page of a text are distinct
pub page-distinct_keys : (st : Setting) (bytes : List ℕ) (page : PageValue) → IsPageOf st bytes page → IsDistinct key_eq (keys_of page)
page-distinct_keys st bytes page p = subst (λ q. IsDistinct key_eq (keys_of q)) (sym p.page_is) (keys_of-page_of st (items_of st.format p.lines))
