-- A page has at most twice as many written sample lines as it was read from, and at most as many readings.
use Rattle.std.proofs.Common.{◌≡◌, ℕ, ◌+◌, ◌≤◌, Bool, true, false, not, cond, List, [], ◌∷◌, ◌++◌, map, filter, filter_map, find, length, reverse, codes, Option, Some, None, option_map, refl, sym, ap, subst, ◌∙◌, arith, inl, inr}
use Rattle.std.specs.Prelude.{option_and_then}
use Rattle.std.specs.List.{sum_by, flat_map, AllByRecursion, IsDistinct, cons_option}
use Rattle.std.specs.Str.{bytes_eq}
use Rattle.std.specs.Cmp.Lexicographic.{bytes_decides}
use Rattle.std.proofs.lemmas.Bool.{not-true}
use Rattle.std.proofs.lemmas.List.{reverse-append, length-map, length-append}
use Rattle.std.proofs.lemmas.List.Sums.{sum_by-cons}
use Rattle.label_sets.specs.declared.kind.Kind.{Kind}
use Rattle.label_sets.specs.declared.kind.Kind.TheVariants.{Counter, Histogram, GaugeHistogram, Info, Summary}
use Rattle.label_sets.specs.declared.label_set.LabelSet.{LabelSet}
use Rattle.label_sets.specs.Lists.{first_of_each}
use Rattle.label_sets.specs.Labels.{label_sets_eq}
use Rattle.label_sets.proofs.Laws.{distinct_kept, filter-passes}
use Rattle.exact_decimal.specs.declared.number.Number.{Number}
use Rattle.exact_decimal.specs.Order.{whole}
use Rattle.page_model.specs.declared.format.Format.{Format}
use Rattle.page_model.specs.declared.item.Item.{Item}
use Rattle.page_model.specs.declared.item.Item.TheVariants as items
use Rattle.page_model.specs.declared.item.Sample.{Sample}
use Rattle.page_model.specs.declared.page.Value.{Value}
use Rattle.page_model.specs.declared.page.Value.TheVariants as values
use Rattle.page_model.specs.declared.page.Reading.{Reading}
use Rattle.page_model.specs.declared.page.Family.{Family}
use Rattle.page_model.specs.declared.page.Page.{Page}
use Rattle.page_model.specs.Written.{Setting}
use Rattle.page_model.specs.Items.{is_sample, sample_of_line}
use Rattle.page_model.specs.Owners.{Owned, owner_of, with_owner, owned_lines, sample_in, samples_of}
use Rattle.page_model.specs.Rules.{has_suffix}
use Rattle.page_model.specs.Suffixes.{suffix_of}
use Rattle.page_model.specs.Readings.{reading_labels, value_with, either_value, bucket_of, buckets_of, quantile_of, quantiles_of, sum_of, counter_suffix, value_of, key_name, stamp_of, exemplars_of, reading_of, readings_of, family_of, families_of, page_of}
use Rattle.page_model.specs.Pages.{items_of, AreSomeOf, IsThinnerReading, AreThinnerFamilies}
use Rattle.open_writing.specs.Pieces.{option_count, value_lines, reading_lines, family_lines}
use Rattle.open_writing.proofs.Laws.{families_counted}
use Rattle.page_model.specs.Presence.{all_readings}
use Rattle.writing_laws.specs.WritingLaws.{WritesFewLines, ReadsFewReadings}
use Rattle.writing_laws.proofs.Together.{same_set}

-- ---- sums

-- the sum of what elements come to
abbrev pub total : {A : Type 0} → (A → ℕ) → List A → ℕ
total f [] = 0
total f (x ∷ xs) = f x + total f xs

pub total_is : {A : Type 0} (f : A → ℕ) (xs : List A) → sum_by f xs ≡ total f xs
total_is f [] = refl
total_is f (x ∷ xs) = sum_by-cons f x xs ∙ ap (λ n. f x + n) (total_is f xs)

pub total-le : {A : Type 0} (f g : A → ℕ) → ((x : A) → f x ≤ g x) → (xs : List A) → total f xs ≤ total g xs
total-le f g le [] = omega arith
total-le f g le (x ∷ xs) = let here = le x in let rest = total-le f g le xs in omega (arith, here, rest)

pub total-append : {A : Type 0} (f : A → ℕ) (xs ys : List A) → total f (xs ++ ys) ≡ total f xs + total f ys
total-append f [] ys = omega arith
total-append f (x ∷ xs) ys = let rest = total-append f xs ys in omega (arith, rest)

total-reverse : {A : Type 0} (f : A → ℕ) (xs : List A) → total f (reverse xs) ≡ total f xs
total-reverse f [] = refl
total-reverse f (x ∷ xs) =
    let turned = ap (total f) (reverse-append (x ∷ []) xs) in
    let parts = total-append f (reverse xs) (x ∷ []) in
    let rest = total-reverse f xs in
    omega (arith, turned, parts, rest)

pub total-map : {A B : Type 0} (f : B → ℕ) (g : A → B) (xs : List A) → total f (map g xs) ≡ total (λ x. f (g x)) xs
total-map f g [] = refl
total-map f g (x ∷ xs) = ap (λ n. f (g x) + n) (total-map f g xs)

pub total-both : {A : Type 0} (f g : A → ℕ) (xs : List A) → total (λ x. f x + g x) xs ≡ total f xs + total g xs
total-both f g [] = omega arith
total-both f g (x ∷ xs) = let rest = total-both f g xs in omega (arith, rest)

total-none : {A : Type 0} (xs : List A) → total (λ x. 0) xs ≡ 0
total-none [] = refl
total-none (x ∷ xs) = let rest = total-none xs in omega (arith, rest)

-- sums of sums, in either order
pub total-twice : {A B : Type 0} (g : A → B → ℕ) (xs : List A) (ys : List B) → total (λ x. total (g x) ys) xs ≡ total (λ y. total (λ x. g x y) xs) ys
total-twice g [] ys = sym (total-none ys)
total-twice g (x ∷ xs) ys =
    let rest = total-twice g xs ys in
    let both = total-both (g x) (λ y. total (λ z. g z y) xs) ys in
    omega (arith, rest, both)

length-filter_map : {A B : Type 0} (h : A → Option B) (xs : List A) → length (filter_map h xs) ≡ total (λ x. option_count (h x)) xs
length-filter_map h [] = refl
length-filter_map h (x ∷ xs) = go (h x) (length-filter_map h xs)
  where
    go : (o : Option _) → length (filter_map h xs) ≡ total (λ y. option_count (h y)) xs → length (cons_option o (filter_map h xs)) ≡ option_count o + total (λ y. option_count (h y)) xs
    go None ih = omega (arith, ih)
    go (Some y) ih = omega (arith, ih)

length-filtered : {A : Type 0} (p : A → Bool) (xs : List A) → length (filter p xs) ≡ total (λ x. cond (p x) 1 0) xs
length-filtered p [] = refl
length-filtered p (x ∷ xs) = go (p x) (length-filtered p xs)
  where
    go : (b : Bool) → length (filter p xs) ≡ total (λ y. cond (p y) 1 0) xs → length (cond b (x ∷ filter p xs) (filter p xs)) ≡ cond b 1 0 + total (λ y. cond (p y) 1 0) xs
    go true ih = omega (arith, ih)
    go false ih = omega (arith, ih)

total-ones : {A : Type 0} (xs : List A) → total (λ x. 1) xs ≡ length xs
total-ones [] = refl
total-ones (x ∷ xs) = let rest = total-ones xs in omega (arith, rest)

-- ---- an element is one of those that differ

pub nothing_else : {A : Type 0} (p : A → Bool) (k : ℕ) (ls : List A) → AllByRecursion (λ l. p l ≡ false) ls → total (λ l. cond (p l) k 0) ls ≡ 0
nothing_else p k [] h = refl
nothing_else p k (l ∷ ls) h =
    let here : ◌≡◌ {A = ℕ} (cond (p l) k 0) 0 = rw (h.0) refl in
    let rest = nothing_else p k ls h.1 in
    omega (arith, here, rest)

pub at_most_one : {A : Type 0} (eq : A → A → Bool) → ((a b : A) → eq a b ≡ true → a ≡ b) → (y : A) (k : ℕ) (ls : List A) → IsDistinct eq ls → total (λ l. cond (eq y l) k 0) ls ≤ k
unfolding IsDistinct
at_most_one eq same y k [] d = omega arith
at_most_one eq same y k (l ∷ ls) d = go (eq y l) refl (at_most_one eq same y k ls d.1)
  where
    go : (b : Bool) → eq y l ≡ b → total (λ m. cond (eq y m) k 0) ls ≤ k → cond b k 0 + total (λ m. cond (eq y m) k 0) ls ≤ k
    go false e ih = omega (arith, ih)
    go true e ih =
        let rest : total (λ m. cond (eq y m) k 0) ls ≡ 0 = nothing_else (eq y) k ls (subst (λ z. AllByRecursion (λ m. eq z m ≡ false) ls) (sym (same y l e)) d.0) in
        omega (arith, rest)

pub firsts_distinct : {A : Type 0} (eq : A → A → Bool) (xs : List A) → IsDistinct eq (first_of_each eq xs)
unfolding IsDistinct
firsts_distinct eq [] = tt
firsts_distinct eq (x ∷ xs) = (others (filter (λ y. not (eq x y)) (first_of_each eq xs)) (filter-passes (λ y. not (eq x y)) (first_of_each eq xs)), distinct_kept eq (λ y. not (eq x y)) (first_of_each eq xs) (firsts_distinct eq xs))
  where
    others : (ys : List _) → AllByRecursion (λ y. not (eq x y) ≡ true) ys → AllByRecursion (λ y. eq x y ≡ false) ys
    others [] h = tt
    others (y ∷ ys) h = (not-true (eq x y) h.0, others ys h.1)

-- so of parts of a list by what its elements come to, there are no more elements than in the list
parts_within : {A B : Type 0} (eq : B → B → Bool) → ((a b : B) → eq a b ≡ true → a ≡ b) → (f : A → B) (xs : List A) (ls : List B) → IsDistinct eq ls → total (λ l. length (filter (λ x. eq (f x) l) xs)) ls ≤ length xs
parts_within eq same f xs ls d =
    let counted = total-le (λ l. length (filter (λ x. eq (f x) l) xs)) (λ l. total (λ x. cond (eq (f x) l) 1 0) xs) (λ l. let e = length-filtered (λ x. eq (f x) l) xs in omega (arith, e)) ls in
    let turned = total-twice (λ l x. cond (eq (f x) l) 1 0) ls xs in
    let each = total-le (λ x. total (λ l. cond (eq (f x) l) 1 0) ls) (λ x. 1) (λ x. at_most_one eq same (f x) 1 ls d) xs in
    let ones = total-ones xs in
    omega (arith, counted, turned, each, ones)

pub same_bytes : (a b : List ℕ) → bytes_eq a b ≡ true → a ≡ b
same_bytes a b e = (bytes_decides a b).0 e

-- ---- one reading

module _ (family : List ℕ) where
  -- how many samples have this suffix
  abbrev having : List ℕ → List Sample → ℕ
  having suffix own = total (λ s. cond (has_suffix family suffix s) 1 0) own

  found_some : (suffix : List ℕ) (own : List Sample) → option_count (value_with family suffix own) ≤ having suffix own
  unfolding value_with
  found_some suffix [] = omega arith
  found_some suffix (s ∷ own) = go (has_suffix family suffix s) (found_some suffix own)
    where
      go : (b : Bool) → option_count (option_map (λ (x : Sample). x.value) (find (has_suffix family suffix) own)) ≤ having suffix own
          → option_count (option_map (λ (x : Sample). x.value) (cond b (Some s) (find (has_suffix family suffix) own))) ≤ cond b 1 0 + having suffix own
      go true ih = omega arith
      go false ih = omega (arith, ih)

  -- samples of suffixes that differ are no more than the samples
  suffixes_within : (suffixes : List (List ℕ)) (own : List Sample) → IsDistinct bytes_eq suffixes → total (λ a. having a own) suffixes ≤ length own
  suffixes_within suffixes own d =
      let turned = total-twice (λ a s. cond (has_suffix family a s) 1 0) suffixes own in
      let each = total-le (λ s. total (λ a. cond (has_suffix family a s) 1 0) suffixes) (λ s. 1) (λ s. at_most_one bytes_eq same_bytes (suffix_of family s.name) 1 suffixes d) own in
      let ones = total-ones own in
      omega (arith, turned, each, ones)

  either_le : (a b : Option Number) → option_count (either_value a b) ≤ option_count a + option_count b
  either_le None b = omega arith
  either_le (Some n) b = omega arith

  whole_le : (o : Option Number) → option_count (option_and_then whole o) ≤ option_count o
  whole_le None = omega arith
  whole_le (Some n) = go (whole n)
    where
      go : (o : Option ℕ) → option_count o ≤ 1
      go None = omega arith
      go (Some k) = omega arith

  length-kept : {A B : Type 0} (h : A → Option B) (xs : List A) → length (filter_map h xs) ≤ length xs
  length-kept h [] = omega arith
  length-kept h (x ∷ xs) = go (h x) (length-kept h xs)
    where
      go : (o : Option _) → length (filter_map h xs) ≤ length xs → length (cons_option o (filter_map h xs)) ≤ length (x ∷ xs)
      go None ih = omega (arith, ih)
      go (Some y) ih = omega (arith, ih)

  -- the suffixes of a histogram's, and of a summary's samples
  abbrev histogram_suffixes : List (List ℕ)
  histogram_suffixes = codes "_bucket" ∷ codes "_sum" ∷ codes "_gsum" ∷ codes "_created" ∷ []

  abbrev summary_suffixes : List (List ℕ)
  summary_suffixes = [] ∷ codes "_count" ∷ codes "_sum" ∷ codes "_gsum" ∷ codes "_created" ∷ []

  histogram_differ : IsDistinct bytes_eq histogram_suffixes
  unfolding IsDistinct
  histogram_differ = ((refl, (refl, (refl, tt))), ((refl, (refl, tt)), ((refl, tt), (tt, tt))))

  summary_differ : IsDistinct bytes_eq summary_suffixes
  unfolding IsDistinct
  summary_differ = ((refl, (refl, (refl, (refl, tt)))), ((refl, (refl, (refl, tt))), ((refl, (refl, tt)), ((refl, tt), (tt, tt)))))

  -- how many lines a value has, with a created time
  abbrev lines_with : Option Value → Option Number → ℕ
  lines_with None created = 0
  lines_with (Some v) created = value_lines v + option_count created

  plain_bound : (o created : Option Number) (k : ℕ) → lines_with (option_map values.Plain o) created ≤ 1 + k + (1 + k)
  plain_bound None created k = omega arith
  plain_bound (Some n) None k = omega arith
  plain_bound (Some n) (Some m) k = omega arith

  plain_lines : (suffix : List ℕ) (own : List Sample) → lines_with (option_map values.Plain (value_with family suffix own)) (value_with family (codes "_created") own) ≤ length own + length own
  unfolding value_with
  plain_lines suffix [] = omega arith
  plain_lines suffix (s ∷ own) =
      let most = plain_bound (option_map (λ (x : Sample). x.value) (find (has_suffix family suffix) (s ∷ own))) (option_map (λ (x : Sample). x.value) (find (has_suffix family (codes "_created")) (s ∷ own))) (length own) in
      omega (arith, most)

  bucket_lines : (own : List Sample) → lines_with (Some (values.Buckets (buckets_of family own) (sum_of family own))) (value_with family (codes "_created") own) ≤ length own + length own
  unfolding buckets_of sum_of
  bucket_lines own =
      let mapped = length-map (filter (has_suffix family (codes "_bucket")) own) bucket_of in
      let buckets = length-filtered (has_suffix family (codes "_bucket")) own in
      let sums = either_le (value_with family (codes "_sum") own) (value_with family (codes "_gsum") own) in
      let sum = found_some (codes "_sum") own in
      let gauge = found_some (codes "_gsum") own in
      let created = found_some (codes "_created") own in
      let all = suffixes_within histogram_suffixes own histogram_differ in
      omega (arith, mapped, buckets, sums, sum, gauge, created, all)

  quantile_lines : (own : List Sample) → lines_with (Some (values.Quantiles (quantiles_of family own) (option_and_then whole (value_with family (codes "_count") own)) (sum_of family own))) (value_with family (codes "_created") own) ≤ length own + length own
  unfolding quantiles_of sum_of
  quantile_lines own =
      let kept = length-kept quantile_of (filter (has_suffix family []) own) in
      let quantiles = length-filtered (has_suffix family []) own in
      let counts = whole_le (value_with family (codes "_count") own) in
      let count = found_some (codes "_count") own in
      let sums = either_le (value_with family (codes "_sum") own) (value_with family (codes "_gsum") own) in
      let sum = found_some (codes "_sum") own in
      let gauge = found_some (codes "_gsum") own in
      let created = found_some (codes "_created") own in
      let all = suffixes_within summary_suffixes own summary_differ in
      omega (arith, kept, quantiles, counts, count, sums, sum, gauge, created, all)

  where_some : (b : Bool) (v : Value) (created : Option Number) (most : ℕ) → lines_with (Some v) created ≤ most → lines_with (cond b (Some v) None) created ≤ most
  where_some true v created most h = h
  where_some false v created most h = omega arith

  value_bound : (f : Format) (kind : Kind) (own : List Sample) → lines_with (value_of f kind family own) (value_with family (codes "_created") own) ≤ length own + length own
  unfolding value_of
  value_bound f Counter own = plain_lines (counter_suffix f) own
  value_bound f Info own = plain_lines (codes "_info") own
  value_bound f Histogram own = bucket_lines own
  value_bound f GaugeHistogram own = bucket_lines own
  value_bound f Summary own = where_some _ _ (value_with family (codes "_created") own) (length own + length own) (quantile_lines own)
  value_bound f _ own = plain_lines [] own

  -- ---- the readings of a family

  -- how many lines a reading has, where there is one
  abbrev option_lines : Option Reading → ℕ
  option_lines None = 0
  option_lines (Some r) = reading_lines r

  made_lines : (made : Value → Reading) (created : Option Number) → ((v : Value) → reading_lines (made v) ≡ value_lines v + option_count created) → (o : Option Value) → option_lines (option_map made o) ≡ lines_with o created
  made_lines made created same None = refl
  made_lines made created same (Some v) = same v

  module _ (st : Setting) (kind : Kind) (unit : List ℕ) where
    reading_bound : (samples : List Sample) (labels : LabelSet)
        → option_lines (reading_of st kind family unit samples labels) ≤ length (filter (λ s. label_sets_eq (reading_labels st kind family s) labels) samples) + length (filter (λ s. label_sets_eq (reading_labels st kind family s) labels) samples)
    unfolding reading_of
    reading_bound samples labels =
        let own : List Sample = filter (λ s. label_sets_eq (reading_labels st kind family s) labels) samples in
        let made : Value → Reading = λ value. record {
          key = record { name = key_name st.format kind family; kind = kind; unit = unit; labels = labels };
          value = value;
          created = value_with family (codes "_created") own;
          stamp = stamp_of st.format family own;
          exemplars = exemplars_of kind family own;
        } in
        let told = made_lines made (value_with family (codes "_created") own) (λ v. refl) (value_of st.format kind family own) in
        let most = value_bound st.format kind own in
        omega (arith, told, most)

    readings_total : (h : LabelSet → Option Reading) (ls : List LabelSet) → total reading_lines (filter_map h ls) ≡ total (λ l. option_lines (h l)) ls
    readings_total h [] = refl
    readings_total h (l ∷ ls) = go (h l) (readings_total h ls)
      where
        go : (o : Option Reading) → total reading_lines (filter_map h ls) ≡ total (λ m. option_lines (h m)) ls → total reading_lines (cons_option o (filter_map h ls)) ≡ option_lines o + total (λ m. option_lines (h m)) ls
        go None ih = omega (arith, ih)
        go (Some r) ih = omega (arith, ih)

    readings_bound : (samples : List Sample) → sum_by reading_lines (readings_of st kind family unit samples) ≤ length samples + length samples
    unfolding readings_of
    readings_bound samples =
        let ls = first_of_each label_sets_eq (map (reading_labels st kind family) samples) in
        let part : LabelSet → ℕ = λ l. length (filter (λ s. label_sets_eq (reading_labels st kind family s) l) samples) in
        let listed = total_is reading_lines (filter_map (reading_of st kind family unit samples) ls) in
        let told = readings_total (reading_of st kind family unit samples) ls in
        let each = total-le (λ l. option_lines (reading_of st kind family unit samples l)) (λ l. part l + part l) (reading_bound samples) ls in
        let both = total-both part part ls in
        let within = parts_within label_sets_eq same_set (reading_labels st kind family) samples ls (firsts_distinct label_sets_eq (map (reading_labels st kind family) samples)) in
        omega (arith, listed, told, each, both, within)

-- ---- the families of a page

family_bound : (st : Setting) (lines : List Owned) (name : List ℕ) → family_lines (family_of st lines name) ≤ length (samples_of lines name) + length (samples_of lines name)
unfolding family_of
family_bound st lines name = readings_bound name st _ _ (samples_of lines name)

-- whether a line is a sample
abbrev samples_in : Owned → ℕ
samples_in o = option_count (sample_of_line o.item)

one_of : (name : List ℕ) (o : Owned) → option_count (sample_in name o) ≡ cond (bytes_eq o.family name) (samples_in o) 0
one_of name o = go (bytes_eq o.family name)
  where
    go : (b : Bool) → option_count (cond b (sample_of_line o.item) None) ≡ cond b (option_count (sample_of_line o.item)) 0
    go true = refl
    go false = refl

names_within : (lines : List Owned) (names : List (List ℕ)) → IsDistinct bytes_eq names → total (λ name. length (samples_of lines name)) names ≤ total samples_in lines
unfolding samples_of
names_within lines names d =
    let counted = total-le (λ name. length (filter_map (sample_in name) lines)) (λ name. total (λ o. cond (bytes_eq o.family name) (samples_in o) 0) lines)
    (λ name.
    let e = length-filter_map (sample_in name) lines in
    let f = total-le (λ o. option_count (sample_in name o)) (λ o. cond (bytes_eq o.family name) (samples_in o) 0) (λ o. let g = one_of name o in omega (arith, g)) lines in
    omega (arith, e, f)) names in
    let turned = total-twice (λ name o. cond (bytes_eq o.family name) (samples_in o) 0) names lines in
    let each = total-le (λ o. total (λ name. cond (bytes_eq o.family name) (samples_in o) 0) names) samples_in (λ o. at_most_one bytes_eq same_bytes o.family (samples_in o) names d) lines in
    omega (arith, counted, turned, each)

owned_within : (f : Format) (is : List Item) → total samples_in (owned_lines f is) ≤ total (λ i. cond (is_sample i) 1 0) is
unfolding owned_lines
owned_within f [] = omega arith
owned_within f (item ∷ earlier) = let ih = owned_within f earlier in go item (owned_lines f earlier) ih
  where
    go : (i : Item) (above : List Owned) → total samples_in above ≤ total (λ j. cond (is_sample j) 1 0) earlier → total samples_in (with_owner (owner_of f above i) i above) ≤ cond (is_sample i) 1 0 + total (λ j. cond (is_sample j) 1 0) earlier
    go items.Blank above ih = omega (arith, ih)
    go items.Comment above ih = omega (arith, ih)
    go items.Eof above ih = omega (arith, ih)
    go (items.Help name text) above ih = omega (arith, ih)
    go (items.KindOf name kind) above ih = omega (arith, ih)
    go (items.Unit name unit) above ih = omega (arith, ih)
    go (items.Sample s) above ih = omega (arith, ih)

page_bound : (st : Setting) (is : List Item) → total family_lines (page_of st is).families ≤ (page_of st is).samples + (page_of st is).samples
unfolding page_of families_of
page_bound st is =
    let lines = reverse (owned_lines st.format is) in
    let names = first_of_each bytes_eq (map (λ (o : Owned). o.family) lines) in
    let listed = total-map family_lines (family_of st lines) names in
    let each = total-le (λ name. family_lines (family_of st lines name)) (λ name. length (samples_of lines name) + length (samples_of lines name)) (family_bound st lines) names in
    let both = total-both (λ name. length (samples_of lines name)) (λ name. length (samples_of lines name)) names in
    let within = names_within lines names (firsts_distinct bytes_eq (map (λ (o : Owned). o.family) lines)) in
    let turned = total-reverse samples_in (owned_lines st.format is) in
    let owned = owned_within st.format is in
    let count = total_is (λ i. cond (is_sample i) 1 0) is in
    omega (arith, listed, each, both, within, turned, owned, count)

-- ---- with readings taken out

thinner_readings : (rs qs : List Reading) → AreSomeOf IsThinnerReading rs qs → total reading_lines qs ≤ total reading_lines rs
thinner_readings [] [] s = omega arith
thinner_readings [] (q ∷ qs) s = absurd s
thinner_readings (r ∷ rs) [] s = omega arith
thinner_readings (r ∷ rs) (q ∷ qs) (inl s) =
    let value = ap value_lines s.0.value in
    let created = ap option_count s.0.created in
    let rest = thinner_readings rs qs s.1 in
    omega (arith, value, created, rest)
thinner_readings (r ∷ rs) (q ∷ qs) (inr s) = let rest = thinner_readings rs (q ∷ qs) s in omega (arith, rest)

thinner_families : (fs gs : List Family) → AreThinnerFamilies fs gs → total family_lines gs ≤ total family_lines fs
thinner_families [] [] t = omega arith
thinner_families [] (g ∷ gs) t = absurd t
thinner_families (f ∷ fs) [] t = omega arith
thinner_families (f ∷ fs) (g ∷ gs) (inl t) =
    let mine = total_is reading_lines g.readings in
    let whole = total_is reading_lines f.readings in
    let fewer = thinner_readings f.readings g.readings t.0.readings in
    let rest = thinner_families fs gs t.1 in
    omega (arith, mine, whole, fewer, rest)
thinner_families (f ∷ fs) (g ∷ gs) (inr t) = let rest = thinner_families fs (g ∷ gs) t in omega (arith, rest)

pub few_lines : WritesFewLines
few_lines st page read =
    let counted = families_counted page.families in
    let listed = total_is family_lines page.families in
    let thinner = thinner_families read.whole.families page.families read.families in
    let is_page = read.read.page_is in
    let bound = subst (λ (p : Page). total family_lines p.families ≤ p.samples + p.samples) (sym is_page) (page_bound st (items_of st.format read.read.lines)) in
    let samples = read.samples in
    omega (arith, counted, listed, thinner, bound, samples)

-- ---- readings

few_filtered : {A : Type 0} (p : A → Bool) (xs : List A) → length (filter p xs) ≤ length xs
few_filtered p [] = omega arith
few_filtered p (x ∷ xs) = go (p x) (few_filtered p xs)
  where
    go : (b : Bool) → length (filter p xs) ≤ length xs → length (cond b (x ∷ filter p xs) (filter p xs)) ≤ length (x ∷ xs)
    go true ih = omega (arith, ih)
    go false ih = omega (arith, ih)

few_firsts : {A : Type 0} (eq : A → A → Bool) (xs : List A) → length (first_of_each eq xs) ≤ length xs
few_firsts eq [] = omega arith
few_firsts eq (x ∷ xs) =
    let kept = few_filtered (λ y. not (eq x y)) (first_of_each eq xs) in
    let rest = few_firsts eq xs in
    omega (arith, kept, rest)

readings_few : (st : Setting) (kind : Kind) (family unit : List ℕ) (samples : List Sample) → length (readings_of st kind family unit samples) ≤ length samples
unfolding readings_of
readings_few st kind family unit samples =
    let kept = length-kept family (reading_of st kind family unit samples) (first_of_each label_sets_eq (map (reading_labels st kind family) samples)) in
    let firsts = few_firsts label_sets_eq (map (reading_labels st kind family) samples) in
    let mapped = length-map samples (reading_labels st kind family) in
    omega (arith, kept, firsts, mapped)

family_few : (st : Setting) (lines : List Owned) (name : List ℕ) → length (family_of st lines name).readings ≤ length (samples_of lines name)
unfolding family_of
family_few st lines name = readings_few st _ name _ (samples_of lines name)

families_few : (st : Setting) (lines : List Owned) (names : List (List ℕ)) → length (flat_map (λ (f : Family). f.readings) (map (family_of st lines) names)) ≤ total (λ (name : List ℕ). length (samples_of lines name)) names
families_few st lines [] = omega arith
families_few st lines (name ∷ names) =
    let both = length-append (family_of st lines name).readings (flat_map (λ (f : Family). f.readings) (map (family_of st lines) names)) in
    let here = family_few st lines name in
    let rest = families_few st lines names in
    omega (arith, both, here, rest)

page_few : (st : Setting) (is : List Item) → length (all_readings (page_of st is)) ≤ (page_of st is).samples
unfolding page_of families_of
page_few st is =
    let lines = reverse (owned_lines st.format is) in
    let names = first_of_each bytes_eq (map (λ (o : Owned). o.family) lines) in
    let few = families_few st lines names in
    let within = names_within lines names (firsts_distinct bytes_eq (map (λ (o : Owned). o.family) lines)) in
    let turned = total-reverse samples_in (owned_lines st.format is) in
    let owned = owned_within st.format is in
    let count = total_is (λ i. cond (is_sample i) 1 0) is in
    omega (arith, few, within, turned, owned, count)

few_left : (rs qs : List Reading) → AreSomeOf IsThinnerReading rs qs → length qs ≤ length rs
few_left [] [] s = omega arith
few_left [] (q ∷ qs) s = absurd s
few_left (r ∷ rs) [] s = omega arith
few_left (r ∷ rs) (q ∷ qs) (inl s) = let rest = few_left rs qs s.1 in omega (arith, rest)
few_left (r ∷ rs) (q ∷ qs) (inr s) = let rest = few_left rs (q ∷ qs) s in omega (arith, rest)

thinner_few : (fs gs : List Family) → AreThinnerFamilies fs gs → length (flat_map (λ (f : Family). f.readings) gs) ≤ length (flat_map (λ (f : Family). f.readings) fs)
thinner_few [] [] t = omega arith
thinner_few [] (g ∷ gs) t = absurd t
thinner_few (f ∷ fs) [] t = omega arith
thinner_few (f ∷ fs) (g ∷ gs) (inl t) =
    let whole = length-append f.readings (flat_map (λ (h : Family). h.readings) fs) in
    let thin = length-append g.readings (flat_map (λ (h : Family). h.readings) gs) in
    let here = few_left f.readings g.readings t.0.readings in
    let rest = thinner_few fs gs t.1 in
    omega (arith, whole, thin, here, rest)
thinner_few (f ∷ fs) (g ∷ gs) (inr t) =
    let whole = length-append f.readings (flat_map (λ (h : Family). h.readings) fs) in
    let rest = thinner_few fs (g ∷ gs) t in
    omega (arith, whole, rest)

pub few_readings : ReadsFewReadings
few_readings st page read =
    let thin = thinner_few read.whole.families page.families read.families in
    let few = subst (λ (p : Page). length (all_readings p) ≤ p.samples) (sym read.read.page_is) (page_few st (items_of st.format read.read.lines)) in
    let same = read.samples in
    omega (arith, thin, few, same)
