-- The page of what a checker keeps is the page of the lines that it took.
use Rattle.std.proofs.Common.{◌≡◌, ℕ, Bool, true, false, cond, not, ◌&&◌, ◌||◌, List, [], ◌∷◌, ◌++◌, map, filter, filter_map, drop, length, Option, Some, None, refl, sym, ap, ◌∙◌, reverse}
use Rattle.std.specs.Prelude.{codes, option_map, unwrap_or}
use Rattle.std.specs.List.{list_any, flat_map, cons_option}
use Rattle.std.specs.Option.{option_to_list}
use Rattle.std.specs.Str.{bytes_eq}
use Rattle.std.specs.Cmp.Lexicographic.{bytes_decides}
use Rattle.std.proofs.lemmas.List.{append-nil, map-append, append_assoc}
use Rattle.std.proofs.lemmas.List.Elements.{filter-append, filter_map-append}
use Rattle.std.proofs.lemmas.Grind.{flat_map-append}
use Rattle.label_sets.specs.declared.kind.Kind.{Kind}
use Rattle.label_sets.specs.declared.kind.Kind.TheVariants.{Counter, Gauge, StateSet, Info, Unknown}
use Rattle.label_sets.specs.declared.label_set.LabelSet.{LabelSet}
use Rattle.label_sets.specs.Labels.{label_sets_eq}
use Rattle.label_sets.specs.Lists.{first_of_each, first_some, some_passes, ◌>>=◌}
use Rattle.label_sets.proofs.Laws.{any-map, any-reverse, filter-none}
use Rattle.page_model.specs.declared.item.Item.{Item}
use Rattle.page_model.specs.declared.item.Sample.{Sample}
use Rattle.page_model.specs.declared.page.Reading.{Reading}
use Rattle.page_model.specs.declared.rule.Rule.TheVariants as rules
use Rattle.page_model.specs.Faults.{end_fault, end_breaks}
use Rattle.page_model.specs.Written.{Setting}
use Rattle.page_model.specs.Items.{sample_of_line, kind_of_line, help_of_line, unit_of_line}
use Rattle.page_model.specs.Owners.{Owned, is_of, declared_kind, kind_of, owned_lines, samples_of, kept_labels}
use Rattle.page_model.specs.Rules.{is_split, is_same_series, is_duplicate, is_open_metrics, is_without_eof, has_suffix, may_have_exemplar}
use Rattle.page_model.specs.Readings.{value_with, counter_suffix, value_of, stamp_nanos, within_time, stamp_of, exemplars_of, reading_labels, key_name, reading_of, readings_of, help_in, unit_in, family_of, families_of, page_of}
use Rattle.packed_keys.specs.declared.sample_key.SampleKey.{SampleKey}
use Rattle.sample_groups.specs.Groups.{groups_from, reading_from}
use Rattle.sample_groups.specs.Parts.{is_grouped, entry_of, sample_time}
use Rattle.sample_groups.specs.Sound.{AreSound}
use Rattle.sample_groups.proofs.Laws.{same_time, readings_made}
use Rattle.family_rules.specs.declared.timed_values.TimedValue.{TimedValue}
use Rattle.family_rules.specs.Checking.{groups_so_far, so_far, left_before, key_of, timed, keyed, seen_above, Checking, Stands, left_families, current_family}
use Rattle.family_rules.specs.Steps.{with_left, end_stop}
use Rattle.family_rules.specs.Made.{page_at, plain_reading, readings_at, readings_in, family_at, families_at}
use Rattle.page_model.specs.declared.page.Value.TheVariants as values
use Rattle.family_rules.proofs.Plain.{single_suffix, suffix_is, no_created, plain_name, ungrouped_counter}
use Rattle.family_rules.proofs.Lists.{bytes_same, label_sets_swap, first_of_each-snoc, pairs, lookup-map, insert_entry-last}
use Rattle.family_rules.proofs.Standing.{left_at_end}
use Rattle.std.specs.Map.{lookup}
use Rattle.std.proofs.lemmas.Bool.{or_parts}
use Rattle.family_rules.proofs.Faults.{fit_lines, sound_samples, AreFit}
use Rattle.family_rules.proofs.Once.{help_sort, kind_sort, unit_sort, said_once}
use Rattle.family_rules.proofs.Kept.{fresh, families_of-reverse, samples_of-reverse, reversed_samples, own_samples, none_of_other, no_samples}
use mathlib.Core.List.{reverse-cons}

-- ---- lists

any_filter : {A : Type 0} (p t : A → Bool) (xs : List A) → list_any p xs ≡ false → list_any p (filter t xs) ≡ false
any_filter p t [] h = refl
any_filter {A = A} p t (x ∷ xs) h = by (p x) (t x) refl h (any_filter p t xs)
  where
    by : (b c : Bool) → p x ≡ b → (b || list_any p xs) ≡ false → (list_any p xs ≡ false → list_any p (filter t xs) ≡ false) → list_any p (cond c (x ∷ filter t xs) (filter t xs)) ≡ false
    by true c e h more = absurd (let f : true ≡ false = h in cc)
    by false true e h more = ap (λ b. b || list_any p (filter t xs)) e ∙ more h
    by false false e h more = more h

any_first : {A : Type 0} (p : A → Bool) (eq : A → A → Bool) (xs : List A) → list_any p xs ≡ false → list_any p (first_of_each eq xs) ≡ false
any_first p eq [] h = refl
any_first {A = A} p eq (x ∷ xs) h = by (p x) refl h (any_first p eq xs)
  where
    by : (b : Bool) → p x ≡ b → (b || list_any p xs) ≡ false → (list_any p xs ≡ false → list_any p (first_of_each eq xs) ≡ false)
        → (p x || list_any p (filter (λ y. not (eq x y)) (first_of_each eq xs))) ≡ false
    by true e h more = absurd (let f : true ≡ false = h in cc)
    by false e h more = ap (λ b. b || list_any p (filter (λ y. not (eq x y)) (first_of_each eq xs))) e ∙ any_filter p (λ y. not (eq x y)) (first_of_each eq xs) (more h)

filter_map-same : {A B : Type 0} (f g : A → Option B) (p : A → Bool) (xs : List A) → list_any p xs ≡ false → ((x : A) → p x ≡ false → f x ≡ g x) → filter_map f xs ≡ filter_map g xs
filter_map-same f g p [] h same = refl
filter_map-same {A = A} {B = B} f g p (x ∷ xs) h same = by (p x) refl h (λ k. filter_map-same f g p xs k same)
  where
    by : (b : Bool) → p x ≡ b → (b || list_any p xs) ≡ false → (list_any p xs ≡ false → filter_map f xs ≡ filter_map g xs)
        → cons_option (f x) (filter_map f xs) ≡ cons_option (g x) (filter_map g xs)
    by true e h more = absurd (let f : true ≡ false = h in cc)
    by false e h more = let first = same x e in let rest = more h in λ i. cons_option (first i) (rest i)

flat_map-same : {B : Type 0} (f g : List ℕ → List B) (F : List ℕ) (names : List (List ℕ)) → list_any (bytes_eq F) names ≡ false
    → ((name : List ℕ) → bytes_eq F name ≡ false → f name ≡ g name) → flat_map f names ≡ flat_map g names
flat_map-same f g F [] h same = refl
flat_map-same {B = B} f g F (name ∷ names) h same = by (bytes_eq F name) refl h (λ k. flat_map-same f g F names k same)
  where
    by : (b : Bool) → bytes_eq F name ≡ b → (b || list_any (bytes_eq F) names) ≡ false → (list_any (bytes_eq F) names ≡ false → flat_map f names ≡ flat_map g names)
        → f name ++ flat_map f names ≡ g name ++ flat_map g names
    by true e h more = absurd (let f : true ≡ false = h in cc)
    by false e h more = let first = same name e in let rest = more h in λ i. first i ++ rest i

label_sets_same : (a : LabelSet) → label_sets_eq a a ≡ true
label_sets_same [] = refl
label_sets_same (l ∷ ls) = rw (bytes_same l.name, bytes_same l.value, label_sets_same ls) refl

-- ---- readings of plain samples

module _ (st : Setting) where
  abbrev pub kept : Sample → LabelSet
  kept s = kept_labels st.treatment s.labels

  -- samples of one name
  abbrev pub AreNamed : List ℕ → List Sample → Type 0
  AreNamed F [] = Unit {0}
  AreNamed F (y ∷ samples) = (y.name ≡ F) × AreNamed F samples

  -- the samples of a family, the nearest first: each has its name, and no two have one label set
  abbrev AreFresh : List ℕ → List Sample → Type 0
  AreFresh F [] = Unit {0}
  AreFresh F (y ∷ samples) = (list_any (λ t. label_sets_eq (kept t) (kept y)) samples ≡ false) × (y.name ≡ F) × AreFresh F samples

  pub plain_names : (k : Kind) (F : List ℕ) (samples : List Sample) → is_grouped st.format k ≡ false → AreSound st k F samples → AreNamed (F ++ single_suffix k) samples
  plain_names k F [] plain sound = tt
  plain_names k F (y ∷ samples) plain sound = (plain_name st k F y plain sound.0.named, plain_names k F samples plain sound.1)

  other_labels : (t y : Sample) (name : List ℕ) → t.name ≡ name → y.name ≡ name → is_same_series st y t ≡ false → label_sets_eq (kept t) (kept y) ≡ false
  other_labels t y name n m h =
      let names : bytes_eq t.name y.name ≡ true = (bytes_decides t.name y.name).1 (n ∙ sym m) in
      sym (ap (λ b. b && label_sets_eq (kept t) (kept y)) names) ∙ h

  module _ (F name : List ℕ) where
    pub no_same : (above : List Owned) (y : Sample) → AreNamed name (samples_of above F) → y.name ≡ name → is_duplicate st above y ≡ false → list_any (λ t. label_sets_eq (kept t) (kept y)) (samples_of above F) ≡ false
    unfolding is_duplicate samples_of
    no_same [] y names own h = refl
    no_same (o ∷ above) y names own h = by (is_of F o) (sample_of_line o.item) names h (λ n. no_same above y n own)
      where
        by : (b : Bool) (s : Option Sample) → AreNamed name (cons_option (cond b s None) (samples_of above F)) → (some_passes (is_same_series st y) s || is_duplicate st above y) ≡ false
            → (AreNamed name (samples_of above F) → is_duplicate st above y ≡ false → list_any (λ t. label_sets_eq (kept t) (kept y)) (samples_of above F) ≡ false)
            → list_any (λ t. label_sets_eq (kept t) (kept y)) (cons_option (cond b s None) (samples_of above F)) ≡ false
        by false s n h more = more n (or_parts (some_passes (is_same_series st y) s) (is_duplicate st above y) h).1
        by true None n h more = more n h
        by true (Some t) n h more =
            let parts = or_parts (is_same_series st y t) (is_duplicate st above y) h in
            ap (λ b. b || list_any (λ t. label_sets_eq (kept t) (kept y)) (samples_of above F)) (other_labels t y name n.0 own parts.0) ∙ more n.1 parts.1

    fresh_samples : (above : List Owned) → AreFit st above → AreNamed name (samples_of above F) → AreFresh name (samples_of above F)
    unfolding samples_of
    fresh_samples [] fit names = tt
    fresh_samples (o ∷ above) fit names = by (is_of F o) (sample_of_line o.item) names fit.0.single (fresh_samples above fit.1)
      where
        by : (b : Bool) (s : Option Sample) → AreNamed name (cons_option (cond b s None) (samples_of above F)) → some_passes (is_duplicate st above) s ≡ false
            → (AreNamed name (samples_of above F) → AreFresh name (samples_of above F))
            → AreFresh name (cons_option (cond b s None) (samples_of above F))
        by false s n h more = more n
        by true None n h more = more n
        by true (Some y) n h more = (no_same above y n.1 n.0 h, n.0, more n.1)

  -- the reading of the samples of one label set
  abbrev made : Kind → List ℕ → List ℕ → List Sample → LabelSet → Option Reading
  made k F unit own labels = option_map (λ value. record {
    key = record { name = key_name st.format k F; kind = k; unit = unit; labels = labels };
    value = value;
    created = value_with F (codes "_created") own;
    stamp = stamp_of st.format F own;
    exemplars = exemplars_of k F own;
  }) (value_of st.format k F own)

  -- the value of one sample, by whether it has a suffix
  one_value : (F suffix : List ℕ) (s : Sample) (b : Bool) → has_suffix F suffix s ≡ b → value_with F suffix (s ∷ []) ≡ cond b (Some s.value) None
  unfolding value_with
  one_value F suffix s b h = ap (λ c. option_map (λ (t : Sample). t.value) (cond c (Some s) None)) h ∙ by b
    where
      by : (b : Bool) → option_map (λ (t : Sample). t.value) (cond b (Some s) None) ≡ cond b (Some s.value) None
      by true = refl
      by false = refl

  -- the time of one sample
  own_time : (F : List ℕ) (s : Sample) → has_suffix F (codes "_created") s ≡ false → stamp_of st.format F (s ∷ []) ≡ sample_time st.format s
  unfolding stamp_of
  own_time F s e = ap (λ b. cond (not b) (Some s) None >>= (λ (t : Sample). t.stamp >>= stamp_nanos st.format >>= within_time)) e ∙ same_time st.format s.stamp

  -- a plain one gives no exemplar
  none_borne : (k : Kind) (F : List ℕ) (s : Sample) → is_grouped st.format k ≡ false → s.name ≡ F ++ single_suffix k → may_have_exemplar k F s ≡ false
  none_borne Counter F s h name = suffix_is F [] (codes "_total") s name
  none_borne Gauge F s h name = refl
  none_borne Unknown F s h name = refl
  none_borne StateSet F s h name = refl
  none_borne Info F s h name = refl
  none_borne _ F s h name = absurd (let e : true ≡ false = h in cc)

  no_exemplars : (k : Kind) (F : List ℕ) (s : Sample) → may_have_exemplar k F s ≡ false → exemplars_of k F (s ∷ []) ≡ []
  unfolding exemplars_of
  no_exemplars k F s e = ap (λ b. filter_map (λ (t : Sample). t.exemplar) (cond b (s ∷ []) [])) e

  -- that of one plain sample
  own_made : (k : Kind) (F unit : List ℕ) (s : Sample) → is_grouped st.format k ≡ false → s.name ≡ F ++ single_suffix k → made k F unit (s ∷ []) (kept s) ≡ Some (plain_reading k unit (key_of st s) (timed st s))
  unfolding value_of
  own_made k F unit s h name = λ i. option_map (λ value. record {
    key = record { name = (key_is k h ∙ sym name) i; kind = k; unit = unit; labels = kept s };
    value = value;
    created = (one_value F (codes "_created") s false (suffix_is F (single_suffix k) (codes "_created") s name ∙ no_created k)) i;
    stamp = own_time F s (suffix_is F (single_suffix k) (codes "_created") s name ∙ no_created k) i;
    exemplars = no_exemplars k F s (none_borne k F s h name) i;
  }) (valued k h name i)
    where
      key_is : (k : Kind) → is_grouped st.format k ≡ false → key_name st.format k F ≡ F ++ single_suffix k
      key_is Counter h = ap (λ f. F ++ counter_suffix f) (ungrouped_counter st.format h)
      key_is Info h = refl
      key_is Gauge h = sym (append-nil F)
      key_is Unknown h = sym (append-nil F)
      key_is StateSet h = sym (append-nil F)
      key_is _ h = absurd (let f : true ≡ false = h in cc)

      own_value : (suffix : List ℕ) → has_suffix F suffix s ≡ true → option_map values.Plain (value_with F suffix (s ∷ [])) ≡ Some (values.Plain s.value)
      own_value suffix e = ap (option_map values.Plain) (one_value F suffix s true e)

      valued : (k : Kind) → is_grouped st.format k ≡ false → s.name ≡ F ++ single_suffix k → value_of st.format k F (s ∷ []) ≡ Some (values.Plain s.value)
      valued Counter h name = ap (λ f. option_map values.Plain (value_with F (counter_suffix f) (s ∷ []))) (ungrouped_counter st.format h) ∙ own_value [] (suffix_is F [] [] s name)
      valued Info h name = own_value (codes "_info") (suffix_is F (codes "_info") (codes "_info") s name)
      valued Gauge h name = own_value [] (suffix_is F [] [] s name)
      valued Unknown h name = own_value [] (suffix_is F [] [] s name)
      valued StateSet h name = own_value [] (suffix_is F [] [] s name)
      valued _ h name = absurd (let f : true ≡ false = h in cc)

  module _ (k : Kind) (plain : is_grouped st.format k ≡ false) (F unit : List ℕ) where
    abbrev own_name : List ℕ
    own_name = F ++ single_suffix k

    plain_labels : (s : Sample) → reading_labels st k F s ≡ kept s
    plain_labels s = by k plain
      where
        by : (k : Kind) → is_grouped st.format k ≡ false → reading_labels st k F s ≡ kept s
        by Counter h = refl
        by Gauge h = refl
        by Unknown h = refl
        by StateSet h = refl
        by Info h = refl
        by _ h = absurd (let f : true ≡ false = h in cc)

    -- the readings, with the labels as they are kept
    abbrev by_labels : List Sample → List Reading
    by_labels samples = filter_map (λ labels. made k F unit (filter (λ s. label_sets_eq (kept s) labels) samples) labels) (first_of_each label_sets_eq (map kept samples))

    readings_by_labels : (samples : List Sample) → readings_of st k F unit samples ≡ by_labels samples
    unfolding readings_of reading_of
    readings_by_labels samples = λ i. filter_map (λ labels. made k F unit (filter (λ s. label_sets_eq (plain_labels s i) labels) samples) labels) (first_of_each label_sets_eq (map (λ s. plain_labels s i) samples))

    -- the reading of one sample
    abbrev read : Sample → Reading
    read s = plain_reading k unit (key_of st s) (timed st s)

    one_made : (s : Sample) → s.name ≡ own_name → made k F unit (s ∷ []) (kept s) ≡ Some (read s)
    one_made s name = own_made k F unit s plain name

    -- one sample more, of labels that no other has
    snoc_read : (samples : List Sample) (y : Sample) → list_any (λ t. label_sets_eq (kept t) (kept y)) samples ≡ false → y.name ≡ own_name → by_labels (samples ++ y ∷ []) ≡ by_labels samples ++ read y ∷ []
    snoc_read samples y new name =
        let f : LabelSet → Option Reading = λ labels. made k F unit (filter (λ s. label_sets_eq (kept s) labels) (samples ++ y ∷ [])) labels in
        let g : LabelSet → Option Reading = λ labels. made k F unit (filter (λ s. label_sets_eq (kept s) labels) samples) labels in
        let firsts : List LabelSet = first_of_each label_sets_eq (map kept samples) in
        let labels : first_of_each label_sets_eq (map kept (samples ++ y ∷ [])) ≡ firsts ++ kept y ∷ [] =
        ap (first_of_each label_sets_eq) (map-append kept samples (y ∷ [])) ∙ first_of_each-snoc label_sets_eq (map kept samples) (kept y)
        ∙ ap (λ b. cond b firsts (firsts ++ kept y ∷ [])) (any-map (λ x. label_sets_eq x (kept y)) kept samples ∙ new) in
        let others : list_any (λ l. label_sets_eq (kept y) l) firsts ≡ false =
        any_first (λ l. label_sets_eq (kept y) l) label_sets_eq (map kept samples)
        (any-map (λ l. label_sets_eq (kept y) l) kept samples ∙ ap (λ (p : Sample → Bool). list_any p samples) (λ i t. label_sets_swap (kept y) (kept t) i) ∙ new) in
        let same : (l : LabelSet) → label_sets_eq (kept y) l ≡ false → f l ≡ g l = λ l e.
        ap (λ own. made k F unit own l) (filter-append (λ s. label_sets_eq (kept s) l) samples (y ∷ [])
        ∙ ap (λ b. filter (λ s. label_sets_eq (kept s) l) samples ++ cond b (y ∷ []) []) e ∙ append-nil (filter (λ s. label_sets_eq (kept s) l) samples)) in
        let last : f (kept y) ≡ Some (read y) =
        ap (λ own. made k F unit own (kept y)) (filter-append (λ s. label_sets_eq (kept s) (kept y)) samples (y ∷ [])
        ∙ ap (λ b. filter (λ s. label_sets_eq (kept s) (kept y)) samples ++ cond b (y ∷ []) []) (label_sets_same (kept y))
        ∙ ap (λ l. l ++ y ∷ []) (filter-none (λ s. label_sets_eq (kept s) (kept y)) samples new)) ∙ one_made y name in
        ap (filter_map f) labels ∙ filter_map-append f firsts (kept y ∷ [])
        ∙ ap (λ l. l ++ filter_map f (kept y ∷ [])) (filter_map-same f g (λ l. label_sets_eq (kept y) l) firsts others same)
        ∙ ap (λ o. filter_map g firsts ++ cons_option o []) last

    all_read : (samples : List Sample) → AreFresh own_name samples → by_labels (reverse samples) ≡ map read (reverse samples)
    all_read [] h = refl
    all_read (y ∷ samples) h =
        ap by_labels (reverse-cons y samples) ∙ snoc_read (reverse samples) y (any-reverse (λ t. label_sets_eq (kept t) (kept y)) samples ∙ h.0) h.1
        ∙ ap (λ l. l ++ read y ∷ []) (all_read samples h.2) ∙ sym (map-append read (reverse samples) (y ∷ [])) ∙ ap (map read) (sym (reverse-cons y samples))

    -- the readings of a family are those of its samples
    readings_read : (above : List Owned) → AreFit st above → AreSound st k F (samples_of above F) → readings_of st k F unit (samples_of (reverse above) F) ≡ map read (samples_of (reverse above) F)
    readings_read above fit sound =
        readings_by_labels (samples_of (reverse above) F) ∙ ap by_labels (reversed_samples above F)
        ∙ all_read (samples_of above F) (fresh_samples F own_name above fit (plain_names k F (samples_of above F) plain sound))
        ∙ ap (map read) (sym (reversed_samples above F))

-- ---- the lines of a family stand together

samples_none : (above : List Owned) (F : List ℕ) → list_any (is_of F) above ≡ false → samples_of (reverse above) F ≡ []
samples_none above F none = reversed_samples above F ∙ ap reverse (no_samples above F none)

module _ (st : Setting) where
  -- a family's samples, each as its key and its value
  abbrev pub seen_in : List Owned → List ℕ → List (SampleKey × TimedValue)
  seen_in above F = map (keyed st) (samples_of (reverse above) F)

  seen_other : (o : Owned) (above : List Owned) (F : List ℕ) → bytes_eq o.family F ≡ false → seen_in (o ∷ above) F ≡ seen_in above F
  seen_other o above F e = ap (map (keyed st)) (samples_of-reverse o above F ∙ ap (λ l. samples_of (reverse above) F ++ l) (none_of_other o F e) ∙ append-nil (samples_of (reverse above) F))

  seen_own : (o : Owned) (above : List Owned) → seen_in (o ∷ above) o.family ≡ seen_in above o.family ++ option_to_list (option_map (keyed st) (sample_of_line o.item))
  seen_own o above = ap (map (keyed st)) (own_samples o.family o.item above) ∙ map-append (keyed st) (samples_of (reverse above) o.family) (option_to_list (sample_of_line o.item))
      ∙ ap (λ l. seen_in above o.family ++ l) (by (sample_of_line o.item))
    where
      by : (s : Option Sample) → map (keyed st) (option_to_list s) ≡ option_to_list (option_map (keyed st) s)
      by None = refl
      by (Some s) = refl

  one_flat : (f : List ℕ → List (SampleKey × TimedValue)) (F : List ℕ) → flat_map f (F ∷ []) ≡ f F
  one_flat f F = append-nil (f F)

  -- the samples of the left families and of the next line's
  pub seen_before : (F : List ℕ) (item : Item) (above : List Owned) → AreFit st above → is_split above (record { family = F; item = item }) ≡ false
      → flat_map (seen_in above) (families_of (reverse above)) ≡ flat_map (seen_in above) (left_before F above) ++ seen_in above F
  unfolding left_before is_split families_of samples_of
  seen_before F item [] fit h = refl
  seen_before F item (n ∷ above) fit h =
      ap (flat_map (seen_in (n ∷ above))) (families_of-reverse st n above fit) ∙ by (bytes_eq n.family F) refl h
    where
      by : (b : Bool) → bytes_eq n.family F ≡ b → (not b && list_any (is_of F) above) ≡ false
          → flat_map (seen_in (n ∷ above)) (left_before n.family above ++ n.family ∷ [])
          ≡ flat_map (seen_in (n ∷ above)) (cond b (left_before n.family above) (left_before n.family above ++ n.family ∷ [])) ++ seen_in (n ∷ above) F
      by true e none = flat_map-append (seen_in (n ∷ above)) (left_before n.family above) (n.family ∷ [])
          ∙ ap (λ l. flat_map (seen_in (n ∷ above)) (left_before n.family above) ++ l) (one_flat (seen_in (n ∷ above)) n.family ∙ ap (seen_in (n ∷ above)) ((bytes_decides n.family F).0 e))
      by false e none =
          sym (append-nil (flat_map (seen_in (n ∷ above)) (left_before n.family above ++ n.family ∷ [])))
          ∙ ap (λ l. flat_map (seen_in (n ∷ above)) (left_before n.family above ++ n.family ∷ []) ++ l) (sym (ap (map (keyed st)) (samples_none (n ∷ above) F (rw e none))))

  -- the samples stand family by family
  pub together : (above : List Owned) → AreFit st above → seen_above st above ≡ flat_map (seen_in above) (families_of (reverse above))
  unfolding seen_above left_before families_of
  together [] fit = refl
  together (o ∷ above) fit =
      let own : List (SampleKey × TimedValue) = option_to_list (option_map (keyed st) (sample_of_line o.item)) in
      let before : seen_above st above ≡ flat_map (seen_in above) (left_before o.family above) ++ seen_in above o.family = together above fit.1 ∙ seen_before o.family o.item above fit.1 fit.0.together in
      ap (λ l. l ++ own) before ∙ append_assoc (flat_map (seen_in above) (left_before o.family above)) (seen_in above o.family) own
      ∙ ap (λ l. flat_map (seen_in above) (left_before o.family above) ++ l) (sym (seen_own o above))
      ∙ ap (λ l. l ++ seen_in (o ∷ above) o.family) (flat_map-same (seen_in above) (seen_in (o ∷ above)) o.family (left_before o.family above) (fresh st o.family o.item above fit.1 fit.0.together) (λ name e. sym (seen_other o above name e)))
      ∙ ap (λ l. flat_map (seen_in (o ∷ above)) (left_before o.family above) ++ l) (sym (one_flat (seen_in (o ∷ above)) o.family))
      ∙ sym (flat_map-append (seen_in (o ∷ above)) (left_before o.family above) (o.family ∷ []))
      ∙ ap (flat_map (seen_in (o ∷ above))) (sym (families_of-reverse st o above fit))

-- ---- families

taken : (st : Setting) (k : Kind) (unit : List ℕ) (samples : List Sample) (more : List (SampleKey × TimedValue))
    → readings_at k unit (length samples) (map (keyed st) samples ++ more) ≡ map (λ s. plain_reading k unit (key_of st s) (timed st s)) samples
taken st k unit [] more = refl
taken st k unit (s ∷ samples) more = ap (λ l. plain_reading k unit (key_of st s) (timed st s) ∷ l) (taken st k unit samples more)

dropped : (st : Setting) (samples : List Sample) (more : List (SampleKey × TimedValue)) → drop (length samples) (map (keyed st) samples ++ more) ≡ more
dropped st [] more = refl
dropped st (s ∷ samples) more = dropped st samples more

-- the readings of what is known of a family are those of its samples
made_readings : (st : Setting) (above : List Owned) (F : List ℕ) (more : List (SampleKey × TimedValue)) → AreFit st above
    → readings_in st.format F (so_far st above F) (seen_in st above F ++ more) ≡ readings_of st (kind_of above F) F (unwrap_or (first_some (unit_in F) above) []) (samples_of (reverse above) F)
unfolding so_far kind_of groups_so_far
made_readings st above F more fit = by (is_grouped st.format (kind_of above F)) refl
  where
    unit : List ℕ
    unit = unwrap_or (first_some (unit_in F) above) []

    by : (b : Bool) → is_grouped st.format (kind_of above F) ≡ b
        → cond b (filter_map (reading_from st.format (kind_of above F) F (unwrap_or (first_some (unit_in F) above) [])) (cond b (groups_from (map (entry_of st (kind_of above F) F) (samples_of (reverse above) F))) []))
        (readings_at (kind_of above F) (unwrap_or (first_some (unit_in F) above) []) (length (samples_of (reverse above) F)) (seen_in st above F ++ more))
        ≡ readings_of st (kind_of above F) F (unwrap_or (first_some (unit_in F) above) []) (samples_of (reverse above) F)
    by true e =
        let k : Kind = kind_of above F in
        ap (λ l. filter_map (reading_from st.format k F unit) (groups_from (map (entry_of st k F) l))) (reversed_samples above F)
        ∙ sym (readings_made st k F unit (samples_of above F) e (sound_samples st above F fit))
        ∙ ap (readings_of st k F unit) (sym (reversed_samples above F))
    by false e =
        let k : Kind = kind_of above F in
        taken st k unit (samples_of (reverse above) F) more
        ∙ sym (readings_read st k e F unit above fit (sound_samples st above F fit))

one_family : (st : Setting) (above : List Owned) (F : List ℕ) (more : List (SampleKey × TimedValue)) → AreFit st above
    → family_at st.format F (so_far st above F) (seen_in st above F ++ more) ≡ family_of st (reverse above) F
unfolding family_of so_far kind_of
one_family st above F more fit =
    let help : first_some (help_in F) above ≡ first_some (help_in F) (reverse above) = sym (said_once help_of_line help_sort st above F fit) in
    let kinds : first_some (declared_kind F) above ≡ first_some (declared_kind F) (reverse above) = sym (said_once kind_of_line kind_sort st above F fit) in
    let units : first_some (unit_in F) above ≡ first_some (unit_in F) (reverse above) = sym (said_once unit_of_line unit_sort st above F fit) in
    let rs = made_readings st above F more fit in
    (λ i. record { name = F; kind = kind_of above F; help = unwrap_or (first_some (help_in F) above) []; unit = unwrap_or (first_some (unit_in F) above) []; readings = rs i })
    ∙ (λ i. record {
      name = F;
      kind = unwrap_or (kinds i) Unknown;
      help = unwrap_or (help i) [];
      unit = unwrap_or (units i) [];
      readings = readings_of st (unwrap_or (kinds i) Unknown) F (unwrap_or (units i) []) (samples_of (reverse above) F);
    })

all_families : (st : Setting) (above : List Owned) (names : List (List ℕ)) → AreFit st above
    → families_at st.format (pairs (so_far st above) names) (flat_map (seen_in st above) names) ≡ map (family_of st (reverse above)) names
unfolding families_at so_far
all_families st above [] fit = refl
all_families st above (F ∷ names) fit =
    let first : family_at st.format F (so_far st above F) (seen_in st above F ++ flat_map (seen_in st above) names) ≡ family_of st (reverse above) F = one_family st above F (flat_map (seen_in st above) names) fit in
    let rest : families_at st.format (pairs (so_far st above) names) (drop (so_far st above F).samples (seen_in st above F ++ flat_map (seen_in st above) names)) ≡ map (family_of st (reverse above)) names =
    ap (families_at st.format (pairs (so_far st above) names)) (dropped st (samples_of (reverse above) F) (flat_map (seen_in st above) names)) ∙ all_families st above names fit in
    λ i. first i ∷ rest i

-- the families that were left, with the current one, are those of the lines
all_pairs : (st : Setting) (above : List Owned) → AreFit st above → with_left (pairs (so_far st above) (left_families above)) (current_family st above) ≡ pairs (so_far st above) (families_of (reverse above))
unfolding left_families current_family families_of
all_pairs st [] fit = refl
all_pairs st (n ∷ above) fit =
    let last : lookup (bytes_eq n.family) (pairs (so_far st (n ∷ above)) (left_before n.family above)) ≡ None =
    lookup-map (so_far st (n ∷ above)) n.family (left_before n.family above) ∙ ap (λ b. cond b (Some (so_far st (n ∷ above) n.family)) None) (fresh st n.family n.item above fit.1 fit.0.together) in
    insert_entry-last (pairs (so_far st (n ∷ above)) (left_before n.family above)) n.family (so_far st (n ∷ above) n.family) last
    ∙ sym (map-append (λ name. (name, so_far st (n ∷ above) name)) (left_before n.family above) (n.family ∷ []))
    ∙ ap (pairs (so_far st (n ∷ above))) (sym (families_of-reverse st n above fit))

-- the fault of the end, by what is kept
pub end_kept : (st : Setting) (c : Checking) (earlier : List Item) (clean : Bool) → Stands st c earlier → end_fault st earlier clean ≡ end_stop c clean
unfolding end_fault end_breaks is_without_eof end_stop
end_kept st c earlier clean s = sym (λ i. cond (not (is_open_metrics (s.setting i).format) && not clean) (Some rules.NoNewline)
    (cond (is_open_metrics (s.setting i).format && not (s.ended i)) (Some rules.NoEof) (left_at_end st c earlier s i)))

-- the page of what is kept is that of the lines
pub page_built : (st : Setting) (c : Checking) (earlier : List Item) → Stands st c earlier → page_at c ≡ page_of st earlier
unfolding page_at page_of
page_built st c earlier s =
    let above : List Owned = owned_lines st.format earlier in
    let fit : AreFit st above = fit_lines st earlier s.faultless in
    let kept_is : with_left c.left c.current ≡ pairs (so_far st above) (families_of (reverse above)) = (λ i. with_left (s.left i) (s.current i)) ∙ all_pairs st above fit in
    let seen_is : c.seen ≡ flat_map (seen_in st above) (families_of (reverse above)) = s.seen ∙ together st above fit in
    let families : families_at c.setting.format (with_left c.left c.current) c.seen ≡ map (family_of st (reverse above)) (families_of (reverse above)) =
    (λ i. families_at (s.setting i).format (kept_is i) (seen_is i)) ∙ all_families st above (families_of (reverse above)) fit in
    λ i. record { families = families i; samples = s.samples i }
