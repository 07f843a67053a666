-- The samples of which a reading of lines without a fault is made, and its labels.
use Rattle.std.proofs.Common.{◌≡◌, ℕ, ◌≤◌, Bool, true, false, cond, not, ◌||◌, List, [], ◌∷◌, ◌++◌, find, length, drop, codes, Some, is_some, option_map, refl, sym, ap, ◌∙◌, arith}
use Rattle.std.specs.List.{list_any, list_all, AllByRecursion}
use Rattle.std.specs.Str.{bytes_eq}
use Rattle.std.specs.Cmp.Lexicographic.{bytes_decides}
use Rattle.std.proofs.lemmas.Bool.{or_left, or_right}
use Rattle.std.proofs.lemmas.Option.{same_Some}
use Rattle.std.proofs.Math.Seq.{drop-append_seam}
use Rattle.label_sets.specs.declared.kind.Kind.{Kind}
use Rattle.label_sets.specs.declared.kind.Kind.TheVariants.{Histogram, GaugeHistogram, Summary}
use Rattle.label_sets.specs.declared.label.Label.{Label}
use Rattle.label_sets.specs.declared.label_set.LabelSet.{LabelSet}
use Rattle.label_sets.specs.Labels.{without_label}
use Rattle.label_sets.specs.Sets.{IsLabelSet}
use Rattle.label_sets.proofs.Laws.{IsLabelSet-without}
use Rattle.exact_decimal.specs.declared.number.Number.{Number}
use Rattle.page_model.specs.declared.format.Treatment.{Treatment}
use Rattle.page_model.specs.declared.item.Sample.{Sample}
use Rattle.page_model.specs.Written.{Setting, label_limit}
use Rattle.page_model.specs.Suffixes.{suffix_of}
use Rattle.page_model.specs.Owners.{kept_labels}
use Rattle.page_model.specs.Rules.{has_suffix, has_wrong_suffix, has_bad_value, has_bad_threshold}
use Rattle.page_model.specs.Readings.{value_with, reading_labels}
use Rattle.open_writing.specs.Forms.{is_text_label, is_own_label}
use Rattle.writing_laws.proofs.FairParts.{NoPlace}
use Rattle.writing_laws.proofs.ReadLabels.{all_filtered, kept_own, kept_text, kept_set, length_kept, without_lacks, length_without}
use Rattle.writing_laws.proofs.ReadItems.{IsFormedSample}

-- ---- the labels of a reading

-- a set of few named texts, none of them named as the target's
pub record IsKeptSet (t : Treatment) (ls : LabelSet) : Type 0 where
  pub set : IsLabelSet ls
  pub text : list_all is_text_label ls ≡ true
  pub own : list_all (is_own_label t) ls ≡ true
  pub few : length ls ≤ label_limit t

kept_whole : (t : Treatment) (s : Sample) → IsFormedSample t s → IsKeptSet t (kept_labels t s.labels)
kept_whole t s h =
    let same = length_kept t s.labels in
    let few = h.few in
    record { set = kept_set t s.labels h.set; text = kept_text t s.labels h.text; own = kept_own t s.labels; few = omega (arith, same, few) }

kept_without : (t : Treatment) (name : List ℕ) (ls : LabelSet) → IsKeptSet t ls → IsKeptSet t (without_label name ls)
kept_without t name ls h =
    let less_labels = length_without name ls in
    let few = h.few in
    record {
      set = IsLabelSet-without name ls h.set;
      text = all_filtered is_text_label (λ (l : Label). not (bytes_eq l.name name)) ls h.text;
      own = all_filtered (is_own_label t) (λ (l : Label). not (bytes_eq l.name name)) ls h.own;
      few = omega (arith, less_labels, few);
    }

-- the labels of the reading of a sample
pub kept_reading : (st : Setting) (kind : Kind) (family : List ℕ) (s : Sample) → IsFormedSample st.treatment s → IsKeptSet st.treatment (reading_labels st kind family s)
kept_reading st Histogram family s h = kept_without st.treatment (codes "le") (kept_labels st.treatment s.labels) (kept_whole st.treatment s h)
kept_reading st GaugeHistogram family s h = kept_without st.treatment (codes "le") (kept_labels st.treatment s.labels) (kept_whole st.treatment s h)
kept_reading st Summary family s h = kept_without st.treatment (codes "quantile") (kept_labels st.treatment s.labels) (kept_whole st.treatment s h)
kept_reading st _ family s h = kept_whole st.treatment s h

pub no_place_in : (st : Setting) (kind : Kind) (family : List ℕ) (s : Sample) → NoPlace kind (reading_labels st kind family s)
no_place_in st Histogram family s = without_lacks (codes "le") (kept_labels st.treatment s.labels)
no_place_in st GaugeHistogram family s = without_lacks (codes "le") (kept_labels st.treatment s.labels)
no_place_in st Summary family s = without_lacks (codes "quantile") (kept_labels st.treatment s.labels)
no_place_in st _ family s = tt

-- ---- samples of a reading

-- a sample of which a reading with these labels is made
pub record IsPart (st : Setting) (kind : Kind) (family : List ℕ) (labels : LabelSet) (s : Sample) : Type 0 where
  pub formed : IsFormedSample st.treatment s
  pub named : has_wrong_suffix st kind family s ≡ false
  pub valued : has_bad_value st.format kind family s ≡ false
  pub placed : has_bad_threshold kind family s ≡ false
  pub of : reading_labels st kind family s ≡ labels

-- the first value with a suffix is that of a sample
pub found_value : (family : List ℕ) (P : Sample → Type 0) (suffix : List ℕ) (own : List Sample) (n : Number) → AllByRecursion P own → value_with family suffix own ≡ Some n
    → (s : Sample) × P s × (has_suffix family suffix s ≡ true) × (s.value ≡ n)
unfolding value_with
found_value family P suffix [] n h e = absurd cc
found_value family P suffix (s ∷ own) n h e = go (has_suffix family suffix s) refl e (found_value family P suffix own n h.1)
  where
    go : (b : Bool) → has_suffix family suffix s ≡ b → option_map (λ (x : Sample). x.value) (cond b (Some s) (find (has_suffix family suffix) own)) ≡ Some n
        → (option_map (λ (x : Sample). x.value) (find (has_suffix family suffix) own) ≡ Some n → (t : Sample) × P t × (has_suffix family suffix t ≡ true) × (t.value ≡ n))
        → (t : Sample) × P t × (has_suffix family suffix t ≡ true) × (t.value ≡ n)
    go true f k ih = (s, h.0, f, same_Some s.value n k)
    go false f k ih = ih k

-- where a sample has the suffix there is a value
pub value_there : (family suffix : List ℕ) (own : List Sample) → list_any (has_suffix family suffix) own ≡ true → is_some (value_with family suffix own) ≡ true
unfolding value_with
value_there family suffix [] h = absurd cc
value_there family suffix (s ∷ own) h = go (has_suffix family suffix s) h (value_there family suffix own)
  where
    go : (b : Bool) → (b || list_any (has_suffix family suffix) own) ≡ true → (list_any (has_suffix family suffix) own ≡ true → is_some (option_map (λ (x : Sample). x.value) (find (has_suffix family suffix) own)) ≡ true)
        → is_some (option_map (λ (x : Sample). x.value) (cond b (Some s) (find (has_suffix family suffix) own))) ≡ true
    go true k ih = refl
    go false k ih = ih k

-- what a sample's name has behind the family's is a suffix of the kind
pub allowed_suffix : (family suffix : List ℕ) (s : Sample) (others : List (List ℕ)) → has_suffix family suffix s ≡ true → list_any (λ x. bytes_eq s.name (family ++ x)) others ≡ true → list_any (bytes_eq suffix) others ≡ true
allowed_suffix family suffix s [] h k = absurd cc
allowed_suffix family suffix s (x ∷ others) h k = go (bytes_eq s.name (family ++ x)) refl k (allowed_suffix family suffix s others h)
  where
    go : (b : Bool) → bytes_eq s.name (family ++ x) ≡ b → (b || list_any (λ x. bytes_eq s.name (family ++ x)) others) ≡ true
        → (list_any (λ x. bytes_eq s.name (family ++ x)) others ≡ true → list_any (bytes_eq suffix) others ≡ true) → (bytes_eq suffix x || list_any (bytes_eq suffix) others) ≡ true
    go true e k ih =
        let is : suffix ≡ x = sym ((bytes_decides (suffix_of family s.name) suffix).0 h) ∙ ap (drop (length family)) ((bytes_decides s.name (family ++ x)).0 e) ∙ drop-append_seam family x in
        or_left (bytes_eq suffix x) (list_any (bytes_eq suffix) others) ((bytes_decides suffix x).1 is)
    go false e k ih = or_right (bytes_eq suffix x) (list_any (bytes_eq suffix) others) (ih k)

-- and one of them is it
pub some_suffix : (family : List ℕ) (s : Sample) (others : List (List ℕ)) → list_any (λ x. bytes_eq s.name (family ++ x)) others ≡ true → list_any (λ x. has_suffix family x s) others ≡ true
some_suffix family s [] k = absurd cc
some_suffix family s (x ∷ others) k = go (bytes_eq s.name (family ++ x)) refl k (some_suffix family s others)
  where
    go : (b : Bool) → bytes_eq s.name (family ++ x) ≡ b → (b || list_any (λ x. bytes_eq s.name (family ++ x)) others) ≡ true
        → (list_any (λ x. bytes_eq s.name (family ++ x)) others ≡ true → list_any (λ x. has_suffix family x s) others ≡ true) → (has_suffix family x s || list_any (λ x. has_suffix family x s) others) ≡ true
    go true e k ih =
        let is : suffix_of family s.name ≡ x = ap (drop (length family)) ((bytes_decides s.name (family ++ x)).0 e) ∙ drop-append_seam family x in
        or_left (has_suffix family x s) (list_any (λ x. has_suffix family x s) others) ((bytes_decides (suffix_of family s.name) x).1 is)
    go false e k ih = or_right (has_suffix family x s) (list_any (λ x. has_suffix family x s) others) (ih k)
