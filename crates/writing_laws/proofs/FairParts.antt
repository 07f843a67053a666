-- Truth values, names and labels: what the samples of a written reading are made of, and what each of them is by itself.
use Rattle.std.proofs.Common.{◌≡◌, ◌≢◌, ℕ, ◌^◌, ◌<◌, Bool, true, false, cond, ◌&&◌, List, [], ◌∷◌, ◌++◌, length, drop, codes, refl, sym, ap, subst, ◌∙◌}
use Rattle.std.specs.Prelude.{⊤}
use Rattle.std.specs.List.{list_any, list_all, AllByRecursion, IsDistinct}
use Rattle.std.specs.List.Sorted.{IsStrictlySortedBy}
use Rattle.std.specs.Str.{bytes_eq, is_utf8}
use Rattle.std.specs.Cmp.Lexicographic.{bytes_decides}
use Rattle.std.proofs.lemmas.List.{append-nil}
use Rattle.std.proofs.lemmas.Map.Text.{is_eq-slice_cmp}
use Rattle.std.proofs.Math.Seq.{drop-append_seam}
use Rattle.label_sets.proofs.Laws.{same_tests, sorted_itself, sorted_ascending, distinct_before, all-weaker, bytes_eq-swap}
use Rattle.std.proofs.lemmas.Bool.{and_parts, and_from}
use Rattle.std.proofs.lemmas.List.Folds.{list_all-append}
use Rattle.std.proofs.lemmas.List.Elements.{All-from_recursion, recursion_from_All}
use Rattle.std.proofs.lemmas.List.Sorted.{IsPermutation-refl}
use Rattle.std.proofs.lemmas.Str.{is_utf8-from_IsUtf8}
use Rattle.label_sets.specs.declared.kind.Kind.{Kind}
use Rattle.label_sets.specs.declared.kind.Kind.TheVariants.{Histogram, GaugeHistogram, Summary}
use Rattle.label_sets.specs.declared.label.Label.{Label}
use Rattle.label_sets.specs.declared.label_set.LabelSet.{LabelSet}
use Rattle.label_sets.specs.Names.{is_metric_name, is_metric_start, is_metric_char, is_label_name}
use Rattle.label_sets.specs.Labels.{name_before, label_inserted, has_name}
use Rattle.label_sets.specs.Sets.{by_name, IsLabelSet}
use Rattle.label_sets.specs.Building.{same_name}
use Rattle.exact_decimal.specs.declared.number.Number.{Number}
use Rattle.exact_decimal.specs.Tokens.{unsigned, has_minus, mantissa, whole_part, fraction_part, has_exponent, exponent_part, is_digits, is_real, is_infinity, is_nan_token, is_number_token}
use Rattle.exact_decimal.specs.Numbers.{number_of}
use Rattle.exact_decimal.specs.Literals.{number_text}
use Rattle.exact_decimal.proofs.Laws.{whole_value}
use Rattle.page_model.specs.declared.format.Format.TheVariants.{OpenMetrics}
use Rattle.page_model.specs.declared.format.Treatment.TheVariants as treatments
use Rattle.page_model.specs.declared.item.Sample.{Sample}
use Rattle.page_model.specs.Written.{open_setting}
use Rattle.page_model.specs.Suffixes.{suffixes, is_sample_name}
use Rattle.page_model.specs.Owners.{group_of}
use Rattle.page_model.specs.Rules.{has_bad_value, has_forbidden_value, has_bad_threshold}
use Rattle.page_model.specs.Readings.{reading_labels}
use Rattle.open_writing.specs.Writing.{bare_sample, with_number_label}
use Rattle.open_writing.specs.Forms.{IsFormedNumber, is_text_label}
use Rattle.writing_laws.proofs.Turned.{any-none}
use Rattle.writing_laws.proofs.Spelled.{number_text_token, IsWritableSample}
use Rattle.writing_laws.proofs.LineBytes.{number_line}

-- ---- truth values

pub cond_true : (a b c : Bool) → a ≡ true → b ≡ false → cond a b c ≡ false
cond_true true b c e f = f
cond_true false b c e f = absurd cc

pub cond_false : (a b c : Bool) → a ≡ false → c ≡ false → cond a b c ≡ false
cond_false false b c e f = f
cond_false true b c e f = absurd cc

-- ---- names and labels

-- names that begin alike are one where their ends are
pub name_test : (front a b : List ℕ) → bytes_eq (front ++ a) (front ++ b) ≡ bytes_eq a b
name_test front a b = same_tests (bytes_eq (front ++ a) (front ++ b)) (bytes_eq a b)
    (λ e. (bytes_decides a b).1 (sym (drop-append_seam front a) ∙ ap (drop (length front)) ((bytes_decides (front ++ a) (front ++ b)).0 e) ∙ drop-append_seam front b))
    (λ e. (bytes_decides (front ++ a) (front ++ b)).1 (ap (λ t. front ++ t) ((bytes_decides a b).0 e)))

-- a sample is named as its kind allows where its suffix is one of those of the kind
pub named_by : (family suffix : List ℕ) (kind : Kind) → list_any (bytes_eq suffix) (suffixes OpenMetrics kind) ≡ true → is_sample_name OpenMetrics kind family (family ++ suffix) ≡ true
named_by family suffix kind e = go (suffixes OpenMetrics kind) ∙ e
  where
    go : (others : List (List ℕ)) → list_any (λ other. bytes_eq (family ++ suffix) (family ++ other)) others ≡ list_any (bytes_eq suffix) others
    go [] = refl
    go (other ∷ others) = rw (name_test family suffix other, go others) refl

pub metric_more : (name suffix : List ℕ) → is_metric_name name ≡ true → list_all is_metric_char suffix ≡ true → is_metric_name (name ++ suffix) ≡ true
metric_more [] suffix h k = absurd cc
metric_more (c ∷ cs) suffix h k =
    let both = and_parts (is_metric_start c) (list_all is_metric_char cs) h in
    and_from (is_metric_start c) (list_all is_metric_char (cs ++ suffix)) both.0
    (list_all-append is_metric_char cs suffix ∙ and_from (list_all is_metric_char cs) (list_all is_metric_char suffix) both.1 k)

pub all_inserted : (p : Label → Bool) (l : Label) (ls : List Label) → p l ≡ true → list_all p ls ≡ true → list_all p (label_inserted l ls) ≡ true
all_inserted p l [] h k = and_from (p l) true h refl
all_inserted p l (m ∷ ms) h k =
    let both = and_parts (p m) (list_all p ms) k in
    go (name_before l.name m.name) both.0 both.1 (all_inserted p l ms h both.1)
  where
    go : (b : Bool) → p m ≡ true → list_all p ms ≡ true → list_all p (label_inserted l ms) ≡ true → list_all p (cond b (l ∷ m ∷ ms) (m ∷ label_inserted l ms)) ≡ true
    go true e f ih = and_from (p l) (p m && list_all p ms) h (and_from (p m) (list_all p ms) e f)
    go false e f ih = and_from (p m) (list_all p (label_inserted l ms)) e ih

pub valued_inserted : (l : Label) (ls : List Label) → l.value ≢ [] → AllByRecursion (λ (m : Label). m.value ≢ []) ls → AllByRecursion (λ (m : Label). m.value ≢ []) (label_inserted l ls)
valued_inserted l [] h k = (h, tt)
valued_inserted l (m ∷ ms) h k = go (name_before l.name m.name) k (valued_inserted l ms h k.1)
  where
    go : (b : Bool) → AllByRecursion (λ (n : Label). n.value ≢ []) (m ∷ ms) → AllByRecursion (λ (n : Label). n.value ≢ []) (label_inserted l ms)
        → AllByRecursion (λ (n : Label). n.value ≢ []) (cond b (l ∷ m ∷ ms) (m ∷ label_inserted l ms))
    go true k ih = (h, k)
    go false k ih = (k.0, ih)

-- a label whose name is new, in its place among the labels of a set
pub set_inserted : (l : Label) (ls : List Label) → IsLabelSet ls → l.value ≢ [] → has_name ls l.name ≡ false → IsLabelSet (label_inserted l ls)
unfolding IsDistinct
set_inserted l ls set some new =
    let apart : AllByRecursion (λ (m : Label). same_name l m ≡ false) ls
    = all-weaker (λ (m : Label). bytes_eq m.name l.name ≡ false) (λ (m : Label). same_name l m ≡ false) (λ m e. is_eq-slice_cmp l.name m.name ∙ bytes_eq-swap l.name m.name ∙ e) ls (any-none (λ (m : Label). bytes_eq m.name l.name) ls new) in
    let distinct : IsDistinct same_name (l ∷ ls) = (apart, distinct_before ls ls (IsPermutation-refl ls) set.ascending) in
    record {
      ascending = subst (IsStrictlySortedBy by_name) (ap (label_inserted l) (sorted_itself ls set.ascending)) (sorted_ascending (l ∷ ls) distinct);
      valued = All-from_recursion (λ (m : Label). m.value ≢ []) (label_inserted l ls) (valued_inserted l ls some (recursion_from_All (λ (m : Label). m.value ≢ []) ls set.valued));
    }

pub no_token : is_number_token [] ≡ false
unfolding unsigned has_minus mantissa whole_part fraction_part has_exponent exponent_part is_digits is_real is_infinity is_nan_token is_number_token
no_token = refl

pub number_some : (n : Number) → IsFormedNumber n → number_text n ≢ []
number_some n h = λ e. absurd (let k : false ≡ true = sym no_token ∙ ap is_number_token (sym e) ∙ number_text_token n h in cc)

-- ---- fair samples

-- the family's name is one, and the labels are a set of texts
pub record Base (family : List ℕ) (labels : LabelSet) : Type 0 where
  pub name : is_metric_name family ≡ true
  pub set : IsLabelSet labels
  pub text : list_all is_text_label labels ≡ true

-- the labels don't have the name that tells buckets or quantiles apart
abbrev pub NoPlace : Kind → LabelSet → Type 0
NoPlace Histogram labels = has_name labels (codes "le") ≡ false
NoPlace GaugeHistogram labels = has_name labels (codes "le") ≡ false
NoPlace Summary labels = has_name labels (codes "quantile") ≡ false
NoPlace _ labels = ⊤

-- a sample of a reading with these labels
pub record IsFair (limit : ℕ) (kind : Kind) (family : List ℕ) (labels : LabelSet) (s : Sample) : Type 0 where
  pub named : is_sample_name OpenMetrics kind family s.name ≡ true
  pub can : IsWritableSample s
  pub set : IsLabelSet s.labels
  pub value : has_bad_value OpenMetrics kind family s ≡ false
  pub threshold : has_bad_threshold kind family s ≡ false
  pub of : reading_labels (open_setting treatments.Written limit) kind family s ≡ labels
  pub group : group_of kind family s.labels ≡ group_of kind family labels

pub can_be : (family suffix : List ℕ) (labels : LabelSet) (n : Number) → Base family labels → list_all is_metric_char suffix ≡ true → IsFormedNumber n → IsWritableSample (bare_sample (family ++ suffix) labels n)
can_be family suffix labels n base letters formed = record { name = metric_more family suffix base.name letters; labels = base.text; value = formed; no_stamp = refl; no_exemplar = refl }

-- a sample with labels of its own, named like the family with a suffix that its kind has
pub with_suffix : (limit : ℕ) (kind : Kind) (family suffix : List ℕ) (labels own : LabelSet) (n : Number) → Base family own → IsFormedNumber n
    → list_any (bytes_eq suffix) (suffixes OpenMetrics kind) ≡ true → list_all is_metric_char suffix ≡ true
    → has_bad_value OpenMetrics kind family (bare_sample (family ++ suffix) own n) ≡ false → has_bad_threshold kind family (bare_sample (family ++ suffix) own n) ≡ false
    → reading_labels (open_setting treatments.Written limit) kind family (bare_sample (family ++ suffix) own n) ≡ labels → group_of kind family own ≡ group_of kind family labels
    → IsFair limit kind family labels (bare_sample (family ++ suffix) own n)
with_suffix limit kind family suffix labels own n base formed named letters value threshold of group = record {
  named = named_by family suffix kind named;
  can = can_be family suffix own n base letters formed;
  set = base.set;
  value = value;
  threshold = threshold;
  of = of;
  group = group;
}

-- and one with the family's own name
pub with_own_name : (limit : ℕ) (kind : Kind) (family : List ℕ) (labels own : LabelSet) (n : Number) → Base family own → IsFormedNumber n
    → list_any (bytes_eq []) (suffixes OpenMetrics kind) ≡ true → has_bad_value OpenMetrics kind family (bare_sample family own n) ≡ false → has_bad_threshold kind family (bare_sample family own n) ≡ false
    → reading_labels (open_setting treatments.Written limit) kind family (bare_sample family own n) ≡ labels → group_of kind family own ≡ group_of kind family labels
    → IsFair limit kind family labels (bare_sample family own n)
with_own_name limit kind family labels own n base formed named value threshold of group = record {
  named = subst (λ name. is_sample_name OpenMetrics kind family name ≡ true) (append-nil family) (named_by family [] kind named);
  can = subst (λ name. IsWritableSample (bare_sample name own n)) (append-nil family) (can_be family [] own n base refl formed);
  set = base.set;
  value = value;
  threshold = threshold;
  of = of;
  group = group;
}

-- histograms and gauge histograms have the same rules but on names
pub of_gauge : (limit : ℕ) (family : List ℕ) (labels : LabelSet) (s : Sample) → is_sample_name OpenMetrics GaugeHistogram family s.name ≡ true → IsFair limit Histogram family labels s → IsFair limit GaugeHistogram family labels s
unfolding has_bad_value has_forbidden_value has_bad_threshold
of_gauge limit family labels s named fair = record { named = named; can = fair.can; set = fair.set; value = fair.value; threshold = fair.threshold; of = fair.of; group = fair.group }

-- labels with a number in its place
pub placed : (family name : List ℕ) (labels : LabelSet) (n : Number) → Base family labels → is_label_name name ≡ true → IsFormedNumber n → has_name labels name ≡ false → Base family (with_number_label name n labels)
placed family name labels n base named formed free =
    let l : Label = record { name = name; value = number_text n } in
    let utf8 : is_utf8 (number_text n) ≡ true = is_utf8-from_IsUtf8 (number_text n) (number_line n formed).utf8 in
    record {
      name = base.name;
      set = set_inserted l labels base.set (number_some n formed) free;
      text = all_inserted is_text_label l labels (and_from (is_label_name name) (is_utf8 (number_text n)) named utf8) base.text;
    }

-- a count is in its one form
pub counted : (n : ℕ) → n < 2 ^ 64 → IsFormedNumber (number_of n)
counted n small = let whole = whole_value n small in subst IsFormedNumber (sym whole.1) whole.2
