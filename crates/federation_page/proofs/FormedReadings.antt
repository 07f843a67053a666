-- The readings of a target have the form of those that can be written.
use Rattle.std.proofs.Common.{◌≡◌, ◌≢◌, ℕ, ◌+◌, ◌≤◌, Bool, true, false, not, ◌&&◌, ◌||◌, List, [], length, codes, Option, Some, None, refl, sym, ap, subst, ◌∙◌, arith}
use Rattle.std.specs.Prelude.{unwrap_or, option_map}
use Rattle.std.specs.List.{AllByRecursion}
use Rattle.std.specs.Str.{bytes_eq}
use Rattle.std.proofs.lemmas.Bool.{and_parts, and_from}
use Rattle.std.proofs.lemmas.List.Elements.{All-from_recursion, recursion_from_All}
use Rattle.writing_laws.proofs.Laws.{written_own}
use Rattle.label_sets.specs.declared.kind.Kind.{Kind}
use Rattle.label_sets.specs.declared.kind.Kind.TheVariants as kinds
use Rattle.label_sets.specs.declared.label.Label.{Label}
use Rattle.label_sets.specs.declared.label_set.LabelSet.{LabelSet}
use Rattle.label_sets.specs.Names.{is_metric_name}
use Rattle.label_sets.specs.Labels.{has_name}
use Rattle.exact_decimal.specs.declared.number.Number.{Number}
use Rattle.page_model.specs.declared.format.Format.{Format}
use Rattle.page_model.specs.declared.format.Format.TheVariants.{Text, OpenMetrics}
use Rattle.page_model.specs.declared.format.Treatment.TheVariants.{Scraped, Written}
use Rattle.page_model.specs.declared.item.Sample.{Sample}
use Rattle.page_model.specs.declared.page.Value.{Value}
use Rattle.page_model.specs.declared.page.Value.TheVariants as values
use Rattle.page_model.specs.declared.page.Reading.{Reading}
use Rattle.page_model.specs.declared.event.Shown.{Shown}
use Rattle.page_model.specs.Written.{label_limit}
use Rattle.page_model.specs.Readings.{key_name}
use Rattle.open_writing.specs.Writing.{count_suffix, sum_suffix, reading_samples, sample_text}
use Rattle.open_writing.specs.Forms.{is_plain_value, is_taken_name, is_state, is_count_of_events, IsFormedValue, IsFormedTime, IsFormedReading, has_created_time, is_kind_in, is_text_label}
use Rattle.open_writing.specs.OpenForms.{IsBareReading}
use Rattle.federation_page.specs.Candidates.{with_target, federated_kind, federated_name, federated_reading, in_front_of, is_counter_value, stays, is_left_out}
use Rattle.federation_page.specs.Gathering.{IsTargetName}
use Rattle.federation_page.proofs.TargetLabels.{target_any, target_all, target_set}
use Rattle.federation_page.proofs.FederatedNames.{open_kind, keeps_name, name_shorter, key_shorter}
use Rattle.federation_page.proofs.FederatedReadings.{HasTarget, target_more, reading_carried, longer_text, most_target_bytes}

-- ---- values

-- a counter's number, under the kind that its key gives
counter_value : (key family : List ℕ) (ms : LabelSet) (n : Number) → is_count_of_events n ≡ true → is_plain_value OpenMetrics Written (federated_kind kinds.Counter key) family ms n ≡ true
unfolding federated_kind is_plain_value
counter_value key family ms n h = go (in_front_of (codes "_total") key) refl
  where
    go : (o : Option (List ℕ)) → in_front_of (codes "_total") key ≡ o → is_plain_value OpenMetrics Written (federated_kind kinds.Counter key) family ms n ≡ true
    go (Some front) e = rw e h
    go None e = rw e refl

state_value : (name : List ℕ) (ls ms : LabelSet) (n : Number) → is_left_out kinds.StateSet name ≡ false → (has_name ls name ≡ true → has_name ms name ≡ true)
    → (is_state n && (is_taken_name Scraped name || has_name ls name)) ≡ true → (is_state n && has_name ms name) ≡ true
unfolding is_left_out is_taken_name
state_value name ls ms n out keep h =
    let both = and_parts (is_state n) ((bytes_eq name (codes "job") || bytes_eq name (codes "instance")) || has_name ls name) h in
    and_from (is_state n) (has_name ms name) both.0 (keep (sym (ap (λ b. b || has_name ls name) out) ∙ both.1))

module _ (f : Format) (name : List ℕ) (ls ms : LabelSet) (le : has_name ms (codes "le") ≡ has_name ls (codes "le")) (quantile : has_name ms (codes "quantile") ≡ has_name ls (codes "quantile"))
    (state : has_name ls name ≡ true → has_name ms name ≡ true) where
  plain_value : (kind : Kind) (n : Number) → is_left_out kind name ≡ false → (kind ≡ kinds.Counter → is_count_of_events n ≡ true) → is_plain_value f Scraped kind name ls n ≡ true
      → is_plain_value OpenMetrics Written (federated_kind kind (key_name f kind name)) (federated_name kind (key_name f kind name)) ms n ≡ true
  unfolding is_plain_value federated_kind federated_name is_taken_name
  plain_value kinds.Counter n out counter h = counter_value (key_name f kinds.Counter name) (federated_name kinds.Counter (key_name f kinds.Counter name)) ms n (counter refl)
  plain_value kinds.Gauge n out counter h = refl
  plain_value kinds.Unknown n out counter h = refl
  plain_value kinds.Info n out counter h = h
  plain_value kinds.StateSet n out counter h = state_value name ls ms n out state h
  plain_value _ n out counter h = absurd (let bad : false ≡ true = h in cc)

  pub formed_value : (kind : Kind) (v : Value) → is_left_out kind name ≡ false → (kind ≡ kinds.Counter → is_counter_value v ≡ true) → IsFormedValue f Scraped kind name ls v
      → IsFormedValue OpenMetrics Written (federated_kind kind (key_name f kind name)) (federated_name kind (key_name f kind name)) ms v
  unfolding federated_kind federated_name
  formed_value kind (values.Plain n) out counter h = (h.0, plain_value kind n out counter h.1)
  formed_value kinds.Histogram (values.Buckets bs sum) out counter h = (refl, h.1, h.2, h.3, ap not le ∙ h.4)
  formed_value kinds.GaugeHistogram (values.Buckets bs sum) out counter h = (refl, h.1, h.2, h.3, ap not le ∙ h.4)
  formed_value kinds.Counter (values.Buckets bs sum) out counter h = absurd (let bad : false ≡ true = h.0 in cc)
  formed_value kinds.Gauge (values.Buckets bs sum) out counter h = absurd (let bad : false ≡ true = h.0 in cc)
  formed_value kinds.StateSet (values.Buckets bs sum) out counter h = absurd (let bad : false ≡ true = h.0 in cc)
  formed_value kinds.Info (values.Buckets bs sum) out counter h = absurd (let bad : false ≡ true = h.0 in cc)
  formed_value kinds.Summary (values.Buckets bs sum) out counter h = absurd (let bad : false ≡ true = h.0 in cc)
  formed_value kinds.Unknown (values.Buckets bs sum) out counter h = absurd (let bad : false ≡ true = h.0 in cc)
  formed_value kinds.Summary (values.Quantiles qs count sum) out counter h = (refl, h.1, h.2, h.3, h.4, h.5, ap not quantile ∙ h.6)
  formed_value kinds.Counter (values.Quantiles qs count sum) out counter h = absurd (let bad : false ≡ true = h.0 in cc)
  formed_value kinds.Gauge (values.Quantiles qs count sum) out counter h = absurd (let bad : false ≡ true = h.0 in cc)
  formed_value kinds.StateSet (values.Quantiles qs count sum) out counter h = absurd (let bad : false ≡ true = h.0 in cc)
  formed_value kinds.Info (values.Quantiles qs count sum) out counter h = absurd (let bad : false ≡ true = h.0 in cc)
  formed_value kinds.Histogram (values.Quantiles qs count sum) out counter h = absurd (let bad : false ≡ true = h.0 in cc)
  formed_value kinds.GaugeHistogram (values.Quantiles qs count sum) out counter h = absurd (let bad : false ≡ true = h.0 in cc)
  formed_value kinds.Unknown (values.Quantiles qs count sum) out counter h = absurd (let bad : false ≡ true = h.0 in cc)

text_untimed : (kind : Kind) → has_created_time Text kind ≡ false
text_untimed kinds.Counter = refl
text_untimed _ = refl

pub formed_time : (f : Format) (kind : Kind) (name : List ℕ) (o : Option Number) → is_metric_name name ≡ true → IsFormedTime f kind o → IsFormedTime OpenMetrics (federated_kind kind (key_name f kind name)) o
formed_time f kind name None m h = tt
formed_time Text kind name (Some n) m h = absurd (let bad : false ≡ true = sym (text_untimed kind) ∙ h.0 in cc)
formed_time OpenMetrics kind name (Some n) m h = subst (λ k. IsFormedTime OpenMetrics k (Some n)) (sym (open_kind kind name m)) h

-- ---- suffixes

-- what is alike for a counter and an unknown kind is kept by each kind
kept_by : {X : Type 0} (of : Kind → X) → of kinds.Unknown ≡ of kinds.Counter → (kind : Kind) (key : List ℕ) → of (federated_kind kind key) ≡ of kind
unfolding federated_kind
kept_by of same kinds.Counter key = go (in_front_of (codes "_total") key)
  where
    go : (o : Option (List ℕ)) → of (unwrap_or (option_map (λ front. kinds.Counter) o) kinds.Unknown) ≡ of kinds.Counter
    go (Some front) = refl
    go None = same
kept_by of same _ key = refl

count_kept : (kind : Kind) (key : List ℕ) → count_suffix (federated_kind kind key) ≡ count_suffix kind
count_kept = kept_by count_suffix refl

sum_kept : (kind : Kind) (key : List ℕ) → sum_suffix (federated_kind kind key) ≡ sum_suffix kind
sum_kept = kept_by sum_suffix refl

-- ---- readings

stays_counter : (kind : Kind) (r : Reading) → stays kind r ≡ true → kind ≡ kinds.Counter → is_counter_value r.value ≡ true
unfolding stays
stays_counter kind r h e = subst (λ k. stays k r ≡ true) e h

pub not_empty : (most : ℕ) (name : List ℕ) → IsTargetName most name → name ≢ []
not_empty most name t e = absurd (let some = t.some in let none = ap length e in omega (arith, some, none))

module _ (s : Shown) (job : IsTargetName 256 s.job) (instance : IsTargetName 262 s.instance) (f : Format) (kind : Kind) (name unit : List ℕ) (metric : is_metric_name name ≡ true) (has : is_kind_in f kind ≡ true)
    (out : is_left_out kind name ≡ false) where
  abbrev pub new_kind : Kind
  new_kind = federated_kind kind (key_name f kind name)

  abbrev pub new_name : List ℕ
  new_name = federated_name kind (key_name f kind name)

  carried_samples : (P Q : Sample → Type 0) → ((a b : Sample) → HasTarget a b → P a → Q b) → (r : Reading) → AllByRecursion P (reading_samples kind name r) → AllByRecursion Q (reading_samples new_kind new_name (federated_reading s new_kind new_name r))
  unfolding federated_reading
  carried_samples P Q carry r h = reading_carried P Q carry kind new_kind name new_name r (federated_reading s new_kind new_name r) (target_more s.job s.instance r.key.labels job.short instance.short) refl refl
      (name_shorter f kind name metric has) (let same = ap length (keeps_name f kind name metric has) in let le = key_shorter f kind name in omega (arith, same, le))
      (let same = ap length (count_kept kind (key_name f kind name)) in omega (arith, same)) (let same = ap length (sum_kept kind (key_name f kind name)) in omega (arith, same)) h

  few_carried : (a b : Sample) → HasTarget a b → length a.labels ≤ label_limit Scraped → length b.labels ≤ label_limit Written
  few_carried a b h le = let count = h.count in let few : length a.labels ≤ 64 = le in let most : length b.labels ≤ 66 = omega (arith, count, few) in most

  pub formed_reading : (r : Reading) → IsFormedReading f Scraped kind name unit r → stays kind r ≡ true → IsFormedReading OpenMetrics Written new_kind new_name unit (federated_reading s new_kind new_name r)
  unfolding federated_reading
  formed_reading r formed stay = record {
    key = λ i. record { name = key_name OpenMetrics new_kind new_name; kind = new_kind; unit = (ap (λ k. k.unit) formed.key) i; labels = with_target s.job s.instance r.key.labels };
    label_set = target_set s.job s.instance r.key.labels (not_empty 256 s.job job) (not_empty 262 s.instance instance) formed.label_set formed.own_labels;
    labels = target_all is_text_label s.job s.instance r.key.labels job.text instance.text formed.labels;
    own_labels = written_own (with_target s.job s.instance r.key.labels);
    few_labels = All-from_recursion (λ (t : Sample). length t.labels ≤ label_limit Written) (reading_samples new_kind new_name (federated_reading s new_kind new_name r))
        (carried_samples (λ t. length t.labels ≤ label_limit Scraped) (λ t. length t.labels ≤ label_limit Written) few_carried r (recursion_from_All (λ (t : Sample). length t.labels ≤ label_limit Scraped) (reading_samples kind name r) formed.few_labels));
    value = formed_value f name r.key.labels (with_target s.job s.instance r.key.labels) (target_any (λ (l : Label). bytes_eq l.name (codes "le")) s.job s.instance r.key.labels)
        (target_any (λ (l : Label). bytes_eq l.name (codes "quantile")) s.job s.instance r.key.labels)
        (λ h. target_any (λ (l : Label). bytes_eq l.name name) s.job s.instance r.key.labels ∙ by (bytes_eq (codes "instance") name) (bytes_eq (codes "job") name) h)
        kind r.value out (stays_counter kind r stay) formed.value;
    created = formed_time f kind name r.created metric formed.created;
  }
    where
      by : (a b : Bool) {c : Bool} → c ≡ true → (a || (b || c)) ≡ true
      by true b h = refl
      by false true h = refl
      by false false h = h

  pub bare_reading : (r : Reading) → IsBareReading (federated_reading s new_kind new_name r)
  unfolding federated_reading
  bare_reading r = record { no_stamp = refl; no_exemplars = refl }

  pub short_reading : (n : ℕ) (r : Reading) → AllByRecursion (λ (t : Sample). length (sample_text t) ≤ n) (reading_samples kind name r)
      → AllByRecursion (λ (t : Sample). length (sample_text t) ≤ n + most_target_bytes) (reading_samples new_kind new_name (federated_reading s new_kind new_name r))
  short_reading n r h = carried_samples (λ t. length (sample_text t) ≤ n) (λ t. length (sample_text t) ≤ n + most_target_bytes) (longer_text n) r h
