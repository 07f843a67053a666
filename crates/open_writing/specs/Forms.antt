-- The form of what a text says: what the families and readings of a page without a fault always are.
-- OpenMetrics 1.0, "Metric types", "Labels", "Numbers", "Unit"; Prometheus text format 0.0.4, "Histograms and summaries".
use Rattle.std.specs.Prelude.{◌≡◌, ℕ, ◌^◌, ◌≤◌, Bool, true, false, not, ◌&&◌, ◌||◌, IsTrue, ⊤, List, [], ◌∷◌, map, length, codes, Option, Some, None, nat_le, nat_lt, is_some, All}
use Rattle.std.specs.List.{list_any, list_all, IsDistinct}
use Rattle.std.specs.Str.{bytes_eq, is_utf8}
use Rattle.label_sets.specs.declared.kind.Kind.{Kind}
use Rattle.label_sets.specs.declared.kind.Kind.TheVariants.{Counter, Gauge, Histogram, GaugeHistogram, StateSet, Info, Summary, Unknown}
use Rattle.label_sets.specs.declared.label.Label.{Label}
use Rattle.label_sets.specs.declared.label_set.LabelSet.{LabelSet}
use Rattle.label_sets.specs.Names.{is_metric_name, is_metric_char, is_label_name}
use Rattle.label_sets.specs.Lists.{rest_while}
use Rattle.label_sets.specs.Labels.{label_sets_eq, has_name}
use Rattle.label_sets.specs.Sets.{IsLabelSet}
use Rattle.exact_decimal.specs.declared.number.Number.{Number}
use Rattle.exact_decimal.specs.declared.number.Number.TheVariants.{Finite}
use Rattle.exact_decimal.specs.Decimals.{IsNormal}
use Rattle.exact_decimal.specs.Numbers.{number_of}
use Rattle.exact_decimal.specs.Order.{less, same, is_finite, is_not_a_number}
use Rattle.page_model.specs.declared.format.Format.{Format}
use Rattle.page_model.specs.declared.format.Format.TheVariants.{Text}
use Rattle.page_model.specs.declared.format.Treatment.{Treatment}
use Rattle.page_model.specs.declared.format.Treatment.TheVariants as treatments
use Rattle.page_model.specs.declared.item.Sample.{Sample}
use Rattle.page_model.specs.declared.page.Bucket.{Bucket}
use Rattle.page_model.specs.declared.page.Quantile.{Quantile}
use Rattle.page_model.specs.declared.page.Value.{Value}
use Rattle.page_model.specs.declared.page.Value.TheVariants as values
use Rattle.page_model.specs.declared.page.Reading.{Reading}
use Rattle.page_model.specs.declared.page.Family.{Family}
use Rattle.page_model.specs.Written.{label_limit}
use Rattle.page_model.specs.Owners.{group_of}
use Rattle.page_model.specs.Rules.{is_open_metrics, is_histogram, is_summary, is_info_or_state_set, is_unit, is_foreign_unit, is_up, is_bound}
use Rattle.page_model.specs.Readings.{key_name}
use Rattle.open_writing.specs.Writing.{reading_samples}

-- ---- numbers and values

-- a number in its one form
abbrev pub IsFormedNumber : Number → Type 0
IsFormedNumber (Finite d) = IsNormal d
IsFormedNumber _ = ⊤

-- the same of a number that may be absent
abbrev pub IsFormedOption : Option Number → Type 0
IsFormedOption None = ⊤
IsFormedOption (Some n) = IsFormedNumber n

-- a number that a counter may have: neither NaN nor negative
abbrev pub is_count_of_events : Number → Bool
is_count_of_events n = not (is_not_a_number n || less n (number_of 0))

-- 0 or 1
abbrev pub is_state : Number → Bool
is_state n = same n (number_of 0) || same n (number_of 1)

-- a label name that this treatment gives to the target, so that no label of a page has it
unfoldable pub is_taken_name : Treatment → List ℕ → Bool
is_taken_name treatments.Scraped name = bytes_eq name (codes "job") || bytes_eq name (codes "instance")
is_taken_name treatments.Written name = false

-- a number that the one sample of a reading of this kind may have; a counter of the text format may have any
unfoldable pub is_plain_value : Format → Treatment → Kind → List ℕ → LabelSet → Number → Bool
is_plain_value f t Counter family labels n = not (is_open_metrics f) || is_count_of_events n
is_plain_value f t Gauge family labels n = true
is_plain_value f t Unknown family labels n = true
is_plain_value f t Info family labels n = same n (number_of 1)
is_plain_value f t StateSet family labels n = is_state n && (is_taken_name t family || has_name labels family)
is_plain_value f t _ family labels n = false

-- below 2 ^ 64
abbrev pub is_u64 : ℕ → Bool
is_u64 n = nat_lt n (2 ^ 64)

-- the second bucket has a greater bound and no smaller count
abbrev pub is_next_bucket : Bucket → Bucket → Bool
is_next_bucket b c = less b.le c.le && nat_le b.count c.count

-- bounds rise up to plus infinity, and counts don't fall
unfoldable pub rise_to_infinity : List Bucket → Bool
rise_to_infinity [] = false
rise_to_infinity (b ∷ []) = is_up b.le && is_u64 b.count
rise_to_infinity (b ∷ c ∷ bs) = is_bound b.le && is_u64 b.count && is_next_bucket b c && rise_to_infinity (c ∷ bs)

-- both quantiles have one place
abbrev pub is_one_place : Quantile → Quantile → Bool
is_one_place p q = same (Finite p.at) (Finite q.at)

-- a summary with something to say
abbrev pub is_some_summary : List Quantile → Option ℕ → Option Number → Bool
is_some_summary [] count sum = is_some count || is_some sum
is_some_summary (q ∷ qs) count sum = true

-- the count, where there is one, is below 2 ^ 64
abbrev pub is_u64_option : Option ℕ → Bool
is_u64_option None = true
is_u64_option (Some n) = is_u64 n

-- a value that a reading of this kind may have
abbrev pub IsFormedValue : Format → Treatment → Kind → List ℕ → LabelSet → Value → Type 0
IsFormedValue f t kind family labels (values.Plain n) = IsFormedNumber n × IsTrue (is_plain_value f t kind family labels n)
IsFormedValue f t kind family labels (values.Buckets buckets sum) = IsTrue (is_histogram kind) × IsTrue (rise_to_infinity buckets)
    × All (λ (b : Bucket). IsFormedNumber b.le) buckets × IsFormedOption sum × IsTrue (not (has_name labels (codes "le")))
IsFormedValue f t kind family labels (values.Quantiles quantiles count sum) = IsTrue (is_summary kind) × IsDistinct is_one_place quantiles
    × All (λ (q : Quantile). IsNormal q.at × IsFormedNumber q.value) quantiles × IsFormedOption sum × IsTrue (is_u64_option count)
    × IsTrue (is_some_summary quantiles count sum) × IsTrue (not (has_name labels (codes "quantile")))

-- the kinds that have created times
abbrev pub has_created_time : Format → Kind → Bool
has_created_time f Counter = is_open_metrics f
has_created_time f Histogram = is_open_metrics f
has_created_time f Summary = is_open_metrics f
has_created_time f _ = false

-- a created time that a reading of this kind may have
abbrev pub IsFormedTime : Format → Kind → Option Number → Type 0
IsFormedTime f kind None = ⊤
IsFormedTime f kind (Some n) = IsTrue (has_created_time f kind) × IsTrue (is_finite n) × IsFormedNumber n

-- ---- readings and families

-- a label whose name is one and whose value is text
abbrev pub is_text_label : Label → Bool
is_text_label l = is_label_name l.name && is_utf8 l.value

-- a label that is the page's own: no treatment gives its name to the target
abbrev pub is_own_label : Treatment → Label → Bool
is_own_label t l = not (is_taken_name t l.name)

-- a reading of a family with this name, kind and unit
pub record IsFormedReading (f : Format) (t : Treatment) (kind : Kind) (family unit : List ℕ) (r : Reading) : Type 0 where
  pub key : r.key ≡ record { name = key_name f kind family; kind = kind; unit = unit; labels = r.key.labels }
  pub label_set : IsLabelSet r.key.labels
  pub labels : IsTrue (list_all is_text_label r.key.labels)
  pub own_labels : IsTrue (list_all (is_own_label t) r.key.labels)
  -- each of its sample lines has no more labels than the treatment allows
  pub few_labels : All (λ (s : Sample). length s.labels ≤ label_limit t) (reading_samples kind family r)
  pub value : IsFormedValue f t kind family r.key.labels r.value
  pub created : IsFormedTime f kind r.created

-- the unit of a family: none, or one that its kind allows and that its name ends with
abbrev pub is_unit_of : Kind → List ℕ → List ℕ → Bool
is_unit_of kind family unit = list_all is_metric_char unit && not (is_foreign_unit family unit) && not (is_info_or_state_set kind && is_unit unit)

-- a kind that this format has
abbrev pub is_kind_in : Format → Kind → Bool
is_kind_in Text GaugeHistogram = false
is_kind_in Text StateSet = false
is_kind_in Text Info = false
is_kind_in f _ = true

-- a format that has units, or no unit
abbrev pub may_have_unit : Format → List ℕ → Bool
may_have_unit f unit = is_open_metrics f || not (is_unit unit)

-- equal ones stand together
unfoldable pub stand_together : List LabelSet → Bool
stand_together [] = true
stand_together (g ∷ gs) = not (list_any (label_sets_eq g) (rest_while (label_sets_eq g) gs)) && stand_together gs

-- the label sets of readings
abbrev pub label_sets_of : List Reading → List LabelSet
label_sets_of rs = map (λ (r : Reading). r.key.labels) rs

-- a family of a page of this format
pub record IsFormedFamily (f : Format) (t : Treatment) (fam : Family) : Type 0 where
  pub name : IsTrue (is_metric_name fam.name)
  pub kind : IsTrue (is_kind_in f fam.kind)
  pub help : IsTrue (is_utf8 fam.help)
  pub unit : IsTrue (is_unit_of fam.kind fam.name fam.unit)
  pub unit_in_format : IsTrue (may_have_unit f fam.unit)
  pub readings : All (IsFormedReading f t fam.kind fam.name fam.unit) fam.readings
  -- no two readings have the same labels
  pub distinct : IsDistinct label_sets_eq (label_sets_of fam.readings)
  -- the readings of one group stand together, as the states of a state set
  pub together : IsTrue (stand_together (map (group_of fam.kind fam.name) (label_sets_of fam.readings)))

-- the families of a page of this format
pub record AreFormed (f : Format) (t : Treatment) (families : List Family) : Type 0 where
  pub each : All (IsFormedFamily f t) families
  pub names : IsDistinct bytes_eq (map (λ (fam : Family). fam.name) families)
