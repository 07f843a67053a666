-- A page as text: the items of its families, each on a line of its own.
-- OpenMetrics 1.0, "ABNF" (exposition, metric-descriptor, sample, labels, escaped-string), "Metric types".
-- The order of a family's descriptors and of a metric's samples, and that a histogram's count is written beside its sum alone, are the bridge's own.
use Rattle.std.specs.Prelude.{ℕ, ◌||◌, List, [], ◌∷◌, ◌++◌, map, length, codes, Option, Some, None, option_map, ◌==◌, if◌then◌else◌}
use Rattle.std.specs.List.{flat_map, last_or}
use Rattle.std.specs.Option.{option_map_or, option_to_list}
use Rattle.label_sets.specs.declared.kind.Kind.{Kind}
use Rattle.label_sets.specs.declared.kind.Kind.TheVariants.{GaugeHistogram}
use Rattle.label_sets.specs.declared.label.Label.{Label}
use Rattle.label_sets.specs.declared.label_set.LabelSet.{LabelSet}
use Rattle.label_sets.specs.Labels.{label_inserted}
use Rattle.exact_decimal.specs.declared.number.Number.{Number}
use Rattle.exact_decimal.specs.declared.number.Number.TheVariants.{Finite}
use Rattle.exact_decimal.specs.Numbers.{number_of}
use Rattle.exact_decimal.specs.Literals.{number_text}
use Rattle.page_model.specs.declared.format.Format.TheVariants.{OpenMetrics}
use Rattle.page_model.specs.declared.item.Item.{Item}
use Rattle.page_model.specs.declared.item.Item.TheVariants as items
use Rattle.page_model.specs.declared.item.Sample.{Sample}
use Rattle.page_model.specs.declared.page.Bucket.{Bucket}
use Rattle.page_model.specs.declared.page.Quantile.{Quantile}
use Rattle.page_model.specs.declared.page.Value.{Value}
use Rattle.page_model.specs.declared.page.Value.TheVariants as values
use Rattle.page_model.specs.declared.page.Reading.{Reading}
use Rattle.page_model.specs.declared.page.Family.{Family}
use Rattle.page_model.specs.declared.page.Page.{Page}
use Rattle.page_model.specs.OpenItems.{kind_word}
use Rattle.page_model.specs.Rules.{is_unit}
use Rattle.page_model.specs.Readings.{key_name}

-- ---- the samples of a reading

-- a sample without timestamp and exemplar
abbrev pub bare_sample : List ℕ → LabelSet → Number → Sample
bare_sample name labels value = record { name = name; labels = labels; value = value; stamp = None; exemplar = None }

-- the sample of a number, where there is one
abbrev pub number_sample : List ℕ → LabelSet → Option Number → List Sample
number_sample name labels value = option_to_list (option_map (bare_sample name labels) value)

-- labels with one more, whose value is a number
abbrev pub with_number_label : List ℕ → Number → LabelSet → LabelSet
with_number_label name n labels = label_inserted (record { name = name; value = number_text n }) labels

-- a bucket with its upper bound
abbrev pub bucket_sample : List ℕ → LabelSet → Bucket → Sample
bucket_sample family labels b = bare_sample (family ++ codes "_bucket") (with_number_label (codes "le") b.le labels) (number_of b.count)

-- a quantile with its place
abbrev pub quantile_sample : List ℕ → LabelSet → Quantile → Sample
quantile_sample family labels q = bare_sample family (with_number_label (codes "quantile") (Finite q.at) labels) q.value

-- the suffix of a histogram's count
abbrev pub count_suffix : Kind → List ℕ
count_suffix GaugeHistogram = codes "_gcount"
count_suffix _ = codes "_count"

-- the suffix of a histogram's sum
abbrev pub sum_suffix : Kind → List ℕ
sum_suffix GaugeHistogram = codes "_gsum"
sum_suffix _ = codes "_sum"

-- how many observations buckets have: the count of the last
abbrev pub observations : List Bucket → ℕ
observations buckets = option_map_or (λ (b : Bucket). b.count) (last_or None buckets) 0

-- a histogram's count and sum, where it has a sum
abbrev pub total_samples : Kind → List ℕ → LabelSet → List Bucket → Option Number → List Sample
total_samples kind family labels buckets None = []
total_samples kind family labels buckets (Some sum) =
    bare_sample (family ++ count_suffix kind) labels (number_of (observations buckets)) ∷ bare_sample (family ++ sum_suffix kind) labels sum ∷ []

-- the samples of a value, under the labels of its reading
unfoldable pub value_samples : Kind → List ℕ → LabelSet → Value → List Sample
value_samples kind family labels (values.Plain n) = bare_sample (key_name OpenMetrics kind family) labels n ∷ []
value_samples kind family labels (values.Buckets buckets sum) = map (bucket_sample family labels) buckets ++ total_samples kind family labels buckets sum
value_samples kind family labels (values.Quantiles quantiles count sum) = map (quantile_sample family labels) quantiles
    ++ (number_sample (family ++ codes "_count") labels (option_map number_of count) ++ number_sample (family ++ codes "_sum") labels sum)

-- the samples of a reading: its value, then the time of its creation, where there is one
unfoldable pub reading_samples : Kind → List ℕ → Reading → List Sample
reading_samples kind family r = value_samples kind family r.key.labels r.value ++ number_sample (family ++ codes "_created") r.key.labels r.created

-- ---- the items of a page

-- the samples of a family
unfoldable pub family_samples : Family → List Sample
family_samples f = flat_map (reading_samples f.kind f.name) f.readings

-- a text that isn't empty, as an item
abbrev pub item_unless_empty : (List ℕ → Item) → List ℕ → List Item
item_unless_empty make text = if is_unit text then make text ∷ [] else []

-- the items of a family: TYPE, then UNIT and HELP where they say something, then its samples
unfoldable pub family_items : Family → List Item
family_items f = items.KindOf f.name f.kind ∷ (item_unless_empty (items.Unit f.name) f.unit ++ (item_unless_empty (items.Help f.name) f.help
    ++ map items.Sample (family_samples f)))

-- the items of families, with `# EOF` behind them
unfoldable pub page_items : List Family → List Item
page_items families = flat_map family_items families ++ items.Eof ∷ []

-- how many sample lines families have
unfoldable pub sample_lines : List Family → ℕ
sample_lines families = length (flat_map family_samples families)

-- the page of families, with as many samples as they have sample lines
abbrev pub page_with : List Family → Page
page_with families = record { families = families; samples = sample_lines families }

-- ---- the text of an item

-- a character of a quoted text: a backslash, a quote and a line feed are escaped
abbrev pub escaped_char : ℕ → List ℕ
escaped_char c = if c == 92 || c == 34 then 92 ∷ c ∷ [] else if c == 10 then codes "\\n" else c ∷ []

-- a text with its escapes
unfoldable pub escaped : List ℕ → List ℕ
escaped text = flat_map escaped_char text

-- a label: its name and its value in quotes
unfoldable pub open_label_text : Label → List ℕ
open_label_text l = l.name ++ codes "=\"" ++ escaped l.value ++ codes "\""

-- the labels behind the first, each behind a comma
unfoldable pub more_labels_text : List Label → List ℕ
more_labels_text ls = flat_map (λ l. 44 ∷ open_label_text l) ls

-- labels in braces, and nothing where there are none
unfoldable pub labels_text : List Label → List ℕ
labels_text [] = []
labels_text (l ∷ ls) = codes "{" ++ (open_label_text l ++ more_labels_text ls) ++ codes "}"

-- a sample: its name, its labels, a space and its number
unfoldable pub sample_text : Sample → List ℕ
sample_text s = s.name ++ labels_text s.labels ++ codes " " ++ number_text s.value

-- an item without its line feed; a page that is written has no blank lines and no comments
unfoldable pub item_text : Item → List ℕ
item_text (items.KindOf name kind) = codes "# TYPE " ++ name ++ codes " " ++ kind_word kind
item_text (items.Unit name unit) = codes "# UNIT " ++ name ++ codes " " ++ unit
item_text (items.Help name text) = codes "# HELP " ++ name ++ codes " " ++ escaped text
item_text (items.Sample s) = sample_text s
item_text items.Eof = codes "# EOF"
item_text items.Blank = []
item_text items.Comment = codes "#"

-- an item as a line
abbrev pub line_text : Item → List ℕ
line_text item = item_text item ++ 10 ∷ []

-- the text of a page
unfoldable pub written_text : Page → List ℕ
written_text page = flat_map line_text (page_items page.families)
