-- The parts of a page in the order in which they are written.
-- OpenMetrics 1.0, "ABNF" (exposition, sample, labels); the bridge's own where it splits a text.
use Rattle.std.specs.Prelude.{◌≡◌, ℕ, ◌+◌, ◌*◌, Bool, ◌||◌, List, ◌∷◌, ◌++◌, length, codes, ◌==◌, Option, Some, None}
use Rattle.std.specs.List.{flat_map, sum_by}
use Rattle.exact_decimal.specs.declared.number.Number.{Number}
use Rattle.exact_decimal.specs.Literals.{number_text}
use Rattle.label_sets.specs.declared.kind.Kind.{Kind}
use Rattle.label_sets.specs.declared.label.Label.{Label}
use Rattle.label_sets.specs.declared.label_set.LabelSet.{LabelSet}
use Rattle.label_sets.specs.Labels.{label_inserted}
use Rattle.page_model.specs.declared.item.Item.{Item}
use Rattle.page_model.specs.declared.item.Item.TheVariants as items
use Rattle.page_model.specs.declared.item.Sample.{Sample}
use Rattle.page_model.specs.declared.page.Bucket.{Bucket}
use Rattle.page_model.specs.declared.page.Family.{Family}
use Rattle.page_model.specs.declared.page.Quantile.{Quantile}
use Rattle.page_model.specs.declared.page.Reading.{Reading}
use Rattle.page_model.specs.declared.page.Value.{Value}
use Rattle.page_model.specs.declared.page.Value.TheVariants as values
use Rattle.page_model.specs.SuffixNames.{suffix_bytes}
use Rattle.open_writing.specs.declared.labels.Gap.{Gap}
use Rattle.open_writing.specs.declared.samples.SampleName.{SampleName}
use Rattle.open_writing.specs.Writing.{bucket_sample, escaped, family_items, item_unless_empty, labels_text, line_text, quantile_sample, reading_samples, sample_text, value_samples}

-- a byte that stands in a quoted text by an escape
abbrev pub is_marked : ℕ → Bool
is_marked c = c == 92 || c == 34 || c == 10

-- a label of this name and value
abbrev pub label_with : List ℕ → List ℕ → Label
label_with name value = record { name = name; value = value }

-- a label without its last quote
unfoldable pub unclosed_label : Label → List ℕ
unclosed_label l = l.name ++ codes "=\"" ++ escaped l.value

-- a label with a comma behind it, as each in front of another has it
unfoldable pub label_then_comma : Label → List ℕ
label_then_comma l = unclosed_label l ++ codes "\","

-- the last quote of a label, a comma, and a label without its own, as each behind another has it
unfoldable pub next_unclosed : Label → List ℕ
next_unclosed l = codes "\"," ++ unclosed_label l

-- labels with a space behind them, as they stand in a sample
unfoldable pub labels_then_space : List Label → List ℕ
labels_then_space labels = labels_text labels ++ codes " "

-- between these labels a label of this name has its place among all of them
abbrev pub IsLabelPlace : List Label → List ℕ → List Label → List Label → Type 0
IsLabelPlace labels name front back = (value : List ℕ) → label_inserted (label_with name value) labels ≡ front ++ label_with name value ∷ back

-- the labels around a gap, with one in it whose value is a number
abbrev pub filled_gap : Gap → Number → List Label
filled_gap gap n = gap.front.now ++ label_with gap.name.now (number_text n) ∷ gap.back.now

-- the name of a family's samples: the family's, and a suffix
abbrev pub sample_name : SampleName → List ℕ
sample_name name = name.family.now ++ suffix_bytes name.suffix

-- a sample as a line
unfoldable pub sample_line : Sample → List ℕ
sample_line s = sample_text s ++ codes "\n"

-- samples as lines
unfoldable pub samples_text : List Sample → List ℕ
samples_text samples = flat_map sample_line samples

-- the samples of a value as lines
abbrev pub value_text : Kind → List ℕ → LabelSet → Value → List ℕ
value_text kind family labels value = samples_text (value_samples kind family labels value)

-- buckets as lines
unfoldable pub buckets_text : List ℕ → LabelSet → List Bucket → List ℕ
buckets_text family labels buckets = flat_map (λ b. sample_line (bucket_sample family labels b)) buckets

-- quantiles as lines
unfoldable pub quantiles_text : List ℕ → LabelSet → List Quantile → List ℕ
quantiles_text family labels quantiles = flat_map (λ q. sample_line (quantile_sample family labels q)) quantiles

-- the line of an item with a text, where the text isn't empty
abbrev pub line_unless_empty : (List ℕ → Item) → List ℕ → List ℕ
line_unless_empty make text = flat_map line_text (item_unless_empty make text)

-- a family's TYPE line
unfoldable pub type_text : List ℕ → Kind → List ℕ
type_text name kind = line_text (items.KindOf name kind)

-- its UNIT line, unless the unit is empty
unfoldable pub unit_text : List ℕ → List ℕ → List ℕ
unit_text name unit = line_unless_empty (items.Unit name) unit

-- its HELP line, unless the text is empty
unfoldable pub help_line_text : List ℕ → List ℕ → List ℕ
help_line_text name text = line_unless_empty (items.Help name) text

-- the samples of readings as lines
unfoldable pub readings_text : Kind → List ℕ → List Reading → List ℕ
readings_text kind family readings = flat_map (λ r. samples_text (reading_samples kind family r)) readings

-- a family
unfoldable pub family_text : Family → List ℕ
family_text f = flat_map line_text (family_items f)

-- how many values an option has
abbrev pub option_count : {A : Type 0} → Option A → ℕ
option_count None = 0
option_count (Some x) = 1

-- how many sample lines a value has
abbrev pub value_lines : Value → ℕ
value_lines (values.Plain n) = 1
value_lines (values.Buckets buckets sum) = length buckets + 2 * option_count sum
value_lines (values.Quantiles quantiles count sum) = length quantiles + (option_count count + option_count sum)

-- how many a reading has
abbrev pub reading_lines : Reading → ℕ
reading_lines r = value_lines r.value + option_count r.created

-- how many a family has
abbrev pub family_lines : Family → ℕ
family_lines f = sum_by reading_lines f.readings
