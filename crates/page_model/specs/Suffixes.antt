-- The sample names of each kind of family: its name and one of these suffixes.
-- Prometheus text format 0.0.4, "Histograms and summaries"; OpenMetrics 1.0, "Metric types" and "Suffixes".
use Rattle.std.specs.Prelude.{ℕ, Bool, List, [], ◌∷◌, ◌++◌, length, drop, codes}
use Rattle.std.specs.List.{list_any}
use Rattle.std.specs.Str.{bytes_eq}
use Rattle.label_sets.specs.declared.kind.Kind.{Kind}
use Rattle.label_sets.specs.declared.kind.Kind.TheVariants.{Counter, Gauge, Histogram, GaugeHistogram, StateSet, Info, Summary, Unknown}
use Rattle.page_model.specs.declared.format.Format.{Format}
use Rattle.page_model.specs.declared.format.Format.TheVariants.{Text, OpenMetrics}

-- the suffixes that a kind allows; the empty one stands for the family's own name
abbrev pub suffixes : Format → Kind → List (List ℕ)
suffixes f Gauge = [] ∷ []
suffixes f Unknown = [] ∷ []
suffixes f StateSet = [] ∷ []
suffixes f Info = codes "_info" ∷ []
suffixes f GaugeHistogram = codes "_bucket" ∷ codes "_gcount" ∷ codes "_gsum" ∷ []
suffixes Text Counter = [] ∷ []
suffixes Text Histogram = codes "_bucket" ∷ codes "_sum" ∷ codes "_count" ∷ []
suffixes Text Summary = [] ∷ codes "_sum" ∷ codes "_count" ∷ []
suffixes OpenMetrics Counter = codes "_total" ∷ codes "_created" ∷ []
suffixes OpenMetrics Histogram = codes "_bucket" ∷ codes "_count" ∷ codes "_sum" ∷ codes "_created" ∷ []
suffixes OpenMetrics Summary = [] ∷ codes "_count" ∷ codes "_sum" ∷ codes "_created" ∷ []

-- a sample's name is the family's name and a suffix that its kind allows
abbrev pub is_sample_name : Format → Kind → List ℕ → List ℕ → Bool
is_sample_name f kind family name = list_any (λ suffix. bytes_eq name (family ++ suffix)) (suffixes f kind)

-- what stands behind the family's name in a sample's name
abbrev pub suffix_of : List ℕ → List ℕ → List ℕ
suffix_of family name = drop (length family) name
