-- The suffixes of sample names as one type: each suffix by its bytes.
-- Prometheus text format 0.0.4, "Histograms and summaries"; OpenMetrics 1.0, "Suffixes".
use Rattle.std.specs.Prelude.{ℕ, List, [], ◌∷◌, codes, find, Option}
use Rattle.std.specs.Str.{bytes_eq}
use Rattle.page_model.specs.declared.suffix.Suffix.{Suffix}
use Rattle.page_model.specs.declared.suffix.Suffix.TheVariants.{Own, Bucket, Count, GaugeCount, Sum, GaugeSum, Total, Created, Info}

-- the bytes of a suffix
abbrev pub suffix_bytes : Suffix → List ℕ
suffix_bytes Own = []
suffix_bytes Bucket = codes "_bucket"
suffix_bytes Count = codes "_count"
suffix_bytes GaugeCount = codes "_gcount"
suffix_bytes Sum = codes "_sum"
suffix_bytes GaugeSum = codes "_gsum"
suffix_bytes Total = codes "_total"
suffix_bytes Created = codes "_created"
suffix_bytes Info = codes "_info"

-- all of them
abbrev pub all_suffixes : List Suffix
all_suffixes = Own ∷ Bucket ∷ Count ∷ Sum ∷ Total ∷ Created ∷ GaugeCount ∷ GaugeSum ∷ Info ∷ []

-- the suffix that these bytes are
unfoldable pub suffix_named : List ℕ → Option Suffix
suffix_named bytes = find (λ suffix. bytes_eq bytes (suffix_bytes suffix)) all_suffixes
