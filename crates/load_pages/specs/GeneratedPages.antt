-- The pages that a number stands for.
-- OpenMetrics 1.0, "Text Format"; what stands on them is the bridge's own.
use Rattle.std.specs.Prelude.{ℕ, ◌+◌, ◌*◌, ◌%◌, Bool, not, ◌==◌, List, [], ◌++◌, codes, if◌then◌else◌}
use Rattle.std.specs.List.{flat_map, range_with_len}
use Rattle.std.specs.Fmt.{decimal}

-- what stands behind the name of a line: a whole number
unfoldable pub load_value : ℕ → List ℕ
load_value value = codes " " ++ decimal value ++ codes "\n"

-- a line: a name with its labels, and a whole number
unfoldable pub load_line : List ℕ → ℕ → List ℕ
load_line name value = name ++ load_value value

-- how many series the counter may have
abbrev pub most_series : ℕ
most_series = 50

-- the page has this series: one in ten is missing, another one in each round
abbrev pub has_series : (number target round series : ℕ) → Bool
has_series number target round series = not ((number + target + round + series) % 10 == 0)

-- the value of a series, which falls to 0 every few rounds
abbrev pub series_value : (round series : ℕ) → ℕ
series_value round series = (round % (5 + series % 7)) * (series + 1)

-- the name of a series
unfoldable pub series_name : ℕ → List ℕ
series_name series = codes "load_requests_total{series=\"" ++ decimal series ++ codes "\"}"

-- the line of a series
unfoldable pub series_line : (round series : ℕ) → List ℕ
series_line round series = series_name series ++ load_value (series_value round series)

-- the line of a series, where the page has it
unfoldable pub series_text : (number target round series : ℕ) → List ℕ
series_text number target round series = if has_series number target round series then series_line round series else []

-- the lines of the first series
abbrev pub series_texts : (number target round count : ℕ) → List ℕ
series_texts number target round count = flat_map (series_text number target round) (range_with_len 0 count)

-- the counter
unfoldable pub counter_text : (number target round : ℕ) → List ℕ
counter_text number target round = codes "# TYPE load_requests counter\n" ++ series_texts number target round most_series

-- the gauge
unfoldable pub gauge_text : (number target round : ℕ) → List ℕ
gauge_text number target round = codes "# TYPE load_level gauge\n" ++ load_line (codes "load_level") ((number + target * round) % 1000)

-- the buckets of the histogram, each of which grows with the round
unfoldable pub load_buckets : ℕ → List ℕ
load_buckets round = load_line (codes "load_seconds_bucket{le=\"0.1\"}") round
    ++ load_line (codes "load_seconds_bucket{le=\"1\"}") (2 * round)
    ++ load_line (codes "load_seconds_bucket{le=\"+Inf\"}") (3 * round)

-- its count and its sum
unfoldable pub totals_text : ℕ → List ℕ
totals_text round = load_line (codes "load_seconds_count") (3 * round) ++ load_line (codes "load_seconds_sum") (3 * round)

-- the histogram
unfoldable pub histogram_text : ℕ → List ℕ
histogram_text round = codes "# TYPE load_seconds histogram\n" ++ load_buckets round ++ totals_text round

-- the page of a target, which are numbered from 1, in a round, which are numbered from 0
unfoldable pub generated_text : (number target round : ℕ) → List ℕ
generated_text number target round = counter_text number target round ++ gauge_text number target round ++ histogram_text round ++ codes "# EOF\n"
