-- The times and the exemplars that pages give their readings, by computation.
use Rattle.std.proofs.Common.{◌≡◌, ℕ, false, List, [], ◌∷◌, map, Option, Some, None, codes, refl}
use Rattle.std.specs.Prelude.{option_map}
use Rattle.std.specs.List.{flat_map}
use Rattle.std.specs.Fmt.{digits}
use Rattle.exact_decimal.specs.declared.number.Number.{Number}
use Rattle.exact_decimal.specs.declared.number.Number.TheVariants.{Finite}
use Rattle.exact_decimal.specs.Tokens.{unsigned, has_minus, mantissa, whole_part, fraction_part, has_exponent, exponent_part, is_digits, is_real, is_infinity, is_nan_token, is_number_token, multiplies_by, divides_by, without_leading_zeros, trailing_zeros, without_trailing_zeros, significant_digits, one_form, is_within, decimal_of, is_in_limits}
use Rattle.exact_decimal.specs.Numbers.{number_read, number_of}
use Rattle.exact_decimal.specs.Order.{whole, nanos}
use Rattle.page_lines.specs.Lines.{lines_of}
use Rattle.page_model.specs.declared.format.Treatment.TheVariants.{Scraped}
use Rattle.page_model.specs.declared.item.Exemplar.{Exemplar}
use Rattle.page_model.specs.declared.page.Family.{Family}
use Rattle.page_model.specs.declared.page.Reading.{Reading}
use Rattle.page_model.specs.PageValues.{PageValue}
use Rattle.page_model.specs.Written.{Setting, text_setting, open_setting}
use Rattle.page_model.specs.TextItems.{trimmed, is_integer_token}
use Rattle.page_model.specs.TextReading as text
use Rattle.page_model.specs.OpenReading as open_text
use Rattle.page_model.specs.Owners.{kind_of, sample_owner, owned_lines, samples_of}
use Rattle.page_model.specs.Readings.{value_with, buckets_of, quantiles_of, sum_of, value_of, stamp_of, exemplars_of, reading_of, readings_of, family_of, families_of, page_of}
use Rattle.page_model.specs.PageReading.{text_page}

-- a page, and the times of its readings
record Timed : Type 0 where
  page : List ℕ
  times : List (Option ℕ)

abbrev timed : List ℕ → List (Option ℕ) → Timed
timed page times = record { page = page; times = times }

-- the times of a page's readings, in their order
abbrev times_in : PageValue → List (Option ℕ)
times_in page = flat_map (λ (f : Family). map (λ (r : Reading). r.stamp) f.readings) page.families

-- under this setting the readings of each page have its times
abbrev HaveTimes : Setting → List Timed → Type 0
HaveTimes st cases = map (λ (c : Timed). times_in (text_page st c.page)) cases ≡ map (λ (c : Timed). c.times) cases

-- pages of the text format, whose times are in milliseconds
abbrev text_pages : List Timed
text_pages =
    -- no time
    timed (codes "x 1\n") (None ∷ []) ∷
    -- a time
    timed (codes "x 1 1500\n") (Some 1500000000 ∷ []) ∷
    -- the beginning, also with a sign
    timed (codes "x 1 0\ny 1 -0\n") (Some 0 ∷ Some 0 ∷ []) ∷
    -- before the beginning
    timed (codes "x 1 -1\n") (None ∷ []) ∷
    -- the latest that is no later than 2 ^ 62 nanoseconds, and the next one
    timed (codes "x 1 4611686018427\ny 1 4611686018428\n") (Some 4611686018427000000 ∷ None ∷ []) ∷
    -- one that 64 bits hold in milliseconds alone
    timed (codes "x 1 9223372036854775807\n") (None ∷ []) ∷
    -- a counter of the text format
    timed (codes "# TYPE c_total counter\nc_total 1 7\n") (Some 7000000 ∷ []) ∷
    -- a histogram's first bucket
    timed (codes "# TYPE h histogram\nh_bucket{le=\"1\"} 1 5\nh_bucket{le=\"+Inf\"} 1 6\nh_sum 1 7\nh_count 1 8\n") (Some 5000000 ∷ []) ∷
    -- its sum, where that stands first
    timed (codes "# TYPE h histogram\nh_sum 1 9\nh_bucket{le=\"1\"} 1 5\nh_bucket{le=\"+Inf\"} 1 6\nh_count 1 8\n") (Some 9000000 ∷ []) ∷
    -- a first sample without a time decides too
    timed (codes "# TYPE h histogram\nh_bucket{le=\"1\"} 1\nh_bucket{le=\"+Inf\"} 1 6\nh_sum 1 7\nh_count 1 8\n") (None ∷ []) ∷
    -- and one with a time before the beginning
    timed (codes "# TYPE h histogram\nh_bucket{le=\"1\"} 1 -5\nh_bucket{le=\"+Inf\"} 1 6\nh_count 1 8\n") (None ∷ []) ∷
    -- a summary's first quantile, and later times of others
    timed (codes "# TYPE s summary\ns{quantile=\"0.5\"} 1 4\ns{quantile=\"0.9\"} 2 3\ns_sum 0 2\ns_count 0 1\n") (Some 4000000 ∷ []) ∷
    -- a count that stands first
    timed (codes "# TYPE s summary\ns_count 0 1\ns_sum 0 2\ns{quantile=\"0.5\"} 1 4\n") (Some 1000000 ∷ []) ∷
    -- two groups whose lines stand between one another
    timed (codes "# TYPE h histogram\nh_bucket{a=\"1\",le=\"+Inf\"} 1 5\nh_bucket{a=\"2\",le=\"+Inf\"} 1 6\nh_count{a=\"2\"} 1 7\nh_count{a=\"1\"} 1 8\n")
    (Some 5000000 ∷ Some 6000000 ∷ []) ∷
    []

-- pages of OpenMetrics, whose times are in seconds
abbrev open_pages : List Timed
open_pages =
    -- no time, and one
    timed (codes "x 1\ny 1 1.5\n# EOF\n") (None ∷ Some 1500000000 ∷ []) ∷
    -- less than a nanosecond is left out
    timed (codes "x 1 1.0000000019\ny 1 1e-10\n# EOF\n") (Some 1000000001 ∷ Some 0 ∷ []) ∷
    -- before the beginning
    timed (codes "x 1 -0.5\n# EOF\n") (None ∷ []) ∷
    -- 2 ^ 62 nanoseconds, and one more
    timed (codes "x 1 4611686018.427387904\ny 1 4611686018.427387905\n# EOF\n") (Some 4611686018427387904 ∷ None ∷ []) ∷
    -- one that 64 bits don't hold
    timed (codes "x 1 1e30\n# EOF\n") (None ∷ []) ∷
    -- a counter's total, behind its created time
    timed (codes "# TYPE c counter\nc_created 3 7\nc_total 5 8\n# EOF\n") (Some 8000000000 ∷ []) ∷
    -- and before it
    timed (codes "# TYPE c counter\nc_total 5 8\nc_created 3 7\n# EOF\n") (Some 8000000000 ∷ []) ∷
    -- a total without a time, beside a created time with one
    timed (codes "# TYPE c counter\nc_created 3 7\nc_total 5\n# EOF\n") (None ∷ []) ∷
    -- a histogram's first sample that is more than a created time
    timed (codes "# TYPE h histogram\nh_created 1 4\nh_bucket{le=\"+Inf\"} 1 6\nh_sum 1 5\nh_count 1 7\n# EOF\n") (Some 6000000000 ∷ []) ∷
    -- a gauge histogram's
    timed (codes "# TYPE g gaugehistogram\ng_bucket{le=\"1\"} 1 3\ng_bucket{le=\"+Inf\"} 1 2\ng_gcount 1 1\ng_gsum 4 1\n# EOF\n") (Some 3000000000 ∷ []) ∷
    -- two groups
    timed (codes "# TYPE s summary\ns_created{a=\"1\"} 2 1\ns_count{a=\"1\"} 0 4\ns_sum{a=\"2\"} 2 3\ns_count{a=\"2\"} 0 5\n# EOF\n") (Some 4000000000 ∷ Some 3000000000 ∷ []) ∷
    -- a group with a created time alone makes no reading
    timed (codes "# TYPE s summary\ns_created 2 1\n# EOF\n") [] ∷
    -- each state has its own
    timed (codes "# TYPE s stateset\ns{s=\"a\"} 1 1\ns{s=\"b\"} 0 2\n# EOF\n") (Some 1000000000 ∷ Some 2000000000 ∷ []) ∷
    -- an info
    timed (codes "# TYPE t info\nt_info{v=\"1\"} 1 3\n# EOF\n") (Some 3000000000 ∷ []) ∷
    []

text_times : HaveTimes (text_setting Scraped 200000) text_pages
unfolding lines_of text_page digits number_read number_of whole nanos unsigned has_minus mantissa whole_part fraction_part has_exponent exponent_part is_digits is_real is_infinity is_nan_token is_number_token multiplies_by divides_by without_leading_zeros trailing_zeros without_trailing_zeros significant_digits one_form is_within decimal_of is_in_limits kind_of sample_owner owned_lines samples_of value_with buckets_of quantiles_of sum_of value_of stamp_of exemplars_of reading_of readings_of family_of families_of page_of trimmed is_integer_token text.label_at text.labels_at text.middle_from text.middle_at text.stamp_of text.sample_of text.kind_named text.named_at text.marked_of text.trimmed_of text.text_line_of
text_times = refl

open_times : HaveTimes (open_setting Scraped 200000) open_pages
unfolding lines_of text_page digits number_read number_of whole nanos unsigned has_minus mantissa whole_part fraction_part has_exponent exponent_part is_digits is_real is_infinity is_nan_token is_number_token multiplies_by divides_by without_leading_zeros trailing_zeros without_trailing_zeros significant_digits one_form is_within decimal_of is_in_limits kind_of sample_owner owned_lines samples_of value_with buckets_of quantiles_of sum_of value_of stamp_of exemplars_of reading_of readings_of family_of families_of page_of open_text.label_at open_text.more_labels_at open_text.list_at open_text.optional_list_at open_text.value_at open_text.stamp_at open_text.exemplar_of open_text.sample_of open_text.kind_named open_text.named_at open_text.descriptor_of open_text.open_line_of
open_times = refl

-- ---- exemplars

-- a page, and the exemplars of its readings
record WithExemplars : Type 0 where
  page : List ℕ
  exemplars : List (List Exemplar)

abbrev with_exemplars : List ℕ → List (List Exemplar) → WithExemplars
with_exemplars page exemplars = record { page = page; exemplars = exemplars }

-- the exemplars of a page's readings, in their order
abbrev exemplars_in : PageValue → List (List Exemplar)
exemplars_in page = flat_map (λ (f : Family). map (λ (r : Reading). r.exemplars) f.readings) page.families

-- a whole number
abbrev whole_number : ℕ → Number
whole_number n = Finite (record { negative = false; digits = n; up = 0; down = 0 })

-- an exemplar with this label
abbrev exemplar : List ℕ → List ℕ → ℕ → Option ℕ → Exemplar
exemplar name value n seconds = record { labels = record { name = name; value = value } ∷ []; value = whole_number n; stamp = option_map whole_number seconds }

abbrev exemplar_pages : List WithExemplars
exemplar_pages =
    -- that of a total, with its time and without
    with_exemplars (codes "# TYPE c counter\nc_total{a=\"1\"} 5 # {q=\"z\"} 1 2\nc_total{a=\"2\"} 5 # {q=\"y\"} 3\n# EOF\n") ((exemplar (codes "q") (codes "z") 1 (Some 2) ∷ []) ∷ (exemplar (codes "q") (codes "y") 3 None ∷ []) ∷ []) ∷
    -- a total without one, beside a created time
    with_exemplars (codes "# TYPE c counter\nc_total 5\nc_created 3\n# EOF\n") ([] ∷ []) ∷
    -- those of buckets in their order, of which one has none
    with_exemplars (codes "# TYPE h histogram\nh_bucket{le=\"1\"} 1 # {q=\"a\"} 1\nh_bucket{le=\"2\"} 1\nh_bucket{le=\"+Inf\"} 2 # {q=\"b\"} 2 7\nh_count 2\nh_sum 1\n# EOF\n")
    ((exemplar (codes "q") (codes "a") 1 None ∷ exemplar (codes "q") (codes "b") 2 (Some 7) ∷ []) ∷ []) ∷
    -- of two groups
    with_exemplars (codes "# TYPE g gaugehistogram\ng_bucket{a=\"1\",le=\"+Inf\"} 3 # {q=\"a\"} 1\ng_bucket{a=\"2\",le=\"1\"} 3 # {q=\"b\"} 2\ng_bucket{a=\"2\",le=\"+Inf\"} 3 # {q=\"c\"} 3\n# EOF\n")
    ((exemplar (codes "q") (codes "a") 1 None ∷ []) ∷ (exemplar (codes "q") (codes "b") 2 None ∷ exemplar (codes "q") (codes "c") 3 None ∷ []) ∷ []) ∷
    -- its labels are not renamed
    with_exemplars (codes "# TYPE c counter\nc_total{job=\"x\"} 5 # {job=\"y\"} 1\n# EOF\n") ((exemplar (codes "job") (codes "y") 1 None ∷ []) ∷ []) ∷
    -- a reading of one sample has none
    with_exemplars (codes "x 1\n# EOF\n") ([] ∷ []) ∷
    []

exemplars_read : map (λ (c : WithExemplars). exemplars_in (text_page (open_setting Scraped 200000) c.page)) exemplar_pages ≡ map (λ (c : WithExemplars). c.exemplars) exemplar_pages
unfolding lines_of text_page digits number_read number_of whole nanos unsigned has_minus mantissa whole_part fraction_part has_exponent exponent_part is_digits is_real is_infinity is_nan_token is_number_token multiplies_by divides_by without_leading_zeros trailing_zeros without_trailing_zeros significant_digits one_form is_within decimal_of is_in_limits kind_of sample_owner owned_lines samples_of value_with buckets_of quantiles_of sum_of value_of stamp_of exemplars_of reading_of readings_of family_of families_of page_of open_text.label_at open_text.more_labels_at open_text.list_at open_text.optional_list_at open_text.value_at open_text.stamp_at open_text.exemplar_of open_text.sample_of open_text.kind_named open_text.named_at open_text.descriptor_of open_text.open_line_of
exemplars_read = refl
