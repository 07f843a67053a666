-- Pages that texts say, by computation.
use Rattle.std.proofs.Common.{◌≡◌, ℕ, false, List, [], ◌∷◌, Option, Some, None, codes, refl}
use Rattle.std.specs.Fmt.{digits}
use Rattle.label_sets.specs.declared.kind.Kind.{Kind}
use Rattle.label_sets.specs.declared.kind.Kind.TheVariants as kinds
use Rattle.label_sets.specs.declared.label.Label.{Label}
use Rattle.exact_decimal.specs.declared.number.Number.{Number}
use Rattle.exact_decimal.specs.declared.number.Number.TheVariants.{Finite, Up, NotANumber}
use Rattle.exact_decimal.specs.Tokens.{unsigned, has_minus, mantissa, whole_part, fraction_part, has_exponent, exponent_part, is_digits, is_real, is_infinity, is_nan_token, is_number_token, multiplies_by, divides_by, without_leading_zeros, trailing_zeros, without_trailing_zeros, significant_digits, one_form, is_within, decimal_of, is_in_limits}
use Rattle.exact_decimal.specs.Numbers.{number_read, number_of}
use Rattle.exact_decimal.specs.Order.{whole}
use Rattle.page_lines.specs.Lines.{lines_of}
use Rattle.page_model.specs.declared.format.Treatment.TheVariants.{Scraped}
use Rattle.page_model.specs.declared.page.Bucket.{Bucket}
use Rattle.page_model.specs.declared.page.Family.{Family}
use Rattle.page_model.specs.declared.page.Reading.{Reading}
use Rattle.page_model.specs.declared.page.Value.{Value}
use Rattle.page_model.specs.declared.page.Value.TheVariants as values
use Rattle.page_model.specs.Written.{text_setting, open_setting}
use Rattle.page_model.specs.TextItems.{trimmed, is_integer_token}
use Rattle.page_model.specs.TextReading as text
use Rattle.page_model.specs.OpenReading as open_text
use Rattle.page_model.specs.Owners.{kind_of, sample_owner, owned_lines, samples_of}
use Rattle.page_model.specs.Readings.{value_with, buckets_of, quantiles_of, sum_of, value_of, stamp_of, exemplars_of, reading_of, readings_of, family_of, families_of, page_of}
use Rattle.page_model.specs.PageReading.{text_page}

-- a label
abbrev label : List ℕ → List ℕ → Label
label name value = record { name = name; value = value }

-- a whole number
abbrev whole_number : ℕ → Number
whole_number n = Finite (record { negative = false; digits = n; up = 0; down = 0 })

-- a number of tenths
abbrev tenths : ℕ → Number
tenths n = Finite (record { negative = false; digits = n; up = 0; down = 1 })

-- a bucket
abbrev bucket : Number → ℕ → Bucket
bucket le count = record { le = le; count = count }

-- a reading
abbrev reading : List ℕ → Kind → List ℕ → List Label → Value → Option Number → Reading
reading name kind unit labels value created = record {
  key = record { name = name; kind = kind; unit = unit; labels = labels };
  value = value;
  created = created;
  stamp = None;
  exemplars = [];
}

-- a family without a HELP line
abbrev family : List ℕ → Kind → List ℕ → List Reading → Family
family name kind unit readings = record { name = name; kind = kind; help = []; unit = unit; readings = readings }

-- no bytes: no families
nothing : text_page (text_setting Scraped 200000) (codes "")
    ≡ record { families = []; samples = 0 }
unfolding lines_of text_page digits number_read number_of whole unsigned has_minus mantissa whole_part fraction_part has_exponent exponent_part is_digits is_real is_infinity is_nan_token is_number_token multiplies_by divides_by without_leading_zeros trailing_zeros without_trailing_zeros significant_digits one_form is_within decimal_of is_in_limits kind_of sample_owner owned_lines samples_of value_with buckets_of quantiles_of sum_of value_of stamp_of exemplars_of reading_of readings_of family_of families_of page_of trimmed is_integer_token text.label_at text.labels_at text.middle_from text.middle_at text.stamp_of text.sample_of text.kind_named text.named_at text.marked_of text.trimmed_of text.text_line_of
nothing = refl

-- a family without samples is there
no_readings : text_page (text_setting Scraped 200000) (codes "# TYPE x gauge\n")
    ≡ record { families = family (codes "x") kinds.Gauge [] [] ∷ []; samples = 0 }
unfolding lines_of text_page digits number_read number_of whole unsigned has_minus mantissa whole_part fraction_part has_exponent exponent_part is_digits is_real is_infinity is_nan_token is_number_token multiplies_by divides_by without_leading_zeros trailing_zeros without_trailing_zeros significant_digits one_form is_within decimal_of is_in_limits kind_of sample_owner owned_lines samples_of value_with buckets_of quantiles_of sum_of value_of stamp_of exemplars_of reading_of readings_of family_of families_of page_of trimmed is_integer_token text.label_at text.labels_at text.middle_from text.middle_at text.stamp_of text.sample_of text.kind_named text.named_at text.marked_of text.trimmed_of text.text_line_of
no_readings = refl

-- HELP and TYPE, sorted labels, and a family without TYPE
gauges : text_page (text_setting Scraped 200000) (codes "# HELP x a b\n# TYPE x gauge\nx{b=\"1\",a=\"2\",c=\"\"} 5\n\ny 0.5\n")
    ≡ record {
      families = record { name = codes "x"; kind = kinds.Gauge; help = codes "a b"; unit = []; readings = reading (codes "x") kinds.Gauge [] (label (codes "a") (codes "2") ∷ label (codes "b") (codes "1") ∷ []) (values.Plain (whole_number 5)) None ∷ [] }
          ∷ family (codes "y") kinds.Unknown [] (reading (codes "y") kinds.Unknown [] [] (values.Plain (tenths 5)) None ∷ []) ∷ [];
      samples = 2;
    }
unfolding lines_of text_page digits number_read number_of whole unsigned has_minus mantissa whole_part fraction_part has_exponent exponent_part is_digits is_real is_infinity is_nan_token is_number_token multiplies_by divides_by without_leading_zeros trailing_zeros without_trailing_zeros significant_digits one_form is_within decimal_of is_in_limits kind_of sample_owner owned_lines samples_of value_with buckets_of quantiles_of sum_of value_of stamp_of exemplars_of reading_of readings_of family_of families_of page_of trimmed is_integer_token text.label_at text.labels_at text.middle_from text.middle_at text.stamp_of text.sample_of text.kind_named text.named_at text.marked_of text.trimmed_of text.text_line_of
gauges = refl

-- job and instance are renamed
renamed_labels : text_page (text_setting Scraped 200000) (codes "x{job=\"a\",instance=\"b\"} 1\n")
    ≡ record { families = family (codes "x") kinds.Unknown [] (reading (codes "x") kinds.Unknown [] (label (codes "exported_instance") (codes "b") ∷ label (codes "exported_job") (codes "a") ∷ []) (values.Plain (whole_number 1)) None ∷ []) ∷ []; samples = 1 }
unfolding lines_of text_page digits number_read number_of whole unsigned has_minus mantissa whole_part fraction_part has_exponent exponent_part is_digits is_real is_infinity is_nan_token is_number_token multiplies_by divides_by without_leading_zeros trailing_zeros without_trailing_zeros significant_digits one_form is_within decimal_of is_in_limits kind_of sample_owner owned_lines samples_of value_with buckets_of quantiles_of sum_of value_of stamp_of exemplars_of reading_of readings_of family_of families_of page_of trimmed is_integer_token text.label_at text.labels_at text.middle_from text.middle_at text.stamp_of text.sample_of text.kind_named text.named_at text.marked_of text.trimmed_of text.text_line_of
renamed_labels = refl

-- a counter of the text format keeps its name
text_counter : text_page (text_setting Scraped 200000) (codes "# TYPE c_total counter\nc_total 1e3\n")
    ≡ record { families = family (codes "c_total") kinds.Counter [] (reading (codes "c_total") kinds.Counter [] [] (values.Plain (Finite (record { negative = false; digits = 1; up = 3; down = 0 }))) None ∷ []) ∷ []; samples = 1 }
unfolding lines_of text_page digits number_read number_of whole unsigned has_minus mantissa whole_part fraction_part has_exponent exponent_part is_digits is_real is_infinity is_nan_token is_number_token multiplies_by divides_by without_leading_zeros trailing_zeros without_trailing_zeros significant_digits one_form is_within decimal_of is_in_limits kind_of sample_owner owned_lines samples_of value_with buckets_of quantiles_of sum_of value_of stamp_of exemplars_of reading_of readings_of family_of families_of page_of trimmed is_integer_token text.label_at text.labels_at text.middle_from text.middle_at text.stamp_of text.sample_of text.kind_named text.named_at text.marked_of text.trimmed_of text.text_line_of
text_counter = refl

-- a histogram is one reading for each group
histogram : text_page (text_setting Scraped 200000) (codes "# TYPE h histogram\nh_bucket{le=\"0.1\"} 2\nh_bucket{le=\"1\"} 5\nh_bucket{le=\"+Inf\"} 5\nh_sum 1.5\nh_count 5\n")
    ≡ record {
      families = family (codes "h") kinds.Histogram [] (reading (codes "h") kinds.Histogram [] []
          (values.Buckets (bucket (tenths 1) 2 ∷ bucket (whole_number 1) 5 ∷ bucket Up 5 ∷ []) (Some (tenths 15))) None ∷ []) ∷ [];
      samples = 5;
    }
unfolding lines_of text_page digits number_read number_of whole unsigned has_minus mantissa whole_part fraction_part has_exponent exponent_part is_digits is_real is_infinity is_nan_token is_number_token multiplies_by divides_by without_leading_zeros trailing_zeros without_trailing_zeros significant_digits one_form is_within decimal_of is_in_limits kind_of sample_owner owned_lines samples_of value_with buckets_of quantiles_of sum_of value_of stamp_of exemplars_of reading_of readings_of family_of families_of page_of trimmed is_integer_token text.label_at text.labels_at text.middle_from text.middle_at text.stamp_of text.sample_of text.kind_named text.named_at text.marked_of text.trimmed_of text.text_line_of
histogram = refl

-- a summary with its quantiles, and one without a count
summary : text_page (text_setting Scraped 200000) (codes "# TYPE s summary\ns{quantile=\"0.5\"} NaN\ns_sum 0\ns_count 0\ns_sum{a=\"1\"} 2\n")
    ≡ record {
      families = family (codes "s") kinds.Summary []
          (reading (codes "s") kinds.Summary [] [] (values.Quantiles (record { at = record { negative = false; digits = 5; up = 0; down = 1 }; value = NotANumber } ∷ []) (Some 0) (Some (whole_number 0))) None
          ∷ reading (codes "s") kinds.Summary [] (label (codes "a") (codes "1") ∷ []) (values.Quantiles [] None (Some (whole_number 2))) None ∷ []) ∷ [];
      samples = 4;
    }
unfolding lines_of text_page digits number_read number_of whole unsigned has_minus mantissa whole_part fraction_part has_exponent exponent_part is_digits is_real is_infinity is_nan_token is_number_token multiplies_by divides_by without_leading_zeros trailing_zeros without_trailing_zeros significant_digits one_form is_within decimal_of is_in_limits kind_of sample_owner owned_lines samples_of value_with buckets_of quantiles_of sum_of value_of stamp_of exemplars_of reading_of readings_of family_of families_of page_of trimmed is_integer_token text.label_at text.labels_at text.middle_from text.middle_at text.stamp_of text.sample_of text.kind_named text.named_at text.marked_of text.trimmed_of text.text_line_of
summary = refl

-- a counter of OpenMetrics: its unit, its created time, and the order of groups by their first lines
open_counter : text_page (open_setting Scraped 200000) (codes "# TYPE a_s counter\n# UNIT a_s s\na_s_created{k=\"2\"} 3\na_s_total{k=\"2\"} 5\na_s_total{k=\"1\"} 6\na_s_created{k=\"3\"} 7\n# EOF\n")
    ≡ record {
      families = family (codes "a_s") kinds.Counter (codes "s")
          (reading (codes "a_s_total") kinds.Counter (codes "s") (label (codes "k") (codes "2") ∷ []) (values.Plain (whole_number 5)) (Some (whole_number 3))
          ∷ reading (codes "a_s_total") kinds.Counter (codes "s") (label (codes "k") (codes "1") ∷ []) (values.Plain (whole_number 6)) None ∷ []) ∷ [];
      samples = 4;
    }
unfolding lines_of text_page digits number_read number_of whole unsigned has_minus mantissa whole_part fraction_part has_exponent exponent_part is_digits is_real is_infinity is_nan_token is_number_token multiplies_by divides_by without_leading_zeros trailing_zeros without_trailing_zeros significant_digits one_form is_within decimal_of is_in_limits kind_of sample_owner owned_lines samples_of value_with buckets_of quantiles_of sum_of value_of stamp_of exemplars_of reading_of readings_of family_of families_of page_of open_text.label_at open_text.more_labels_at open_text.list_at open_text.optional_list_at open_text.value_at open_text.stamp_at open_text.exemplar_of open_text.sample_of open_text.kind_named open_text.named_at open_text.descriptor_of open_text.open_line_of
open_counter = refl

-- each state is a reading
state_set : text_page (open_setting Scraped 200000) (codes "# TYPE s stateset\ns{s=\"a\"} 1\ns{s=\"b\"} 0\n# EOF\n")
    ≡ record {
      families = family (codes "s") kinds.StateSet []
          (reading (codes "s") kinds.StateSet [] (label (codes "s") (codes "a") ∷ []) (values.Plain (whole_number 1)) None
          ∷ reading (codes "s") kinds.StateSet [] (label (codes "s") (codes "b") ∷ []) (values.Plain (whole_number 0)) None ∷ []) ∷ [];
      samples = 2;
    }
unfolding lines_of text_page digits number_read number_of whole unsigned has_minus mantissa whole_part fraction_part has_exponent exponent_part is_digits is_real is_infinity is_nan_token is_number_token multiplies_by divides_by without_leading_zeros trailing_zeros without_trailing_zeros significant_digits one_form is_within decimal_of is_in_limits kind_of sample_owner owned_lines samples_of value_with buckets_of quantiles_of sum_of value_of stamp_of exemplars_of reading_of readings_of family_of families_of page_of open_text.label_at open_text.more_labels_at open_text.list_at open_text.optional_list_at open_text.value_at open_text.stamp_at open_text.exemplar_of open_text.sample_of open_text.kind_named open_text.named_at open_text.descriptor_of open_text.open_line_of
state_set = refl

-- an info is named with its suffix
info : text_page (open_setting Scraped 200000) (codes "# TYPE t info\nt_info{v=\"1\"} 1\n# EOF\n")
    ≡ record { families = family (codes "t") kinds.Info [] (reading (codes "t_info") kinds.Info [] (label (codes "v") (codes "1") ∷ []) (values.Plain (whole_number 1)) None ∷ []) ∷ []; samples = 1 }
unfolding lines_of text_page digits number_read number_of whole unsigned has_minus mantissa whole_part fraction_part has_exponent exponent_part is_digits is_real is_infinity is_nan_token is_number_token multiplies_by divides_by without_leading_zeros trailing_zeros without_trailing_zeros significant_digits one_form is_within decimal_of is_in_limits kind_of sample_owner owned_lines samples_of value_with buckets_of quantiles_of sum_of value_of stamp_of exemplars_of reading_of readings_of family_of families_of page_of open_text.label_at open_text.more_labels_at open_text.list_at open_text.optional_list_at open_text.value_at open_text.stamp_at open_text.exemplar_of open_text.sample_of open_text.kind_named open_text.named_at open_text.descriptor_of open_text.open_line_of
info = refl

-- a gauge histogram has its own sum
gauge_histogram : text_page (open_setting Scraped 200000) (codes "# TYPE g gaugehistogram\ng_bucket{le=\"+Inf\"} 3\ng_gcount 3\ng_gsum 4\n# EOF\n")
    ≡ record { families = family (codes "g") kinds.GaugeHistogram [] (reading (codes "g") kinds.GaugeHistogram [] [] (values.Buckets (bucket Up 3 ∷ []) (Some (whole_number 4))) None ∷ []) ∷ []; samples = 3 }
unfolding lines_of text_page digits number_read number_of whole unsigned has_minus mantissa whole_part fraction_part has_exponent exponent_part is_digits is_real is_infinity is_nan_token is_number_token multiplies_by divides_by without_leading_zeros trailing_zeros without_trailing_zeros significant_digits one_form is_within decimal_of is_in_limits kind_of sample_owner owned_lines samples_of value_with buckets_of quantiles_of sum_of value_of stamp_of exemplars_of reading_of readings_of family_of families_of page_of open_text.label_at open_text.more_labels_at open_text.list_at open_text.optional_list_at open_text.value_at open_text.stamp_at open_text.exemplar_of open_text.sample_of open_text.kind_named open_text.named_at open_text.descriptor_of open_text.open_line_of
gauge_histogram = refl
