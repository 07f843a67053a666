-- Pages written and read back, by computation.
use Rattle.std.proofs.Common.{◌≡◌, ℕ, List, [], ◌∷◌, ◌++◌, map, Some, None, codes, refl}
use Rattle.std.specs.Str.{is_utf8, chars}
use Rattle.std.specs.Char.{encode_utf8}
use Rattle.std.specs.Fmt.{digits}
use Rattle.exact_decimal.specs.Decimals.{decimal_cmp}
use Rattle.exact_decimal.specs.Tokens.{unsigned, has_minus, mantissa, whole_part, fraction_part, has_exponent, exponent_part, is_digits, is_real, is_infinity, is_nan_token, is_number_token, multiplies_by, divides_by, without_leading_zeros, trailing_zeros, without_trailing_zeros, significant_digits, one_form, is_within, decimal_of, is_in_limits}
use Rattle.exact_decimal.specs.Numbers.{number_read, number_of}
use Rattle.exact_decimal.specs.Order.{less, same, whole}
use Rattle.exact_decimal.specs.Literals.{sign_text, pointed, plain_text, difference_text, exponent_text, is_plain, size_text, decimal_text, number_text}
use Rattle.page_lines.specs.Lines.{lines_of, ends_clean}
use Rattle.page_model.specs.OpenReading as open_text
use Rattle.page_model.specs.Owners.{kind_of, sample_owner, owned_lines, samples_of}
use Rattle.page_model.specs.Rules.{is_after_eof, is_without_eof, is_late_descriptor, is_split, is_bad_unit, has_forbidden_unit, is_bad_exemplar, is_interleaved, has_wrong_suffix, is_duplicate, has_bad_value, has_forbidden_value, has_bad_threshold, is_out_of_order, is_past_limit, buckets_of_group, infinite_bucket, is_complete_at, is_incomplete, leaves_incomplete, exemplar_characters}
use Rattle.page_model.specs.Faults.{line_breaks, own_fault, sample_breaks, owned_breaks, item_breaks, item_fault, end_breaks, end_fault, line_fault, fault_from}
use Rattle.page_model.specs.Readings.{value_with, buckets_of, quantiles_of, sum_of, value_of, stamp_of, exemplars_of, reading_of, readings_of, family_of, families_of, page_of}
use Rattle.page_model.specs.PageReading.{text_fault, text_page}
use Rattle.page_model.specs.declared.format.Treatment.TheVariants.{Written}
use Rattle.page_model.specs.declared.page.Family.{Family}
use Rattle.page_model.specs.declared.page.Page.{Page}
use Rattle.page_model.specs.declared.page.Reading.{Reading}
use Rattle.page_model.specs.declared.rule.Rule.TheVariants as rules
use Rattle.page_model.specs.Written.{open_setting}
use Rattle.open_writing.specs.Writing.{value_samples, reading_samples, family_samples, family_items, page_items, sample_lines, page_with, escaped, open_label_text, more_labels_text, labels_text, sample_text, item_text, written_text}

-- a text of OpenMetrics, and what is written of the page that it says
record Case : Type 0 where
  text : List ℕ
  written : List ℕ

abbrev case : List ℕ → List ℕ → Case
case text written = record { text = text; written = written }

-- the page of a text of the writer
abbrev page_read : List ℕ → Page
page_read text = text_page (open_setting Written 200000) text

-- a family without times and exemplars
abbrev bare_family : Family → Family
bare_family f = record f { readings = map (λ (r : Reading). record r { stamp = None; exemplars = [] }) f.readings }

-- texts without times and exemplars
abbrev bare_cases : List Case
bare_cases =
    -- no families
    case (codes "# EOF\n") (codes "# EOF\n") ∷
    -- a gauge, and a family without a TYPE line
    case (codes "# TYPE g gauge\ng 36.6\nx 1\n# EOF\n") (codes "# TYPE g gauge\ng 36.6\n# TYPE x unknown\nx 1\n# EOF\n") ∷
    -- the page that one target shows
    case (codes "# TYPE x unknown\nx{instance=\"h:1\",job=\"j\"} 1\n# EOF\n") (codes "# TYPE x unknown\nx{instance=\"h:1\",job=\"j\"} 1\n# EOF\n") ∷
    -- a counter with its unit, its text and its created times; the total goes first
    case (codes "# HELP a_s Time \\\"spent\\\"\\n in \\\\ it\n# UNIT a_s s\n# TYPE a_s counter\na_s_created{k=\"2\"} 3\na_s_total{k=\"2\"} 5.50\na_s_total{k=\"1\"} 6\n# EOF\n") (codes "# TYPE a_s counter\n# UNIT a_s s\n# HELP a_s Time \\\"spent\\\"\\n in \\\\ it\na_s_total{k=\"2\"} 5.5\na_s_created{k=\"2\"} 3\na_s_total{k=\"1\"} 6\n# EOF\n") ∷
    -- a counter's family without a total has no reading
    case (codes "# TYPE c counter\nc_created 5\n# TYPE d gauge\n# EOF\n") (codes "# TYPE c counter\n# TYPE d gauge\n# EOF\n") ∷
    -- a histogram of two groups: bounds in their place among the labels
    case (codes "# TYPE h histogram\nh_bucket{z=\"1\",a=\"1\",le=\"0.10\"} 2\nh_bucket{z=\"1\",a=\"1\",le=\"1e0\"} 5\nh_bucket{z=\"1\",a=\"1\",le=\"+Inf\"} 5\nh_count{z=\"1\",a=\"1\"} 5\nh_sum{z=\"1\",a=\"1\"} 1.5\nh_created{z=\"1\",a=\"1\"} 7\nh_bucket{le=\"inf\"} 0\n# EOF\n") (codes "# TYPE h histogram\nh_bucket{a=\"1\",le=\"0.1\",z=\"1\"} 2\nh_bucket{a=\"1\",le=\"1\",z=\"1\"} 5\nh_bucket{a=\"1\",le=\"+Inf\",z=\"1\"} 5\nh_count{a=\"1\",z=\"1\"} 5\nh_sum{a=\"1\",z=\"1\"} 1.5\nh_created{a=\"1\",z=\"1\"} 7\nh_bucket{le=\"+Inf\"} 0\n# EOF\n") ∷
    -- a histogram's count is written beside its sum alone
    case (codes "# TYPE h histogram\nh_bucket{a=\"1\",le=\"+Inf\"} 3\nh_count{a=\"1\"} 3\nh_bucket{a=\"2\",le=\"+Inf\"} 4\nh_sum{a=\"2\"} NaN\n# EOF\n") (codes "# TYPE h histogram\nh_bucket{a=\"1\",le=\"+Inf\"} 3\nh_bucket{a=\"2\",le=\"+Inf\"} 4\nh_count{a=\"2\"} 4\nh_sum{a=\"2\"} NaN\n# EOF\n") ∷
    -- a gauge histogram has other suffixes
    case (codes "# TYPE g gaugehistogram\ng_bucket{le=\"-1\"} 1\ng_bucket{le=\"+Inf\"} 3\ng_gsum -4\ng_gcount 3\n# EOF\n") (codes "# TYPE g gaugehistogram\ng_bucket{le=\"-1\"} 1\ng_bucket{le=\"+Inf\"} 3\ng_gcount 3\ng_gsum -4\n# EOF\n") ∷
    -- a summary: quantiles, count, sum and created time
    case (codes "# TYPE s summary\ns{quantile=\"0.99\"} NaN\ns{quantile=\"0.5\"} 1\ns_sum 0\ns_count 0\ns_created 2\ns_sum{a=\"1\"} 2\ns_count{b=\"1\"} 4\ns_created{c=\"1\"} 4\n# EOF\n") (codes "# TYPE s summary\ns{quantile=\"0.99\"} NaN\ns{quantile=\"0.5\"} 1\ns_count 0\ns_sum 0\ns_created 2\ns_sum{a=\"1\"} 2\ns_count{b=\"1\"} 4\n# EOF\n") ∷
    -- an info
    case (codes "# TYPE t info\nt_info{v=\"1\"} 1.0\n# EOF\n") (codes "# TYPE t info\nt_info{v=\"1\"} 1\n# EOF\n") ∷
    -- state sets of two groups
    case (codes "# TYPE s stateset\ns{s=\"a\",x=\"1\"} 1\ns{s=\"b\",x=\"1\"} 0.0\ns{s=\"a\",x=\"2\"} 1\n# EOF\n") (codes "# TYPE s stateset\ns{s=\"a\",x=\"1\"} 1\ns{s=\"b\",x=\"1\"} 0\ns{s=\"a\",x=\"2\"} 1\n# EOF\n") ∷
    -- escapes in a label's value, and what stands for itself
    case (codes "# TYPE x gauge\nx{a=\"p\\n\\\"\\\\\\\\\\q\"} 1\n# EOF\n") (codes "# TYPE x gauge\nx{a=\"p\\n\\\"\\\\\\\\\\\\q\"} 1\n# EOF\n") ∷
    -- text beyond ASCII
    case (codes "# HELP x " ++ (195 ∷ 169 ∷ []) ++ codes "\nx{a=\"" ++ (226 ∷ 130 ∷ 172 ∷ []) ++ codes "\"} 1\n# EOF\n") (codes "# TYPE x unknown\n# HELP x " ++ (195 ∷ 169 ∷ []) ++ codes "\nx{a=\"" ++ (226 ∷ 130 ∷ 172 ∷ []) ++ codes "\"} 1\n# EOF\n") ∷
    -- the three that are no decimals, and literals at their edges
    case (codes "# TYPE x unknown\nx{a=\"1\"} -inf\nx{a=\"2\"} +Infinity\nx{a=\"3\"} nan\nx{a=\"4\"} 1e21\nx{a=\"5\"} 1e20\nx{a=\"6\"} 0.000001\nx{a=\"7\"} 0.00001\nx{a=\"8\"} -0\nx{a=\"9\"} -12.50\n# EOF\n") (codes "# TYPE x unknown\nx{a=\"1\"} -Inf\nx{a=\"2\"} +Inf\nx{a=\"3\"} NaN\nx{a=\"4\"} 1e21\nx{a=\"5\"} 100000000000000000000\nx{a=\"6\"} 1e-6\nx{a=\"7\"} 0.00001\nx{a=\"8\"} 0\nx{a=\"9\"} -12.5\n# EOF\n") ∷
    -- labels that are empty are absent, and the others are sorted
    case (codes "x{b=\"1\",c=\"\",a=\"2\"} 1\n# EOF\n") (codes "# TYPE x unknown\nx{a=\"2\",b=\"1\"} 1\n# EOF\n") ∷
    -- empty texts and units are not written
    case (codes "# HELP x \n# UNIT x \n# TYPE x gauge\nx 1\n# EOF\n") (codes "# TYPE x gauge\nx 1\n# EOF\n") ∷
    -- an open last line is ended
    case (codes "x 1\n# EOF") (codes "# TYPE x unknown\nx 1\n# EOF\n") ∷
    -- a counter with its created time, three times in a row
    case (codes "# TYPE c counter\nc_total 5\nc_created 1.5\n# EOF\n") (codes "# TYPE c counter\nc_total 5\nc_created 1.5\n# EOF\n") ∷
    -- the created time changed
    case (codes "# TYPE c counter\nc_created 2.5\nc_total 6\n# EOF\n") (codes "# TYPE c counter\nc_total 6\nc_created 2.5\n# EOF\n") ∷
    -- and is gone
    case (codes "# TYPE c counter\nc_total 7\n# EOF\n") (codes "# TYPE c counter\nc_total 7\n# EOF\n") ∷
    -- names of families that begin alike
    case (codes "# TYPE a gauge\na 1\n# TYPE a_b counter\na_b_total 2\n# TYPE a_b_c summary\na_b_c_count 1\n# EOF\n") (codes "# TYPE a gauge\na 1\n# TYPE a_b counter\na_b_total 2\n# TYPE a_b_c summary\na_b_c_count 1\n# EOF\n") ∷
    -- the label le of a gauge is like any other
    case (codes "x{le=\"01\",quantile=\"a\"} 1\n# EOF\n") (codes "# TYPE x unknown\nx{le=\"01\",quantile=\"a\"} 1\n# EOF\n") ∷
    []

-- times and exemplars are not written
abbrev timed_case : Case
timed_case = case (codes "# TYPE c counter\nc_total{} 5 1.5 # {a=\"1\"} 0.5 2\n# EOF\n") (codes "# TYPE c counter\nc_total 5\n# EOF\n")

-- the texts
abbrev cases : List Case
cases = bare_cases ++ timed_case ∷ []

-- no text has a fault
no_faults : map (λ (c : Case). text_fault (open_setting Written 200000) c.text) cases ≡ map (λ (c : Case). None) cases
unfolding lines_of text_page text_fault ends_clean digits is_utf8 chars encode_utf8 number_read number_of whole unsigned has_minus mantissa whole_part fraction_part has_exponent exponent_part is_digits is_real is_infinity is_nan_token is_number_token multiplies_by divides_by without_leading_zeros trailing_zeros without_trailing_zeros significant_digits one_form is_within decimal_of is_in_limits decimal_cmp less same kind_of sample_owner owned_lines samples_of value_with buckets_of quantiles_of sum_of value_of stamp_of exemplars_of reading_of readings_of family_of families_of page_of open_text.label_at open_text.more_labels_at open_text.list_at open_text.optional_list_at open_text.value_at open_text.stamp_at open_text.exemplar_of open_text.sample_of open_text.kind_named open_text.named_at open_text.descriptor_of open_text.open_line_of is_after_eof is_without_eof is_late_descriptor is_split is_bad_unit has_forbidden_unit is_bad_exemplar is_interleaved has_wrong_suffix is_duplicate has_bad_value has_forbidden_value has_bad_threshold is_out_of_order is_past_limit buckets_of_group infinite_bucket is_complete_at is_incomplete leaves_incomplete exemplar_characters line_breaks own_fault sample_breaks owned_breaks item_breaks item_fault end_breaks end_fault line_fault fault_from
no_faults = refl

-- each page is written so
texts_written : map (λ (c : Case). written_text (page_read c.text)) cases ≡ map (λ (c : Case). c.written) cases
unfolding lines_of text_page text_fault ends_clean digits is_utf8 chars encode_utf8 number_read number_of whole unsigned has_minus mantissa whole_part fraction_part has_exponent exponent_part is_digits is_real is_infinity is_nan_token is_number_token multiplies_by divides_by without_leading_zeros trailing_zeros without_trailing_zeros significant_digits one_form is_within decimal_of is_in_limits decimal_cmp less same kind_of sample_owner owned_lines samples_of value_with buckets_of quantiles_of sum_of value_of stamp_of exemplars_of reading_of readings_of family_of families_of page_of open_text.label_at open_text.more_labels_at open_text.list_at open_text.optional_list_at open_text.value_at open_text.stamp_at open_text.exemplar_of open_text.sample_of open_text.kind_named open_text.named_at open_text.descriptor_of open_text.open_line_of is_after_eof is_without_eof is_late_descriptor is_split is_bad_unit has_forbidden_unit is_bad_exemplar is_interleaved has_wrong_suffix is_duplicate has_bad_value has_forbidden_value has_bad_threshold is_out_of_order is_past_limit buckets_of_group infinite_bucket is_complete_at is_incomplete leaves_incomplete exemplar_characters line_breaks own_fault sample_breaks owned_breaks item_breaks item_fault end_breaks end_fault line_fault fault_from sign_text pointed plain_text difference_text exponent_text is_plain size_text decimal_text number_text value_samples reading_samples family_samples family_items page_items sample_lines escaped open_label_text more_labels_text labels_text sample_text item_text written_text
texts_written = refl

-- what is written has no fault
none_written : map (λ (c : Case). text_fault (open_setting Written 200000) c.written) cases ≡ map (λ (c : Case). None) cases
unfolding lines_of text_page text_fault ends_clean digits is_utf8 chars encode_utf8 number_read number_of whole unsigned has_minus mantissa whole_part fraction_part has_exponent exponent_part is_digits is_real is_infinity is_nan_token is_number_token multiplies_by divides_by without_leading_zeros trailing_zeros without_trailing_zeros significant_digits one_form is_within decimal_of is_in_limits decimal_cmp less same kind_of sample_owner owned_lines samples_of value_with buckets_of quantiles_of sum_of value_of stamp_of exemplars_of reading_of readings_of family_of families_of page_of open_text.label_at open_text.more_labels_at open_text.list_at open_text.optional_list_at open_text.value_at open_text.stamp_at open_text.exemplar_of open_text.sample_of open_text.kind_named open_text.named_at open_text.descriptor_of open_text.open_line_of is_after_eof is_without_eof is_late_descriptor is_split is_bad_unit has_forbidden_unit is_bad_exemplar is_interleaved has_wrong_suffix is_duplicate has_bad_value has_forbidden_value has_bad_threshold is_out_of_order is_past_limit buckets_of_group infinite_bucket is_complete_at is_incomplete leaves_incomplete exemplar_characters line_breaks own_fault sample_breaks owned_breaks item_breaks item_fault end_breaks end_fault line_fault fault_from
none_written = refl

-- and reads back as the page with as many samples as were written
read_back : map (λ (c : Case). page_read c.written) bare_cases ≡ map (λ (c : Case). let page = page_read c.text in page_with page.families) bare_cases
unfolding lines_of text_page text_fault ends_clean digits is_utf8 chars encode_utf8 number_read number_of whole unsigned has_minus mantissa whole_part fraction_part has_exponent exponent_part is_digits is_real is_infinity is_nan_token is_number_token multiplies_by divides_by without_leading_zeros trailing_zeros without_trailing_zeros significant_digits one_form is_within decimal_of is_in_limits decimal_cmp less same kind_of sample_owner owned_lines samples_of value_with buckets_of quantiles_of sum_of value_of stamp_of exemplars_of reading_of readings_of family_of families_of page_of open_text.label_at open_text.more_labels_at open_text.list_at open_text.optional_list_at open_text.value_at open_text.stamp_at open_text.exemplar_of open_text.sample_of open_text.kind_named open_text.named_at open_text.descriptor_of open_text.open_line_of is_after_eof is_without_eof is_late_descriptor is_split is_bad_unit has_forbidden_unit is_bad_exemplar is_interleaved has_wrong_suffix is_duplicate has_bad_value has_forbidden_value has_bad_threshold is_out_of_order is_past_limit buckets_of_group infinite_bucket is_complete_at is_incomplete leaves_incomplete exemplar_characters line_breaks own_fault sample_breaks owned_breaks item_breaks item_fault end_breaks end_fault line_fault fault_from sign_text pointed plain_text difference_text exponent_text is_plain size_text decimal_text number_text value_samples reading_samples family_samples family_items page_items sample_lines escaped open_label_text more_labels_text labels_text sample_text item_text written_text
read_back = refl

-- without times and exemplars
timed_back : page_read timed_case.written ≡ page_with (map bare_family (page_read timed_case.text).families)
unfolding lines_of text_page text_fault ends_clean digits is_utf8 chars encode_utf8 number_read number_of whole unsigned has_minus mantissa whole_part fraction_part has_exponent exponent_part is_digits is_real is_infinity is_nan_token is_number_token multiplies_by divides_by without_leading_zeros trailing_zeros without_trailing_zeros significant_digits one_form is_within decimal_of is_in_limits decimal_cmp less same kind_of sample_owner owned_lines samples_of value_with buckets_of quantiles_of sum_of value_of stamp_of exemplars_of reading_of readings_of family_of families_of page_of open_text.label_at open_text.more_labels_at open_text.list_at open_text.optional_list_at open_text.value_at open_text.stamp_at open_text.exemplar_of open_text.sample_of open_text.kind_named open_text.named_at open_text.descriptor_of open_text.open_line_of is_after_eof is_without_eof is_late_descriptor is_split is_bad_unit has_forbidden_unit is_bad_exemplar is_interleaved has_wrong_suffix is_duplicate has_bad_value has_forbidden_value has_bad_threshold is_out_of_order is_past_limit buckets_of_group infinite_bucket is_complete_at is_incomplete leaves_incomplete exemplar_characters line_breaks own_fault sample_breaks owned_breaks item_breaks item_fault end_breaks end_fault line_fault fault_from sign_text pointed plain_text difference_text exponent_text is_plain size_text decimal_text number_text value_samples reading_samples family_samples family_items page_items sample_lines escaped open_label_text more_labels_text labels_text sample_text item_text written_text
timed_back = refl

-- what is written of families whose sample names clash does not read back
clashing : text_fault (open_setting Written 200000) (written_text (page_read (codes "# TYPE h histogram\nh_bucket{le=\"+Inf\"} 1\nh_sum 1\n# TYPE h_count gauge\nh_count 5\n# EOF\n"))) ≡ Some (6, rules.Duplicate)
unfolding lines_of text_page text_fault ends_clean digits is_utf8 chars encode_utf8 number_read number_of whole unsigned has_minus mantissa whole_part fraction_part has_exponent exponent_part is_digits is_real is_infinity is_nan_token is_number_token multiplies_by divides_by without_leading_zeros trailing_zeros without_trailing_zeros significant_digits one_form is_within decimal_of is_in_limits decimal_cmp less same kind_of sample_owner owned_lines samples_of value_with buckets_of quantiles_of sum_of value_of stamp_of exemplars_of reading_of readings_of family_of families_of page_of open_text.label_at open_text.more_labels_at open_text.list_at open_text.optional_list_at open_text.value_at open_text.stamp_at open_text.exemplar_of open_text.sample_of open_text.kind_named open_text.named_at open_text.descriptor_of open_text.open_line_of is_after_eof is_without_eof is_late_descriptor is_split is_bad_unit has_forbidden_unit is_bad_exemplar is_interleaved has_wrong_suffix is_duplicate has_bad_value has_forbidden_value has_bad_threshold is_out_of_order is_past_limit buckets_of_group infinite_bucket is_complete_at is_incomplete leaves_incomplete exemplar_characters line_breaks own_fault sample_breaks owned_breaks item_breaks item_fault end_breaks end_fault line_fault fault_from sign_text pointed plain_text difference_text exponent_text is_plain size_text decimal_text number_text value_samples reading_samples family_samples family_items page_items sample_lines escaped open_label_text more_labels_text labels_text sample_text item_text written_text
clashing = refl
