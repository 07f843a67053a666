-- Pages of several targets, gathered by computation. That their texts read back is a law (`GatheredReadBack`).
use Rattle.std.proofs.Common.{◌≡◌, ℕ, List, [], ◌∷◌, ◌++◌, map, Some, None, codes, false, refl}
use Rattle.std.specs.Str.{is_utf8, chars}
use Rattle.std.specs.Char.{encode_utf8}
use Rattle.std.specs.Fmt.{digits}
use Rattle.exact_decimal.specs.Decimals.{decimal_cmp}
use Rattle.exact_decimal.specs.Tokens.{unsigned, has_minus, mantissa, whole_part, fraction_part, has_exponent, exponent_part, is_digits, is_real, is_infinity, is_nan_token, is_number_token, multiplies_by, divides_by, without_leading_zeros, trailing_zeros, without_trailing_zeros, significant_digits, one_form, is_within, decimal_of, is_in_limits}
use Rattle.exact_decimal.specs.Numbers.{number_read, number_of}
use Rattle.exact_decimal.specs.Order.{less, same, whole}
use Rattle.exact_decimal.specs.Literals.{sign_text, pointed, plain_text, difference_text, exponent_text, is_plain, size_text, decimal_text, number_text}
use Rattle.page_lines.specs.Lines.{lines_of, ends_clean}
use Rattle.page_model.specs.OpenReading as open_text
use Rattle.page_model.specs.Owners.{kind_of, sample_owner, owned_lines, samples_of}
use Rattle.page_model.specs.Rules.{is_after_eof, is_without_eof, is_late_descriptor, is_split, is_bad_unit, has_forbidden_unit, is_bad_exemplar, is_interleaved, has_wrong_suffix, is_duplicate, has_bad_value, has_forbidden_value, has_bad_threshold, is_out_of_order, is_past_limit, buckets_of_group, infinite_bucket, is_complete_at, is_incomplete, leaves_incomplete, exemplar_characters}
use Rattle.page_model.specs.Faults.{line_breaks, own_fault, sample_breaks, owned_breaks, item_breaks, item_fault, end_breaks, end_fault, line_fault, fault_from}
use Rattle.page_model.specs.Readings.{value_with, buckets_of, quantiles_of, sum_of, value_of, stamp_of, exemplars_of, reading_of, readings_of, family_of, families_of, page_of}
use Rattle.page_model.specs.PageReading.{text_fault, text_page}
use Rattle.page_model.specs.declared.format.Treatment.TheVariants.{Scraped}
use Rattle.page_model.specs.declared.event.Shown.{Shown}
use Rattle.label_sets.specs.declared.kind.Kind.TheVariants.{Histogram}
use Rattle.label_sets.specs.declared.label.Label.{Label}
use Rattle.exact_decimal.specs.declared.number.Number.TheVariants.{Finite, Up}
use Rattle.page_model.specs.declared.page.Reading.{Reading}
use Rattle.page_model.specs.declared.page.Page.{Page}
use Rattle.page_model.specs.declared.page.Value.TheVariants as values
use Rattle.page_model.specs.Written.{text_setting, open_setting}
use Rattle.page_model.specs.TextItems.{trimmed, is_integer_token}
use Rattle.page_model.specs.TextReading as text
use Rattle.open_writing.specs.Writing.{value_samples, reading_samples, family_samples, family_items, page_items, sample_lines, escaped, open_label_text, more_labels_text, labels_text, sample_text, item_text, written_text}
use Rattle.open_writing.specs.FamilyKeys.{share_sample_name, clash, is_one_family}
use Rattle.federation_page.specs.Candidates.{is_left_out, stays, in_front_of, federated_kind, federated_name, with_target, federated_reading, candidate_of, candidates_of}
use Rattle.federation_page.specs.Conflicts.{founders, gathered_by}
use Rattle.federation_page.specs.Gathering.{gathered_families, federated_page}

-- what targets show, and the text of the page
record Case : Type 0 where
  shown : List Shown
  text : List ℕ

abbrev case : List Shown → List ℕ → Case
case shown text = record { shown = shown; text = text }

-- a target with a page of the text format
abbrev text_shown : List ℕ → List ℕ → List ℕ → Shown
text_shown job instance bytes = record { job = job; instance = instance; moment = None; page = text_page (text_setting Scraped 200000) bytes }

-- a target with a page of OpenMetrics
abbrev open_shown : List ℕ → List ℕ → List ℕ → Shown
open_shown job instance bytes = record { job = job; instance = instance; moment = None; page = text_page (open_setting Scraped 200000) bytes }

-- the targets
abbrev first_cases : List Case
first_cases =
    -- nothing is shown
    case ([])
    (codes "# EOF\n") ∷
    -- a target before its first scrape
    case (text_shown (codes "j") (codes "h:1") [] ∷ [])
    (codes "# EOF\n") ∷
    -- one target: the page of 51 bytes
    case (text_shown (codes "j") (codes "h:1") (codes "x 1\n") ∷ [])
    (codes "# TYPE x unknown\nx{instance=\"h:1\",job=\"j\"} 1\n# EOF\n") ∷
    -- two targets, of which both have a family of one name but not of one kind, and labels with the names of the targets' own
    case (text_shown (codes "a") (codes "h1:80") (codes "# TYPE x gauge\nx{job=\"z\"} 1\n") ∷ text_shown (codes "b") (codes "h2:80") (codes "# TYPE x histogram\nx_bucket{job=\"z\",le=\"+Inf\"} 2\nx_count{job=\"z\"} 2\ny{job=\"z\"} 3\n") ∷ [])
    (codes "# TYPE x gauge\nx{exported_job=\"z\",instance=\"h1:80\",job=\"a\"} 1\n# TYPE y unknown\ny{exported_job=\"z\",instance=\"h2:80\",job=\"b\"} 3\n# EOF\n") ∷
    -- one family of two targets: their readings one behind the other, and the first text
    case (text_shown (codes "b") (codes "h:2") (codes "# HELP x second\n# TYPE x gauge\nx{k=\"1\"} 1\nx 2\n") ∷ text_shown (codes "a") (codes "h:1") (codes "# HELP x first\n# TYPE x gauge\nx 3\n") ∷ [])
    (codes "# TYPE x gauge\n# HELP x second\nx{instance=\"h:2\",job=\"b\",k=\"1\"} 1\nx{instance=\"h:2\",job=\"b\"} 2\nx{instance=\"h:1\",job=\"a\"} 3\n# EOF\n") ∷
    -- families in byte order of their names
    case (text_shown (codes "j") (codes "h:1") (codes "b 1\nB 2\nab 3\na_b 4\na 5\n") ∷ [])
    (codes "# TYPE B unknown\nB{instance=\"h:1\",job=\"j\"} 2\n# TYPE a unknown\na{instance=\"h:1\",job=\"j\"} 5\n# TYPE a_b unknown\na_b{instance=\"h:1\",job=\"j\"} 4\n# TYPE ab unknown\nab{instance=\"h:1\",job=\"j\"} 3\n# TYPE b unknown\nb{instance=\"h:1\",job=\"j\"} 1\n# EOF\n") ∷
    []

abbrev second_cases : List Case
second_cases =
    -- a counter of the text format loses its suffix, and one without it is of unknown kind
    case (text_shown (codes "j") (codes "h:1") (codes "# TYPE x_total counter\nx_total 1\n# TYPE y counter\ny 2\n# TYPE _total counter\n_total 3\n") ∷ [])
    (codes "# TYPE _total unknown\n_total{instance=\"h:1\",job=\"j\"} 3\n# TYPE x counter\nx_total{instance=\"h:1\",job=\"j\"} 1\n# TYPE y unknown\ny{instance=\"h:1\",job=\"j\"} 2\n# EOF\n") ∷
    -- both formats make one counter
    case (text_shown (codes "j") (codes "h:1") (codes "# TYPE x_total counter\nx_total 1\n") ∷ open_shown (codes "k") (codes "h:2") (codes "# TYPE x counter\nx_total 2\nx_created 1\n# EOF\n") ∷ [])
    (codes "# TYPE x counter\nx_total{instance=\"h:1\",job=\"j\"} 1\nx_total{instance=\"h:2\",job=\"k\"} 2\nx_created{instance=\"h:2\",job=\"k\"} 1\n# EOF\n") ∷
    -- counters that are NaN or negative are left out, and a family with no other reading
    case (text_shown (codes "j") (codes "h:1") (codes "# TYPE x_total counter\nx_total{a=\"1\"} NaN\nx_total{a=\"2\"} -1\nx_total{a=\"3\"} 0\n# TYPE y counter\ny -Inf\n") ∷ [])
    (codes "# TYPE x counter\nx_total{a=\"3\",instance=\"h:1\",job=\"j\"} 0\n# EOF\n") ∷
    -- a family that was passed over reserves no name
    case (text_shown (codes "j") (codes "h:1") (codes "# TYPE x_total counter\nx_total NaN\n# TYPE x gauge\nx 1\n") ∷ [])
    (codes "# TYPE x gauge\nx{instance=\"h:1\",job=\"j\"} 1\n# EOF\n") ∷
    -- two families of one target under one name: the first stays
    case (text_shown (codes "j") (codes "h:1") (codes "# TYPE x_total counter\nx_total 1\n# TYPE x gauge\nx 2\n") ∷ [])
    (codes "# TYPE x counter\nx_total{instance=\"h:1\",job=\"j\"} 1\n# EOF\n") ∷
    -- sample names that clash: the first stays
    case (text_shown (codes "j") (codes "h:1") (codes "# TYPE h histogram\nh_bucket{le=\"+Inf\"} 1\nh_count 1\nh_sum 2\n") ∷ text_shown (codes "k") (codes "h:2") (codes "h_count 5\nh_sumx 6\nh_created 7\n") ∷ [])
    (codes "# TYPE h histogram\nh_bucket{instance=\"h:1\",job=\"j\",le=\"+Inf\"} 1\nh_count{instance=\"h:1\",job=\"j\"} 1\nh_sum{instance=\"h:1\",job=\"j\"} 2\n# TYPE h_sumx unknown\nh_sumx{instance=\"h:2\",job=\"k\"} 6\n# EOF\n") ∷
    []

abbrev third_cases : List Case
third_cases =
    -- what was left out reserves no name for those behind it
    case (text_shown (codes "a") (codes "h:1") (codes "# TYPE x_total counter\nx_total 1\n") ∷ text_shown (codes "b") (codes "h:2") (codes "# TYPE x_created summary\nx_created_count 1\n") ∷ text_shown (codes "c") (codes "h:3") (codes "x_created_count 2\n") ∷ [])
    (codes "# TYPE x counter\nx_total{instance=\"h:1\",job=\"a\"} 1\n# TYPE x_created_count unknown\nx_created_count{instance=\"h:3\",job=\"c\"} 2\n# EOF\n") ∷
    -- a unit tells families apart: the first stays
    case (open_shown (codes "a") (codes "h:1") (codes "# TYPE x_s gauge\n# UNIT x_s s\nx_s 1\n# EOF\n") ∷ text_shown (codes "b") (codes "h:2") (codes "# TYPE x_s gauge\nx_s 2\n") ∷ open_shown (codes "c") (codes "h:3") (codes "# TYPE x_s gauge\n# UNIT x_s s\nx_s 3\n# EOF\n") ∷ [])
    (codes "# TYPE x_s gauge\n# UNIT x_s s\nx_s{instance=\"h:1\",job=\"a\"} 1\nx_s{instance=\"h:3\",job=\"c\"} 3\n# EOF\n") ∷
    -- gauge histograms are left out
    case (open_shown (codes "j") (codes "h:1") (codes "# TYPE g gaugehistogram\ng_bucket{le=\"+Inf\"} 1\n# TYPE x gauge\nx 1\n# EOF\n") ∷ [])
    (codes "# TYPE x gauge\nx{instance=\"h:1\",job=\"j\"} 1\n# EOF\n") ∷
    -- a state set named job or instance is left out, any other stays
    case (open_shown (codes "j") (codes "h:1") (codes "# TYPE job stateset\njob{job=\"a\"} 1\n# TYPE instance stateset\ninstance{instance=\"a\"} 1\n# TYPE jobs stateset\njobs{jobs=\"a\",job=\"b\"} 1\njobs{jobs=\"b\",job=\"b\"} 0\n# EOF\n") ∷ [])
    (codes "# TYPE jobs stateset\njobs{exported_job=\"b\",instance=\"h:1\",job=\"j\",jobs=\"a\"} 1\njobs{exported_job=\"b\",instance=\"h:1\",job=\"j\",jobs=\"b\"} 0\n# EOF\n") ∷
    -- an info keeps its suffix for its sample
    case (open_shown (codes "j") (codes "h:1") (codes "# TYPE t info\nt_info{v=\"1\"} 1\n# EOF\n") ∷ open_shown (codes "k") (codes "h:2") (codes "# TYPE t info\nt_info{v=\"1\"} 1\n# EOF\n") ∷ [])
    (codes "# TYPE t info\nt_info{instance=\"h:1\",job=\"j\",v=\"1\"} 1\nt_info{instance=\"h:2\",job=\"k\",v=\"1\"} 1\n# EOF\n") ∷
    -- a family of two kinds: the second target's is left out whole
    case (text_shown (codes "a") (codes "h:1") (codes "x 1\n") ∷ text_shown (codes "b") (codes "h:2") (codes "# TYPE x gauge\nx 2\n") ∷ text_shown (codes "c") (codes "h:3") (codes "x 3\n") ∷ [])
    (codes "# TYPE x unknown\nx{instance=\"h:1\",job=\"a\"} 1\nx{instance=\"h:3\",job=\"c\"} 3\n# EOF\n") ∷
    []

abbrev last_cases : List Case
last_cases =
    -- a summary with its created time
    case (open_shown (codes "j") (codes "h:1") (codes "# TYPE s summary\ns{quantile=\"0.5\"} 1\ns_count 1\ns_sum 1\ns_created 5\n# EOF\n") ∷ [])
    (codes "# TYPE s summary\ns{instance=\"h:1\",job=\"j\",quantile=\"0.5\"} 1\ns_count{instance=\"h:1\",job=\"j\"} 1\ns_sum{instance=\"h:1\",job=\"j\"} 1\ns_created{instance=\"h:1\",job=\"j\"} 5\n# EOF\n") ∷
    -- a job's escapes, and a label renamed twice
    case (text_shown (codes "a\"b\\c\nd") (codes "h:1") (codes "x{job=\"1\",exported_job=\"2\",instance=\"3\"} 1\n") ∷ [])
    (codes "# TYPE x unknown\nx{exported_exported_job=\"1\",exported_instance=\"3\",exported_job=\"2\",instance=\"h:1\",job=\"a\\\"b\\\\c\\nd\"} 1\n# EOF\n") ∷
    -- families without readings are passed over
    case (text_shown (codes "j") (codes "h:1") (codes "# TYPE x gauge\n") ∷ text_shown (codes "k") (codes "h:2") (codes "x 1\n") ∷ [])
    (codes "# TYPE x unknown\nx{instance=\"h:2\",job=\"k\"} 1\n# EOF\n") ∷
    -- a counter named as another's created time is left out behind it
    case (text_shown (codes "j") (codes "h:1") (codes "# TYPE x_total counter\nx_total 1\n# TYPE x_created gauge\nx_created 2\n") ∷ [])
    (codes "# TYPE x counter\nx_total{instance=\"h:1\",job=\"j\"} 1\n# EOF\n") ∷
    -- timestamps are not kept
    case (text_shown (codes "j") (codes "h:1") (codes "x 1 1000\n") ∷ [])
    (codes "# TYPE x unknown\nx{instance=\"h:1\",job=\"j\"} 1\n# EOF\n") ∷
    []

-- groups of a text page that stood apart are together, and a count is written beside a sum
abbrev apart_case : Case
apart_case = case (text_shown (codes "j") (codes "h:1") (codes "# TYPE h histogram\nh_bucket{a=\"1\",le=\"+Inf\"} 1\nh_bucket{a=\"2\",le=\"+Inf\"} 2\nh_sum{a=\"1\"} 1\nh_sum{a=\"2\"} 2\n") ∷ [])
    (codes "# TYPE h histogram\nh_bucket{a=\"1\",instance=\"h:1\",job=\"j\",le=\"+Inf\"} 1\nh_count{a=\"1\",instance=\"h:1\",job=\"j\"} 1\nh_sum{a=\"1\",instance=\"h:1\",job=\"j\"} 1\nh_bucket{a=\"2\",instance=\"h:1\",job=\"j\",le=\"+Inf\"} 2\nh_count{a=\"2\",instance=\"h:1\",job=\"j\"} 2\nh_sum{a=\"2\",instance=\"h:1\",job=\"j\"} 2\n# EOF\n")

abbrev cases : List Case
cases = first_cases ++ (second_cases ++ (third_cases ++ (last_cases ++ apart_case ∷ [])))

-- the page of each
texts_gathered : map (λ (c : Case). written_text (federated_page c.shown)) cases ≡ map (λ (c : Case). c.text) cases
unfolding lines_of text_page text_fault ends_clean digits is_utf8 chars encode_utf8 number_read number_of whole unsigned has_minus mantissa whole_part fraction_part has_exponent exponent_part is_digits is_real is_infinity is_nan_token is_number_token multiplies_by divides_by without_leading_zeros trailing_zeros without_trailing_zeros significant_digits one_form is_within decimal_of is_in_limits decimal_cmp less same kind_of sample_owner owned_lines samples_of value_with buckets_of quantiles_of sum_of value_of stamp_of exemplars_of reading_of readings_of family_of families_of page_of open_text.label_at open_text.more_labels_at open_text.list_at open_text.optional_list_at open_text.value_at open_text.stamp_at open_text.exemplar_of open_text.sample_of open_text.kind_named open_text.named_at open_text.descriptor_of open_text.open_line_of is_after_eof is_without_eof is_late_descriptor is_split is_bad_unit has_forbidden_unit is_bad_exemplar is_interleaved has_wrong_suffix is_duplicate has_bad_value has_forbidden_value has_bad_threshold is_out_of_order is_past_limit buckets_of_group infinite_bucket is_complete_at is_incomplete leaves_incomplete exemplar_characters line_breaks own_fault sample_breaks owned_breaks item_breaks item_fault end_breaks end_fault line_fault fault_from trimmed is_integer_token text.label_at text.labels_at text.middle_from text.middle_at text.stamp_of text.sample_of text.kind_named text.named_at text.marked_of text.trimmed_of text.text_line_of sign_text pointed plain_text difference_text exponent_text is_plain size_text decimal_text number_text value_samples reading_samples family_samples family_items page_items sample_lines escaped open_label_text more_labels_text labels_text sample_text item_text written_text is_left_out stays in_front_of federated_kind federated_name with_target federated_reading candidate_of candidates_of founders gathered_by gathered_families federated_page share_sample_name clash is_one_family
texts_gathered = refl

-- the labels of its two readings
abbrev apart_labels : List ℕ → List Label
apart_labels a = record { name = codes "a"; value = a } ∷ record { name = codes "instance"; value = codes "h:1" } ∷ record { name = codes "job"; value = codes "j" } ∷ []

-- one of its readings, whose one bucket and whose sum have this number
abbrev apart_reading : List ℕ → ℕ → Reading
apart_reading a n = record {
  key = record { name = codes "h"; kind = Histogram; unit = []; labels = apart_labels a };
  value = values.Buckets (record { le = Up; count = n } ∷ []) (Some (Finite (record { negative = false; digits = n; up = 0; down = 0 })));
  created = None;
  stamp = None;
  exemplars = [];
}

-- its page
abbrev apart_page : Page
apart_page = record {
  families = record { name = codes "h"; kind = Histogram; help = []; unit = []; readings = apart_reading (codes "1") 1 ∷ apart_reading (codes "2") 2 ∷ [] } ∷ [];
  samples = 6;
}

apart_gathered : federated_page apart_case.shown ≡ apart_page
unfolding lines_of text_page text_fault ends_clean digits is_utf8 chars encode_utf8 number_read number_of whole unsigned has_minus mantissa whole_part fraction_part has_exponent exponent_part is_digits is_real is_infinity is_nan_token is_number_token multiplies_by divides_by without_leading_zeros trailing_zeros without_trailing_zeros significant_digits one_form is_within decimal_of is_in_limits decimal_cmp less same kind_of sample_owner owned_lines samples_of value_with buckets_of quantiles_of sum_of value_of stamp_of exemplars_of reading_of readings_of family_of families_of page_of open_text.label_at open_text.more_labels_at open_text.list_at open_text.optional_list_at open_text.value_at open_text.stamp_at open_text.exemplar_of open_text.sample_of open_text.kind_named open_text.named_at open_text.descriptor_of open_text.open_line_of is_after_eof is_without_eof is_late_descriptor is_split is_bad_unit has_forbidden_unit is_bad_exemplar is_interleaved has_wrong_suffix is_duplicate has_bad_value has_forbidden_value has_bad_threshold is_out_of_order is_past_limit buckets_of_group infinite_bucket is_complete_at is_incomplete leaves_incomplete exemplar_characters line_breaks own_fault sample_breaks owned_breaks item_breaks item_fault end_breaks end_fault line_fault fault_from trimmed is_integer_token text.label_at text.labels_at text.middle_from text.middle_at text.stamp_of text.sample_of text.kind_named text.named_at text.marked_of text.trimmed_of text.text_line_of sign_text pointed plain_text difference_text exponent_text is_plain size_text decimal_text number_text value_samples reading_samples family_samples family_items page_items sample_lines escaped open_label_text more_labels_text labels_text sample_text item_text written_text is_left_out stays in_front_of federated_kind federated_name with_target federated_reading candidate_of candidates_of founders gathered_by gathered_families federated_page share_sample_name clash is_one_family
apart_gathered = refl
